use Rattle.std.proofs.Common.{Some, ap}
use Rattle.sheet_values.specs.declared.value.Value.TheVariants.{Text}
use Rattle.sheet_csv.proofs.FieldLemmas.{long_text, short_text, wrong_text}
use Rattle.sheet_csv.proofs.field.read_text.Goals as goal

pub returns-in-Ok : goal.returns-in-Ok
returns-in-Ok c = rw (short_text c.args.field.now c.in-Ok.ensures.1 c.in-Ok.ensures.2) (ap (λ t. Some (Text t)) c.in-Ok.ensures.0)

pub returns-in-Err-TooLong : goal.returns-in-Err-TooLong
returns-in-Err-TooLong c =
    let h = rw c.in-Err-TooLong.field-0-is at c.in-Err-TooLong.ensures in
    rw (long_text c.args.field.now h.0)

pub returns-in-Err-NotUtf8 : goal.returns-in-Err-NotUtf8
returns-in-Err-NotUtf8 c =
    let h = rw c.in-Err-NotUtf8.field-0-is at c.in-Err-NotUtf8.ensures in
    rw (wrong_text c.args.field.now _ h.1)
