use Rattle.std.proofs.Common.{rules, ◌≡◌, true}
use Rattle.sheet_requests.specs.Reading.{is_key}
use Rattle.sheet_machine.proofs.OperatorKeys.{key_is_read, not_too_long, not_other_bytes}
use Rattle.sheet_machine.proofs.opening.read_key.Goals as goal

pub unreachable-requires : goal.unreachable-requires
unreachable-requires c =
    let is : is_key c.args.bytes.now ≡ true = search rules in
    key_is_read c.args.bytes.now c.in-Err-TooLong.field-0 is c.in-Err-TooLong.ensures (not_too_long c.in-Err-TooLong.field-0 _ c.in-Err-TooLong.field-0-is)

pub unreachable-requires-in-Err-NotUtf8 : goal.unreachable-requires-in-Err-NotUtf8
unreachable-requires-in-Err-NotUtf8 c =
    let is : is_key c.args.bytes.now ≡ true = search rules in
    key_is_read c.args.bytes.now c.in-Err-NotUtf8.field-0 is c.in-Err-NotUtf8.ensures (not_other_bytes c.in-Err-NotUtf8.field-0 _ c.in-Err-NotUtf8.field-0-is)
