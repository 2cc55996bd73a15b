use Rattle.std.proofs.Common.{◌≤◌, length, sym, subst, arith}
use Rattle.std.specs.Str.{IsValidUpTo}
use Rattle.sheet_define.proofs.Texts.{defines, not_utf8, refused}
use Rattle.sheet_define.proofs.read.read_definition.Goals as goal

pub returns-in-Err : goal.returns-in-Err
returns-in-Err c =
    let short : length c.args.bytes.now ≤ 262144 = omega (arith, c.if-bytes-gt-LONGEST_DEFINITION.false) in
    let valid : IsValidUpTo c.args.bytes.now c.valid_up_to.result = subst (IsValidUpTo c.args.bytes.now) (sym c.valid_up_to.ensures) c.in-Err.ensures.cases.1 in
    (not_utf8 c.args.bytes.now c.valid_up_to.result valid, short, valid)

pub returns-in-Ok : goal.returns-in-Ok
returns-in-Ok c =
    let short : length c.args.bytes.now ≤ 262144 = omega (arith, c.if-bytes-gt-LONGEST_DEFINITION.false) in
    defines c.args.bytes.now c.in-Ok.definition short c.in_default.ensures.cases.1 c.in-Ok.ensures

pub returns-in-Err-read_tokens : goal.returns-in-Err-read_tokens
returns-in-Err-read_tokens c =
    let short : length c.args.bytes.now ≤ 262144 = omega (arith, c.if-bytes-gt-LONGEST_DEFINITION.false) in
    refused c.args.bytes.now c.in-Err-read_tokens.refusal c.placed.result short c.in_default.ensures.cases.1 c.in-Err-read_tokens.ensures c.placed.ensures
