use Rattle.std.proofs.Common.{arith}
use Rattle.sheet_csv.proofs.Digits.{too_wide}
use Rattle.sheet_csv.proofs.field.value_up_to.Goals as goal

pub returns-then-next-most : goal.returns-then-next-most
returns-then-next-most c =
    too_wide c.args.most c.args.digits.now c.loop-digit.value c.loop-digit.digit-index c.loop-digit-test.true c.loop-digit.invariant.value (omega arith)
