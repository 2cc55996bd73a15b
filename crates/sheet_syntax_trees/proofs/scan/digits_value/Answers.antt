use Rattle.std.proofs.Common.{arith}
use Rattle.sheet_syntax_trees.proofs.Digits.{too_wide}
use Rattle.sheet_syntax_trees.proofs.scan.digits_value.Goals as goal

pub returns-then-next-gt9223372036854775807 : goal.returns-then-next-gt9223372036854775807
returns-then-next-gt9223372036854775807 c =
    too_wide c.args.digits.now c.loop-digit.value c.loop-digit.digit-index c.loop-digit-test.true c.loop-digit.invariant.value (omega arith)
