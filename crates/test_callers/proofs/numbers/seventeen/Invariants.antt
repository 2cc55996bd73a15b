use Rattle.std.proofs.Common.{◌-◌}
use Rattle.sheet_callers.specs.Callers.{caller_at}
use Rattle.sheet_callers.specs.Judging.{IsNext}
use Rattle.test_callers.proofs.numbers.seventeen.Given as goal

abbrev pub decreases-loop-number : goal.decreases-loop-number
decreases-loop-number l = 18 - l.number

abbrev pub invariant-loop-number : goal.invariant-loop-number
invariant-loop-number l = IsNext (caller_at l.callers 1) l.number
