use Rattle.std.proofs.Common.{◌≡◌, ◌+◌, ◌≤◌, length}
use Rattle.sheet_types_rounds.specs.Rounds.{written_formulas}
use Rattle.sheet_types_rounds.specs.Rounds.{count_formulas as count_all}
use Rattle.sheet_types_rounds.proofs.first.count_formulas.Given as goal

abbrev pub invariant-loop-declaration : goal.invariant-loop-declaration
invariant-loop-declaration l =
    (l.count + count_all (written_formulas l.rest) ≡ count_all (written_formulas l.fn.declarations)) × (l.count + length l.rest ≤ length l.fn.declarations)

abbrev pub decreases-loop-declaration : goal.decreases-loop-declaration
decreases-loop-declaration l = length l.rest
