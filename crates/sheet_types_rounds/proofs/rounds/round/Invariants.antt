use Rattle.std.proofs.Common.{◌≡◌, ◌+◌, ◌≤◌, ◌<◌, ◌++◌, length}
use Rattle.sheet_types_rounds.specs.Rounds.{formulas_of, written_formulas, next_kinds}
use Rattle.sheet_types_rounds.specs.Rounds.{round as round_of}
use Rattle.sheet_types_rounds.specs.Mentions.{AreSteady}
use Rattle.sheet_types_rounds.proofs.rounds.round.Given as goal

abbrev pub invariant-loop-declaration : goal.invariant-loop-declaration
invariant-loop-declaration l =
    (l.next ++ next_kinds l.columns l.kinds (length l.next) (written_formulas l.rest) ≡ round_of l.columns (formulas_of l.fn.declarations) l.kinds)
    × (AreSteady l.columns l.kinds l.changed.all l.changed.names.items (length l.next) (written_formulas l.rest)) × (0 < length l.next) ×
    (length l.next + length (written_formulas l.rest) ≤ length l.columns)

abbrev pub decreases-loop-declaration : goal.decreases-loop-declaration
decreases-loop-declaration l = length l.rest
