use Rattle.std.proofs.Common.{◌≡◌, ◌-◌}
use Rattle.sheet_types_rounds.specs.Rounds.{formulas_of, rounds}
use Rattle.sheet_types_rounds.specs.Rounds.{final_kinds as final_kinds_of}
use Rattle.sheet_types_rounds.specs.Mentions.{AreSteady}
use Rattle.sheet_types_rounds.proofs.rounds.final_kinds.Given as goal

abbrev pub invariant-loop : goal.invariant-loop
invariant-loop l =
    (rounds (l.end - l.counter) l.columns (formulas_of l.declarations) l.kinds ≡ final_kinds_of l.columns (formulas_of l.declarations))
    × (AreSteady l.columns l.kinds l.changed.all l.changed.names.items 0 (formulas_of l.declarations))
