-- What a look-up tells of a workbook, and which of the formula cells that an evaluation uses it lacks.
use Rattle.std.specs.Prelude.{ℕ, Bool, true, false, List, [], filter, Option, Some, None}
use Rattle.sheet_values.specs.declared.value.Value.{Value}
use Rattle.sheet_meaning.specs.Run.{Outcome, none}
use Rattle.sheet_meaning.specs.Formula.{World}
use Rattle.sheet_meaning.specs.Support.{Cell, with_cells, used_cells}
use Rattle.sheet_meaning.specs.declared.run.Use.{Use}

-- the content, and the results of the formula cells that are worked out
pub record Told : Type 0 where
  pub cell : ℕ → ℕ → List Value
  pub children : ℕ → ℕ → List Value
  pub parent : ℕ → Option ℕ
  pub live : ℕ → Bool
  pub worked : ℕ → ℕ → Option (Outcome (List Value))

-- a cell that is lacking has no outcome
abbrev pub or_none : Option (Outcome (List Value)) → Outcome (List Value)
or_none None = none
or_none (Some o) = o

-- the content that expressions are worked out from
abbrev pub world_told : Told → World
world_told t = record { cell = t.cell; children = t.children; parent = t.parent; live = t.live; worked = λ o c. or_none (t.worked o c) }

abbrev pub is_lacking : Option (Outcome (List Value)) → Bool
is_lacking None = true
is_lacking (Some o) = false

-- whether the look-up lacks a cell
abbrev pub lacks : Told → Cell → Bool
lacks t x = is_lacking (t.worked x.0 x.1)

-- the formula cells that are used and that the look-up lacks, in the order of first use
abbrev pub lacking : Told → List Use → List Cell
lacking t us = with_cells [] (filter (lacks t) (used_cells us))
