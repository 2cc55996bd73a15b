-- Results of formula cells that are found so far.
use Rattle.std.specs.Prelude.{◌≡◌, ℕ, true, List, Option, Some, is_some}
use Rattle.std.specs.List.{list_all, filter_map}
use Rattle.sheet_values.specs.declared.value.Value.{Value}
use Rattle.sheet_columns.specs.declared.fault.Place.{Place}
use Rattle.sheet_columns.specs.declared.formula.Core.{Core}
use Rattle.sheet_meaning.specs.Run.{Outcome}
use Rattle.sheet_meaning.specs.Formula.{World, Variables, run}
use Rattle.sheet_meaning.specs.Rounds.{cell_in, meaning, settled_run}
use Rattle.sheet_meaning.specs.Workbook.{world}
use Rattle.sheet_meaning.specs.Told.{or_none}
use Rattle.sheet_meaning.specs.Support.{Cell, has_cell}
use Rattle.sheet_meaning.specs.declared.run.Use.{Use}
use Rattle.sheet_meaning.specs.declared.workbook.Workbook.{Workbook}

abbrev pub Found : Type 0
Found = ℕ → ℕ → Option (Outcome (List Value))

-- a workbook where the cells have these results, and the others none
abbrev pub world_found : Workbook → Found → World
world_found w found = world w (λ o c. or_none (found o c))

-- each result is the meaning of its cell
abbrev pub AreSettled : Workbook → Found → Type 0
AreSettled w found = (o c : ℕ) (r : Outcome (List Value)) → found o c ≡ Some r → r ≡ meaning w o c

-- the formula cells among some uses
abbrev pub cells_in : List Use → List Cell
cells_in us = filter_map cell_in us

-- each has a result
abbrev pub AllFound : Found → List Cell → Type 0
AllFound found cells = list_all (λ (x : Cell). is_some (found x.0 x.1)) cells ≡ true

-- where results are found for all that an evaluation uses, it is the evaluation over the meanings of all cells
abbrev pub FoundSettle : Type 0
FoundSettle =
    (w : Workbook) (found : Found) (e : Core) (p : Place) (v : Variables)
    → AreSettled w found → AllFound found (cells_in (run e (world_found w found) p v).uses)
    → run e (world_found w found) p v ≡ settled_run w e p v

-- what an evaluation uses over results that are found, it uses over the meanings of all cells
abbrev pub NeededAreRead : Type 0
NeededAreRead =
    (w : Workbook) (found : Found) (e : Core) (p : Place) (v : Variables) (x : Cell)
    → AreSettled w found → has_cell (cells_in (run e (world_found w found) p v).uses) x ≡ true
    → has_cell (cells_in (settled_run w e p v).uses) x ≡ true
