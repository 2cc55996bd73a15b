-- The rounds in which formula cells are settled, and the meaning of a cell.
use Rattle.std.specs.Prelude.{◌≡◌, ℕ, zero, suc, ◌≤◌, ◌==◌, ◌&&◌, if◌then◌else◌, List, [], ◌∷◌, length, map, Option, Some, None}
use Rattle.std.specs.List.{filter_map}
use Rattle.sheet_values.specs.declared.value.Value.{Value}
use Rattle.sheet_values.specs.declared.value.Value.TheVariants.{Object}
use Rattle.sheet_columns.specs.declared.fault.Place.{Place}
use Rattle.sheet_columns.specs.declared.fault.Place.TheVariants as place
use Rattle.sheet_columns.specs.declared.item.Item.{Item}
use Rattle.sheet_columns.specs.declared.formula.Core.{Core}
use Rattle.sheet_meaning.specs.declared.run.Use.{Use}
use Rattle.sheet_meaning.specs.declared.run.Use.TheVariants.{Read, Cell}
use Rattle.sheet_meaning.specs.Run.{Outcome, none}
use Rattle.sheet_meaning.specs.Formula.{World, Variables, run}
use Rattle.sheet_meaning.specs.Workbook.{FormulaCell, formula_cells, world}
use Rattle.sheet_meaning.specs.declared.run.Run.{Run}
use Rattle.sheet_meaning.specs.declared.workbook.Workbook.{Workbook}

-- an outcome for each formula cell, in the order of the cells
abbrev pub Table : Type 0
Table = List (Outcome (List Value))

-- the outcome of a cell, and none where there is no such cell
abbrev pub outcome_in : List FormulaCell → Table → ℕ → ℕ → Outcome (List Value)
outcome_in [] t o c = none
outcome_in (f ∷ fs) [] o c = none
outcome_in (f ∷ fs) (x ∷ t) o c = if f.object == o && f.column == c then x else outcome_in fs t o c

abbrev pub world_at : Workbook → Table → World
world_at w t = world w (outcome_in (formula_cells w) t)

-- a formula cell's own formula, with `this` bound to its object
abbrev pub run_cell : World → FormulaCell → Run (List Value)
run_cell w f = run f.core w (place.Cell f.object f.column) ((Object f.object ∷ []) ∷ [])

-- one round: every formula cell is worked out from the outcomes of the round before
abbrev pub next_table : Workbook → Table → Table
next_table w t = map (λ f. (run_cell (world_at w t) f).outcome) (formula_cells w)

-- the table after so many rounds; at first no formula cell has an outcome
abbrev pub table : Workbook → ℕ → Table
table w zero = map (λ f. none) (formula_cells w)
table w (suc k) = next_table w (table w k)

-- the outcome of a formula cell after so many rounds
abbrev pub outcome_after : Workbook → ℕ → ℕ → ℕ → Outcome (List Value)
outcome_after w k o c = outcome_in (formula_cells w) (table w k) o c

-- as many rounds as there are formula cells
abbrev pub rounds : Workbook → ℕ
rounds w = length (formula_cells w)

-- the meaning of a formula cell: its outcome after these rounds, where none is the fault `cycle`
abbrev pub meaning : Workbook → ℕ → ℕ → Outcome (List Value)
meaning w o c = outcome_after w (rounds w) o c

-- the workbook with the meaning of its formula cells
abbrev pub settled_world : Workbook → World
settled_world w = world_at w (table w (rounds w))

-- an expression, worked out over the last table
abbrev pub settled_run : Workbook → Core → Place → Variables → Run (List Value)
settled_run w e p v = run e (settled_world w) p v

-- the value of an expression, where no outcome is the fault `cycle`
abbrev pub value_of : Workbook → Core → Place → Variables → Outcome (List Value)
value_of w e p v = (settled_run w e p v).outcome

abbrev pub item_in : Use → Option Item
item_in (Read i) = Some i
item_in (Cell o c) = None

abbrev pub cell_in : Use → Option (ℕ × ℕ)
cell_in (Read i) = None
cell_in (Cell o c) = Some (o, c)

-- the items, and the formula cells, that an expression reads directly
abbrev pub direct_items : Workbook → Core → Place → Variables → List Item
direct_items w e p v = filter_map item_in (settled_run w e p v).uses

abbrev pub direct_cells : Workbook → Core → Place → Variables → List (ℕ × ℕ)
direct_cells w e p v = filter_map cell_in (settled_run w e p v).uses

-- no round after as many as there are formula cells changes the table
abbrev pub RoundsEnd : Type 0
RoundsEnd = (w : Workbook) (k : ℕ) → rounds w ≤ k → table w k ≡ table w (rounds w)

-- a formula cell is a cycle exactly where no round gives it an outcome, and any other meaning is its outcome after every later round
pub record CycleIsFinal (w : Workbook) (o c : ℕ) : Type 0 where
  pub never : meaning w o c ≡ none → (k : ℕ) → outcome_after w k o c ≡ none
  pub only : ((k : ℕ) → outcome_after w k o c ≡ none) → meaning w o c ≡ none
  pub stays : (k : ℕ) → rounds w ≤ k → outcome_after w k o c ≡ meaning w o c

abbrev pub CyclesAreFinal : Type 0
CyclesAreFinal = (w : Workbook) (o c : ℕ) → CycleIsFinal w o c
