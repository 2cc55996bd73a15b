-- The workbook at the start.
use Rattle.std.specs.Prelude.{◌≡◌, ◌&&◌, not, Bool, false, List, [], ◌∷◌, map, is_some, None}
use Rattle.std.specs.List.{AllByRecursion}
use Rattle.sheet_columns.specs.declared.tree.Column.{Column}
use Rattle.sheet_columns.specs.declared.tree.Column.TheVariants as column
use Rattle.sheet_columns.specs.declared.tree.Node.{Node}
use Rattle.sheet_columns.specs.Firsts.{HasFirstValues}
use Rattle.sheet_columns.specs.Tree.{IsTree}
use Rattle.sheet_meaning.specs.Changes.{first_set}
use Rattle.sheet_meaning.specs.Statements.{workbook}
use Rattle.sheet_meaning.specs.WellFormed.{StateColumn, state_columns, HasFormulas, IsWellFormed, IsFilled}
use Rattle.sheet_meaning.specs.declared.workbook.Schema.{Schema}
use Rattle.sheet_meaning.specs.declared.workbook.State.{State}

-- the root alone, with the first values of its state cells
abbrev pub start_state : Schema → State
start_state s = record {
  objects = record { number = 0; column = 0; parent = None } ∷ [];
  cells = map (λ (k : StateColumn). record { object = 0; column = k.number; set = first_set k.first }) (state_columns s 0);
  next = 1;
}

-- the workbook at the start is well formed, and it is filled where the columns under the root have their first values
abbrev pub StartsAreWellFormed : Type 0
StartsAreWellFormed = (s : Schema) → IsTree s.columns → HasFormulas s → IsWellFormed (workbook s (start_state s))

abbrev pub StartsAreFilled : Type 0
StartsAreFilled = (s : Schema) → HasFirstValues s.columns → IsFilled (workbook s (start_state s))
