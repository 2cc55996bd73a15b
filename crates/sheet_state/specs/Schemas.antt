-- Workbooks of the same columns, with other formulas.
use Rattle.std.specs.Prelude.{◌≡◌, ◌↔◌, ℕ, List, is_some}
use Rattle.sheet_columns.specs.declared.tree.Node.{Node}
use Rattle.sheet_meaning.specs.Changes.{with_object}
use Rattle.sheet_meaning.specs.Formula.{World}
use Rattle.sheet_meaning.specs.Workbook.{object_at, column_in, parent_in, children_in, set_in, world}
use Rattle.sheet_meaning.specs.WellFormed.{HasFormulas, IsWellFormed, cell_count}
use Rattle.sheet_meaning.specs.Run.{Outcome}
use Rattle.sheet_values.specs.declared.value.Value.{Value}
use Rattle.sheet_meaning.specs.declared.workbook.Schema.{Schema}
use Rattle.sheet_meaning.specs.declared.workbook.State.{State}
use Rattle.sheet_meaning.specs.declared.workbook.Workbook.{Workbook}
use Rattle.sheet_state.specs.Stored.{schema_of, book}
use Rattle.sheet_state.specs.Limits.{first_full}

-- the schema has these columns, and a formula for each of their formula columns, in order
pub record IsSchemaOf (nodes : List Node) (s : Schema) : Type 0 where
  pub columns : s.columns ≡ nodes
  pub formulas : HasFormulas s

-- the workbook of a schema and a state
abbrev pub workbook : Schema → State → Workbook
workbook s u = record { schema = s; state = u }

-- a state is as well formed with one schema of the columns as with another, passes the same limits, and gets the same new objects
pub record Carries (nodes : List Node) (s : Schema) (u : State) : Type 0 where
  pub well_formed : IsWellFormed (book nodes u) ↔ IsWellFormed (workbook s u)
  pub cells : cell_count (book nodes u) ≡ cell_count (workbook s u)
  pub full : first_full (book nodes u) ≡ first_full (workbook s u)
  pub new_object : (c p : ℕ) → with_object (schema_of nodes) u c p ≡ with_object s u c p

-- what formulas say doesn't matter to a state
abbrev pub FormulasDontMatter : Type 0
FormulasDontMatter = (nodes : List Node) (s : Schema) (u : State) → IsSchemaOf nodes s → Carries nodes s u

-- expressions of a workbook are worked out from the content of the items of its state
pub record TellsItems (s : Schema) (u : State) (w : World) : Type 0 where
  pub cell : (o c : ℕ) → w.cell o c ≡ set_in u.cells o c
  pub children : (o c : ℕ) → w.children o c ≡ children_in u.objects o c
  pub parent : (o : ℕ) → w.parent o ≡ parent_in (object_at u.objects o)
  pub live : (o : ℕ) → w.live o ≡ is_some (column_in (object_at u.objects o))

-- what formulas read of a workbook without its formulas is what its items tell
abbrev pub WorldsTellItems : Type 0
WorldsTellItems = (s : Schema) (u : State) (worked : ℕ → ℕ → Outcome (List Value)) → TellsItems s u (world (workbook s u) worked)
