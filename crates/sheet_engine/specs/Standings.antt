-- How far formula cells are.
use Rattle.std.specs.Prelude.{◌≡◌, ℕ, ◌+◌, ◌==◌, ◌&&◌, Bool, true, false, if◌then◌else◌, List, [], ◌∷◌, Option, Some, None, is_some, IsSome}
use Rattle.std.specs.Map.{lookup}
use Rattle.sheet_values.specs.declared.value.Value.{Value}
use Rattle.sheet_columns.specs.Tree.{column_of, above_of, is_number}
use Rattle.sheet_books.specs.declared.book.Contents.{Contents}
use Rattle.sheet_types_rules.specs.Formulas.{is_formula}
use Rattle.sheet_meaning.specs.Run.{Outcome, none}
use Rattle.sheet_meaning.specs.Support.{Cell, is_cell}
use Rattle.sheet_meaning.specs.Told.{Told}
use Rattle.sheet_meaning.specs.Workbook.{FormulaCell, object_at, column_in, parent_in, children_in, set_in}
use Rattle.sheet_meaning.specs.declared.workbook.State.{State}
use Rattle.sheet_engine_laws.specs.Found.{Found}
use Rattle.sheet_engine.specs.declared.standings.Standing.{Standing}
use Rattle.sheet_engine.specs.declared.standings.Standing.TheVariants.{Started, Settled}

-- cells, each with how far it is
abbrev pub Entries : Type 0
Entries = List (Cell × Standing)

-- how far a cell is, and nothing where it isn't started
abbrev pub stands : Entries → Cell → Option Standing
stands es x = lookup (λ (y : Cell). x.0 == y.0 && x.1 == y.1) es

-- with one cell more, or another standing of it
abbrev pub Puts : Entries → Entries → Cell → Standing → Type 0
Puts old new x s = (y : Cell) → stands new y ≡ (if is_cell x y then Some s else stands old y)

abbrev pub is_started : Option Standing → Bool
is_started (Some Started) = true
is_started s = false

-- whether a column stands under an object's column
abbrev pub is_below : Option ℕ → Option ℕ → Bool
is_below None above = false
is_below (Some c) above = is_number c above

-- whether there is such a formula cell
abbrev pub is_there : Contents → State → ℕ → ℕ → Bool
is_there b s o c = is_formula (column_of b.columns c) && is_below (column_in (object_at s.objects o)) (above_of b.columns c)

-- the result of a cell: the one that is found, or another one where there is no such formula cell
abbrev pub result_or : Option Standing → Bool → Outcome (List Value) → Option (Outcome (List Value))
result_or (Some (Settled r)) there other = Some r
result_or (Some Started) there other = if there then None else Some other
result_or None there other = if there then None else Some other

abbrev pub found_in : Contents → State → Outcome (List Value) → Entries → Found
found_in b s other es o c = result_or (stands es (o, c)) (is_there b s o c) other

-- the result of a cell, and `cycle` where it has none
abbrev pub result_in : Option Standing → Outcome (List Value)
result_in None = none
result_in (Some Started) = none
result_in (Some (Settled r)) = r

-- what a state tells, with the results that are found
abbrev pub told_of : State → Found → Told
told_of s found = record {
  cell = set_in s.cells;
  children = children_in s.objects;
  parent = λ o. parent_in (object_at s.objects o);
  live = λ o. is_some (column_in (object_at s.objects o));
  worked = found;
}

-- what is left to do at a cell: 2 where it isn't started, 1 where it waits
abbrev pub weight : Option Standing → ℕ
weight None = 2
weight (Some Started) = 1
weight (Some (Settled r)) = 0

-- what is left to do at some cells
abbrev pub left_at : Entries → List FormulaCell → ℕ
left_at es [] = 0
left_at es (f ∷ fs) = weight (stands es (f.object, f.column)) + left_at es fs

-- a cell that is started stays so or gets a result, and a result stays
abbrev pub Later : Option Standing → Option Standing → Type 0
Later None s = Unit {0}
Later (Some Started) s = IsSome s
Later (Some (Settled r)) s = s ≡ Some (Settled r)

pub record Grows (old new : Entries) : Type 0 where
  pub later : (x : Cell) → Later (stands old x) (stands new x)
