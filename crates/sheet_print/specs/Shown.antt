-- The objects and the cells that a table shows.
use Rattle.std.specs.Prelude.{◌≡◌, ℕ, ◌<◌, List, [], length, map, fold, All, IsSome}
use Rattle.sheet_columns.specs.Tree.{above_of}
use Rattle.sheet_columns.specs.declared.tree.Node.{Node}
use Rattle.sheet_meaning.specs.Workbook.{object_at, column_in, children_in}
use Rattle.sheet_meaning.specs.declared.workbook.LiveObject.{LiveObject}
use Rattle.sheet_values.specs.Sets.{union}
use Rattle.sheet_values.specs.declared.value.Value.{Value}

-- the objects of a column under any of these
abbrev pub children_of : List LiveObject → ℕ → List ℕ → List Value
children_of objects k parents = fold union [] (map (λ p. children_in objects p k) parents)

-- the object is live, and the column stands directly under its column
pub record IsCell (nodes : List Node) (objects : List LiveObject) (o c : ℕ) : Type 0 where
  pub counted : c < length nodes
  pub live : IsSome (object_at objects o)
  pub under : column_in (object_at objects o) ≡ above_of nodes c

-- the object has these cells
abbrev pub HasCells : List Node → List LiveObject → List ℕ → ℕ → Type 0
HasCells nodes objects cells o = All (IsCell nodes objects o) cells

-- these columns are there
abbrev pub AreCounted : List Node → List ℕ → Type 0
AreCounted nodes cells = All (λ c. c < length nodes) cells

-- each of these objects has them
abbrev pub HaveCells : List Node → List LiveObject → List ℕ → List ℕ → Type 0
HaveCells nodes objects cells os = All (HasCells nodes objects cells) os
