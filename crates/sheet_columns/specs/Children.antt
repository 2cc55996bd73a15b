-- For each column, the names and numbers of the columns directly under it.
use Rattle.std.specs.Prelude.{◌≡◌, ℕ, zero, suc, if◌then◌else◌, List, [], ◌∷◌, ◌++◌, length, bytes_eq, Option, Some, None}
use Rattle.sheet_columns.specs.declared.tree.Node.{Node}
use Rattle.sheet_columns.specs.Tree.{child_named}

-- names, each with the number of a column
abbrev pub Numbered : Type 0
Numbered = List (List ℕ × ℕ)

-- the number that goes with a name
abbrev pub number_of : Numbered → List ℕ → Option ℕ
number_of [] name = None
number_of (e ∷ es) name = if bytes_eq name e.0 then Some e.1 else number_of es name

-- the number that goes with a name under a column
abbrev pub found_under : List Numbered → ℕ → List ℕ → Option ℕ
found_under [] above name = None
found_under (es ∷ children) zero name = number_of es name
found_under (es ∷ children) (suc above) name = found_under children above name

-- with a name and its number under a column
abbrev pub with_child : List Numbered → ℕ → List ℕ → ℕ → List Numbered
with_child [] above name number = []
with_child (es ∷ children) zero name number = (es ++ (name, number) ∷ []) ∷ children
with_child (es ∷ children) (suc above) name number = es ∷ with_child children above name number

-- the names and numbers are those of the tree
pub record AreChildren (children : List Numbered) (nodes : List Node) : Type 0 where
  pub long : length children ≡ length nodes
  pub found : (above : ℕ) (name : List ℕ) → found_under children above name ≡ child_named nodes above name
