-- Lists of formula cells in the order of first use, without doubles.
use Rattle.std.specs.Prelude.{ℕ, Bool, ◌==◌, ◌&&◌, if◌then◌else◌, List, [], ◌∷◌, ◌++◌, fold}
use Rattle.std.specs.List.{list_any}

-- a formula cell's object and column
abbrev pub Cell : Type 0
Cell = ℕ × ℕ

abbrev pub is_cell : Cell → Cell → Bool
is_cell x y = x.0 == y.0 && x.1 == y.1

abbrev pub has_cell : List Cell → Cell → Bool
has_cell cells x = list_any (λ y. is_cell y x) cells

-- the cells with one more at the end, unless it is among them
abbrev pub with_cell : List Cell → Cell → List Cell
with_cell cells x = if has_cell cells x then cells else cells ++ x ∷ []

abbrev pub with_cells : List Cell → List Cell → List Cell
with_cells cells xs = fold with_cell cells xs
