-- Rows, each for an object and a column.
use Rattle.std.specs.Prelude.{ℕ, ◌==◌, ◌&&◌, if◌then◌else◌, List, [], ◌∷◌, Option, Some, None}
use Rattle.test_eval.specs.declared.rows.Row.{Row}

-- what the first row of an object and a column holds
abbrev pub found : {T : Type 0} → List (Row T) → ℕ → ℕ → Option T
found [] o c = None
found (r ∷ rs) o c = if r.object == o && r.column == c then Some r.held else found rs o c
