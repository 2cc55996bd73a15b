-- What a content tells.
use Rattle.std.specs.Prelude.{◌==◌, ◌||◌, List, Option, Some, None, is_some}
use Rattle.sheet_values.specs.declared.value.Value.{Value}
use Rattle.sheet_meaning.specs.Told.{Told}
use Rattle.test_eval.specs.Rows.{found}
use Rattle.test_eval.specs.declared.content.Content.{Content}

-- the set that was found, or else that other
abbrev pub or_else : Option (List Value) → List Value → List Value
or_else None s = s
or_else (Some t) s = t

-- cells and extents without a row are empty; an object with a row for its parent is live, and so is the root
abbrev pub content_told : Content → Told
content_told c = record {
  cell = λ o k. or_else (found c.cells.items o k) c.empty;
  children = λ o k. or_else (found c.children.items o k) c.empty;
  parent = λ o. found c.parents.items o 0;
  live = λ o. o == 0 || is_some (found c.parents.items o 0);
  worked = λ o k. found c.worked.items o k;
}
