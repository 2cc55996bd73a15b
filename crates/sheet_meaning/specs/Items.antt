-- The content of items, and the items that a change changes.
use Rattle.std.specs.Prelude.{ℕ, Bool, true, false, not, ◌==◌, List, Option, Some, None}
use Rattle.sheet_values.specs.declared.value.Value.{Value}
use Rattle.sheet_columns.specs.declared.item.Item.{Item}
use Rattle.sheet_columns.specs.declared.item.Item.TheVariants.{Live, Up, Extent, Stored}
use Rattle.sheet_meaning.specs.Formula.{sets_equal}
use Rattle.sheet_meaning.specs.Workbook.{object_at, column_in, parent_in, children_in, set_in}
use Rattle.sheet_meaning.specs.declared.workbook.State.{State}

-- what an item tells: a column or none, a parent or none, or a set
pub data Content : Type 0 where
  Column : Option ℕ → Content
  Parent : Option ℕ → Content
  Members : List Value → Content

abbrev pub content : State → Item → Content
content s (Live o) = Column (column_in (object_at s.objects o))
content s (Up o) = Parent (parent_in (object_at s.objects o))
content s (Extent o c) = Members (children_in s.objects o c)
content s (Stored o c) = Members (set_in s.cells o c)

abbrev pub numbers_equal : Option ℕ → Option ℕ → Bool
numbers_equal None None = true
numbers_equal None (Some n) = false
numbers_equal (Some m) None = false
numbers_equal (Some m) (Some n) = m == n

abbrev pub contents_equal : Content → Content → Bool
contents_equal (Column a) (Column b) = numbers_equal a b
contents_equal (Column a) (Parent b) = false
contents_equal (Column a) (Members b) = false
contents_equal (Parent a) (Column b) = false
contents_equal (Parent a) (Parent b) = numbers_equal a b
contents_equal (Parent a) (Members b) = false
contents_equal (Members a) (Column b) = false
contents_equal (Members a) (Parent b) = false
contents_equal (Members a) (Members b) = sets_equal a b

-- whether the content of an item differs between two states
abbrev pub is_changed : State → State → Item → Bool
is_changed s t i = not (contents_equal (content s i) (content t i))
