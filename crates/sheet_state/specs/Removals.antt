-- Objects that are gone one after another.
use Rattle.std.specs.Prelude.{◌≡◌, ℕ, ◌&&◌, ◌||◌, if◌then◌else◌, List, fold, is_some}
use Rattle.std.specs.List.{filter_map}
use Rattle.std.specs.Ordering.{is_eq}
use Rattle.sheet_values.specs.Order.{value_cmp}
use Rattle.sheet_values.specs.Sets.{contains}
use Rattle.sheet_values.specs.declared.value.Value.{Value}
use Rattle.sheet_values.specs.declared.value.Value.TheVariants.{Object}
use Rattle.sheet_state_references.specs.Below.{has}
use Rattle.sheet_meaning.specs.Changes.{without_object}
use Rattle.sheet_meaning.specs.Formula.{object_in}
use Rattle.sheet_meaning.specs.Workbook.{object_at}
use Rattle.sheet_meaning.specs.declared.workbook.LiveObject.{LiveObject}
use Rattle.sheet_meaning.specs.declared.workbook.State.{State}

-- an object is gone with all below it, where it is still live
abbrev pub without_live : State → ℕ → State
without_live s o = if is_some (object_at s.objects o) then without_object s o else s

-- the objects of a set are gone, one after another
abbrev pub without_all : State → List Value → State
without_all s set = fold without_live s (filter_map object_in set)

-- the numbers are those of the live objects of a set
abbrev pub AreLive : List LiveObject → List Value → List ℕ → Type 0
AreLive xs set ns = (n : ℕ) → has n ns ≡ (contains (Object n) set && is_some (object_at xs n))

-- the number of a value that is a live object came
abbrev pub AddsLive : List LiveObject → Value → List ℕ → List ℕ → Type 0
AddsLive xs v old new = (n : ℕ) → has n new ≡ (has n old || (is_eq (value_cmp (Object n) v) && is_some (object_at xs n)))
