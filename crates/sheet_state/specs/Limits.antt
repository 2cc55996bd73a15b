-- Which limit a workbook passes.
use Rattle.std.specs.Prelude.{◌≡◌, ℕ, ◌+◌, nat_lt, length, Option, Some, None, if◌then◌else◌}
use Rattle.sheet_meaning.specs.WellFormed.{cell_count, stored_values, max_objects, max_cells, max_values, max_number}
use Rattle.sheet_meaning.specs.declared.refusal.Which.{Which}
use Rattle.sheet_meaning.specs.declared.refusal.Which.TheVariants.{Objects, Cells, Values, Numbers}
use Rattle.sheet_meaning.specs.declared.workbook.Workbook.{Workbook}
use Rattle.sheet_state.specs.declared.refusal.StateRefusal.{StateRefusal}
use Rattle.sheet_state.specs.declared.refusal.StateRefusal.TheVariants.{Full, NoMemory}

-- the first of these counts that passes its limit, with the limit: live objects, cells, stored values, and numbers, of which the next is given
abbrev pub full_of : ℕ → ℕ → ℕ → ℕ → Option (Which × ℕ)
full_of objects cells values next =
    if nat_lt max_objects objects then Some (Objects, max_objects)
    else if nat_lt max_cells cells then Some (Cells, max_cells)
    else if nat_lt max_values values then Some (Values, max_values)
    else if nat_lt (max_number + 1) next then Some (Numbers, max_number)
    else None

-- the first limit that a workbook passes
abbrev pub first_full : Workbook → Option (Which × ℕ)
first_full w = full_of (length w.state.objects) (cell_count w) (stored_values w.state.cells) w.state.next

-- a refusal names the limit that would be passed; want of memory may always come
abbrev pub Refuses : Option (Which × ℕ) → StateRefusal → Type 0
Refuses full (Full which limit) = full ≡ Some (which, limit)
Refuses full NoMemory = Unit {0}
