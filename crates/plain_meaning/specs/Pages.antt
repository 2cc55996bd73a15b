-- Pages, as the plain program holds them.
use Rattle.std.specs.Prelude.{◌≡◌, ℕ, List, map, Result, Ok, Err}
use Rattle.sheet_columns.specs.declared.view.CoreSlot.{CoreSlot}
use Rattle.sheet_columns.specs.declared.page.Part.{Part}
use Rattle.sheet_columns.specs.declared.page.Part.TheVariants as part
use Rattle.sheet_columns.specs.declared.page.Row.{Row}
use Rattle.sheet_meaning.specs.declared.refusal.Refusal.{Refusal}
use Rattle.std.specs.List.{flat_map}
use Rattle.sheet_meaning.specs.declared.run.Use.{Use}
use Rattle.sheet_meaning.specs.declared.workbook.Workbook.{Workbook}
use Rattle.sheet_meaning.specs.Formula.{Variables}
use Rattle.sheet_meaning.specs.Page.{slot_run}
use Rattle.plain_meaning.specs.declared.showing.PlainRow.{PlainRow}
use Rattle.plain_meaning.specs.declared.showing.PlainPart.{PlainPart}
use Rattle.plain_meaning.specs.declared.showing.PlainPart.TheVariants as plain
use Rattle.plain_meaning.specs.declared.stop.Stop.{Stop}
use Rattle.plain_meaning.specs.declared.stop.Stop.TheVariants.{Refused, NoMemory}

-- the row that it stands for
abbrev pub as_row : PlainRow → Row
as_row r = record { of = r.of; shows = r.shows }

-- the part that it stands for
abbrev pub as_part : PlainPart → Part
as_part (plain.Show n shown) = part.Show n shown
as_part (plain.Table n names (Ok rows)) = part.Table n names (Ok (map as_row rows))
as_part (plain.Table n names (Err e)) = part.Table n names (Err e)

-- the names of slots
abbrev pub names_of : List CoreSlot → List (List ℕ)
names_of slots = map (λ (slot : CoreSlot). slot.name) slots

-- a view comes to the page that its definition says; want of memory alone is free
abbrev pub IsPage : Result (List PlainPart) Stop → Result (List Part) Refusal → Type 0
IsPage (Ok parts) p = p ≡ Ok (map as_part parts)
IsPage (Err (Refused e)) p = p ≡ Err e
IsPage (Err NoMemory) p = Unit {0}

-- what slots use
abbrev pub slots_used : Workbook → Variables → List CoreSlot → List Use
slots_used w v slots = flat_map (λ slot. (slot_run w v slot).uses) slots
