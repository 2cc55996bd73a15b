-- What a look at a view comes to, and which results it keeps.
use Rattle.std.specs.Prelude.{◌≡◌, ℕ, Bool, true, false, List, [], ◌∷◌, map, Result, Ok, Err}
use Rattle.sheet_values.specs.declared.value.Value.{Value}
use Rattle.sheet_columns.specs.declared.fault.Fault.{Fault}
use Rattle.sheet_columns.specs.declared.fault.Place.{Place}
use Rattle.sheet_columns.specs.declared.formula.Core.{Core}
use Rattle.sheet_columns.specs.declared.page.Part.{Part}
use Rattle.sheet_columns.specs.declared.page.Row.{Row}
use Rattle.sheet_columns.specs.declared.view.CoreSlot.{CoreSlot}
use Rattle.sheet_books.specs.declared.body.View.{View}
use Rattle.sheet_meaning.specs.Formula.{Variables}
use Rattle.sheet_meaning.specs.Page.{slot_run, row, allow_run, view_uses}
use Rattle.sheet_meaning.specs.Procedure.{first_variables}
use Rattle.sheet_meaning.specs.Rounds.{settled_run}
use Rattle.sheet_meaning.specs.Run.{after}
use Rattle.sheet_meaning.specs.Support.{Cell}
use Rattle.sheet_meaning.specs.declared.refusal.Refusal.{Refusal}
use Rattle.sheet_meaning.specs.declared.refusal.Refusal.TheVariants as refused
use Rattle.sheet_meaning.specs.declared.workbook.Caller.{Caller}
use Rattle.sheet_meaning.specs.declared.workbook.Workbook.{Workbook}
use Rattle.sheet_engine.specs.Seen.{keeps}
use Rattle.sheet_views.specs.declared.refusal.ViewRefusal.{ViewRefusal}
use Rattle.sheet_views.specs.declared.refusal.ViewRefusal.TheVariants.{Denied, FormulaFault, NoMemory}

-- exactly the page, or exactly the refusal, that is defined; want of memory alone is free
abbrev pub IsDefinedPage : Result (List Part) ViewRefusal → Result (List Part) Refusal → Type 0
IsDefinedPage (Ok parts) p = p ≡ Ok parts
IsDefinedPage (Err Denied) p = p ≡ Err refused.Denied
IsDefinedPage (Err (FormulaFault f)) p = p ≡ Err (refused.FormulaFault f)
IsDefinedPage (Err NoMemory) p = Unit {0}

-- which formula cells are kept afterwards: by a page those that the whole view keeps, by a refusal those that its `allow` formula keeps;
-- nothing is said where there was no memory
abbrev pub KeepsForPage : Workbook → View → Caller → List Value → List Cell → Result (List Part) ViewRefusal → List Cell → Type 0
KeepsForPage w v caller arguments before (Ok parts) behind = behind ≡ keeps w (view_uses w v.allow v.parts caller arguments) before
KeepsForPage w v caller arguments before (Err Denied) behind = behind ≡ keeps w (allow_run w v.allow (first_variables caller arguments)).uses before
KeepsForPage w v caller arguments before (Err (FormulaFault f)) behind = behind ≡ keeps w (allow_run w v.allow (first_variables caller arguments)).uses before
KeepsForPage w v caller arguments before (Err NoMemory) behind = Unit {0}

-- the names of a table's slots
abbrev pub names_of : List CoreSlot → List (List ℕ)
names_of slots = map (λ (slot : CoreSlot). slot.name) slots

-- what the slots of a row show
abbrev pub shown_in : Workbook → Variables → List CoreSlot → List (Result (List Value) Fault)
shown_in w v slots = map (λ slot. (slot_run w v slot).outcome) slots

-- the rows of a table, or the fault of its source at that place
abbrev pub rows_of : Workbook → Variables → Core → Place → List CoreSlot → Result (List Row) Fault
rows_of w v source p slots = after (settled_run w source p v).outcome (λ xs. Ok (map (row w v slots) xs))

-- whether there is any
abbrev pub is_any : {A : Type 0} → List A → Bool
is_any [] = false
is_any (x ∷ xs) = true
