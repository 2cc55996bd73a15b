-- The page of a view, for a caller and arguments, and what it rests on.
use Rattle.std.specs.Prelude.{◌≡◌, ◌++◌, true, ℕ, ◌+◌, Bool, if◌then◌else◌, List, [], ◌∷◌, map, sum_by, Result, Ok, Err}
use Rattle.std.specs.List.{flat_map, filter_map}
use Rattle.sheet_values.specs.declared.value.Value.{Value}
use Rattle.sheet_values.specs.Sorted.{contains}
use Rattle.sheet_columns.specs.ItemOrder.{item_cmp}
use Rattle.sheet_columns.specs.declared.item.Item.{Item}
use Rattle.sheet_columns.specs.declared.item.Item.TheVariants.{Live}
use Rattle.sheet_columns.specs.declared.fault.Place.TheVariants as place
use Rattle.sheet_columns.specs.declared.formula.Core.{Core}
use Rattle.sheet_columns.specs.declared.view.CoreSlot.{CoreSlot}
use Rattle.sheet_columns.specs.declared.view.CoreView.{CoreView}
use Rattle.sheet_columns.specs.declared.view.CoreView.TheVariants as view
use Rattle.sheet_columns.specs.declared.page.Part.{Part}
use Rattle.sheet_columns.specs.declared.page.Part.TheVariants as part
use Rattle.sheet_columns.specs.declared.page.Row.{Row}
use Rattle.sheet_meaning.specs.declared.run.Use.{Use}
use Rattle.sheet_meaning.specs.declared.run.Use.TheVariants.{Read}
use Rattle.sheet_meaning.specs.declared.refusal.Refusal.{Refusal}
use Rattle.sheet_meaning.specs.declared.refusal.Refusal.TheVariants.{Denied, FormulaFault}
use Rattle.sheet_meaning.specs.Run.{Outcome, after}
use Rattle.sheet_meaning.specs.Formula.{Variables, bind, object_in, truth}
use Rattle.sheet_meaning.specs.WellFormed.{IsWellFormed}
use Rattle.sheet_meaning.specs.Rounds.{settled_run}
use Rattle.sheet_meaning.specs.Items.{content}
use Rattle.sheet_meaning.specs.Support.{Cell, support}
use Rattle.sheet_meaning.specs.Kept.{kept_with}
use Rattle.sheet_meaning.specs.Cost.{own_part, cost_of_all}
use Rattle.sheet_meaning.specs.Procedure.{first_variables}
use Rattle.sheet_meaning.specs.declared.run.Run.{Run}
use Rattle.sheet_meaning.specs.declared.workbook.Workbook.{Workbook}
use Rattle.sheet_meaning.specs.declared.workbook.Caller.{Caller}

-- what a slot's formula comes to
abbrev pub slot_run : Workbook → Variables → CoreSlot → Run (List Value)
slot_run w v slot = settled_run w slot.shown (place.Slot slot.number) v

-- a table's row for a value
abbrev pub row : Workbook → Variables → List CoreSlot → Value → Row
row w v slots x = record { of = x; shows = map (λ slot. (slot_run w (bind v x) slot).outcome) slots }

-- what the source of a table comes to
abbrev pub source_run : Workbook → Variables → ℕ → Core → Run (List Value)
source_run w v n source = settled_run w source (place.Slot n) v

abbrev pub part_of : Workbook → Variables → CoreView → Part
part_of w v (view.Show slot) = part.Show slot.name (slot_run w v slot).outcome
part_of w v (view.Table n name source slots) =
    part.Table name (map (λ (slot : CoreSlot). slot.name) slots) (after (source_run w v n source).outcome (λ xs. Ok (map (row w v slots) xs)))

-- the page, where the `allow` formula is true
abbrev pub parts_if : Outcome Bool → List Part → Result (List Part) Refusal
parts_if (Ok holds) parts = if holds then Ok parts else Err Denied
parts_if (Err e) parts = Err (FormulaFault e)

abbrev pub allow_run : Workbook → Core → Variables → Run (List Value)
allow_run w allow v = settled_run w allow (place.Slot 0) v

abbrev pub page : Workbook → Core → List CoreView → Caller → List Value → Result (List Part) Refusal
page w allow views caller arguments =
    let v = first_variables caller arguments in
    parts_if (truth (place.Slot 0) (allow_run w allow v)).outcome (map (part_of w v) views)

-- the values of an outcome, and none of a fault
abbrev pub values_of : Outcome (List Value) → List Value
values_of (Ok xs) = xs
values_of (Err e) = []

-- what a row uses, and what a part uses: a table its source, and the slots of each row
abbrev pub row_uses : Workbook → Variables → List CoreSlot → Value → List Use
row_uses w v slots x = flat_map (λ slot. (slot_run w (bind v x) slot).uses) slots

abbrev pub part_uses : Workbook → Variables → CoreView → List Use
part_uses w v (view.Show slot) = (slot_run w v slot).uses
part_uses w v (view.Table n name source slots) =
    let r = source_run w v n source in
    r.uses ++ flat_map (row_uses w v slots) (values_of r.outcome)

-- whether each object among the arguments is live
abbrev pub argument_uses : List Value → List Use
argument_uses arguments = map (λ o. Read (Live o)) (filter_map object_in arguments)

-- what a view uses: its `allow` formula, its parts, and whether the objects among the arguments are live
abbrev pub view_uses : Workbook → Core → List CoreView → Caller → List Value → List Use
view_uses w allow views caller arguments =
    let v = first_variables caller arguments in
    (allow_run w allow v).uses ++ (flat_map (part_uses w v) views ++ argument_uses arguments)

-- what each expression of a row, and of a part, uses: in the order in which they are worked out
abbrev pub row_evaluations : Workbook → Variables → List CoreSlot → Value → List (List Use)
row_evaluations w v slots x = map (λ slot. (slot_run w (bind v x) slot).uses) slots

abbrev pub part_evaluations : Workbook → Variables → CoreView → List (List Use)
part_evaluations w v (view.Show slot) = (slot_run w v slot).uses ∷ []
part_evaluations w v (view.Table n name source slots) =
    let r = source_run w v n source in
    r.uses ∷ flat_map (row_evaluations w v slots) (values_of r.outcome)

-- what each expression of a view uses
abbrev pub view_evaluations : Workbook → Core → List CoreView → Caller → List Value → List (List Use)
view_evaluations w allow views caller arguments =
    let v = first_variables caller arguments in
    (allow_run w allow v).uses ∷ flat_map (part_evaluations w v) views

-- the cost of a page; of a support, the own parts of the expressions count twice
abbrev pub page_cost : Workbook → Core → List CoreView → Caller → List Value → List Cell → ℕ
page_cost w allow views caller arguments kept = cost_of_all w kept (view_evaluations w allow views caller arguments)

abbrev pub support_cost : Workbook → Core → List CoreView → Caller → List Value → List Cell → ℕ
support_cost w allow views caller arguments kept =
    page_cost w allow views caller arguments kept + sum_by own_part (view_evaluations w allow views caller arguments)

-- the support of a view
abbrev pub view_support : Workbook → Core → List CoreView → Caller → List Value → List Item
view_support w allow views caller arguments = support w (view_uses w allow views caller arguments)

-- the cells that are kept after a view
abbrev pub kept_by_view : Workbook → Core → List CoreView → Caller → List Value → List Cell → List Cell
kept_by_view w allow views caller arguments kept = kept_with w (view_uses w allow views caller arguments) kept

-- two well-formed workbooks of one schema that agree at the support of a view in the first give the same page to the same caller and arguments
abbrev pub SupportSuffices : Type 0
SupportSuffices =
    (w u : Workbook)
    → IsWellFormed w
    → IsWellFormed u
    → u.schema ≡ w.schema
    → (allow : Core) (views : List CoreView) (caller : Caller) (arguments : List Value)
    → ((i : Item) → contains item_cmp i (view_support w allow views caller arguments) ≡ true → content w.state i ≡ content u.state i)
    → page u allow views caller arguments ≡ page w allow views caller arguments
