-- What evaluations over results that are found come to.
use Rattle.std.proofs.Common.{◌≡◌, refl, sym, ap, ◌∙◌, subst, inl, inr, ⊎_elim, Bool, true, false, List, [], ◌∷◌, Option, Some, None, rules}
use Rattle.std.specs.Prelude.{if◌then◌else◌, ◌&&◌, is_some, IsSome, slice_get, filter, Result, Ok, Err, OnOk, IfOk}
use Rattle.std.specs.List.{list_all, filter_map}
use Rattle.sheet_values.specs.declared.value.Value.{Value}
use Rattle.sheet_values.specs.declared.value.Value.TheVariants.{Object}
use Rattle.sheet_columns.specs.declared.fault.Place.{Place}
use Rattle.sheet_columns.specs.declared.fault.Place.TheVariants as place
use Rattle.sheet_columns.specs.declared.formula.Core.{Core}
use Rattle.sheet_meaning.specs.declared.run.Use.{Use}
use Rattle.sheet_meaning.specs.declared.run.Run.{Run}
use Rattle.sheet_meaning.specs.Formula.{Variables, run}
use Rattle.sheet_meaning.specs.Run.{Outcome as Result_of, none}
use Rattle.sheet_meaning.specs.Rounds.{meaning, settled_run, cell_in}
use Rattle.sheet_meaning.specs.Support.{Cell, has_cell, used_cells, cell_at, uses_of}
use Rattle.sheet_meaning.specs.Told.{Told, is_lacking, lacks, lacking, world_told}
use Rattle.sheet_meaning.specs.Workbook.{FormulaCell, formula_cells}
use Rattle.sheet_meaning.proofs.Members.{IsIn}
use Rattle.sheet_meaning.proofs.Cells.{has_in, in_has, added_in, from_cells}
use Rattle.sheet_meaning.proofs.Keeping.{in_filter, from_filter}
use Rattle.sheet_books.specs.declared.book.Contents.{Contents}
use Rattle.sheet_state.specs.Stored.{Stored}
use Rattle.sheet_eval.specs.declared.evaluation.Outcome.{Outcome}
use Rattle.sheet_eval.specs.declared.evaluation.Outcome.TheVariants.{Known, Fault, Need}
use Rattle.sheet_engine_laws.specs.Chains.{worked_out}
use Rattle.sheet_engine_laws.specs.Found.{AreSettled, AllFound, cells_in}
use Rattle.sheet_engine_laws.proofs.Settled.{found_results_settle, needed_are_read, meanings_are_worked_out}
use Rattle.sheet_engine.specs.Seen.{workbook_of}
use Rattle.sheet_engine.specs.Standings.{Entries, stands, result_or, result_in, is_there, is_started}
use Rattle.sheet_engine.specs.Started.{IsServed, ResultsHold, AreLacking, ReadsAll, CellComesTo, ExpressionComesTo, IsFoundAnswer, found_of, told_by}
use Rattle.sheet_engine.specs.declared.standings.Standing.{Standing}
use Rattle.sheet_engine.specs.declared.standings.Standing.TheVariants.{Started, Settled}
use Rattle.sheet_engine.proofs.BookCells.{there_is, cell_is}

all_pass : {A : Type 0} (p : A → Bool) (xs : List A) → ((x : A) → IsIn x xs → p x ≡ true) → list_all p xs ≡ true
all_pass p [] h = refl
all_pass p (x ∷ xs) h = ap (λ b. b && list_all p xs) (h x (inl refl)) ∙ all_pass p xs (λ y i. h y (inr i))

some_there : (o : Option (Result_of (List Value))) → (is_lacking o ≡ true → ⊥) → is_some o ≡ true
some_there None h = absurd (h refl)
some_there (Some r) h = refl

none_if : (o : Option FormulaCell) → is_some o ≡ false → o ≡ None
none_if None h = refl
none_if (Some f) h = cc

module _ (t : Told) (us : List Use) where
  -- where nothing is lacking, each cell that is used has a result
  found_all : lacking t us ≡ [] → AllFound t.worked (cells_in us)
  found_all e =
      all_pass (λ (x : Cell). is_some (t.worked x.0 x.1)) (cells_in us)
      (λ y i. some_there (t.worked y.0 y.1)
      (λ l. subst (IsIn y) e (added_in [] (filter (lacks t) (used_cells us)) y (in_filter (lacks t) (used_cells us) y (added_in [] (cells_in us) y i) l))))

  -- what is lacking has no result, and is used
  lacking_in : (y : Cell) → IsIn y (lacking t us) → (lacks t y ≡ true) × IsIn y (cells_in us)
  lacking_in y h =
      let f = from_filter (lacks t) (used_cells us) y (⊎_elim (λ n. absurd n) (λ i. i) (from_cells [] (filter (lacks t) (used_cells us)) y h)) in
      (f.1, ⊎_elim (λ n. absurd n) (λ i. i) (from_cells [] (cells_in us) y f.0))

module _ (b : Contents) (k : Stored) (served : IsServed b k) where
  -- what is no formula cell is a cycle
  not_there : (x : Cell) → is_there b k.present.state x.0 x.1 ≡ false → meaning (workbook_of b k) x.0 x.1 ≡ none
  not_there x h =
      meanings_are_worked_out (workbook_of b k) x
      ∙ ap (worked_out (workbook_of b k)) (none_if (cell_at (formula_cells (workbook_of b k)) x) (sym (there_is b k served x) ∙ h))

  module _ (es : Entries) (hold : ResultsHold b k es) where
    -- the results that are found are the meanings of their cells
    pub are_settled : AreSettled (workbook_of b k) (found_of b k es)
    are_settled o c r e =
        elim (stands es (o, c)) as (λ s. stands es (o, c) ≡ s → result_or s (is_there b k.present.state o c) none ≡ Some r →
        r ≡ meaning (workbook_of b k) o c) [
          | None ↦ λ at h. no_cell h
          | Some Started ↦ λ at h. no_cell h
          | Some (Settled q) ↦ λ at h. let same : q ≡ r = cc in sym same ∙ hold (o, c) q at
        ] refl e
      where
        no_cell : (if is_there b k.present.state o c then None else Some none) ≡ Some r → r ≡ meaning (workbook_of b k) o c
        no_cell h =
            elim (is_there b k.present.state o c) as (λ t. is_there b k.present.state o c ≡ t → (if t then None else Some none) ≡ Some r →
            r ≡ meaning (workbook_of b k) o c) [
              | true ↦ λ at e. cc
              | false ↦ λ at e. let same : none ≡ r = cc in sym same ∙ sym (not_there (o, c) at)
            ] refl h

    -- the result of a cell that lacks none is its meaning
    pub result_is : (x : Cell) → is_lacking (found_of b k es x.0 x.1) ≡ false → result_in (stands es x) ≡ meaning (workbook_of b k) x.0 x.1
    result_is x h =
        elim (stands es x) as (λ s. stands es x ≡ s → is_lacking (result_or s (is_there b k.present.state x.0 x.1) none) ≡ false →
        result_in s ≡ meaning (workbook_of b k) x.0 x.1) [
          | None ↦ λ at e. no_cell e
          | Some Started ↦ λ at e. no_cell e
          | Some (Settled q) ↦ λ at e. hold x q at
        ] refl h
      where
        no_cell : is_lacking (if is_there b k.present.state x.0 x.1 then None else Some none) ≡ false → none ≡ meaning (workbook_of b k) x.0 x.1
        no_cell h =
            elim (is_there b k.present.state x.0 x.1) as (λ t. is_there b k.present.state x.0 x.1 ≡ t → is_lacking (if t then None else Some none) ≡ false →
            none ≡ meaning (workbook_of b k) x.0 x.1) [
              | true ↦ λ at e. cc
              | false ↦ λ at e. sym (not_there x at)
            ] refl h

    module _ (e : Core) (p : Place) (v : Variables) where
      abbrev found_run : Run (List Value)
      found_run = run e (world_told (told_by b k es)) p v

      settles : lacking (told_by b k es) found_run.uses ≡ [] → found_run ≡ settled_run (workbook_of b k) e p v
      settles n = found_results_settle (workbook_of b k) (found_of b k es) e p v are_settled (found_all (told_by b k es) found_run.uses n)

      lack : (cells : List Cell) → cells ≡ lacking (told_by b k es) found_run.uses → (cells ≡ [] → ⊥) → AreLacking b k es cells
      lack cells same some = record {
        some = some;
        each = λ y h. (lacking_in (told_by b k es) found_run.uses y (subst (IsIn y) same (has_in cells y h))).0;
      }

      pub expression_comes : (a : Outcome) → IsFoundAnswer b k es e p v a → ExpressionComesTo b k es e p v a
      expression_comes (Known s) h = ap (λ (r : Run (List Value)). r.outcome) (sym (settles h.0)) ∙ h.1
      expression_comes (Fault f) h = ap (λ (r : Run (List Value)). r.outcome) (sym (settles h.0)) ∙ h.1
      expression_comes (Need cells) h = lack cells h.0 h.1

    module _ (e : Core) (x : Cell) (there : is_there b k.present.state x.0 x.1 ≡ true) (at : slice_get b.formulas x.1 ≡ Some (Some e)) where
      abbrev this : Variables
      this = (Object x.0 ∷ []) ∷ []

      abbrev here : FormulaCell
      here = record { object = x.0; column = x.1; core = e }

      is : cell_at (formula_cells (workbook_of b k)) x ≡ Some here
      is = cell_is b k served x e there at

      means : lacking (told_by b k es) (found_run e (place.Cell x.0 x.1) this).uses ≡ [] → (o : Result_of (List Value)) →
          (found_run e (place.Cell x.0 x.1) this).outcome ≡ o → meaning (workbook_of b k) x.0 x.1 ≡ o
      means n o h =
          meanings_are_worked_out (workbook_of b k) x
          ∙ ap (worked_out (workbook_of b k)) is
          ∙ ap (λ (r : Run (List Value)). r.outcome) (sym (settles e (place.Cell x.0 x.1) this n))
          ∙ h

      reads_all : (cells : List Cell) → cells ≡ lacking (told_by b k es) (found_run e (place.Cell x.0 x.1) this).uses → ReadsAll b k x cells
      reads_all cells same y h =
          let used_there = (lacking_in (told_by b k es) (found_run e (place.Cell x.0 x.1) this).uses y (subst (IsIn y) same (has_in cells y h))).1 in
          subst (λ o. has_cell (filter_map cell_in (uses_of (workbook_of b k) o)) y ≡ true) (sym is)
          (needed_are_read (workbook_of b k) (found_of b k es) e (place.Cell x.0 x.1) this y are_settled (in_has _ y used_there))

      pub cell_comes : (a : Outcome) → IsFoundAnswer b k es e (place.Cell x.0 x.1) this a → CellComesTo b k es x a
      cell_comes (Known s) h = means h.0 (Ok s) h.1
      cell_comes (Fault f) h = means h.0 (Err f) h.1
      cell_comes (Need cells) h = (lack e (place.Cell x.0 x.1) this cells h.0 h.1, reads_all cells h.0)

-- a cell without a result is a formula cell
pub lacking_there : (s : Option Standing) (there : Bool) → is_lacking (result_or s there none) ≡ true → there ≡ true
lacking_there None true h = refl
lacking_there None false h = cc
lacking_there (Some Started) true h = refl
lacking_there (Some Started) false h = cc
lacking_there (Some (Settled r)) there h = cc

-- and isn't started, where it doesn't wait
pub lacking_fresh : (s : Option Standing) (there : Bool) → is_started s ≡ false → is_lacking (result_or s there none) ≡ true → s ≡ None
lacking_fresh None there n h = refl
lacking_fresh (Some Started) there n h = cc
lacking_fresh (Some (Settled r)) there n h = cc

pub is_waiting : (s : Option Standing) → is_started s ≡ true → s ≡ Some Started
is_waiting None h = cc
is_waiting (Some Started) h = refl
is_waiting (Some (Settled r)) h = cc

-- a cell that is started and doesn't wait has a result
pub not_lacking : (s : Option Standing) (there : Bool) → IsSome s → (s ≡ Some Started → ⊥) → is_lacking (result_or s there none) ≡ false
not_lacking None there i n = search rules
not_lacking (Some Started) there i n = absurd (n refl)
not_lacking (Some (Settled r)) there i n = refl

pub some_by : {A : Type 0} (o : Option A) → is_some o ≡ true → IsSome o
some_by o h = h

pub on_ok : {A E P Q : Type 0} (r : Result A E) → (P → Q) → OnOk r P → OnOk r Q
on_ok (Ok a) f h = f h
on_ok (Err e) f h = h

pub on_both : {A E P Q R : Type 0} (r : Result A E) → (P → Q → R) → OnOk r P → OnOk r Q → OnOk r R
on_both (Ok a) f p q = f p q
on_both (Err e) f p q = p

pub if_ok : {A E : Type 0} {P Q : A → Type 0} (r : Result A E) → ((a : A) → P a → Q a) → IfOk r P → IfOk r Q
if_ok (Ok a) f h = f a h
if_ok (Err e) f h = h
