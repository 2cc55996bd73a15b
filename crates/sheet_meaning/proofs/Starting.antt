-- The workbook at the start is well formed, and filled.
use Rattle.std.proofs.Common.{◌≡◌, refl, sym, ap, ◌∙◌, subst, ℕ, ◌+◌, ◌≤◌, suc, Bool, true, false, List, [], ◌∷◌, length, arith, Option, Some, None, inl, inr}
use Rattle.std.proofs.Common.{⊎_elim, length-append}
use Rattle.std.specs.Prelude.{map, filter, find, not, ◌==◌, ◌&&◌, cond, is_some, slice_get, if◌then◌else◌}
use Rattle.std.specs.List.{filter_map, cons_option, enumerate_from, AllByRecursion}
use Rattle.std.proofs.lemmas.List.{append-nil, length-map}
use Rattle.std.proofs.lemmas.List.Sums.{sum_by-cons}
use Rattle.std.proofs.lemmas.Bool.{eq-eqb, eqb-true}
use Rattle.sheet_values.specs.declared.value.Value.{Value}
use Rattle.sheet_columns.specs.Firsts.{lacks_first, HasFirstValues}
use Rattle.sheet_columns.specs.Tree.{column_of, is_number, IsTree}
use Rattle.sheet_columns.specs.declared.tree.Column.{Column}
use Rattle.sheet_columns.specs.declared.tree.Column.TheVariants as column
use Rattle.sheet_columns.specs.declared.tree.Node.{Node}
use Rattle.sheet_meaning.specs.Changes.{first_set}
use Rattle.sheet_meaning.specs.Statements.{workbook}
use Rattle.sheet_meaning.specs.Start.{start_state, StartsAreWellFormed, StartsAreFilled}
use Rattle.sheet_meaning.specs.Workbook.{set_in, formula_cell, cells_of}
use Rattle.sheet_meaning.specs.WellFormed.{StateColumn, as_state, state_columns, as_formula, all_formula_columns, HasFormulas, one_cells, stored_values}
use Rattle.sheet_meaning.specs.WellFormed.{cell_count, HoldsKind, IsWellFormed}
use Rattle.sheet_meaning.specs.declared.workbook.ColumnFormula.{ColumnFormula}
use Rattle.sheet_meaning.specs.declared.workbook.StoredCell.{StoredCell}
use Rattle.sheet_meaning.specs.declared.workbook.Schema.{Schema}
use Rattle.sheet_meaning.specs.declared.workbook.State.{State}
use Rattle.sheet_meaning.proofs.Members.{IsIn}
use Rattle.sheet_meaning.proofs.Columns.{all_from, all_in, all_map, column_there, new_typed}

option_short : {A : Type 0} (o : Option A) (xs : List A) → length (cons_option o xs) ≤ suc (length xs)
option_short None xs = omega arith
option_short (Some x) xs = omega arith

found_short : {A B : Type 0} (f : A → Option B) (xs : List A) → length (filter_map f xs) ≤ length xs
found_short f [] = omega arith
found_short f (x ∷ xs) = omega (arith, found_short f xs, option_short (f x) (filter_map f xs))

enumerate_long : {A : Type 0} (n : ℕ) (xs : List A) → length (enumerate_from n xs) ≡ length xs
enumerate_long n [] = refl
enumerate_long n (x ∷ xs) = ap suc (enumerate_long (n + 1) xs)

-- the state cells of the root, of these columns
abbrev new_cells : List StateColumn → List StoredCell
new_cells ks = map (λ (k : StateColumn). record { object = 0; column = k.number; set = first_set k.first }) ks

new_keys : (ks : List StateColumn) →
    map {B = ℕ × ℕ} (λ (x : StoredCell). (x.object, x.column)) (new_cells ks) ≡ map {B = ℕ × ℕ} (λ (k : StateColumn). (0, k.number)) ks
new_keys [] = refl
new_keys (k ∷ ks) = ap (λ l. (0, k.number) ∷ l) (new_keys ks)

first_short : (o : Option Value) → length (first_set o) ≤ 1
first_short None = omega arith
first_short (Some v) = omega arith

few_first : (ks : List StateColumn) → stored_values (new_cells ks) ≤ length ks
few_first [] = omega arith
few_first (k ∷ ks) =
    let x : StoredCell = record { object = 0; column = k.number; set = first_set k.first } in
    let whole = sum_by-cons (λ (y : StoredCell). length y.set) x (new_cells ks) in
    omega (arith, whole, few_first ks, first_short k.first)

module _ (s : Schema) (tree : IsTree s.columns) (formulas : HasFormulas s) where
  abbrev t : State
  t = start_state s

  abbrev ks : List StateColumn
  ks = state_columns s 0

  few_columns : length ks ≤ 1000
  few_columns =
      let found = found_short (λ (x : ℕ × Node). if is_number 0 x.1.above then as_state x.0 x.1.column else None) (enumerate_from 0 s.columns) in
      omega (arith, found, enumerate_long 0 s.columns, tree.few)

  few_formulas : length s.formulas ≤ 1000
  few_formulas =
      let found = found_short (λ (x : ℕ × Node). as_formula x.0 x.1.column) (enumerate_from 0 s.columns) in
      let as_many = length-map {B = ℕ} s.formulas (λ (f : ColumnFormula). f.column) in
      let same : length (map (λ (f : ColumnFormula). f.column) s.formulas) ≡ length (all_formula_columns s.columns) = ap length formulas in
      omega (arith, found, as_many, same, enumerate_long 0 s.columns, tree.few)

  few : cell_count (workbook s t) ≤ 2000
  few =
      let states = length-append {A = ℕ × ℕ} (map (λ (k : StateColumn). (0, k.number)) ks) [] in
      let as_many = length-map {B = ℕ × ℕ} ks (λ (k : StateColumn). (0, k.number)) in
      let cells = length-append (cells_of s 0 0) [] in
      let found = found_short (formula_cell s 0 0) s.formulas in
      omega (arith, states, as_many, cells, found, few_columns, few_formulas)

  well : IsWellFormed (workbook s t)
  well = record {
    formulas = formulas;
    root = refl;
    rising = (tt, tt);
    under = ((refl, refl), tt);
    drawn = (omega arith, tt);
    cells = new_keys ks ∙ sym (append-nil (map (λ (k : StateColumn). (0, k.number)) ks));
    typed =
        all_map (λ (x : StoredCell). HoldsKind t x (column_of s.columns x.column))
        (λ (k : StateColumn). record { object = 0; column = k.number; set = first_set k.first }) ks
        (all_from (λ (k : StateColumn). HoldsKind t (record { object = 0; column = k.number; set = first_set k.first }) (column_of s.columns k.number)) ks
        (λ k i. new_typed s tree t 0 0 k i));
    few_objects = omega arith;
    few_cells = omega (arith, few);
    few_values = omega (arith, few_first ks, few_columns);
    few_numbers = omega arith;
  }

pub starts_are_well_formed : StartsAreWellFormed
starts_are_well_formed s tree formulas = well s tree formulas

-- a column that must hold one value has a first one
abbrev IsFirst : StateColumn → Type 0
IsFirst k = k.one ≡ true → is_some k.first ≡ true

one_first : (k : StateColumn) → lacks_first (column.State k.kind k.one k.first) ≡ false → IsFirst k
one_first k h e = at k.first (sym (ap (λ b. b && not (is_some k.first)) e) ∙ h)
  where
    at : (o : Option Value) → not (is_some o) ≡ false → is_some o ≡ true
    at None h = cc
    at (Some v) h = refl

firsts : (s : Schema) → HasFirstValues s.columns → AllByRecursion IsFirst (state_columns s 0)
firsts s h = all_from IsFirst (state_columns s 0) (λ k i.
    let n = column_there s 0 k i in
    let lacks = all_in (λ (m : Node). (is_number 0 m.above && lacks_first m.column) ≡ false) s.columns n.node h n.among in
    let here : lacks_first n.node.column ≡ false = sym (ap (λ b. b && lacks_first n.node.column) n.under) ∙ lacks in
    one_first k (sym (ap lacks_first n.column) ∙ here))

find_none : {A : Type 0} (p : A → Bool) (xs : List A) → ((x : A) → IsIn x xs → p x ≡ false) → find p xs ≡ None
find_none p [] h = refl
find_none {A} p (x ∷ xs) h = ap (λ b. if b then Some x else find p xs) (h x (inl refl)) ∙ find_none p xs (λ y i. h y (inr i))

from_map : {A B : Type 0} (f : A → B) (xs : List A) (y : B) → IsIn y (map f xs) → (x : A) × IsIn x xs × (y ≡ f x)
from_map f [] y h = absurd h
from_map f (x ∷ xs) y h = ⊎_elim (λ e. (x, inl refl, e)) (λ k. let r = from_map f xs y k in (r.0, inr r.1, r.2)) h

from_filter : {A : Type 0} (p : A → Bool) (xs : List A) (y : A) → IsIn y (filter p xs) → IsIn y xs × (p y ≡ true)
from_filter p [] y h = absurd h
from_filter {A} p (x ∷ xs) y h =
    elim (p x) as (λ b. p x ≡ b → IsIn y (cond b (x ∷ filter p xs) (filter p xs)) → IsIn y (x ∷ xs) × (p y ≡ true)) [
      | true ↦ λ e k. ⊎_elim (λ same. (inl same, ap p same ∙ e)) (λ j. let r = from_filter p xs y j in (inr r.0, r.1)) k
      | false ↦ λ e k. let r = from_filter p xs y k in (inr r.0, r.1)
    ] refl h

-- what the root's cell of a column holds at the start
record IsFoundAs (ks : List StateColumn) (c : ℕ) (set : List Value) : Type 0 where
  column : StateColumn
  among : IsIn column ks
  number : column.number ≡ c
  first : set ≡ first_set column.first

set_found : (ks : List StateColumn) (k : StateColumn) → IsIn k ks → IsFoundAs ks k.number (set_in (new_cells ks) 0 k.number)
set_found [] k i = absurd i
set_found (x ∷ xs) k i =
    elim (x.number == k.number) as (λ b. (x.number == k.number) ≡ b →
    IsFoundAs (x ∷ xs) k.number (if b then first_set x.first else set_in (new_cells xs) 0 k.number)) [
      | true ↦ λ e. record { column = x; among = inl refl; number = eqb-true x.number k.number e; first = refl }
      | false ↦ λ e.
          ⊎_elim
          (λ same. let itself : (x.number == k.number) ≡ true = eq-eqb x.number k.number (ap (λ (y : StateColumn). y.number) (sym same)) in cc)
          (λ j. let r = set_found xs k j in record { column = r.column; among = inr r.among; number = r.number; first = r.first })
          i
    ] refl

one_of : Column → Bool
one_of column.Object = false
one_of (column.State k one first) = one
one_of (column.Formula k) = false

module _ (s : Schema) (h : HasFirstValues s.columns) where
  -- columns of one number are one column
  same_one : (k l : StateColumn) → IsIn k (state_columns s 0) → IsIn l (state_columns s 0) → l.number ≡ k.number → k.one ≡ l.one
  unfolding one_of
  same_one k l i j e =
      let a = column_there s 0 k i in
      let b = column_there s 0 l j in
      let same : Some a.node ≡ Some b.node = sym a.at ∙ ap (slice_get s.columns) (sym e) ∙ b.at in
      let node : a.node ≡ b.node = cc in
      ap one_of (sym a.column) ∙ ap (λ (n : Node). one_of n.column) node ∙ ap one_of b.column

  cell_filled : (k : StateColumn) → IsIn k (state_columns s 0) → k.one ≡ true → not (length (set_in (start_state s).cells 0 k.number) == 1) ≡ false
  cell_filled k i one =
      let found = set_found (state_columns s 0) k i in
      let first = all_in IsFirst (state_columns s 0) found.column (firsts s h) found.among (sym (same_one k found.column i found.among found.number) ∙ one) in
      ap (λ (set : List Value). not (length set == 1)) found.first ∙ one_long found.column.first first
    where
      one_long : (o : Option Value) → is_some o ≡ true → not (length (first_set o) == 1) ≡ false
      one_long None e = cc
      one_long (Some v) e = refl

  filled : find (λ (x : ℕ × ℕ). not (length (set_in (start_state s).cells x.0 x.1) == 1)) (one_cells (workbook s (start_state s))) ≡ None
  filled = find_none (λ (x : ℕ × ℕ). not (length (set_in (start_state s).cells x.0 x.1) == 1)) (one_cells (workbook s (start_state s))) (λ x i.
      let there = subst (IsIn x) (append-nil (map {B = ℕ × ℕ} (λ (k : StateColumn). (0, k.number)) (filter (λ (k : StateColumn). k.one) (state_columns s 0))))
      i in
      let k = from_map (λ (k : StateColumn). (0, k.number)) (filter (λ (k : StateColumn). k.one) (state_columns s 0)) x there in
      let among = from_filter (λ (k : StateColumn). k.one) (state_columns s 0) k.0 k.1 in
      ap (λ (y : ℕ × ℕ). not (length (set_in (start_state s).cells y.0 y.1) == 1)) k.2 ∙ cell_filled k.0 among.0 among.1)

pub starts_are_filled : StartsAreFilled
starts_are_filled s h = filled s h
