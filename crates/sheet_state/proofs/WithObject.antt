-- A workbook with an object more.
use Rattle.std.proofs.Common.{◌≡◌, refl, sym, ap, ◌∙◌, subst, ℕ, ◌+◌, ◌<◌, ◌≤◌, true, false, List, [], ◌∷◌, ◌++◌, length, arith, Option, Some, None}
use Rattle.std.specs.Prelude.{◌==◌, if◌then◌else◌, map, IsSome, nat_lt}
use Rattle.std.specs.List.{AllByRecursion}
use Rattle.std.specs.declared.cmp.Ordering.{Ordering}
use Rattle.std.specs.declared.cmp.Ordering.TheVariants.{Less}
use Rattle.std.specs.Ordering.{nat_cmp, on}
use Rattle.std.specs.Cmp.{nat_cmp_is}
use Rattle.std.proofs.lemmas.Bool.{eqb-true, ltb-false}
use Rattle.std.proofs.lemmas.List.{map-append, append-nil}
use Rattle.std.proofs.lemmas.Grind.{flat_map-append}
use Rattle.sheet_values.specs.Sorted.{IsBelow, IsRising}
use Rattle.sheet_columns.specs.Tree.{column_of, above_of, IsTree}
use Rattle.sheet_columns.specs.declared.tree.Column.TheVariants as column
use Rattle.sheet_columns.specs.declared.tree.Node.{Node}
use Rattle.sheet_meaning.specs.Changes.{with_object, first_set}
use Rattle.sheet_meaning.specs.Workbook.{object_at, column_in}
use Rattle.sheet_meaning.specs.WellFormed.{StateColumn, state_columns, state_cells, IsUnder, HoldsKind, IsWellFormed, stored_values}
use Rattle.sheet_meaning.specs.WellFormed.{cell_count, max_objects, max_cells, max_values, max_number}
use Rattle.sheet_meaning.specs.declared.refusal.Which.{Which}
use Rattle.sheet_meaning.specs.declared.workbook.LiveObject.{LiveObject}
use Rattle.sheet_meaning.specs.declared.workbook.StoredCell.{StoredCell}
use Rattle.sheet_meaning.specs.declared.workbook.State.{State}
use Rattle.sheet_meaning.proofs.Columns.{all_in, all_from, all_map, new_typed}
use Rattle.sheet_state.specs.Stored.{schema_of, book}
use Rattle.sheet_state.specs.Limits.{full_of, first_full}
use Rattle.sheet_state.proofs.Back.{all_push}
use Rattle.sheet_state.proofs.Existing.{key, live_in, some_of}
use Rattle.sheet_state.proofs.WithSet.{Keeps, holds_kept, all_mono}

pub found_kept : (xs ys : List LiveObject) (o : ℕ) (x : LiveObject) → object_at xs o ≡ Some x → object_at (xs ++ ys) o ≡ Some x
found_kept [] ys o x e = cc
found_kept (z ∷ xs) ys o x e =
    elim (z.number == o) as (λ b. (if b then Some z else object_at xs o) ≡ Some x → (if b then Some z else object_at (xs ++ ys) o) ≡ Some x) [
      | true ↦ λ h. h
      | false ↦ λ h. found_kept xs ys o x h
    ] e

pub not_found : (xs ys : List LiveObject) (o : ℕ) → object_at xs o ≡ None → object_at (xs ++ ys) o ≡ object_at ys o
not_found [] ys o e = refl
not_found (z ∷ xs) ys o e =
    elim (z.number == o) as (λ b. (if b then Some z else object_at xs o) ≡ None → (if b then Some z else object_at (xs ++ ys) o) ≡ object_at ys o) [
      | true ↦ λ h. cc
      | false ↦ λ h. not_found xs ys o h
    ] e

column_kept : (xs ys : List LiveObject) (o c : ℕ) → column_in (object_at xs o) ≡ Some c → column_in (object_at (xs ++ ys) o) ≡ Some c
column_kept xs ys o c e = at (object_at xs o) refl e
  where
    at : (p : Option LiveObject) → object_at xs o ≡ p → column_in p ≡ Some c → column_in (object_at (xs ++ ys) o) ≡ Some c
    at None f h = cc
    at (Some x) f h = ap column_in (found_kept xs ys o x f) ∙ h

-- no object has a number from the next on
pub unborn : (n : ℕ) (xs : List LiveObject) → AllByRecursion (λ (x : LiveObject). x.number < n) xs → object_at xs n ≡ None
unborn n [] h = refl
unborn n (x ∷ xs) h =
    elim (x.number == n) as (λ b. (x.number == n) ≡ b → (if b then Some x else object_at xs n) ≡ None) [
      | true ↦ λ e. let same = eqb-true x.number n e in let lt = h.0 in absurd (omega arith)
      | false ↦ λ e. unborn n xs h.1
    ] refl

pub rising_push : {A : Type 0} (cmp : A → A → Ordering) (xs : List A) (y : A) → IsRising cmp xs → AllByRecursion (λ x. cmp x y ≡ Less) xs →
    IsRising cmp (xs ++ y ∷ [])
rising_push cmp [] y r h = (tt, tt)
rising_push {A} cmp (x ∷ xs) y r h = (below xs r.0, rising_push cmp xs y r.1 h.1)
  where
    below : (zs : List A) → IsBelow cmp x zs → IsBelow cmp x (zs ++ y ∷ [])
    below [] b = (h.0, tt)
    below (z ∷ zs) b = (b.0, below zs b.1)

pub all_both : {A : Type 0} (P : A → Type 0) (xs ys : List A) → AllByRecursion P xs → AllByRecursion P ys → AllByRecursion P (xs ++ ys)
all_both P [] ys h g = g
all_both P (x ∷ xs) ys h g = (h.0, all_both P xs ys h.1 g)

unpassed : {A : Type 0} (m a : ℕ) (x : A) (rest : Option A) → (if nat_lt m a then Some x else rest) ≡ None → (a ≤ m) × (rest ≡ None)
unpassed m a x rest e =
    elim (nat_lt m a) as (λ b. nat_lt m a ≡ b → (if b then Some x else rest) ≡ None → (a ≤ m) × (rest ≡ None)) [
      | true ↦ λ t h. cc
      | false ↦ λ t h. (ltb-false m a t, h)
    ] refl e

-- no limit is passed
pub none_passed : (a b v n : ℕ) → full_of a b v n ≡ None → (a ≤ max_objects) × (b ≤ max_cells) × (v ≤ max_values) × (n ≤ max_number + 1)
none_passed a b v n e =
    let objects = unpassed {A = Which × ℕ} max_objects a _ _ e in
    let cells = unpassed {A = Which × ℕ} max_cells b _ _ objects.1 in
    let values = unpassed {A = Which × ℕ} max_values v _ _ cells.1 in
    let numbers = unpassed {A = Which × ℕ} (max_number + 1) n _ _ values.1 in
    (objects.0, cells.0, values.0, numbers.0)

module _ (nodes : List Node) (tree : IsTree nodes) (s : State) (w : IsWellFormed (book nodes s)) (c p : ℕ) (live : IsSome (object_at s.objects p))
    (under : column_in (object_at s.objects p) ≡ above_of nodes c) (is : column_of nodes c ≡ Some column.Object) where
  abbrev after : State
  after = with_object (schema_of nodes) s c p

  abbrev new : LiveObject
  new = record { number = s.next; column = c; parent = Some p }

  keeps : Keeps s after
  keeps = record { column = λ o k e. column_kept s.objects (new ∷ []) o k e }

  still_under : (x : LiveObject) (o : Option ℕ) → IsUnder (book nodes s) x o → IsUnder (book nodes after) x o
  still_under x None h = h
  still_under x (Some q) h = (h.0, h.1, (h.2.0, h.2.1, keeps.column q h.2.0 h.2.2))

  new_under : IsUnder (book nodes after) new (Some p)
  new_under =
      let x = some_of (object_at s.objects p) live in
      let l = live_in s.objects p x.0 x.1 in
      let drawn = all_in (λ (y : LiveObject). y.number < s.next) s.objects x.0 w.drawn l.0 in
      let column : column_in (object_at s.objects p) ≡ Some x.0.column = ap column_in x.1 in
      (subst (λ n. n < s.next) l.1 drawn, is, (x.0.column, sym under ∙ column, keeps.column p x.0.column column))

  new_keys : (scs : List StateColumn) →
      map key (map (λ (k : StateColumn). record { object = s.next; column = k.number; set = first_set k.first }) scs) ≡ map
      (λ (k : StateColumn). (s.next, k.number)) scs
  new_keys [] = refl
  new_keys (k ∷ ks) = ap (λ l. (s.next, k.number) ∷ l) (new_keys ks)

  pub object_well_formed : first_full (book nodes after) ≡ None → IsWellFormed (book nodes after)
  object_well_formed room =
      let few = none_passed (length after.objects) (cell_count (book nodes after)) (stored_values after.cells) after.next room in
      let scs = state_columns (schema_of nodes) c in
      record {
        formulas = w.formulas;
        root = found_kept s.objects (new ∷ []) 0 (record { number = 0; column = 0; parent = None }) w.root;
        rising =
            rising_push (on (λ (x : LiveObject). x.number) nat_cmp) s.objects new w.rising
            (all_mono (λ (x : LiveObject). x.number < s.next) (λ (x : LiveObject). nat_cmp x.number s.next ≡ Less)
            (λ x h. sym (nat_cmp_is x.number s.next Less h)) s.objects w.drawn);
        under =
            all_push (λ (x : LiveObject). IsUnder (book nodes after) x x.parent) s.objects new
            (all_mono (λ (x : LiveObject). IsUnder (book nodes s) x x.parent) (λ (x : LiveObject). IsUnder (book nodes after) x x.parent)
            (λ x h. still_under x x.parent h) s.objects w.under)
            new_under;
        drawn =
            all_push (λ (x : LiveObject). x.number < s.next + 1) s.objects new
            (all_mono (λ (x : LiveObject). x.number < s.next) (λ (x : LiveObject). x.number < s.next + 1) (λ x h. omega arith) s.objects w.drawn)
            (omega arith);
        cells =
            map-append key s.cells (map (λ (k : StateColumn). record { object = s.next; column = k.number; set = first_set k.first }) scs)
            ∙ ap (λ l. l ++ map key (map (λ (k : StateColumn). record { object = s.next; column = k.number; set = first_set k.first }) scs)) w.cells
            ∙ ap (λ l. state_cells (book nodes s) ++ l) (new_keys scs ∙ sym (append-nil (map (λ (k : StateColumn). (s.next, k.number)) scs)))
            ∙ sym (flat_map-append (λ (x : LiveObject). map (λ (k : StateColumn). (x.number, k.number)) (state_columns (schema_of nodes) x.column)) s.objects
            (new ∷ []));
        typed =
            all_both (λ (x : StoredCell). HoldsKind after x (column_of nodes x.column)) s.cells
            (map (λ (k : StateColumn). record { object = s.next; column = k.number; set = first_set k.first }) scs)
            (all_mono (λ (x : StoredCell). HoldsKind s x (column_of nodes x.column)) (λ (x : StoredCell). HoldsKind after x (column_of nodes x.column))
            (λ x h. holds_kept s after keeps x (column_of nodes x.column) h) s.cells w.typed)
            (all_map (λ (x : StoredCell). HoldsKind after x (column_of nodes x.column))
            (λ (k : StateColumn). record { object = s.next; column = k.number; set = first_set k.first }) scs
            (all_from (λ (k : StateColumn). HoldsKind after (record { object = s.next; column = k.number; set = first_set k.first }) (column_of nodes k.number))
            scs (λ k i. new_typed (schema_of nodes) tree after s.next c k i)));
        few_objects = few.0;
        few_cells = few.1;
        few_values = few.2;
        few_numbers = few.3;
      }
