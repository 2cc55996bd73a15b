-- The items that a new object changes.
use Rattle.std.proofs.Common.{◌≡◌, refl, sym, ap, ◌∙◌, subst, ℕ, ◌<◌, Bool, true, false, cond, List, [], ◌∷◌, ◌++◌, arith, Option, Some, None, eq-eqb, ◌⊎◌, inl}
use Rattle.std.proofs.Common.{inr}
use Rattle.std.specs.Prelude.{not, ◌==◌, ◌&&◌, ◌||◌, if◌then◌else◌, map, filter}
use Rattle.std.specs.List.{filter_map, cons_option, list_any, AllByRecursion}
use Rattle.std.specs.declared.cmp.Ordering.{Ordering}
use Rattle.std.specs.declared.cmp.Ordering.TheVariants.{Less, Equal, Greater}
use Rattle.std.specs.Ordering.{is_eq, nat_cmp, on}
use Rattle.std.specs.Cmp.{nat_cmp_is}
use Rattle.std.proofs.lemmas.Bool.{eqb-true}
use Rattle.std.proofs.lemmas.List.{map-append, append-nil}
use Rattle.std.proofs.lemmas.List.Elements.{filter-append}
use Rattle.sheet_values.specs.Sorted.{contains, insert, by_order, IsRising, IsBelow}
use Rattle.sheet_values.specs.declared.value.Value.{Value}
use Rattle.sheet_values.specs.declared.value.Value.TheVariants.{Object}
use Rattle.sheet_columns.specs.ItemOrder.{item_cmp}
use Rattle.sheet_columns.specs.declared.item.Item.{Item}
use Rattle.sheet_columns.specs.declared.item.Item.TheVariants.{Live, Up, Extent, Stored}
use Rattle.sheet_columns.specs.declared.tree.Node.{Node}
use Rattle.sheet_meaning.specs.Changes.{with_object, first_set}
use Rattle.sheet_meaning.specs.Formula.{sets_equal}
use Rattle.sheet_meaning.specs.Items.{Members, Column as column_content, Parent, numbers_equal, is_changed}
use Rattle.sheet_meaning.specs.Workbook.{object_at, column_in, parent_in, set_in, children_in, is_child}
use Rattle.sheet_meaning.specs.WellFormed.{StateColumn, state_columns, IsWellFormed}
use Rattle.sheet_meaning.specs.declared.workbook.LiveObject.{LiveObject}
use Rattle.sheet_meaning.specs.declared.workbook.StoredCell.{StoredCell}
use Rattle.sheet_meaning.specs.declared.workbook.State.{State}
use Rattle.sheet_meaning.proofs.Members.{IsIn, both_true}
use Rattle.sheet_state.specs.Births.{item_of, first_item, with_items, born_items}
use Rattle.sheet_state.specs.Stored.{schema_of, book, AreChanged}
use Rattle.sheet_state.proofs.WithSet.{item_is, item_itself, not_changed, sets_differ}
use Rattle.sheet_state.proofs.WithObject.{found_kept, not_found, unborn}

-- an inserted item is there
pub has_inserted : (x y : Item) (xs : List Item) → contains item_cmp x (insert item_cmp y xs) ≡ (is_eq (item_cmp x y) || contains item_cmp x xs)
has_inserted x y [] = refl
has_inserted x y (z ∷ zs) =
    elim (item_cmp y z) as (λ o. item_cmp y z ≡ o →
    contains item_cmp x
    (by_order o (y ∷ z ∷ zs) (z ∷ zs) (z ∷ insert item_cmp y zs)) ≡ (is_eq (item_cmp x y) || (is_eq (item_cmp x z) || contains item_cmp x zs))) [
      | Less ↦ λ e. refl
      | Equal ↦ λ e.
          let same : y ≡ z = item_is y z (ap is_eq e) in
          subst (λ w. (is_eq (item_cmp x z) || contains item_cmp x zs) ≡ (is_eq (item_cmp x w) || (is_eq (item_cmp x z) || contains item_cmp x zs))) (sym same)
          (twice (is_eq (item_cmp x z)) (contains item_cmp x zs))
      | Greater ↦ λ e. ap (λ b. is_eq (item_cmp x z) || b) (has_inserted x y zs) ∙ turned (is_eq (item_cmp x z)) (is_eq (item_cmp x y)) (contains item_cmp x zs)
    ] refl
  where
    twice : (a b : Bool) → (a || b) ≡ (a || (a || b))
    twice true b = refl
    twice false b = refl

    turned : (a b c : Bool) → (a || (b || c)) ≡ (b || (a || c))
    turned true true c = refl
    turned true false c = refl
    turned false b c = refl

-- whether an item is one of some
abbrev among : Item → List Item → Bool
among x ys = list_any (λ y. is_eq (item_cmp x y)) ys

pub has_items : (x : Item) (xs ys : List Item) → contains item_cmp x (with_items xs ys) ≡ (among x ys || contains item_cmp x xs)
has_items x xs [] = refl
has_items x xs (y ∷ ys) =
    has_items x (insert item_cmp y xs) ys
    ∙ ap (λ b. among x ys || b) (has_inserted x y xs)
    ∙ turned (among x ys) (is_eq (item_cmp x y)) (contains item_cmp x xs)
  where
    turned : (a b c : Bool) → (a || (b || c)) ≡ ((b || a) || c)
    turned true true c = refl
    turned true false c = refl
    turned false true c = refl
    turned false false c = refl

pub not_item : (i j : Item) → (i ≡ j → ⊥) → is_eq (item_cmp i j) ≡ false
not_item i j ne =
    elim (is_eq (item_cmp i j)) as (λ b. is_eq (item_cmp i j) ≡ b → b ≡ false) [ true ↦ λ e. absurd (ne (item_is i j e)) | false ↦ λ e. refl ] refl

none_among : (x : Item) (ys : List Item) → ((y : Item) → IsIn y ys → x ≡ y → ⊥) → among x ys ≡ false
none_among x [] f = refl
none_among x (y ∷ ys) f = ap (λ b. b || among x ys) (not_item x y (f y (inl refl))) ∙ none_among x ys (λ z i e. f z (inr i) e)

-- only cells are among the items of first values
not_stored_at : (x : Item) (n j : ℕ) (o : Option Value) (rest : List Item) → ((k : ℕ) → x ≡ Stored n k → ⊥) →
    among x (cons_option (first_item n j o) rest) ≡ among x rest
not_stored_at x n j None rest ne = refl
not_stored_at x n j (Some v) rest ne = ap (λ b. b || among x rest) (not_item x (Stored n j) (ne j))

not_stored : (x : Item) (n : ℕ) (scs : List StateColumn) → ((k : ℕ) → x ≡ Stored n k → ⊥) → among x (filter_map (item_of n) scs) ≡ false
not_stored x n [] ne = refl
not_stored x n (k ∷ ks) ne = not_stored_at x n k.number k.first (filter_map (item_of n) ks) ne ∙ not_stored x n ks ne

-- cells of new objects
abbrev pub newborn : ℕ → StateColumn → StoredCell
newborn n k = record { object = n; column = k.number; set = first_set k.first }

set_of_other : (n o k : ℕ) → (n ≡ o → ⊥) → (scs : List StateColumn) → set_in (map (newborn n) scs) o k ≡ []
set_of_other n o k ne [] = refl
set_of_other n o k ne (c ∷ cs) =
    ap (λ b. if b && c.number == k then first_set c.first else set_in (map (newborn n) cs) o k) (apart n o ne) ∙ set_of_other n o k ne cs
  where
    apart : (a b : ℕ) → (a ≡ b → ⊥) → (a == b) ≡ false
    apart a b h = elim (a == b) as (λ t. (a == b) ≡ t → t ≡ false) [ true ↦ λ e. absurd (h (eqb-true a b e)) | false ↦ λ e. refl ] refl

pub set_front : (xs ys : List StoredCell) (o k : ℕ) → set_in ys o k ≡ [] → set_in (xs ++ ys) o k ≡ set_in xs o k
set_front [] ys o k e = e
set_front (x ∷ xs) ys o k e = ap (λ l. if x.object == o && x.column == k then x.set else l) (set_front xs ys o k e)

set_back : (xs ys : List StoredCell) (n k : ℕ) → AllByRecursion (λ (x : StoredCell). x.object < n) xs → set_in (xs ++ ys) n k ≡ set_in ys n k
set_back [] ys n k h = refl
set_back (x ∷ xs) ys n k h = ap (λ b. if b && x.column == k then x.set else set_in (xs ++ ys) n k) (less x.object n h.0) ∙ set_back xs ys n k h.1
  where
    less : (a b : ℕ) → a < b → (a == b) ≡ false
    less a b lt = elim (a == b) as (λ t. (a == b) ≡ t → t ≡ false) [ true ↦ λ e. let same = eqb-true a b e in absurd (omega arith) | false ↦ λ e. refl ] refl

no_set : (xs : List StoredCell) (n k : ℕ) → AllByRecursion (λ (x : StoredCell). x.object < n) xs → set_in xs n k ≡ []
no_set xs n k h = ap (λ l. set_in l n k) (sym (append-nil xs)) ∙ set_back xs [] n k h

-- the numbers of columns rise
abbrev pub column_cmp : StateColumn → StateColumn → Ordering
column_cmp = on (λ (k : StateColumn). k.number) nat_cmp

-- whether a set isn't empty
abbrev is_some_set : List Value → Bool
is_some_set xs = not (sets_equal [] xs)

later_at : (n k j : ℕ) (o : Option Value) (rest : List Item) → (k ≡ j → ⊥) → among (Stored n k) (cons_option (first_item n j o) rest) ≡ among (Stored n k) rest
later_at n k j None rest ne = refl
later_at n k j (Some v) rest ne = ap (λ x. x || among (Stored n k) rest) (not_item (Stored n k) (Stored n j) (λ h. let same : k ≡ j = cc in ne same))

columns_apart : (c d : StateColumn) (k : ℕ) → c.number ≡ k → column_cmp c d ≡ Less → k ≡ d.number → ⊥
columns_apart c d k e less same =
    let tied : nat_cmp c.number d.number ≡ Equal = sym (nat_cmp_is c.number d.number Equal (e ∙ same)) in
    cc

later_set : (n k : ℕ) (c : StateColumn) (cs : List StateColumn) → c.number ≡ k → IsBelow column_cmp c cs →
    among (Stored n k) (filter_map (item_of n) cs) ≡ false
later_set n k c [] e b = refl
later_set n k c (d ∷ ds) e b = later_at n k d.number d.first (filter_map (item_of n) ds) (columns_apart c d k e b.0) ∙ later_set n k c ds e b.1

-- a new cell's item is among the items where its set isn't empty
first_among : (n k : ℕ) (scs : List StateColumn) → IsRising column_cmp scs →
    among (Stored n k) (filter_map (item_of n) scs) ≡ is_some_set (set_in (map (newborn n) scs) n k)
first_among n k [] r = refl
first_among n k (c ∷ cs) r =
    elim (c.number == k) as (λ b. (c.number == k) ≡ b →
    among (Stored n k) (cons_option (first_item n c.number c.first) (filter_map (item_of n) cs)) ≡ is_some_set (if n == n && b then first_set c.first
    else set_in (map (newborn n) cs) n k)) [
      | true ↦ λ e. here e c.first ∙ ap (λ b. is_some_set (if b && true then first_set c.first else set_in (map (newborn n) cs) n k)) (sym (eq-eqb n n refl))
      | false ↦ λ e. away e c.first ∙ first_among n k cs r.1 ∙ ap (λ b. is_some_set (if b && false then first_set c.first else set_in (map (newborn n) cs) n k))
          (sym (eq-eqb n n refl))
    ] refl
  where
    here : (c.number == k) ≡ true → (o : Option Value) →
        among (Stored n k) (cons_option (first_item n c.number o) (filter_map (item_of n) cs)) ≡ is_some_set (first_set o)
    here e None = later_set n k c cs (eqb-true c.number k e) r.0
    here e (Some v) =
        let same = eqb-true c.number k e in
        ap (λ j. is_eq (item_cmp (Stored n k) (Stored n j)) || among (Stored n k) (filter_map (item_of n) cs)) same
        ∙ ap (λ b. b || among (Stored n k) (filter_map (item_of n) cs)) (item_itself (Stored n k))

    away : (c.number == k) ≡ false → (o : Option Value) →
        among (Stored n k) (cons_option (first_item n c.number o) (filter_map (item_of n) cs)) ≡ among (Stored n k) (filter_map (item_of n) cs)
    away e None = refl
    away e (Some v) =
        ap (λ b. b || among (Stored n k) (filter_map (item_of n) cs))
        (not_item (Stored n k) (Stored n c.number) (λ h. let same : k ≡ c.number = cc in let t : (c.number == k) ≡ true = eq-eqb c.number k (sym same) in cc))

pub children_more : (xs : List LiveObject) (x : LiveObject) (o c : ℕ) →
    children_in (xs ++ x ∷ []) o c ≡ children_in xs o c ++ (if is_child o c x then Object x.number ∷ [] else [])
children_more xs x o c =
    ap (map (λ (y : LiveObject). Object y.number)) (filter-append (is_child o c) xs (x ∷ []))
    ∙ map-append (λ (y : LiveObject). Object y.number) (filter (is_child o c) xs) (filter (is_child o c) (x ∷ []))
    ∙ ap (λ l. children_in xs o c ++ l) (one (is_child o c x))
  where
    one : (b : Bool) → map (λ (y : LiveObject). Object y.number) (cond b (x ∷ []) []) ≡ (if b then Object x.number ∷ [] else [])
    one true = refl
    one false = refl

longer : (xs : List Value) (v : Value) → sets_equal xs (xs ++ v ∷ []) ≡ false
longer xs v = sets_differ xs (xs ++ v ∷ []) (λ e. grows xs e)
  where
    grows : (ys : List Value) → ys ≡ ys ++ v ∷ [] → ⊥
    grows [] e = cc
    grows (y ∷ ys) e = let tail : ys ≡ ys ++ v ∷ [] = cc in grows ys tail

module _ (nodes : List Node) (s : State) (w : IsWellFormed (book nodes s)) (c p : ℕ)
    (cells_drawn : AllByRecursion (λ (x : StoredCell). x.object < s.next) s.cells) (rising : IsRising column_cmp (state_columns (schema_of nodes) c)) where
  abbrev after : State
  after = with_object (schema_of nodes) s c p

  abbrev n : ℕ
  n = s.next

  abbrev scs : List StateColumn
  scs = state_columns (schema_of nodes) c

  abbrev new : LiveObject
  new = record { number = n; column = c; parent = Some p }

  none_before : object_at s.objects n ≡ None
  none_before = unborn n s.objects w.drawn

  there : object_at after.objects n ≡ Some new
  there = not_found s.objects (new ∷ []) n none_before ∙ ap (λ b. if b then Some new else None) (eq-eqb n n refl)

  elsewhere : (o : ℕ) → (o ≡ n → ⊥) → object_at after.objects o ≡ object_at s.objects o
  elsewhere o ne = at (object_at s.objects o) refl
    where
      at : (q : Option LiveObject) → object_at s.objects o ≡ q → object_at after.objects o ≡ object_at s.objects o
      at None e = not_found s.objects (new ∷ []) o e ∙ ap (λ b. if b then Some new else None) (apart n o) ∙ sym e
        where
          apart : (a b : ℕ) → (n == o) ≡ false
          apart a b = elim (n == o) as (λ t. (n == o) ≡ t → t ≡ false) [ true ↦ λ e. absurd (ne (sym (eqb-true n o e))) | false ↦ λ e. refl ] refl
      at (Some x) e = found_kept s.objects (new ∷ []) o x e ∙ sym e

  -- whether an item is one of those that a new object changes
  has : (i : Item) →
      contains item_cmp i
      (born_items nodes n c p) ≡ (among i (filter_map (item_of n) scs) ||
      (is_eq (item_cmp i (Extent p c)) || (is_eq (item_cmp i (Up n)) || (is_eq (item_cmp i (Live n)) || false))))
  has i =
      has_items i (insert item_cmp (Extent p c) (insert item_cmp (Up n) (insert item_cmp (Live n) []))) (filter_map (item_of n) scs)
      ∙ ap (λ b. among i (filter_map (item_of n) scs) || b)
      (has_inserted i (Extent p c) (insert item_cmp (Up n) (insert item_cmp (Live n) []))
      ∙ ap (λ b. is_eq (item_cmp i (Extent p c)) || b) (has_inserted i (Up n) (insert item_cmp (Live n) [])))

  decide : (o : ℕ) → (o ≡ n) ⊎ (o ≡ n → ⊥)
  decide o = elim (o == n) as (λ b. (o == n) ≡ b → (o ≡ n) ⊎ (o ≡ n → ⊥)) [
    | true ↦ λ e. inl (eqb-true o n e)
    | false ↦ λ e. inr (λ h. let t : (o == n) ≡ true = eq-eqb o n h in cc)
  ] refl

  -- an item that is none of these
  none_of : (i : Item) → among i (filter_map (item_of n) scs) ≡ false → (i ≡ Extent p c → ⊥) → (i ≡ Up n → ⊥) → (i ≡ Live n → ⊥) →
      contains item_cmp i (born_items nodes n c p) ≡ false
  none_of i a e u l =
      has i
      ∙ ap (λ b. b || (is_eq (item_cmp i (Extent p c)) || (is_eq (item_cmp i (Up n)) || (is_eq (item_cmp i (Live n)) || false)))) a
      ∙ ap (λ b. b || (is_eq (item_cmp i (Up n)) || (is_eq (item_cmp i (Live n)) || false))) (not_item i (Extent p c) e)
      ∙ ap (λ b. b || (is_eq (item_cmp i (Live n)) || false)) (not_item i (Up n) u)
      ∙ ap (λ b. b || false) (not_item i (Live n) l)

  or_true : (a b : Bool) → b ≡ true → (a || b) ≡ true
  or_true true b e = refl
  or_true false b e = e

  or_false : (b : Bool) → (b || false) ≡ b
  or_false true = refl
  or_false false = refl

  live_changed : (o : ℕ) → (o ≡ n) ⊎ (o ≡ n → ⊥) → contains item_cmp (Live o) (born_items nodes n c p) ≡ is_changed s after (Live o)
  live_changed o (inl e) =
      subst (λ m. contains item_cmp (Live m) (born_items nodes n c p) ≡ is_changed s after (Live m)) (sym e)
      (has (Live n)
      ∙ or_true (among (Live n) (filter_map (item_of n) scs)) _
      (or_true (is_eq (item_cmp (Live n) (Extent p c))) _ (or_true (is_eq (item_cmp (Live n) (Up n))) _ (ap (λ b. b || false) (item_itself (Live n)))))
      ∙ sym (ap (λ q. not (numbers_equal (column_in q) (column_in (object_at after.objects n)))) none_before
      ∙ ap (λ q. not (numbers_equal None (column_in q))) there))
  live_changed o (inr ne) =
      none_of (Live o) (not_stored (Live o) n scs (λ k h. cc)) (λ h. cc) (λ h. cc) (λ h. let same : o ≡ n = cc in ne same)
      ∙ sym (not_changed s after (Live o) (ap (λ q. column_content (column_in q)) (sym (elsewhere o ne))))

  up_changed : (o : ℕ) → (o ≡ n) ⊎ (o ≡ n → ⊥) → contains item_cmp (Up o) (born_items nodes n c p) ≡ is_changed s after (Up o)
  up_changed o (inl e) =
      subst (λ m. contains item_cmp (Up m) (born_items nodes n c p) ≡ is_changed s after (Up m)) (sym e)
      (has (Up n)
      ∙ or_true (among (Up n) (filter_map (item_of n) scs)) _
      (or_true (is_eq (item_cmp (Up n) (Extent p c))) _ (ap (λ b. b || (is_eq (item_cmp (Up n) (Live n)) || false)) (item_itself (Up n))))
      ∙ sym (ap (λ q. not (numbers_equal (parent_in q) (parent_in (object_at after.objects n)))) none_before
      ∙ ap (λ q. not (numbers_equal None (parent_in q))) there))
  up_changed o (inr ne) =
      none_of (Up o) (not_stored (Up o) n scs (λ k h. cc)) (λ h. cc) (λ h. let same : o ≡ n = cc in ne same) (λ h. cc)
      ∙ sym (not_changed s after (Up o) (ap (λ q. Parent (parent_in q)) (sym (elsewhere o ne))))

  extent_changed : (o k : ℕ) (b : Bool) → (c == k && o == p) ≡ b → contains item_cmp (Extent o k) (born_items nodes n c p) ≡ is_changed s after (Extent o k)
  extent_changed o k true e =
      let h = both_true (c == k) (o == p) e in
      let same : Extent o k ≡ Extent p c = ap (λ m. Extent m k) (eqb-true o p h.1) ∙ ap (Extent p) (sym (eqb-true c k h.0)) in
      has (Extent o k)
      ∙ or_true (among (Extent o k) (filter_map (item_of n) scs)) _
      (ap (λ x. x || (is_eq (item_cmp (Extent o k) (Up n)) || (is_eq (item_cmp (Extent o k) (Live n)) || false)))
      (subst (λ x. is_eq (item_cmp (Extent o k) x) ≡ true) same (item_itself (Extent o k))))
      ∙ sym (ap (λ l. not (sets_equal (children_in s.objects o k) l)) (children_more s.objects new o k
      ∙ ap (λ t. children_in s.objects o k ++ (if t then Object n ∷ [] else [])) e) ∙ ap not (longer (children_in s.objects o k) (Object n)))
  extent_changed o k false e =
      none_of (Extent o k) (not_stored (Extent o k) n scs (λ j h. cc))
      (λ h.
      let same_object : o ≡ p = cc in
      let same_column : k ≡ c = cc in
      let t : (c == k && o == p) ≡ true = ap (λ x. x && o == p) (eq-eqb c k (sym same_column)) ∙ eq-eqb o p same_object in
      cc)
      (λ h. cc) (λ h. cc)
      ∙ sym (not_changed s after (Extent o k)
      (ap Members (sym (children_more s.objects new o k ∙ ap (λ t. children_in s.objects o k ++ (if t then Object n ∷ [] else [])) e
      ∙ append-nil (children_in s.objects o k)))))

  stored_changed : (o k : ℕ) → (o ≡ n) ⊎ (o ≡ n → ⊥) → contains item_cmp (Stored o k) (born_items nodes n c p) ≡ is_changed s after (Stored o k)
  stored_changed o k (inl e) =
      subst (λ m. contains item_cmp (Stored m k) (born_items nodes n c p) ≡ is_changed s after (Stored m k)) (sym e)
      (has (Stored n k)
      ∙ ap (λ b. among (Stored n k) (filter_map (item_of n) scs) ||
      (b || (is_eq (item_cmp (Stored n k) (Up n)) || (is_eq (item_cmp (Stored n k) (Live n)) || false)))) (not_item (Stored n k) (Extent p c) (λ h. cc))
      ∙ ap (λ b. among (Stored n k) (filter_map (item_of n) scs) || (b || (is_eq (item_cmp (Stored n k) (Live n)) || false)))
      (not_item (Stored n k) (Up n) (λ h. cc))
      ∙ ap (λ b. among (Stored n k) (filter_map (item_of n) scs) || (b || false)) (not_item (Stored n k) (Live n) (λ h. cc))
      ∙ or_false (among (Stored n k) (filter_map (item_of n) scs))
      ∙ first_among n k scs rising
      ∙ sym (ap (λ l. not (sets_equal l (set_in after.cells n k))) (no_set s.cells n k cells_drawn)
      ∙ ap (λ l. not (sets_equal [] l)) (set_back s.cells (map (newborn n) scs) n k cells_drawn)))
  stored_changed o k (inr ne) =
      none_of (Stored o k) (not_stored (Stored o k) n scs (λ j h. let same : o ≡ n = cc in ne same)) (λ h. cc) (λ h. cc) (λ h. cc)
      ∙ sym (not_changed s after (Stored o k) (ap Members (sym (set_front s.cells (map (newborn n) scs) o k (set_of_other n o k (λ e. ne (sym e)) scs)))))

  pub born_changed : AreChanged s after (born_items nodes n c p)
  born_changed (Live o) = live_changed o (decide o)
  born_changed (Up o) = up_changed o (decide o)
  born_changed (Extent o k) = extent_changed o k (c == k && o == p) refl
  born_changed (Stored o k) = stored_changed o k (decide o)
