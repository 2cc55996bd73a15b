-- A workbook in which a state cell got a set.
use Rattle.std.proofs.Common.{◌≡◌, refl, sym, ap, ◌∙◌, subst, ℕ, ◌≤◌, true, false, List, [], ◌∷◌, Option, Some, None, eq-eqb}
use Rattle.std.specs.Prelude.{not, ◌==◌, ◌&&◌, ◌||◌, if◌then◌else◌, map}
use Rattle.std.specs.List.{AllByRecursion}
use Rattle.std.specs.Ordering.{is_eq}
use Rattle.std.specs.Cmp.{tied_itself}
use Rattle.std.proofs.lemmas.Bool.{eqb-true}
use Rattle.sheet_values.specs.Order.{value_cmp}
use Rattle.sheet_values.specs.OrderLaws.{value_total, value_same}
use Rattle.sheet_values.specs.Sets.{IsRising}
use Rattle.sheet_values.specs.declared.value.Kind.{Kind}
use Rattle.sheet_values.specs.declared.value.Kind.TheVariants as kind
use Rattle.sheet_values.specs.declared.value.Value.{Value}
use Rattle.sheet_values.specs.declared.value.Value.TheVariants.{Truth, Number, Text, Object}
use Rattle.sheet_columns.specs.ItemOrder.{item_cmp, item_total, item_same}
use Rattle.sheet_columns.specs.Tree.{column_of}
use Rattle.sheet_columns.specs.declared.item.Item.{Item}
use Rattle.sheet_columns.specs.declared.item.Item.TheVariants.{Live, Up, Extent, Stored}
use Rattle.sheet_columns.specs.declared.tree.Column.{Column}
use Rattle.sheet_columns.specs.declared.tree.Column.TheVariants as column
use Rattle.sheet_columns.specs.declared.tree.Node.{Node}
use Rattle.sheet_meaning.specs.Changes.{with_set}
use Rattle.sheet_meaning.specs.Formula.{sets_equal}
use Rattle.sheet_meaning.specs.Items.{Content, content, Column as column_content, Parent, Members, numbers_equal, contents_equal, is_changed}
use Rattle.sheet_meaning.specs.Workbook.{object_at, column_in, set_in}
use Rattle.sheet_meaning.specs.WellFormed.{HasKind, HoldsKind, IsWellFormed, stored_values, max_values}
use Rattle.sheet_meaning.specs.declared.workbook.StoredCell.{StoredCell}
use Rattle.sheet_meaning.specs.declared.workbook.State.{State}
use Rattle.sheet_state.specs.Stored.{book, AreChanged}
use Rattle.sheet_state.proofs.SetRows.{both, set_of}
use Rattle.sheet_state.proofs.Existing.{key}
use Rattle.sheet_state_references.proofs.Inserted.{tie}

-- objects keep their columns
pub record Keeps (s t : State) : Type 0 where
  pub column : (o c : ℕ) → column_in (object_at s.objects o) ≡ Some c → column_in (object_at t.objects o) ≡ Some c

pub kind_kept : (s t : State) → Keeps s t → (k : Kind) (v : Value) → HasKind s k v → HasKind t k v
kind_kept s t e kind.Truth (Truth b) h = tt
kind_kept s t e kind.Number (Number n) h = tt
kind_kept s t e kind.Text (Text x) h = tt
kind_kept s t e (kind.Object c) (Object o) h = e.column o c h
kind_kept s t e k v h = absurd h

pub all_mono : {A : Type 0} (P Q : A → Type 0) → ((x : A) → P x → Q x) → (xs : List A) → AllByRecursion P xs → AllByRecursion Q xs
all_mono P Q f [] h = tt
all_mono P Q f (x ∷ xs) h = (f x h.0, all_mono P Q f xs h.1)

pub holds_kept : (s t : State) → Keeps s t → (x : StoredCell) (c : Option Column) → HoldsKind s x c → HoldsKind t x c
holds_kept s t e x None h = h
holds_kept s t e x (Some column.Object) h = h
holds_kept s t e x (Some (column.State k one first)) h = (h.0, all_mono (HasKind s k) (HasKind t k) (kind_kept s t e k) x.set h.1)
holds_kept s t e x (Some (column.Formula k)) h = h

-- what is said of a cell's set
holds_set : (s : State) (x y : StoredCell) → x.set ≡ y.set → (c : Option Column) → HoldsKind s x c → HoldsKind s y c
holds_set s x y e None h = h
holds_set s x y e (Some column.Object) h = h
holds_set s x y e (Some (column.State k one first)) h = (subst IsRising e h.0, subst (AllByRecursion (HasKind s k)) e h.1)
holds_set s x y e (Some (column.Formula k)) h = h

pub keys_kept : (o c : ℕ) (set : List Value) (cells : List StoredCell) → map key (map (set_of o c set) cells) ≡ map key cells
keys_kept o c set [] = refl
keys_kept o c set (x ∷ xs) =
    elim (x.object == o && x.column == c) as (λ b. key (if b then record x { set = set } else x) ∷ map key (map (set_of o c set) xs) ≡ key x ∷ map key xs) [
      | true ↦ ap (λ l. key x ∷ l) (keys_kept o c set xs)
      | false ↦ ap (λ l. key x ∷ l) (keys_kept o c set xs)
    ]

typed_set : (s : State) (nodes : List Node) (o c : ℕ) (set : List Value) → HoldsKind s (record { object = o; column = c; set = set }) (column_of nodes c) →
    (cells : List StoredCell) → AllByRecursion (λ (x : StoredCell). HoldsKind s x (column_of nodes x.column)) cells →
    AllByRecursion (λ (x : StoredCell). HoldsKind s x (column_of nodes x.column)) (map (set_of o c set) cells)
typed_set s nodes o c set here [] h = tt
typed_set s nodes o c set here (x ∷ xs) h = (
  elim (x.object == o && x.column == c) as (λ b. (x.object == o && x.column == c) ≡ b →
      HoldsKind s (if b then record x { set = set } else x) (column_of nodes (if b then record x { set = set } else x).column)) [
        | true ↦ λ e.
            let same : x.column ≡ c = eqb-true x.column c (both (x.object == o) (x.column == c) e).1 in
            subst (λ k. HoldsKind s (record x { set = set }) (column_of nodes k)) (sym same)
            (holds_set s (record { object = o; column = c; set = set }) (record x { set = set }) refl (column_of nodes c) here)
        | false ↦ λ e. h.0
      ] refl,
  typed_set s nodes o c set here xs h.1,
)

module _ (nodes : List Node) (s : State) (o c : ℕ) (set : List Value) where
  abbrev after : State
  after = with_set s o c set

  keeps : Keeps s after
  keeps = record { column = λ p k e. e }

  -- it is well formed where the values are few enough
  pub set_well_formed : IsWellFormed (book nodes s) → HoldsKind s (record { object = o; column = c; set = set }) (column_of nodes c) →
      stored_values after.cells ≤ max_values → IsWellFormed (book nodes after)
  set_well_formed w typed few = record {
    formulas = w.formulas;
    root = w.root;
    rising = w.rising;
    under = w.under;
    drawn = w.drawn;
    cells = keys_kept o c set s.cells ∙ w.cells;
    typed =
        all_mono (λ (x : StoredCell). HoldsKind s x (column_of nodes x.column)) (λ (x : StoredCell). HoldsKind after x (column_of nodes x.column))
        (λ x h. holds_kept s after keeps x (column_of nodes x.column) h)
        (map (set_of o c set) s.cells)
        (typed_set s nodes o c set typed s.cells w.typed);
    few_objects = w.few_objects;
    few_cells = w.few_cells;
    few_values = few;
    few_numbers = w.few_numbers;
  }

pub numbers_same : (a : Option ℕ) → numbers_equal a a ≡ true
numbers_same None = refl
numbers_same (Some n) = eq-eqb n n refl

pub sets_same : (xs : List Value) → sets_equal xs xs ≡ true
sets_same [] = refl
sets_same (x ∷ xs) = ap (λ r. is_eq r && sets_equal xs xs) (tied_itself value_total x) ∙ sets_same xs

pub sets_are : (xs ys : List Value) → sets_equal xs ys ≡ true → xs ≡ ys
sets_are [] [] e = refl
sets_are [] (y ∷ ys) e = cc
sets_are (x ∷ xs) [] e = cc
sets_are (x ∷ xs) (y ∷ ys) e =
    let h = both (is_eq (value_cmp x y)) (sets_equal xs ys) e in
    ap (λ z. z ∷ xs) (value_same x y (tie (value_cmp x y) h.0)) ∙ ap (λ l. y ∷ l) (sets_are xs ys h.1)

pub sets_differ : (xs ys : List Value) → (xs ≡ ys → ⊥) → sets_equal xs ys ≡ false
sets_differ xs ys ne =
    elim (sets_equal xs ys) as (λ b. sets_equal xs ys ≡ b → b ≡ false) [ true ↦ λ e. absurd (ne (sets_are xs ys e)) | false ↦ λ e. refl ] refl

-- an item with the same content isn't changed
pub not_changed : (s t : State) (i : Item) → content s i ≡ content t i → is_changed s t i ≡ false
not_changed s t i e = ap (λ x. not (contents_equal (content s i) x)) (sym e) ∙ ap not (itself (content s i))
  where
    itself : (x : Content) → contents_equal x x ≡ true
    itself (column_content a) = numbers_same a
    itself (Parent a) = numbers_same a
    itself (Members xs) = sets_same xs

-- an item is itself
pub item_is : (i j : Item) → is_eq (item_cmp i j) ≡ true → i ≡ j
item_is i j e = item_same i j (tie (item_cmp i j) e)

pub item_itself : (i : Item) → is_eq (item_cmp i i) ≡ true
item_itself i = ap is_eq (tied_itself item_total i)

pub other_set : (o c : ℕ) (set : List Value) (p k : ℕ) → ((p ≡ o) × (k ≡ c) → ⊥) → (cells : List StoredCell) →
    set_in (map (set_of o c set) cells) p k ≡ set_in cells p k
other_set o c set p k ne [] = refl
other_set o c set p k ne (x ∷ xs) =
    elim (x.object == o && x.column == c) as (λ b. (x.object == o && x.column == c) ≡ b →
    set_in ((if b then record x { set = set } else x) ∷ map (set_of o c set) xs) p k ≡ set_in (x ∷ xs) p k) [
      | true ↦ λ e.
          let h = both (x.object == o) (x.column == c) e in
          let miss : (x.object == p && x.column == k) ≡ false = missed x h.0 h.1 in
          ap (λ b. if b then set else set_in (map (set_of o c set) xs) p k) miss
          ∙ other_set o c set p k ne xs
          ∙ ap (λ b. if b then x.set else set_in xs p k) (sym miss)
      | false ↦ λ e. ap (λ l. if x.object == p && x.column == k then x.set else l) (other_set o c set p k ne xs)
    ] refl
  where
    missed : (x : StoredCell) → (x.object == o) ≡ true → (x.column == c) ≡ true → (x.object == p && x.column == k) ≡ false
    missed x e f =
        elim (x.object == p && x.column == k) as (λ b. (x.object == p && x.column == k) ≡ b → b ≡ false) [
          | true ↦ λ t.
              let h = both (x.object == p) (x.column == k) t in
              absurd (ne (sym (eqb-true x.object p h.0) ∙ eqb-true x.object o e, sym (eqb-true x.column k h.1) ∙ eqb-true x.column c f))
          | false ↦ λ t. refl
        ] refl

module _ (s : State) (o c : ℕ) (set : List Value) (there : set_in (with_set s o c set).cells o c ≡ set) where
  elsewhere : (i : Item) → (i ≡ Stored o c → ⊥) → is_changed s (with_set s o c set) i ≡ false
  elsewhere (Live p) ne = not_changed s (with_set s o c set) (Live p) refl
  elsewhere (Up p) ne = not_changed s (with_set s o c set) (Up p) refl
  elsewhere (Extent p k) ne = not_changed s (with_set s o c set) (Extent p k) refl
  elsewhere (Stored p k) ne =
      not_changed s (with_set s o c set) (Stored p k)
      (ap Members (sym (other_set o c set p k (λ e. ne (ap (λ n. Stored n k) e.0 ∙ ap (Stored o) e.1)) s.cells)))

  -- where the set was the same, no item changed
  pub none_changed : set_in s.cells o c ≡ set → AreChanged s (with_set s o c set) []
  none_changed same i =
      elim (is_eq (item_cmp i (Stored o c))) as (λ b. is_eq (item_cmp i (Stored o c)) ≡ b → false ≡ is_changed s (with_set s o c set) i) [
        | true ↦ λ e. sym
            (subst (λ j. is_changed s (with_set s o c set) j ≡ false) (sym (item_is i (Stored o c) e))
            (not_changed s (with_set s o c set) (Stored o c) (ap Members (same ∙ sym there))))
        | false ↦ λ e. sym
            (elsewhere i (λ h. let itself : is_eq (item_cmp i (Stored o c)) ≡ true =
            subst (λ j. is_eq (item_cmp j (Stored o c)) ≡ true) (sym h) (item_itself (Stored o c)) in cc))
      ] refl

  -- where it wasn't, its item did
  pub one_changed : (set_in s.cells o c ≡ set → ⊥) → AreChanged s (with_set s o c set) (Stored o c ∷ [])
  one_changed ne i =
      elim (is_eq (item_cmp i (Stored o c))) as (λ b. is_eq (item_cmp i (Stored o c)) ≡ b → (b || false) ≡ is_changed s (with_set s o c set) i) [
        | true ↦ λ e. subst (λ j. true ≡ is_changed s (with_set s o c set) j) (sym (item_is i (Stored o c) e))
            (sym (ap (λ l. not (sets_equal (set_in s.cells o c) l)) there ∙ ap not (sets_differ (set_in s.cells o c) set ne)))
        | false ↦ λ e. sym
            (elsewhere i (λ h. let itself : is_eq (item_cmp i (Stored o c)) ≡ true =
            subst (λ j. is_eq (item_cmp j (Stored o c)) ≡ true) (sym h) (item_itself (Stored o c)) in cc))
      ] refl
