-- The items of values, one after another.
use Rattle.std.proofs.Common.{◌≡◌, refl, sym, ap, ◌∙◌, ℕ, ◌+◌, ◌<◌, Bool, true, false, List, [], ◌∷◌, ◌++◌, take, length, get_or, eq-eqb}
use Rattle.std.specs.Prelude.{◌&&◌, ◌||◌, if◌then◌else◌, is_some}
use Rattle.std.specs.List.{list_any, flat_map}
use Rattle.std.specs.Ordering.{is_eq, nat_cmp}
use Rattle.std.proofs.lemmas.Bool.{eqb-true}
use Rattle.std.proofs.lemmas.Grind.{flat_map-append}
use Rattle.std.proofs.lemmas.List.{take_more, append-nil}
use Rattle.std.proofs.lemmas.List.Folds.{list_any-append}
use Rattle.std.proofs.lemmas.List.Sums.{fold-append}
use Rattle.sheet_values.specs.Order.{value_cmp}
use Rattle.sheet_values.specs.Sets.{contains}
use Rattle.sheet_values.specs.declared.value.Value.{Value}
use Rattle.sheet_values.specs.declared.value.Value.TheVariants.{Truth, Number, Text, Object}
use Rattle.sheet_columns.specs.ItemOrder.{item_cmp}
use Rattle.sheet_columns.specs.declared.item.Item.{Item}
use Rattle.sheet_columns.specs.declared.item.Item.TheVariants.{Live, Up}
use Rattle.sheet_meaning.specs.Workbook.{object_at, column_in, parent_in}
use Rattle.sheet_meaning.specs.declared.workbook.LiveObject.{LiveObject}
use Rattle.sheet_state.specs.Births.{with_items}
use Rattle.sheet_state.specs.Deaths.{live_items, up_items}
use Rattle.sheet_state.proofs.Living.{spread}
use Rattle.sheet_state.proofs.Newborn.{not_item}
use Rattle.sheet_state.proofs.WithSet.{item_itself}
use Rattle.sheet_state_references.proofs.Numbers.{ties}

-- the items of one value more
pub items_more : (f : Value → List Item) (old new later : List Item) (vs : List Value) (i : ℕ) (v : Value) → i < length vs →
    new ≡ with_items old (flat_map f (take i vs)) → later ≡ with_items new (f v) → v ≡ get_or vs i v → later ≡ with_items old (flat_map f (take (i + 1) vs))
items_more f old new later vs i v lt so_far adds is =
    adds
    ∙ ap (λ l. with_items l (f v)) so_far
    ∙ sym (fold-append _ old (flat_map f (take i vs)) (f v))
    ∙ ap (λ l. with_items old (flat_map f (take i vs) ++ l)) (ap f is ∙ sym (append-nil (f (get_or vs i v))))
    ∙ ap (with_items old) (sym (flat_map-append f (take i vs) (get_or vs i v ∷ [])))
    ∙ ap (λ l. with_items old (flat_map f l)) (sym (take_more vs i v lt))

abbrev among : Item → List Item → Bool
among x ys = list_any (λ y. is_eq (item_cmp x y)) ys

-- an item is among those of values where it is that of one of them
pub told : (i : Item) (f : Value → List Item) (m : ℕ) (b : Bool) → ((v : Value) → among i (f v) ≡ (is_eq (value_cmp (Object m) v) && b)) →
    (vs : List Value) → among i (flat_map f vs) ≡ (contains (Object m) vs && b)
told i f m b hit [] = refl
told i f m b hit (v ∷ vs) =
    list_any-append (λ y. is_eq (item_cmp i y)) (f v) (flat_map f vs)
    ∙ ap (λ c. c || among i (flat_map f vs)) (hit v)
    ∙ ap (λ c. (is_eq (value_cmp (Object m) v) && b) || c) (told i f m b hit vs)
    ∙ spread (is_eq (value_cmp (Object m) v)) (contains (Object m) vs) b

pub none_told : (i : Item) (f : Value → List Item) → ((v : Value) → among i (f v) ≡ false) → (vs : List Value) → among i (flat_map f vs) ≡ false
none_told i f none [] = refl
none_told i f none (v ∷ vs) =
    list_any-append (λ y. is_eq (item_cmp i y)) (f v) (flat_map f vs)
    ∙ ap (λ c. c || among i (flat_map f vs)) (none v)
    ∙ none_told i f none vs

module _ (item : ℕ → Item) (inside : (a b : ℕ) → item a ≡ item b → a ≡ b) (h : ℕ → Bool) (m : ℕ) where
  itself : (b : Bool) → among (item m) (if b then item m ∷ [] else []) ≡ b
  itself true = ap (λ b. b || false) (item_itself (item m))
  itself false = refl

  another : (n : ℕ) → (m ≡ n → ⊥) → (b : Bool) → among (item m) (if b then item n ∷ [] else []) ≡ false
  another n ne true = ap (λ b. b || false) (not_item (item m) (item n) (λ e. ne (inside m n e)))
  another n ne false = refl

  object_item : (n : ℕ) → among (item m) (if h n then item n ∷ [] else []) ≡ (is_eq (nat_cmp m n) && h m)
  object_item n = at (is_eq (nat_cmp m n)) refl
    where
      at : (b : Bool) → is_eq (nat_cmp m n) ≡ b → among (item m) (if h n then item n ∷ [] else []) ≡ (is_eq (nat_cmp m n) && h m)
      at true e =
          let same : m ≡ n = eqb-true m n (sym (ties m n) ∙ e) in
          ap (λ k. among (item m) (if h k then item k ∷ [] else [])) (sym same) ∙ itself (h m) ∙ sym (ap (λ b. b && h m) e)
      at false e =
          another n (λ same. apart same (h n)) (h n) ∙ sym (ap (λ b. b && h m) e)
        where
          apart : m ≡ n → Bool → ⊥
          apart same b = let tied : is_eq (nat_cmp m m) ≡ false = ap (λ k. is_eq (nat_cmp m k)) same ∙ e in
              let t : is_eq (nat_cmp m m) ≡ true = ties m m ∙ eq-eqb m m refl in
              cc

live_apart : (a b : ℕ) → Live a ≡ Live b → a ≡ b
live_apart a b e = cc

up_apart : (a b : ℕ) → Up a ≡ Up b → a ≡ b
up_apart a b e = cc

live_hit : (xs : List LiveObject) (m : ℕ) (v : Value) →
    among (Live m) (live_items xs v) ≡ (is_eq (value_cmp (Object m) v) && is_some (column_in (object_at xs m)))
live_hit xs m (Truth b) = refl
live_hit xs m (Number n) = refl
live_hit xs m (Text t) = refl
live_hit xs m (Object n) = object_item Live live_apart (λ k. is_some (column_in (object_at xs k))) m n

up_hit : (xs : List LiveObject) (m : ℕ) (v : Value) →
    among (Up m) (up_items xs v) ≡ (is_eq (value_cmp (Object m) v) && is_some (parent_in (object_at xs m)))
up_hit xs m (Truth b) = refl
up_hit xs m (Number n) = refl
up_hit xs m (Text t) = refl
up_hit xs m (Object n) = object_item Up up_apart (λ k. is_some (parent_in (object_at xs k))) m n

pub live_told : (xs : List LiveObject) (m : ℕ) (vs : List Value) →
    among (Live m) (flat_map (live_items xs) vs) ≡ (contains (Object m) vs && is_some (column_in (object_at xs m)))
live_told xs m vs = told (Live m) (live_items xs) m (is_some (column_in (object_at xs m))) (live_hit xs m) vs

pub up_told : (xs : List LiveObject) (m : ℕ) (vs : List Value) →
    among (Up m) (flat_map (up_items xs) vs) ≡ (contains (Object m) vs && is_some (parent_in (object_at xs m)))
up_told xs m vs = told (Up m) (up_items xs) m (is_some (parent_in (object_at xs m))) (up_hit xs m) vs

one_other : (i j : Item) → (i ≡ j → ⊥) → (b : Bool) → among i (if b then j ∷ [] else []) ≡ false
one_other i j ne true = ap (λ b. b || false) (not_item i j ne)
one_other i j ne false = refl

pub no_lives : (xs : List LiveObject) (i : Item) → ((n : ℕ) → i ≡ Live n → ⊥) → (vs : List Value) → among i (flat_map (live_items xs) vs) ≡ false
no_lives xs i ne vs = none_told i (live_items xs) at vs
  where
    at : (v : Value) → among i (live_items xs v) ≡ false
    at (Truth b) = refl
    at (Number n) = refl
    at (Text t) = refl
    at (Object n) = one_other i (Live n) (ne n) (is_some (column_in (object_at xs n)))

pub no_ups : (xs : List LiveObject) (i : Item) → ((n : ℕ) → i ≡ Up n → ⊥) → (vs : List Value) → among i (flat_map (up_items xs) vs) ≡ false
no_ups xs i ne vs = none_told i (up_items xs) at vs
  where
    at : (v : Value) → among i (up_items xs v) ≡ false
    at (Truth b) = refl
    at (Number n) = refl
    at (Text t) = refl
    at (Object n) = one_other i (Up n) (ne n) (is_some (parent_in (object_at xs n)))
