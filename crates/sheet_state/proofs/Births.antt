-- What the columns under a column give, one column after another.
use Rattle.std.proofs.Common.{◌≡◌, refl, sym, ap, ◌∙◌, subst, ℕ, ◌+◌, ◌<◌, zero, suc, Bool, true, false, List, [], ◌∷◌, ◌++◌, length, take, arith, append_assoc}
use Rattle.std.proofs.Common.{add-one, Option, Some, None}
use Rattle.std.specs.Prelude.{map, slice_get, option_and_then, option_map, if◌then◌else◌}
use Rattle.std.specs.List.{filter_map, enumerate_from}
use Rattle.std.specs.Option.{option_to_list}
use Rattle.std.proofs.lemmas.List.{map-append, append-nil}
use Rattle.std.proofs.lemmas.List.Elements.{filter_map-append}
use Rattle.std.proofs.lemmas.List.Sums.{fold-append}
use Rattle.sheet_columns.specs.Tree.{is_number, root}
use Rattle.sheet_columns.specs.declared.item.Item.{Item}
use Rattle.sheet_columns.specs.declared.tree.Column.{Column}
use Rattle.sheet_columns.specs.declared.tree.Node.{Node}
use Rattle.sheet_state_rows.specs.Rows.{Table}
use Rattle.sheet_meaning.specs.WellFormed.{StateColumn, as_state, state_columns}
use Rattle.sheet_state.specs.Births.{child_at, state_at, extent_at, formula_at, is_formula, formula_columns, new_cell, new_extent, item_of, with_items}
use Rattle.sheet_state.specs.Births.{with_rows}
use Rattle.sheet_state.specs.Stored.{schema_of, as_extent, object_columns}

take_next : {A : Type 0} (xs : List A) (k : ℕ) (y : A) → slice_get xs k ≡ Some y → take (suc k) xs ≡ take k xs ++ y ∷ []
take_next [] k y e = cc
take_next (x ∷ xs) zero y e = let same : x ≡ y = cc in ap (λ z. z ∷ []) same
take_next (x ∷ xs) (suc k) y e = ap (λ l. x ∷ l) (take_next xs k y e)

enumerate_push : {A : Type 0} (xs : List A) (n : ℕ) (y : A) → enumerate_from n (xs ++ y ∷ []) ≡ enumerate_from n xs ++ (n + length xs, y) ∷ []
enumerate_push [] n y = let e : n ≡ n + 0 = omega arith in ap (λ k. (k, y) ∷ []) e
enumerate_push (x ∷ xs) n y =
    let e : n + 1 + length xs ≡ n + suc (length xs) = omega arith in
    ap (λ l. (n, x) ∷ l) (enumerate_push xs (n + 1) y ∙ ap (λ k. enumerate_from (n + 1) xs ++ (k, y) ∷ []) e)

length_take : {A : Type 0} (xs : List A) (k : ℕ) (y : A) → slice_get xs k ≡ Some y → length (take k xs) ≡ k
length_take [] k y e = cc
length_take (x ∷ xs) zero y e = refl
length_take (x ∷ xs) (suc k) y e = ap suc (length_take xs k y e)

one : {A B : Type 0} (f : A → Option B) (x : A) → filter_map f (x ∷ []) ≡ option_to_list (f x)
one f x = at (f x)
  where
    at : {B : Type 0} (o : Option B) → Rattle.std.specs.List.cons_option o [] ≡ option_to_list o
    at None = refl
    at (Some y) = refl

-- one column more
pub more : {A : Type 0} (f : ℕ × Node → Option A) (nodes : List Node) (k : ℕ) (n : Node) → slice_get nodes k ≡ Some n →
    filter_map f (enumerate_from 0 (take (k + 1) nodes)) ≡ filter_map f (enumerate_from 0 (take k nodes)) ++ option_to_list (f (k, n))
more f nodes k n got =
    ap (λ j. filter_map f (enumerate_from 0 (take j nodes))) (add-one k)
    ∙ ap (λ l. filter_map f (enumerate_from 0 l)) (take_next nodes k n got)
    ∙ ap (filter_map f) (enumerate_push (take k nodes) 0 n)
    ∙ filter_map-append f (enumerate_from 0 (take k nodes)) ((0 + length (take k nodes), n) ∷ [])
    ∙ ap (λ j. filter_map f (enumerate_from 0 (take k nodes)) ++ filter_map f ((j, n) ∷ [])) (let e = length_take nodes k n got in omega arith)
    ∙ ap (λ l. filter_map f (enumerate_from 0 (take k nodes)) ++ l) (one f (k, n))

chosen : {A : Type 0} (f : Column → Option A) (b : Bool) (c : Column) → (if b then f c else None) ≡ option_and_then f (if b then Some c else None)
chosen f true c = refl
chosen f false c = refl

child_is : (nodes : List Node) (c k : ℕ) (n : Node) → slice_get nodes k ≡ Some n → child_at nodes c k ≡ (if is_number c n.above then Some n.column else None)
child_is nodes c k n got = ap (λ o. if is_number c (option_and_then (λ (m : Node). m.above) o) then option_map (λ (m : Node). m.column) o else None) got

module _ (nodes : List Node) (c k : ℕ) (n : Node) (got : slice_get nodes k ≡ Some n) where
  at : {A : Type 0} (f : ℕ → Column → Option A) → (if is_number c n.above then f k n.column else None) ≡ option_and_then (f k) (child_at nodes c k)
  at f = chosen (f k) (is_number c n.above) n.column ∙ ap (option_and_then (f k)) (sym (child_is nodes c k n got))

  -- what the columns up to the k-th give
  pub states_more : state_columns (schema_of (take (k + 1) nodes)) c ≡ state_columns (schema_of (take k nodes)) c ++ option_to_list (state_at nodes c k)
  states_more = more _ nodes k n got ∙ ap (λ o. state_columns (schema_of (take k nodes)) c ++ option_to_list o) (at as_state)

  pub extents_more : object_columns (take (k + 1) nodes) c ≡ object_columns (take k nodes) c ++ option_to_list (extent_at nodes c k)
  extents_more = more _ nodes k n got ∙ ap (λ o. object_columns (take k nodes) c ++ option_to_list o) (at as_extent)

  pub formulas_more : formula_columns (take (k + 1) nodes) c ≡ formula_columns (take k nodes) c ++ option_to_list (formula_at nodes c k)
  formulas_more = more _ nodes k n got ∙ ap (λ o. formula_columns (take k nodes) c ++ option_to_list o) (at is_formula)

pub got_at : {A : Type 0} (xs : List A) (k : ℕ) → k < length xs → (x : A) × (slice_get xs k ≡ Some x)
got_at [] k lt = absurd (omega arith)
got_at (x ∷ xs) zero lt = (x, refl)
got_at (x ∷ xs) (suc k) lt = got_at xs k (omega arith)

-- rows after rows
pub rows_after : (t : Table) (o : ℕ) (ks more : List StateColumn) (xs ys : List ℕ) →
    with_rows (with_rows t o ks xs) o more ys ≡ with_rows t o (ks ++ more) (xs ++ ys)
rows_after t o ks more xs ys =
    ap (λ l. record t { cells = l; extents = (t.extents ++ map (new_extent o) xs) ++ map (new_extent o) ys })
    (append_assoc t.cells (map (new_cell o) ks) (map (new_cell o) more) ∙ ap (λ l. t.cells ++ l) (sym (map-append (new_cell o) ks more)))
    ∙ ap (λ l. record t { cells = t.cells ++ map (new_cell o) (ks ++ more); extents = l })
    (append_assoc t.extents (map (new_extent o) xs) (map (new_extent o) ys) ∙ ap (λ l. t.extents ++ l) (sym (map-append (new_extent o) xs ys)))

pub no_rows : (t : Table) (o : ℕ) → with_rows t o [] [] ≡ t
no_rows t o =
    ap (λ l. record t { cells = l; extents = t.extents ++ [] }) (append-nil t.cells) ∙ ap (λ l. record t { extents = l }) (append-nil t.extents)

pub items_after : (o : ℕ) (items : List Item) (ks more : List StateColumn) →
    with_items (with_items items (filter_map (item_of o) ks)) (filter_map (item_of o) more) ≡ with_items items (filter_map (item_of o) (ks ++ more))
items_after o items ks more =
    sym (fold-append _ items (filter_map (item_of o) ks) (filter_map (item_of o) more))
    ∙ ap (with_items items) (sym (filter_map-append (item_of o) ks more))

-- the root stands under no column
pub none_yet : (nodes : List Node) → slice_get nodes 0 ≡ Some root → (c : ℕ) →
    (state_columns (schema_of (take 1 nodes)) c ≡ []) × (object_columns (take 1 nodes) c ≡ []) × (formula_columns (take 1 nodes) c ≡ [])
none_yet [] e c = cc
none_yet (n ∷ nodes) e c =
    let same : n ≡ root = cc in
    subst (λ m. (state_columns (schema_of (take 1 (m ∷ nodes))) c ≡ []) × (object_columns (take 1 (m ∷ nodes)) c ≡ []) × (formula_columns (take 1 (m ∷ nodes))
    c ≡ [])) (sym same) (refl, refl, refl)
