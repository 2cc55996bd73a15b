-- Kept cells are a matter of membership, and stay closed under direct reads.
use Rattle.std.proofs.Common.{◌≡◌, refl, sym, ap, ◌∙◌, subst, inl, inr, ⊎_elim, Bool, true, false, cond, List, [], ◌∷◌, ◌++◌}
use Rattle.std.specs.Prelude.{◌⊎◌, ◌||◌, not, fold, filter, sum_by}
use Rattle.std.specs.List.{list_any, filter_map, flat_map}
use Rattle.std.specs.declared.cmp.Ordering.TheVariants.{Less, Equal, Greater}
use Rattle.sheet_values.specs.Sorted.{insert, by_order}
use Rattle.sheet_columns.specs.ItemOrder.{item_cmp, item_same}
use Rattle.sheet_columns.specs.declared.item.Item.{Item}
use Rattle.sheet_meaning.specs.declared.run.Use.{Use}
use Rattle.sheet_meaning.specs.declared.run.Use.TheVariants as used
use Rattle.sheet_meaning.specs.Items.{is_changed}
use Rattle.sheet_meaning.specs.Rounds.{item_in, cell_in}
use Rattle.sheet_meaning.specs.Support.{Cell, has_cell, in_order, uses_at, cells_read, items_read, reached, reached_from, support_of_cell, Reaches}
use Rattle.sheet_meaning.specs.Kept.{kept_with, kept_after, HoldSame, IsClosed, KeptCellsAreSets, KeptCellsStayClosed}
use Rattle.sheet_meaning.specs.Cost.{own_part_of_cell, KeptCellsCostNothing}
use Rattle.sheet_meaning.specs.WellFormed.{IsWellFormed}
use Rattle.sheet_meaning.specs.declared.workbook.Workbook.{Workbook}
use Rattle.sheet_meaning.proofs.Members.{IsIn, in_flat_map, from_flat_map, any_in}
use Rattle.sheet_meaning.proofs.Cells.{has_in, in_has, kept_in, added_in, from_cells}
use Rattle.sheet_meaning.proofs.Reaching.{complete, reached_is_all}
use Rattle.sheet_meaning.proofs.Alike.{same_uses}
use Rattle.sheet_meaning.proofs.Contents.{unchanged}

both_ways : (p q : Bool) → (p ≡ true → q ≡ true) → (q ≡ true → p ≡ true) → p ≡ q
both_ways true q f g = sym (f refl)
both_ways false true f g = g refl
both_ways false false f g = refl

same_by : (xs ys : List Cell) → ((x : Cell) → IsIn x xs → IsIn x ys) → ((x : Cell) → IsIn x ys → IsIn x xs) → HoldSame xs ys
same_by xs ys f g x = both_ways (has_cell xs x) (has_cell ys x) (λ h. in_has ys x (f x (has_in xs x h))) (λ h. in_has xs x (g x (has_in ys x h)))

moved : (xs ys : List Cell) → HoldSame xs ys → (x : Cell) → IsIn x xs → IsIn x ys
moved xs ys same x h = has_in ys x (sym (same x) ∙ in_has xs x h)

-- cells of a list that pass a test
pub in_filter : {A : Type 0} (p : A → Bool) (xs : List A) (x : A) → IsIn x xs → p x ≡ true → IsIn x (filter p xs)
in_filter p [] x h e = absurd h
in_filter {A} p (y ∷ ys) x h e =
    elim (p y) as (λ b. p y ≡ b → IsIn x (cond b (y ∷ filter p ys) (filter p ys))) [
      | true ↦ λ t. ⊎_elim (λ same. inl same) (λ k. inr (in_filter p ys x k e)) h
      | false ↦ λ t. ⊎_elim (λ same. let here : p y ≡ true = subst (λ z. p z ≡ true) same e in cc) (λ k. in_filter p ys x k e) h
    ] refl

pub from_filter : {A : Type 0} (p : A → Bool) (xs : List A) (x : A) → IsIn x (filter p xs) → IsIn x xs × (p x ≡ true)
from_filter p [] x h = absurd h
from_filter {A} p (y ∷ ys) x h =
    elim (p y) as (λ b. p y ≡ b → IsIn x (cond b (y ∷ filter p ys) (filter p ys)) → IsIn x (y ∷ ys) × (p x ≡ true)) [
      | true ↦ λ e k. ⊎_elim (λ same. (inl same, ap p same ∙ e)) (λ j. let r = from_filter p ys x j in (inr r.0, r.1)) k
      | false ↦ λ e k. let r = from_filter p ys x k in (inr r.0, r.1)
    ] refl h

module _ (w : Workbook) where
  -- what is reached from some is reached from others that hold these
  reached_too : (from other : List Cell) → ((x : Cell) → has_cell from x ≡ true → has_cell other x ≡ true) → (x : Cell) → Reaches w from x → Reaches w other x
  reached_too from other more z (Reaches.direct x h) = Reaches.direct x (more x h)
  reached_too from other more z (Reaches.through x y r h) = Reaches.through x y (reached_too from other more x r) h

  is_reached : (from : List Cell) (x : Cell) → IsIn x (reached_from w from) → Reaches w from x
  is_reached from x h = (reached_is_all w from x).0 (in_has (reached_from w from) x h)

  -- what is reached from a reached cell is reached
  reached_through : (from : List Cell) (x : Cell) → Reaches w from x → (y : Cell) → Reaches w (x ∷ []) y → Reaches w from y
  reached_through from x r z (Reaches.direct y h) = subst (Reaches w from) (sym (the_only y (has_in (x ∷ []) y h))) r
    where
      the_only : (y : Cell) → IsIn y (x ∷ []) → y ≡ x
      the_only y i = ⊎_elim (λ e. e) (λ n. absurd n) i
  reached_through from x r z (Reaches.through y v s h) = Reaches.through y v (reached_through from x r y s) h

  with_too : (us vs : List Use) (kept other : List Cell) → HoldSame kept other → HoldSame (filter_map cell_in us) (filter_map cell_in vs) → (x : Cell) →
      IsIn x (kept_with w us kept) → IsIn x (kept_with w vs other)
  with_too us vs kept other same cells x h =
      ⊎_elim
      (λ k. kept_in other (reached w vs) x (moved kept other same x k))
      (λ k. added_in other (reached w vs) x
      (complete w (filter_map cell_in vs) x
      (reached_too (filter_map cell_in us) (filter_map cell_in vs) (λ y e. sym (cells y) ∙ e) x (is_reached (filter_map cell_in us) x k))))
      (from_cells kept (reached w us) x h)

  closed_with : (kept : List Cell) → IsClosed w kept → (us : List Use) → IsClosed w (kept_with w us kept)
  closed_with kept closed us x y h r =
      in_has (kept_with w us kept) y
      (⊎_elim
      (λ k. kept_in kept (reached w us) y (has_in kept y (closed x y (in_has kept x k) r)))
      (λ k. added_in kept (reached w us) y (complete w (filter_map cell_in us) y (Reaches.through x y (is_reached (filter_map cell_in us) x k) r)))
      (from_cells kept (reached w us) x (has_in (kept_with w us kept) x h)))

  -- what is reached from a kept cell is kept
  reached_kept : (kept : List Cell) → IsClosed w kept → (x : Cell) → has_cell kept x ≡ true → (y : Cell) → Reaches w (x ∷ []) y → has_cell kept y ≡ true
  reached_kept kept closed x h z (Reaches.direct y e) = ⊎_elim (λ same. ap (has_cell kept) same ∙ h) (λ n. absurd n) (has_in (x ∷ []) y e)
  reached_kept kept closed x h z (Reaches.through y v r e) = closed y v (reached_kept kept closed x h y r) e

-- items in order are the same items
in_insert : (i j : Item) (xs : List Item) → (i ≡ j) ⊎ IsIn i xs → IsIn i (insert item_cmp j xs)
in_insert i j [] h = ⊎_elim (λ e. inl e) (λ n. absurd n) h
in_insert i j (x ∷ xs) h =
    elim (item_cmp j x) as (λ o. item_cmp j x ≡ o → IsIn i (by_order o (j ∷ x ∷ xs) (x ∷ xs) (x ∷ insert item_cmp j xs))) [
      | Less ↦ λ e. ⊎_elim (λ s. inl s) (λ k. inr k) h
      | Equal ↦ λ e. ⊎_elim (λ s. inl (s ∙ item_same j x e)) (λ k. k) h
      | Greater ↦ λ e. ⊎_elim (λ s. inr (in_insert i j xs (inl s))) (λ k. ⊎_elim (λ s. inl s) (λ m. inr (in_insert i j xs (inr m))) k) h
    ] refl

from_insert : (i j : Item) (xs : List Item) → IsIn i (insert item_cmp j xs) → (i ≡ j) ⊎ IsIn i xs
from_insert i j [] h = ⊎_elim (λ e. inl e) (λ n. absurd n) h
from_insert i j (x ∷ xs) h =
    elim (item_cmp j x) as (λ o. IsIn i (by_order o (j ∷ x ∷ xs) (x ∷ xs) (x ∷ insert item_cmp j xs)) → (i ≡ j) ⊎ IsIn i (x ∷ xs)) [
      | Less ↦ λ k. ⊎_elim (λ s. inl s) (λ m. inr m) k
      | Equal ↦ λ k. inr k
      | Greater ↦ λ k. ⊎_elim (λ s. inr (inl s)) (λ m. ⊎_elim (λ s. inl s) (λ n. inr (inr n)) (from_insert i j xs m)) k
    ] h

abbrev put : List Item → Item → List Item
put xs j = insert item_cmp j xs

in_put : (i : Item) (xs ys : List Item) → IsIn i xs ⊎ IsIn i ys → IsIn i (fold put xs ys)
in_put i xs [] h = ⊎_elim (λ k. k) (λ n. absurd n) h
in_put i xs (y ∷ ys) h =
    in_put i (put xs y) ys
    (⊎_elim (λ k. inl (in_insert i y xs (inr k))) (λ k. ⊎_elim (λ e. inl (in_insert i y xs (inl e))) (λ m. inr m) k) h)

from_put : (i : Item) (xs ys : List Item) → IsIn i (fold put xs ys) → IsIn i xs ⊎ IsIn i ys
from_put i xs [] h = inl h
from_put i xs (y ∷ ys) h =
    ⊎_elim
    (λ k. ⊎_elim (λ e. inr (inl e)) (λ m. inl m) (from_insert i y xs k))
    (λ k. inr (inr k))
    (from_put i (put xs y) ys h)

pub in_ordered : (i : Item) (items : List Item) → IsIn i items → IsIn i (in_order items)
in_ordered i items h = in_put i [] items (inr h)

pub from_ordered : (i : Item) (items : List Item) → IsIn i (in_order items) → IsIn i items
from_ordered i items h = ⊎_elim (λ n. absurd n) (λ k. k) (from_put i [] items h)

module _ (w u : Workbook) (kept : List Cell) where
  abbrev stays : Cell → Bool
  stays x = not (list_any (is_changed w.state u.state) (support_of_cell w x))

  after_too : (other : List Cell) → HoldSame kept other → (x : Cell) → IsIn x (kept_after w u kept) → IsIn x (kept_after w u other)
  after_too other same x h = let f = from_filter stays kept x h in in_filter stays other x (moved kept other same x f.0) f.1

  -- an item that a cell rests on
  abbrev read_items : Cell → List Item
  read_items x = filter_map item_in (used.Cell x.0 x.1 ∷ []) ++ flat_map (items_read w) (reached w (used.Cell x.0 x.1 ∷ []))

  supports : (x y : Cell) → Reaches w (x ∷ []) y → (i : Item) → IsIn i (items_read w y) → IsIn i (support_of_cell w x)
  supports x y r i h =
      in_ordered i (read_items x) (in_flat_map (items_read w) (reached w (used.Cell x.0 x.1 ∷ [])) y i (complete w (x ∷ []) y r) h)

  supported : (x : Cell) (i : Item) → IsIn i (support_of_cell w x) → (y : Cell) × Reaches w (x ∷ []) y × IsIn i (items_read w y)
  supported x i h =
      let f = from_flat_map (items_read w) (reached w (used.Cell x.0 x.1 ∷ [])) i (from_ordered i (read_items x) h) in
      (f.0, is_reached w (x ∷ []) f.0 f.1, f.2)

  not_true : (b : Bool) → not b ≡ true → b ≡ false
  not_true true e = cc
  not_true false e = refl

  not_any : (items : List Item) → list_any (is_changed w.state u.state) items ≡ false → (i : Item) → IsIn i items → is_changed w.state u.state i ≡ false
  not_any items e i h =
      elim (is_changed w.state u.state i) as (λ b. is_changed w.state u.state i ≡ b → b ≡ false) [
        | true ↦ λ t. let some : list_any (is_changed w.state u.state) items ≡ true = any_in (is_changed w.state u.state) items i h t in cc
        | false ↦ λ t. refl
      ] refl

  none_any : (items : List Item) → ((i : Item) → IsIn i items → is_changed w.state u.state i ≡ false) → list_any (is_changed w.state u.state) items ≡ false
  none_any [] h = refl
  none_any (i ∷ items) h = ap (λ b. b || list_any (is_changed w.state u.state) items) (h i (inl refl)) ∙ none_any items (λ j k. h j (inr k))

  -- a cell that another reads that stays, stays
  read_stays : (x y : Cell) → stays x ≡ true → has_cell (cells_read w x) y ≡ true → stays y ≡ true
  read_stays x y e r =
      let calm = not_any (support_of_cell w x) (not_true (list_any (is_changed w.state u.state) (support_of_cell w x)) e) in
      let direct : Reaches w (x ∷ []) x = Reaches.direct x (in_has (x ∷ []) x (inl refl)) in
      ap not (none_any (support_of_cell w y) (λ i h.
      let s = supported y i h in
      calm i (supports x s.0 (reached_through w (x ∷ []) y (Reaches.through x y direct r) s.0 s.1) i s.2)))

  -- it reads the same cells in both workbooks
  reads_same : IsWellFormed w → IsWellFormed u → u.schema ≡ w.schema → (x : Cell) → stays x ≡ true → uses_at u x ≡ uses_at w x
  reads_same first second same x e =
      let calm = not_any (support_of_cell w x) (not_true (list_any (is_changed w.state u.state) (support_of_cell w x)) e) in
      same_uses w u same first.rising second.rising (x ∷ []) (λ y r i h. unchanged w.state u.state i (calm i (supports x y r i h))) x
      (Reaches.direct x (in_has (x ∷ []) x (inl refl)))

  closed_after : IsClosed w kept → IsWellFormed w → IsWellFormed u → u.schema ≡ w.schema → IsClosed u (kept_after w u kept)
  closed_after closed first second same x y h r =
      let f = from_filter stays kept x (has_in (kept_after w u kept) x h) in
      let read : has_cell (cells_read w x) y ≡ true = subst (λ us. has_cell (filter_map cell_in us) y ≡ true) (reads_same first second same x f.1) r in
      in_has (kept_after w u kept) y (in_filter stays kept y (has_in kept y (closed x y (in_has kept x f.0) read)) (read_stays x y f.1 read))

pub kept_cells_are_sets : KeptCellsAreSets
kept_cells_are_sets w u kept other same = record {
  evaluated = λ us vs cells.
      same_by (kept_with w us kept) (kept_with w vs other)
      (with_too w us vs kept other same cells)
      (with_too w vs us other kept (λ x. sym (same x)) (λ x. sym (cells x)));
  changed = same_by (kept_after w u kept) (kept_after w u other) (after_too w u kept other same) (after_too w u other kept (λ x. sym (same x)));
}

pub kept_cells_stay_closed : KeptCellsStayClosed
kept_cells_stay_closed w u kept closed = record { evaluated = closed_with w kept closed; changed = closed_after w u kept closed }

none_left : (p : Cell → Bool) (xs : List Cell) → ((x : Cell) → IsIn x xs → p x ≡ false) → filter p xs ≡ []
none_left p [] h = refl
none_left p (x ∷ xs) h = ap (λ b. cond b (x ∷ filter p xs) (filter p xs)) (h x (inl refl)) ∙ none_left p xs (λ y k. h y (inr k))

pub kept_cells_cost_nothing : KeptCellsCostNothing
kept_cells_cost_nothing w kept x closed h =
    ap (sum_by (own_part_of_cell w))
    (none_left (λ y. not (has_cell kept y)) (reached_from w (x ∷ [])) (λ y i. ap not (reached_kept w kept closed x h y (is_reached w (x ∷ []) y i))))
