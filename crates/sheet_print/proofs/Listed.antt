-- What is listed for a table has the cells that the table shows.
use Rattle.std.proofs.Common.{◌≡◌, refl, sym, ap, ◌∙◌, subst, ℕ, ◌+◌, ◌<◌, Bool, true, false, cond, List, [], ◌∷◌, ◌++◌, length, get_or, arith, inl, inr, Some, None}
use Rattle.std.specs.Prelude.{◌==◌, map, filter, Option, option_and_then, IsSome, slice_get}
use Rattle.std.specs.List.{AllByRecursion, range_with_len}
use Rattle.std.proofs.lemmas.Bool.{eqb-true}
use Rattle.std.proofs.lemmas.List.{map-id}
use Rattle.std.proofs.lemmas.List.FromFn.{filter_of_map_range_with_len_more}
use Rattle.std.proofs.lemmas.Option.{slice_get_within}
use Rattle.sheet_values.specs.Sorted as sorted
use Rattle.sheet_columns.specs.Tree.{above_of, is_number}
use Rattle.sheet_columns.specs.declared.tree.Node.{Node}
use Rattle.sheet_meaning.specs.Workbook.{object_at, column_in}
use Rattle.sheet_meaning.specs.declared.workbook.LiveObject.{LiveObject}
use Rattle.sheet_meaning.proofs.Members.{IsIn, both_true}
use Rattle.sheet_state.proofs.Underneath.{all_at, in_live}
use Rattle.sheet_print.specs.Books.{objects_of, cells_under, is_cell_under, column_numbers}
use Rattle.sheet_print.specs.Shown.{IsCell, AreCounted, HaveCells}
use Rattle.sheet_print.proofs.Chosen.{by_number}

-- one number more is tested
pub filter_more : (p : ℕ → Bool) (n : ℕ) → filter p (range_with_len 0 (n + 1)) ≡ filter p (range_with_len 0 n) ++ cond (p n) (n ∷ []) []
filter_more p n =
    ap (filter p) (sym (map-id (range_with_len 0 (n + 1))))
    ∙ filter_of_map_range_with_len_more p (λ x. x) 0 n n (omega arith)
    ∙ ap (λ l. filter p l ++ cond (p n) (n ∷ []) []) (map-id (range_with_len 0 n))

number_is : (k : ℕ) (n : Option ℕ) → is_number k n ≡ true → n ≡ Some k
number_is k None e = cc
number_is k (Some j) e = ap Some (sym (eqb-true k j e))

within : (nodes : List Node) (c k : ℕ) (n : Option Node) → slice_get nodes c ≡ n → option_and_then (λ (m : Node). m.above) n ≡ Some k → c < length nodes
within nodes c k None e a = cc
within nodes c k (Some n) e a = slice_get_within nodes c n e

-- a column directly under another one
pub record StandsUnder (nodes : List Node) (k c : ℕ) : Type 0 where
  pub counted : c < length nodes
  pub above : above_of nodes c ≡ Some k

stands_under : (nodes : List Node) (k c : ℕ) → is_cell_under nodes k c ≡ true → StandsUnder nodes k c
stands_under nodes k c e =
    let above = number_is k (above_of nodes c) (both_true _ _ e).0 in
    record { counted = within nodes c k (slice_get nodes c) refl above; above = above }

chosen_stand : (nodes : List Node) (k : ℕ) (cs : List ℕ) → AllByRecursion (StandsUnder nodes k) (filter (is_cell_under nodes k) cs)
chosen_stand nodes k [] = tt
chosen_stand nodes k (c ∷ cs) =
    elim (is_cell_under nodes k c) as (λ b. is_cell_under nodes k c ≡ b →
    AllByRecursion (StandsUnder nodes k) (cond b (c ∷ filter (is_cell_under nodes k) cs) (filter (is_cell_under nodes k) cs))) [
      | true ↦ λ e. (stands_under nodes k c e, chosen_stand nodes k cs)
      | false ↦ λ e. chosen_stand nodes k cs
    ] refl

-- the cells of a column stand under it
pub cells_stand : (nodes : List Node) (k : ℕ) → AllByRecursion (StandsUnder nodes k) (cells_under nodes k)
cells_stand nodes k = chosen_stand nodes k (column_numbers nodes)

all_counted : (nodes : List Node) (k : ℕ) (cs : List ℕ) → AllByRecursion (StandsUnder nodes k) cs → AllByRecursion (λ c. c < length nodes) cs
all_counted nodes k [] h = tt
all_counted nodes k (c ∷ cs) h = (h.0.counted, all_counted nodes k cs h.1)

-- and are columns
pub cells_counted : (nodes : List Node) (k : ℕ) (cs : List ℕ) → cs ≡ cells_under nodes k → AreCounted nodes cs
cells_counted nodes k cs e i d lt =
    let all = all_counted nodes k (cells_under nodes k) (cells_stand nodes k) in
    all_at (λ c. c < length nodes) cs i d (subst (AllByRecursion (λ c. c < length nodes)) (sym e) all) lt

-- an object of the column is live
live_chosen : (k : ℕ) (xs ys : List LiveObject) → sorted.IsRising by_number xs → ((y : LiveObject) → IsIn y ys → IsIn y xs) →
    AllByRecursion (λ o. column_in (object_at xs o) ≡ Some k) (objects_of ys k)
live_chosen k xs [] r i = tt
live_chosen k xs (y ∷ ys) r i =
    let more = live_chosen k xs ys r (λ z j. i z (inr j)) in
    elim (y.column == k) as (λ b. (y.column == k) ≡ b →
    AllByRecursion (λ o. column_in (object_at xs o) ≡ Some k) (map (λ (z : LiveObject). z.number) (cond b (y ∷ filter (λ (z : LiveObject). z.column == k) ys)
    (filter (λ (z : LiveObject). z.column == k) ys)))) [
      | true ↦ λ t. (ap column_in (in_live xs y r (i y (inl refl))) ∙ ap Some (eqb-true y.column k t), more)
      | false ↦ λ t. more
    ] refl

live : (x : Option LiveObject) (k : ℕ) → column_in x ≡ Some k → IsSome x
live None k e = cc
live (Some x) k e = refl

module _ (nodes : List Node) (xs : List LiveObject) (k : ℕ) where
  is_cell : (o c : ℕ) → column_in (object_at xs o) ≡ Some k → StandsUnder nodes k c → IsCell nodes xs o c
  is_cell o c e h = record { counted = h.counted; live = live (object_at xs o) k e; under = e ∙ sym h.above }

  -- the objects of a column have the cells of the column
  pub listed_have : sorted.IsRising by_number xs → HaveCells nodes xs (cells_under nodes k) (objects_of xs k)
  listed_have r i d lt j e more =
      is_cell (get_or (objects_of xs k) i d) (get_or (cells_under nodes k) j e)
      (all_at (λ o. column_in (object_at xs o) ≡ Some k) (objects_of xs k) i d (live_chosen k xs xs r (λ y h. h)) lt)
      (all_at (StandsUnder nodes k) (cells_under nodes k) j e (cells_stand nodes k) more)
