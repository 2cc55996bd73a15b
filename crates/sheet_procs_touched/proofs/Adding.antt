-- Cells that come one after another.
use Rattle.std.proofs.Common.{◌≡◌, refl, sym, ap, ◌∙◌, subst, ℕ, zero, suc, ◌+◌, ◌<◌, ◌≤◌, Bool, true, false, List, [], ◌∷◌, take, length, get_or, arith, Option}
use Rattle.std.proofs.Common.{⊎_elim, inl, inr, eq-eqb}
use Rattle.std.specs.Prelude.{◌⊎◌, ◌==◌, ◌&&◌, ◌||◌, option_map}
use Rattle.std.specs.BTreeSet.{insert_key}
use Rattle.std.specs.Ordering.{is_eq}
use Rattle.std.proofs.lemmas.Bool.{eqb-true}
use Rattle.std.proofs.lemmas.List.{take_all}
use Rattle.std.proofs.lemmas.List.Folds.{list_any_more}
use Rattle.sheet_values.specs.Sorted.{contains, insert}
use Rattle.sheet_columns.specs.Cells.{Cell, is_cell}
use Rattle.sheet_columns.specs.ItemOrder.{item_cmp}
use Rattle.sheet_columns.specs.Tree.{column_of, above_of, is_number}
use Rattle.sheet_columns.specs.declared.item.Item.{Item}
use Rattle.sheet_columns.specs.declared.item.Item.TheVariants.{Stored}
use Rattle.sheet_columns.specs.declared.tree.Node.{Node}
use Rattle.sheet_meaning.proofs.Cells.{same_cell}
use Rattle.sheet_meaning.proofs.Members.{both_true}
use Rattle.sheet_state.proofs.WithSet.{item_is}
use Rattle.sheet_procs_touched.specs.Touched.{cell_cmp, Adds, is_new, is_named, holds_one}
use Rattle.sheet_procs_touched.proofs.OneCells.{no_column}
use Rattle.sheet_procs_touched.proofs.Rising.{inserted, stays, keys_insert}

pub one_added : (x : Cell) (old new : List Cell) → new ≡ insert_key cell_cmp old x → Adds (is_cell x) old new
one_added x old new is =
    let put : new ≡ insert cell_cmp x old = is ∙ keys_insert x old in
    record {
      found = λ y h.
          subst (λ z. contains cell_cmp z new ≡ true) (same_cell x y h) (subst (λ l. contains cell_cmp x l ≡ true) (sym put) (inserted x old));
      kept = λ y h. subst (λ l. contains cell_cmp y l ≡ true) (sym put) (stays y x old h);
    }

pub none_added : (wanted : Cell → Bool) (xs : List Cell) → ((x : Cell) → wanted x ≡ true → ⊥) → Adds wanted xs xs
none_added wanted xs none = record { found = λ x h. absurd (none x h); kept = λ x h. h }

-- those with columns below a number came
pub record AddsBelow (wanted : Cell → Bool) (k : ℕ) (old new : List Cell) : Type 0 where
  pub found : (x : Cell) → wanted x ≡ true → x.1 < k → contains cell_cmp x new ≡ true
  pub kept : (x : Cell) → contains cell_cmp x old ≡ true → contains cell_cmp x new ≡ true

below_or_at : (j m : ℕ) → j < m + 1 → (j < m) ⊎ (j ≡ m)
below_or_at zero zero lt = inr refl
below_or_at zero (suc m) lt = inl (omega arith)
below_or_at (suc j) zero lt = absurd (omega (arith, lt))
below_or_at (suc j) (suc m) lt = ⊎_elim (λ h. inl (omega (arith, h))) (λ e. inr (ap suc e)) (below_or_at j m (omega (arith, lt)))

module _ (nodes : List Node) (o c : ℕ) where
  pub none_below : (xs : List Cell) → AddsBelow (is_new nodes o c) 0 xs xs
  none_below xs = record { found = λ x h lt. absurd (omega (arith, lt)); kept = λ x h. h }

  -- a column whose cells are wanted
  pub column_more : (k : ℕ) (old now new : List Cell) → AddsBelow (is_new nodes o c) k old now → Adds (is_cell (o, k)) now new →
      AddsBelow (is_new nodes o c) (k + 1) old new
  column_more k old now new so_far adds = record {
    found = λ x h lt. ⊎_elim (λ less. adds.kept x (so_far.found x h less)) (λ at. adds.found x (same x h at)) (below_or_at x.1 k lt);
    kept = λ x h. adds.kept x (so_far.kept x h);
  }
    where
      same : (x : Cell) → is_new nodes o c x ≡ true → x.1 ≡ k → is_cell (o, k) x ≡ true
      same x h at =
          let object : x.0 ≡ o = eqb-true x.0 o (both_true (x.0 == o) (holds_one (column_of nodes x.1) && is_number c (above_of nodes x.1)) h).0 in
          ap (λ b. b && k == x.1) (eq-eqb o x.0 (sym object)) ∙ eq-eqb k x.1 (sym at)

  -- one whose cells aren't
  pub column_past : (k : ℕ) (old now : List Cell) → AddsBelow (is_new nodes o c) k old now →
      (holds_one (column_of nodes k) && is_number c (above_of nodes k)) ≡ false → AddsBelow (is_new nodes o c) (k + 1) old now
  column_past k old now so_far not_wanted = record {
    found = λ x h lt. ⊎_elim (λ less. so_far.found x h less) (λ at. absurd (none x h at)) (below_or_at x.1 k lt);
    kept = so_far.kept;
  }
    where
      none : (x : Cell) → is_new nodes o c x ≡ true → x.1 ≡ k → ⊥
      none x h at =
          let wanted = (both_true (x.0 == o) (holds_one (column_of nodes x.1) && is_number c (above_of nodes x.1)) h).1 in
          let no : true ≡ false = sym wanted ∙ ap (λ j. holds_one (column_of nodes j) && is_number c (above_of nodes j)) at ∙ not_wanted in
          cc

  less_or_not : (j n : ℕ) → (j < n) ⊎ (n ≤ j)
  less_or_not j zero = inr (omega arith)
  less_or_not zero (suc n) = inl (omega arith)
  less_or_not (suc j) (suc n) = ⊎_elim (λ h. inl (omega (arith, h))) (λ h. inr (omega (arith, h))) (less_or_not j n)

  -- all columns
  pub columns_all : (k : ℕ) (old new : List Cell) → length nodes ≤ k → AddsBelow (is_new nodes o c) k old new → Adds (is_new nodes o c) old new
  columns_all k old new le so_far = record {
    found = λ x h. ⊎_elim (λ lt. so_far.found x h (omega (arith, lt, le))) (λ out. absurd (none x h out)) (less_or_not x.1 (length nodes));
    kept = so_far.kept;
  }
    where
      none : (x : Cell) → is_new nodes o c x ≡ true → length nodes ≤ x.1 → ⊥
      none x h out =
          let wanted = (both_true (x.0 == o) (holds_one (column_of nodes x.1) && is_number c (above_of nodes x.1)) h).1 in
          let one = (both_true (holds_one (column_of nodes x.1)) (is_number c (above_of nodes x.1)) wanted).0 in
          let no : true ≡ false = sym one ∙ ap (λ (p : Option Node). holds_one (option_map (λ (n : Node). n.column) p)) (no_column nodes x.1 out) in
          cc

-- the cell of an item
pub named_one : (o c : ℕ) (old new : List Cell) → Adds (is_cell (o, c)) old new → Adds (is_named (Stored o c ∷ [])) old new
named_one o c old new adds = record { found = λ x h. adds.found x (same x h); kept = adds.kept }
  where
    right : (b : Bool) → (b || false) ≡ true → b ≡ true
    right true e = refl
    right false e = cc

    same : (x : Cell) → is_named (Stored o c ∷ []) x ≡ true → is_cell (o, c) x ≡ true
    same x h =
        let is : Stored x.0 x.1 ≡ Stored o c = item_is (Stored x.0 x.1) (Stored o c) (right (is_eq (item_cmp (Stored x.0 x.1) (Stored o c))) h) in
        let object : x.0 ≡ o = cc in
        let column : x.1 ≡ c = cc in
        ap (λ b. b && c == x.1) (eq-eqb o x.0 (sym object)) ∙ eq-eqb c x.1 (sym column)

-- an item that is none of a cell
pub named_none : (i : Item) (xs : List Cell) → ((o c : ℕ) → i ≡ Stored o c → ⊥) → Adds (is_named (i ∷ [])) xs xs
named_none i xs other =
    none_added (is_named (i ∷ [])) xs
    (λ x h. let is : Stored x.0 x.1 ≡ i = item_is (Stored x.0 x.1) i (right (is_eq (item_cmp (Stored x.0 x.1) i)) h) in other x.0 x.1 (sym is))
  where
    right : (b : Bool) → (b || false) ≡ true → b ≡ true
    right true e = refl
    right false e = cc

-- one item more
pub items_more : (items : List Item) (i : ℕ) (d : Item) (old now new : List Cell) → i < length items → Adds (is_named (take i items)) old now →
    Adds (is_named (get_or items i d ∷ [])) now new → Adds (is_named (take (i + 1) items)) old new
items_more items i d old now new lt so_far adds = record {
  found = λ x h. either x (contains item_cmp (Stored x.0 x.1) (take i items)) (is_eq (item_cmp (Stored x.0 x.1) (get_or items i d))) refl refl
      (sym (list_any_more (λ y. is_eq (item_cmp (Stored x.0 x.1) y)) items i d lt) ∙ h);
  kept = λ x h. adds.kept x (so_far.kept x h);
}
  where
    either : (x : Cell) (a b : Bool) → contains item_cmp (Stored x.0 x.1) (take i items) ≡ a → is_eq (item_cmp (Stored x.0 x.1) (get_or items i d)) ≡ b →
        (a || b) ≡ true → contains cell_cmp x new ≡ true
    either x true b e f h = adds.kept x (so_far.found x e)
    either x false b e f h = adds.found x (ap (λ r. r || false) (f ∙ h))

pub items_none : (items : List Item) (xs : List Cell) → Adds (is_named (take 0 items)) xs xs
items_none items xs = none_added (is_named (take 0 items)) xs (λ x h. let no : false ≡ true = h in cc)

pub items_all : (items : List Item) (i : ℕ) (old new : List Cell) → length items ≤ i → Adds (is_named (take i items)) old new → Adds (is_named items) old new
items_all items i old new le adds = subst (λ l. Adds (is_named l) old new) (take_all i items le) adds
