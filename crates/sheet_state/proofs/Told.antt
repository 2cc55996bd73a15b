-- The items that a deletion changes.
use Rattle.std.proofs.Common.{◌≡◌, refl, sym, ap, ◌∙◌, subst, ℕ, ◌-◌, ◌≤◌, suc, Bool, true, false, cond, List, [], ◌∷◌, ◌++◌, length, arith, Option, Some}
use Rattle.std.proofs.Common.{None, eq-eqb, inl, inr}
use Rattle.std.specs.Prelude.{not, nat_lt, ◌==◌, ◌&&◌, ◌||◌, if◌then◌else◌, map, filter, is_some}
use Rattle.std.specs.List.{flat_map, cons_option, list_any}
use Rattle.std.specs.Ordering.{is_eq}
use Rattle.std.proofs.lemmas.Bool.{lt-ltb, le-ltb, cases_lt}
use Rattle.std.proofs.lemmas.List.{nil_from_length}
use Rattle.std.proofs.lemmas.List.Folds.{list_any-append}
use Rattle.sheet_values.specs.Sorted.{IsBelow, IsRising, contains as holds}
use Rattle.sheet_values.specs.Sets.{contains, minus}
use Rattle.sheet_values.specs.declared.value.Value.{Value}
use Rattle.sheet_values.specs.declared.value.Value.TheVariants.{Object}
use Rattle.sheet_columns.specs.ItemOrder.{item_cmp}
use Rattle.sheet_columns.specs.declared.item.Item.{Item}
use Rattle.sheet_columns.specs.declared.item.Item.TheVariants.{Live, Up, Extent, Stored}
use Rattle.sheet_columns.specs.declared.tree.Node.{Node}
use Rattle.sheet_state_rows.specs.Rows.{Table}
use Rattle.sheet_state_rows.specs.declared.row.SetRow.{SetRow}
use Rattle.sheet_meaning.specs.Changes.{has_number, without}
use Rattle.sheet_meaning.specs.Formula.{sets_equal}
use Rattle.sheet_meaning.specs.Items.{numbers_equal}
use Rattle.sheet_meaning.specs.Workbook.{object_at, column_in, parent_in, children_in, set_in}
use Rattle.sheet_meaning.specs.declared.workbook.LiveObject.{LiveObject}
use Rattle.sheet_meaning.specs.declared.workbook.StoredCell.{StoredCell}
use Rattle.sheet_meaning.specs.declared.workbook.State.{State}
use Rattle.sheet_state.specs.Births.{with_items}
use Rattle.sheet_state.specs.Deaths.{live_items, up_items, swept, swept_items, lost, rid_items}
use Rattle.sheet_state.specs.Stored.{IsMoment, AreChanged}
use Rattle.sheet_state.specs.Rows.{live_cell, objects_in, cells_in, state_of, moment, row_cmp, is_set, IsSound}
use Rattle.sheet_state.proofs.Family.{Knows, knows_number}
use Rattle.sheet_state.proofs.Itemized.{live_told, up_told, no_lives, no_ups}
use Rattle.sheet_state.proofs.Lookups.{set_first, set_skip}
use Rattle.sheet_state.proofs.Newborn.{not_item, has_items}
use Rattle.sheet_state.proofs.SetRows.{at, apart, passes, key_is}
use Rattle.sheet_state.proofs.Rid.{MayGo, state_rid, children_rid}
use Rattle.sheet_state.proofs.Without.{found_left, filter_short}
use Rattle.sheet_state.proofs.WithSet.{item_itself, numbers_same, sets_are, sets_same}

abbrev among : Item → List Item → Bool
among x ys = list_any (λ y. is_eq (item_cmp x y)) ys

among_append : (i : Item) (xs ys : List Item) → among i (xs ++ ys) ≡ (among i xs || among i ys)
among_append i xs ys = list_any-append (λ y. is_eq (item_cmp i y)) xs ys

-- an item of another kind is in none of the items of rows
none_in : {A : Type 0} (i : Item) (f : A → List Item) → ((a : A) → among i (f a) ≡ false) → (us : List A) → among i (flat_map f us) ≡ false
none_in i f gives [] = refl
none_in i f gives (a ∷ us) = among_append i (f a) (flat_map f us) ∙ ap (λ b. b || among i (flat_map f us)) (gives a) ∙ none_in i f gives us

one_item : (i j : Item) (b : Bool) → (i ≡ j → ⊥) → among i (if b then j ∷ [] else []) ≡ false
one_item i j true ne = ap (λ b. b || false) (not_item i j ne)
one_item i j false ne = refl

or_false : (b : Bool) → (b || false) ≡ b
or_false true = refl
or_false false = refl

-- an object that goes, and what it tells of itself
column_told : (h : Bool) (q : Option LiveObject) → (h && is_some (column_in q)) ≡ not (numbers_equal (column_in q) (column_in (if h then None else q)))
column_told true None = refl
column_told true (Some x) = refl
column_told false q = sym (ap not (numbers_same (column_in q)))

parent_told : (h : Bool) (q : Option LiveObject) → (h && is_some (parent_in q)) ≡ not (numbers_equal (parent_in q) (parent_in (if h then None else q)))
parent_told true None = refl
parent_told true (Some x) = of_parent x.parent
  where
    of_parent : (p : Option ℕ) → is_some p ≡ not (numbers_equal p None)
    of_parent None = refl
    of_parent (Some n) = refl
parent_told false q = sym (ap not (numbers_same (parent_in q)))

-- a list that isn't longer tells by its length whether it differs
lost_tells : (xs ys : List Value) → length ys ≤ length xs → (length xs ≡ length ys → ys ≡ xs) → nat_lt 0 (length xs - length ys) ≡ not (sets_equal xs ys)
lost_tells xs ys short same =
    elim (sets_equal xs ys) as (λ b. sets_equal xs ys ≡ b → nat_lt 0 (length xs - length ys) ≡ not b) [
      | true ↦ λ e. let equal = ap length (sets_are xs ys e) in le-ltb 0 (length xs - length ys) (omega arith)
      | false ↦ λ e. lt-ltb 0 (length xs - length ys) (elim (cases_lt (length ys) (length xs)) [
        | inl lt ↦ omega arith
        | inr ge ↦ let equal : length xs ≡ length ys = omega arith in let t : sets_equal xs ys ≡ true =
            subst (λ l. sets_equal xs l ≡ true) (sym (same equal)) (sets_same xs) in absurd (let clash : true ≡ false = sym t ∙ e in cc)
      ])
    ] refl

same_filter : (p : Value → Bool) (xs : List Value) → length xs ≡ length (filter p xs) → filter p xs ≡ xs
same_filter p [] e = refl
same_filter p (x ∷ xs) e =
    elim (p x) as (λ b. suc (length xs) ≡ length (cond b (x ∷ filter p xs) (filter p xs)) → cond b (x ∷ filter p xs) (filter p xs) ≡ x ∷ xs) [
      | true ↦ λ h. ap (λ l. x ∷ l) (same_filter p xs (omega arith))
      | false ↦ λ h. let short = filter_short p xs in absurd (omega arith)
    ] e

lost_by : (d : List Value) (r : SetRow) (b c : Bool) →
    nat_lt 0 (length r.set - length (if b then (if c then record r { live = false; set = [] } else record r { set = minus r.set d }) else r).set) ≡ not
    (sets_equal r.set (if b then (if c then record r { live = false; set = [] } else record r { set = minus r.set d }) else r).set)
lost_by d r true true = lost_tells r.set [] (omega arith) (λ e. sym (nil_from_length r.set e))
lost_by d r true false = lost_tells r.set (minus r.set d) (filter_short (λ v. not (contains v d)) r.set) (λ e. same_filter (λ v. not (contains v d)) r.set e)
lost_by d r false c = lost_tells r.set r.set (omega arith) (λ e. refl)

lost_is : (d : List Value) (r : SetRow) → nat_lt 0 (lost d r) ≡ not (sets_equal r.set (swept d r).set)
lost_is d r = lost_by d r r.live (contains (Object r.object) d)

-- sets that lose what goes
module _ (item : ℕ → ℕ → Item) (inside : (a b x y : ℕ) → item a b ≡ item x y → (a ≡ x) × (b ≡ y)) (d : List Value) (m c : ℕ) where
  row_missed : (r : SetRow) → is_set m c r ≡ false → (a b : Bool) →
      is_set m c (if a then (if b then record r { live = false; set = [] } else record r { set = minus r.set d }) else r) ≡ false
  row_missed r e true true = refl
  row_missed r e true false = e
  row_missed r e false b = e

  swept_missed : (r : SetRow) → is_set m c r ≡ false → is_set m c (swept d r) ≡ false
  swept_missed r e = row_missed r e r.live (contains (Object r.object) d)

  not_set : (r : SetRow) → at m c r ≡ false → is_set m c r ≡ false
  not_set r e = ap (λ b. r.live && b) e ∙ never r.live
    where
      never : (b : Bool) → (b && false) ≡ false
      never true = refl
      never false = refl

  other_item : (r : SetRow) → at m c r ≡ false → item m c ≡ item r.object r.column → ⊥
  other_item r e h =
      let same = inside m c r.object r.column h in
      let t : at m c r ≡ true = ap (λ b. b && r.column == c) (eq-eqb r.object m (sym same.0)) ∙ eq-eqb r.column c (sym same.1) in
      cc

  -- no row above one of this cell is another of it
  record NoMore (rows : List SetRow) : Type 0 where
    none : set_in (cells_in rows) m c ≡ []
    none_swept : set_in (cells_in (map (swept d) rows)) m c ≡ []
    not_told : among (item m c) (flat_map (swept_items item d) rows) ≡ false

  no_more : (r : SetRow) (rows : List SetRow) → at m c r ≡ true → IsBelow row_cmp r rows → NoMore rows
  no_more r [] e b = record { none = refl; none_swept = refl; not_told = refl }
  no_more r (q ∷ rows) e b =
      let rest = no_more r rows e b.1 in
      let far : at m c q ≡ false = apart m c r q e b.0 in
      let miss = not_set q far in
      record {
        none = set_skip m c q (cells_in rows) miss ∙ rest.none;
        none_swept = set_skip m c (swept d q) (cells_in (map (swept d) rows)) (swept_missed q miss) ∙ rest.none_swept;
        not_told =
            among_append (item m c) (swept_items item d q) (flat_map (swept_items item d) rows)
            ∙ ap (λ b. b || among (item m c) (flat_map (swept_items item d) rows))
            (one_item (item m c) (item q.object q.column) (nat_lt 0 (lost d q)) (other_item q far))
            ∙ rest.not_told;
      }

  found_swept : (r : SetRow) (rest : List StoredCell) → is_set m c r ≡ true → set_in rest m c ≡ [] → (b : Bool) →
      set_in (cons_option (live_cell (if b then record r { live = false; set = [] } else record r { set = minus r.set d })) rest) m
      c ≡ (if b then record r { live = false; set = [] } else record r { set = minus r.set d }).set
  found_swept r rest e none true = none
  found_swept r rest e none false = set_first m c (record r { set = minus r.set d }) rest e

  pub sets_told : (rows : List SetRow) → IsRising row_cmp rows →
      among (item m c) (flat_map (swept_items item d) rows) ≡ not (sets_equal (set_in (cells_in rows) m c) (set_in (cells_in (map (swept d) rows)) m c))
  sets_told [] rising = refl
  sets_told (r ∷ rows) rising =
      among_append (item m c) (swept_items item d r) (flat_map (swept_items item d) rows)
      ∙ elim (is_set m c r) as (λ b. is_set m c r ≡ b →
      (among (item m c) (swept_items item d r) || among (item m c) (flat_map (swept_items item d) rows)) ≡ not
      (sets_equal (set_in (cells_in (r ∷ rows)) m c) (set_in (cells_in (map (swept d) (r ∷ rows))) m c))) [
        | true ↦ λ e.
            let p = passes m c r e in
            let rest = no_more r rows p.1 rising.0 in
            let keyed = key_is m c r p.1 in
            let same : item r.object r.column ≡ item m c = ap (λ n. item n r.column) keyed.0 ∙ ap (item m) keyed.1 in
            let is : swept d r ≡ (if contains (Object r.object) d then record r { live = false; set = [] } else record r { set = minus r.set d }) =
            ap (λ b. if b then (if contains (Object r.object) d then record r { live = false; set = [] } else record r { set = minus r.set d }) else r)
            p.0 in
            ap (λ b. among (item m c) (swept_items item d r) || b) rest.not_told
            ∙ or_false (among (item m c) (swept_items item d r))
            ∙ ap (λ j. among (item m c) (if nat_lt 0 (lost d r) then j ∷ [] else [])) same
            ∙ itself (nat_lt 0 (lost d r))
            ∙ lost_is d r
            ∙ ap (λ l. not (sets_equal l (swept d r).set)) (sym (set_first m c r (cells_in rows) e))
            ∙ ap (λ l. not (sets_equal (set_in (cells_in (r ∷ rows)) m c) l))
            (sym (ap (λ (q : SetRow). set_in (cons_option (live_cell q) (cells_in (map (swept d) rows))) m c) is
            ∙ found_swept r (cells_in (map (swept d) rows)) e rest.none_swept (contains (Object r.object) d)
            ∙ ap (λ (q : SetRow). q.set) (sym is)))
        | false ↦ λ e.
            ap (λ b. b || among (item m c) (flat_map (swept_items item d) rows)) (silent r e r.live refl)
            ∙ sets_told rows rising.1
            ∙ ap (λ l. not (sets_equal l (set_in (cells_in (map (swept d) rows)) m c))) (sym (set_skip m c r (cells_in rows) e))
            ∙ ap (λ l. not (sets_equal (set_in (cells_in (r ∷ rows)) m c) l))
            (sym (set_skip m c (swept d r) (cells_in (map (swept d) rows)) (swept_missed r e)))
      ] refl
    where
      itself : (b : Bool) → among (item m c) (if b then item m c ∷ [] else []) ≡ b
      itself true = ap (λ b. b || false) (item_itself (item m c))
      itself false = refl

      silent : (q : SetRow) → is_set m c q ≡ false → (l : Bool) → q.live ≡ l → among (item m c) (swept_items item d q) ≡ false
      silent q e true live = one_item (item m c) (item q.object q.column) (nat_lt 0 (lost d q)) (other_item q (ap (λ b. b && at m c q) (sym live) ∙ e))
      silent q e false live =
          let is : swept d q ≡ q =
          ap (λ b. if b then (if contains (Object q.object) d then record q { live = false; set = [] } else record q { set = minus q.set d }) else q)
          live in
          let none : nat_lt 0 (lost d q) ≡ false = lost_is d q ∙ ap (λ (p : SetRow). not (sets_equal q.set p.set)) is ∙ ap not (sets_same q.set) in
          ap (λ b. among (item m c) (if b then item q.object q.column ∷ [] else [])) none

extents_apart : (a b x y : ℕ) → Extent a b ≡ Extent x y → (a ≡ x) × (b ≡ y)
extents_apart a b x y h = let one : a ≡ x = cc in let two : b ≡ y = cc in (one, two)

cells_apart : (a b x y : ℕ) → Stored a b ≡ Stored x y → (a ≡ x) × (b ≡ y)
cells_apart a b x y h = let one : a ≡ x = cc in let two : b ≡ y = cc in (one, two)

module _ (nodes : List Node) (t : Table) (sound : IsSound t) (w : IsMoment nodes (moment t)) (d : List Value) (ns : List ℕ) (g : MayGo t d ns) where
  abbrev k : Knows d ns
  k = g.known

  abbrev s' : State
  s' = without (state_of t) ns

  abbrev xs : List LiveObject
  xs = objects_in t.objects

  abbrev lives : List Item
  lives = flat_map (live_items xs) d

  abbrev ups : List Item
  ups = flat_map (up_items xs) d

  abbrev told_by : Bool → Bool → Bool → Bool → Bool
  told_by c e u l = c || (e || (u || (l || false)))

  has : (i : Item) →
      holds item_cmp i (rid_items d t) ≡ told_by (among i (flat_map (swept_items Stored d) t.cells)) (among i (flat_map (swept_items Extent d) t.extents))
      (among i ups) (among i lives)
  has i =
      has_items i (with_items (with_items (with_items [] lives) ups) (flat_map (swept_items Extent d) t.extents)) (flat_map (swept_items Stored d) t.cells)
      ∙ ap (λ b. among i (flat_map (swept_items Stored d) t.cells) || b)
      (has_items i (with_items (with_items [] lives) ups) (flat_map (swept_items Extent d) t.extents)
      ∙ ap (λ b. among i (flat_map (swept_items Extent d) t.extents) || b)
      (has_items i (with_items [] lives) ups ∙ ap (λ b. among i ups || b) (has_items i [] lives)))

  no_sets : (i : Item) (item : ℕ → ℕ → Item) → ((a b : ℕ) → i ≡ item a b → ⊥) → (rows : List SetRow) → among i (flat_map (swept_items item d) rows) ≡ false
  no_sets i item ne rows = none_in i (swept_items item d) (λ r. one_item i (item r.object r.column) (nat_lt 0 (lost d r)) (ne r.object r.column)) rows

  -- an item that is told by one part alone
  only_told : (c e u l : Bool) → c ≡ false → e ≡ false → u ≡ false → told_by c e u l ≡ l
  only_told c e u l nc ne nu =
      ap (λ b. told_by b e u l) nc ∙ ap (λ b. told_by false b u l) ne ∙ ap (λ b. told_by false false b l) nu ∙ or_false l

  pub rid_changed : AreChanged (state_of t) s' (rid_items d t)
  rid_changed (Live m) =
      has (Live m)
      ∙ only_told (among (Live m) (flat_map (swept_items Stored d) t.cells)) (among (Live m) (flat_map (swept_items Extent d) t.extents))
      (among (Live m) ups) (among (Live m) lives) (no_sets (Live m) Stored (λ a b h. cc) t.cells) (no_sets (Live m) Extent (λ a b h. cc) t.extents)
      (no_ups xs (Live m) (λ n h. cc) d)
      ∙ live_told xs m d
      ∙ ap (λ b. b && is_some (column_in (object_at xs m))) (knows_number d ns k m)
      ∙ column_told (has_number ns m) (object_at xs m)
      ∙ ap (λ q. not (numbers_equal (column_in (object_at xs m)) (column_in q))) (sym (found_left ns xs m))
  rid_changed (Up m) =
      has (Up m)
      ∙ ap (λ b. told_by b (among (Up m) (flat_map (swept_items Extent d) t.extents)) (among (Up m) ups) (among (Up m) lives))
      (no_sets (Up m) Stored (λ a b h. cc) t.cells)
      ∙ ap (λ b. told_by false b (among (Up m) ups) (among (Up m) lives)) (no_sets (Up m) Extent (λ a b h. cc) t.extents)
      ∙ ap (λ b. told_by false false (among (Up m) ups) b) (no_lives xs (Up m) (λ n h. cc) d)
      ∙ or_false (among (Up m) ups)
      ∙ up_told xs m d
      ∙ ap (λ b. b && is_some (parent_in (object_at xs m))) (knows_number d ns k m)
      ∙ parent_told (has_number ns m) (object_at xs m)
      ∙ ap (λ q. not (numbers_equal (parent_in (object_at xs m)) (parent_in q))) (sym (found_left ns xs m))
  rid_changed (Extent m c) =
      has (Extent m c)
      ∙ ap (λ b. told_by b (among (Extent m c) (flat_map (swept_items Extent d) t.extents)) (among (Extent m c) ups) (among (Extent m c) lives))
      (no_sets (Extent m c) Stored (λ a b h. cc) t.cells)
      ∙ ap (λ b. told_by false (among (Extent m c) (flat_map (swept_items Extent d) t.extents)) b (among (Extent m c) lives))
      (no_ups xs (Extent m c) (λ n h. cc) d)
      ∙ ap (λ b. told_by false (among (Extent m c) (flat_map (swept_items Extent d) t.extents)) false b) (no_lives xs (Extent m c) (λ n h. cc) d)
      ∙ or_false (among (Extent m c) (flat_map (swept_items Extent d) t.extents))
      ∙ sets_told Extent extents_apart d m c t.extents sound.extents
      ∙ ap (λ l. not (sets_equal l (set_in (cells_in (map (swept d) t.extents)) m c))) (sound.children m c)
      ∙ ap (λ l. not (sets_equal (children_in (objects_in t.objects) m c) l)) (children_rid nodes t sound w d ns g m c
      ∙ ap (λ (u : State). children_in u.objects m c) (state_rid nodes t sound w d ns g))
  rid_changed (Stored m c) =
      has (Stored m c)
      ∙ ap (λ b. told_by (among (Stored m c) (flat_map (swept_items Stored d) t.cells)) b (among (Stored m c) ups) (among (Stored m c) lives))
      (no_sets (Stored m c) Extent (λ a b h. cc) t.extents)
      ∙ ap (λ b. told_by (among (Stored m c) (flat_map (swept_items Stored d) t.cells)) false b (among (Stored m c) lives))
      (no_ups xs (Stored m c) (λ n h. cc) d)
      ∙ ap (λ b. told_by (among (Stored m c) (flat_map (swept_items Stored d) t.cells)) false false b) (no_lives xs (Stored m c) (λ n h. cc) d)
      ∙ or_false (among (Stored m c) (flat_map (swept_items Stored d) t.cells))
      ∙ sets_told Stored cells_apart d m c t.cells sound.cells
      ∙ ap (λ (u : State). not (sets_equal (set_in (cells_in t.cells) m c) (set_in u.cells m c))) (state_rid nodes t sound w d ns g)
