-- The table after objects are gone.
use Rattle.std.proofs.Common.{◌≡◌, refl, sym, ap, ◌∙◌, subst, ℕ, ◌-◌, ◌<◌, Bool, true, false, List, [], ◌∷◌, length, arith}
use Rattle.std.specs.Prelude.{not, if◌then◌else◌, map, filter, sum_by}
use Rattle.std.specs.declared.cmp.Ordering.{Ordering}
use Rattle.std.specs.Ordering.{nat_cmp, ordering_then}
use Rattle.std.specs.List.{AllByRecursion}
use Rattle.std.proofs.lemmas.List.Sums.{sum_by-cons}
use Rattle.sheet_values.specs.Sorted.{IsBelow, IsRising}
use Rattle.sheet_values.specs.Sets.{contains, minus}
use Rattle.sheet_values.specs.declared.value.Value.{Value}
use Rattle.sheet_values.specs.declared.value.Value.TheVariants.{Object}
use Rattle.sheet_columns.specs.declared.tree.Node.{Node}
use Rattle.sheet_state_rows.specs.Rows.{Table}
use Rattle.sheet_state_rows.specs.declared.row.ObjectRow.{ObjectRow}
use Rattle.sheet_state_rows.specs.declared.row.SetRow.{SetRow}
use Rattle.sheet_meaning.specs.Changes.{has_number, is_other, without}
use Rattle.sheet_meaning.specs.Workbook.{children_in, set_in}
use Rattle.sheet_meaning.specs.WellFormed.{cell_count, IsWellFormed}
use Rattle.sheet_meaning.specs.declared.workbook.LiveObject.{LiveObject}
use Rattle.sheet_meaning.specs.declared.workbook.StoredCell.{StoredCell}
use Rattle.sheet_meaning.proofs.Columns.{all_map}
use Rattle.sheet_meaning.specs.declared.workbook.State.{State}
use Rattle.sheet_state.specs.Deaths.{is_doomed, buried, swept, lost_cells, rid_of}
use Rattle.sheet_state.specs.Stored.{book, object_columns, extents_of, IsMoment}
use Rattle.sheet_state.specs.Rows.{objects_in, cells_in, state_of, moment, row_cmp, object_cmp, IsSound}
use Rattle.sheet_state.proofs.Existing.{key}
use Rattle.sheet_state.proofs.Family.{Knows}
use Rattle.sheet_state.proofs.Without.{stays, children_left, pairs_left, weight_of, cells_weighed, left_well_formed, IsDown, keys_left}
use Rattle.sheet_state.proofs.Gone.{objects_left, cells_left, set_left, orphans, weighed_apart, values_apart}
use Rattle.sheet_state.proofs.WithSet.{all_mono}

pub buried_number : (d : List Value) (r : ObjectRow) → (buried d r).number ≡ r.number
buried_number d r = elim (is_doomed d r) as (λ b. (if b then record r { live = false } else r).number ≡ r.number) [ true ↦ refl | false ↦ refl ]

swept_by : (d : List Value) (r : SetRow) (b c : Bool) →
    ((if b then (if c then record r { live = false; set = [] } else record r { set = minus r.set d }) else r).object ≡ r.object) ×
    ((if b then (if c then record r { live = false; set = [] } else record r { set = minus r.set d }) else r).column ≡ r.column)
swept_by d r true true = (refl, refl)
swept_by d r true false = (refl, refl)
swept_by d r false c = (refl, refl)

pub swept_key : (d : List Value) (r : SetRow) → ((swept d r).object ≡ r.object) × ((swept d r).column ≡ r.column)
swept_key d r = swept_by d r r.live (contains (Object r.object) d)

-- rows whose keys stay keep their order
rising_map : {A : Type 0} (cmp : A → A → Ordering) (f : A → A) → ((x y : A) → cmp (f x) (f y) ≡ cmp x y) → (xs : List A) → IsRising cmp xs →
    IsRising cmp (map f xs)
rising_map cmp f same [] r = tt
rising_map {A} cmp f same (x ∷ xs) r = (below xs r.0, rising_map cmp f same xs r.1)
  where
    below : (zs : List A) → IsBelow cmp x zs → IsBelow cmp (f x) (map f zs)
    below [] b = tt
    below (z ∷ zs) b = (same x z ∙ b.0, below zs b.1)

object_order : (d : List Value) (x y : ObjectRow) → object_cmp (buried d x) (buried d y) ≡ object_cmp x y
object_order d x y = ap (λ n. nat_cmp n (buried d y).number) (buried_number d x) ∙ ap (nat_cmp x.number) (buried_number d y)

row_order : (d : List Value) (x y : SetRow) → row_cmp (swept d x) (swept d y) ≡ row_cmp x y
row_order d x y =
    let a = swept_key d x in
    let b = swept_key d y in
    ap (λ n. ordering_then (nat_cmp n (swept d y).object) (nat_cmp (swept d x).column (swept d y).column)) a.0
    ∙ ap (λ n. ordering_then (nat_cmp x.object n) (nat_cmp (swept d x).column (swept d y).column)) b.0
    ∙ ap (λ n. ordering_then (nat_cmp x.object y.object) (nat_cmp n (swept d y).column)) a.1
    ∙ ap (λ n. ordering_then (nat_cmp x.object y.object) (nat_cmp x.column n)) b.1

ones : (xs : List LiveObject) → sum_by (λ (x : LiveObject). 1) xs ≡ length xs
ones [] = refl
ones (x ∷ xs) = let a = sum_by-cons (λ (y : LiveObject). 1) x xs in let b = ones xs in omega arith

-- these objects may go: with each of them goes all that stands directly under it, and the root stays
pub record MayGo (t : Table) (d : List Value) (ns : List ℕ) : Type 0 where
  pub known : Knows d ns
  pub down : AllByRecursion (IsDown ns) (objects_in t.objects)
  pub root : has_number ns 0 ≡ false

module _ (nodes : List Node) (t : Table) (sound : IsSound t) (m : IsMoment nodes (moment t)) (d : List Value) (ns : List ℕ) (g : MayGo t d ns) where
  abbrev k : Knows d ns
  k = g.known

  abbrev after : Table
  after = rid_of nodes d t

  pub state_rid : state_of after ≡ without (state_of t) ns
  state_rid =
      ap (λ (xs : List LiveObject). record { objects = xs; cells = cells_in after.cells; next = t.counters.next }) (objects_left d ns k t.objects)
      ∙ ap (λ (xs : List StoredCell). record { objects = filter (stays ns) (objects_in t.objects); cells = xs; next = t.counters.next })
      (cells_left d ns k t.cells)

  pub children_rid : (p c : ℕ) → set_in (cells_in after.extents) p c ≡ children_in (objects_in after.objects) p c
  children_rid p c =
      ap (λ l. set_in l p c) (cells_left d ns k t.extents)
      ∙ set_left ns p c (cells_in t.extents)
      ∙ ap (λ l. if has_number ns p then [] else filter (is_other ns) l) (sound.children p c)
      ∙ by_parent (has_number ns p) refl
      ∙ sym (children_left ns (objects_in t.objects) p c)
      ∙ ap (λ l. children_in l p c) (sym (objects_left d ns k t.objects))
    where
      by_parent : (h : Bool) → has_number ns p ≡ h →
          (if h then [] else filter (is_other ns) (children_in (objects_in t.objects) p c)) ≡ filter (is_other ns) (children_in (objects_in t.objects) p c)
      by_parent true e = sym (orphans ns p c e (objects_in t.objects) g.down)
      by_parent false e = refl

  pub sound_rid : IsSound after
  sound_rid =
      let objects = weighed_apart d ns k (λ (x : LiveObject). 1) t.objects in
      let all = ones (objects_in t.objects) in
      let rest = ones (filter (stays ns) (objects_in t.objects)) in
      let counted = sound.counted_objects in
      let left = ap length (objects_left d ns k t.objects) in
      let values = values_apart d ns k t.cells in
      let counted_values = sound.counted_values in
      record {
        objects = rising_map object_cmp (buried d) (object_order d) t.objects sound.objects;
        cells = rising_map row_cmp (swept d) (row_order d) t.cells sound.cells;
        extents = rising_map row_cmp (swept d) (row_order d) t.extents sound.extents;
        objects_drawn = all_map (λ (r : ObjectRow). r.number < t.counters.next) (buried d) t.objects
            (all_mono (λ (r : ObjectRow). r.number < t.counters.next) (λ (r : ObjectRow). (buried d r).number < t.counters.next)
            (λ r h. subst (λ n. n < t.counters.next) (sym (buried_number d r)) h) t.objects sound.objects_drawn);
        cells_drawn = all_map (λ (r : SetRow). r.object < t.counters.next) (swept d) t.cells
            (all_mono (λ (r : SetRow). r.object < t.counters.next) (λ (r : SetRow). (swept d r).object < t.counters.next)
            (λ r h. subst (λ n. n < t.counters.next) (sym (swept_key d r).0) h) t.cells sound.cells_drawn);
        extents_drawn = all_map (λ (r : SetRow). r.object < t.counters.next) (swept d) t.extents
            (all_mono (λ (r : SetRow). r.object < t.counters.next) (λ (r : SetRow). (swept d r).object < t.counters.next)
            (λ r h. subst (λ n. n < t.counters.next) (sym (swept_key d r).0) h) t.extents sound.extents_drawn);
        children = children_rid;
        counted_objects = omega (arith, objects, all, rest, counted, left);
        counted_values = omega (arith, values, counted_values);
      }

  pub moment_rid : IsMoment nodes (moment after)
  moment_rid =
      let s' = without (state_of t) ns in
      let weights = weighed_apart d ns k (weight_of nodes) t.objects in
      let before = cells_weighed nodes (objects_in t.objects) (cells_in t.cells) t.counters.next in
      let then_left = cells_weighed nodes s'.objects s'.cells s'.next in
      let counted = m.cells in
      let is : t.counters.cells - sum_by (lost_cells nodes d) t.objects ≡ cell_count (book nodes s') = omega (arith, weights, before, then_left, counted) in
      record {
        well_formed = subst (λ u. IsWellFormed (book nodes u)) (sym state_rid) (left_well_formed nodes (state_of t) m.well_formed ns g.down g.root);
        extents =
            ap (map key) (cells_left d ns k t.extents)
            ∙ keys_left ns (cells_in t.extents)
            ∙ ap (filter (λ (p : ℕ × ℕ). not (has_number ns p.0))) m.extents
            ∙ pairs_left ns (λ (x : LiveObject). object_columns nodes x.column) (λ (c : ℕ). c) (objects_in t.objects)
            ∙ ap (λ (u : State). extents_of nodes u.objects) (sym state_rid);
        cells = is ∙ ap (λ u. cell_count (book nodes u)) (sym state_rid);
      }
