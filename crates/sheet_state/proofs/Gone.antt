-- The rows after objects are gone stand for the workbook without them.
use Rattle.std.proofs.Common.{◌≡◌, refl, sym, ap, ◌∙◌, ℕ, ◌+◌, ◌-◌, ◌≤◌, suc, Bool, true, false, cond, List, [], ◌∷◌, length, arith, Option, Some, None}
use Rattle.std.specs.Prelude.{not, ◌==◌, ◌&&◌, if◌then◌else◌, map, filter, sum_by}
use Rattle.std.specs.List.{cons_option, AllByRecursion}
use Rattle.std.proofs.lemmas.Bool.{eqb-true}
use Rattle.std.proofs.lemmas.List.Sums.{sum_by-cons}
use Rattle.sheet_values.specs.Sets.{contains, minus}
use Rattle.sheet_values.specs.declared.value.Value.{Value}
use Rattle.sheet_values.specs.declared.value.Value.TheVariants.{Object}
use Rattle.sheet_columns.specs.Tree.{is_number}
use Rattle.sheet_state_rows.specs.declared.row.ObjectRow.{ObjectRow}
use Rattle.sheet_state_rows.specs.declared.row.SetRow.{SetRow}
use Rattle.sheet_meaning.specs.Changes.{has_number, has_parent_in, is_other}
use Rattle.sheet_meaning.specs.Workbook.{children_in, is_child, set_in}
use Rattle.sheet_meaning.specs.WellFormed.{stored_values}
use Rattle.sheet_meaning.specs.declared.workbook.LiveObject.{LiveObject}
use Rattle.sheet_meaning.specs.declared.workbook.StoredCell.{StoredCell}
use Rattle.sheet_state.specs.Deaths.{is_doomed, buried, swept, lost}
use Rattle.sheet_state.specs.Rows.{live_object, live_cell, object_of, objects_in, cells_in}
use Rattle.sheet_state.proofs.Family.{Knows, knows_number}
use Rattle.sheet_state.proofs.Without.{stays, cell_stays, cleaned, IsDown}

-- filters by tests that agree
pub filter_same : {A : Type 0} (p q : A → Bool) → ((x : A) → p x ≡ q x) → (xs : List A) → filter p xs ≡ filter q xs
filter_same p q e [] = refl
filter_same p q e (x ∷ xs) = ap (λ b. cond b (x ∷ filter p xs) (filter p xs)) (e x) ∙ ap (λ l. cond (q x) (x ∷ l) l) (filter_same p q e xs)

module _ (d : List Value) (ns : List ℕ) (k : Knows d ns) where
  pub minus_is : (xs : List Value) → minus xs d ≡ filter (is_other ns) xs
  minus_is xs = filter_same (λ v. not (contains v d)) (is_other ns) (λ v. ap not (k.holds v) ∙ twice (is_other ns v)) xs
    where
      twice : (b : Bool) → not (not b) ≡ b
      twice true = refl
      twice false = refl

  pub objects_left : (rows : List ObjectRow) → objects_in (map (buried d) rows) ≡ filter (stays ns) (objects_in rows)
  objects_left [] = refl
  objects_left (r ∷ rows) =
      elim r.live as (λ b. r.live ≡ b →
      objects_in (map (buried d) (r ∷ rows)) ≡ filter (stays ns) (cons_option (if b then Some (object_of r) else None) (objects_in rows))) [
        | true ↦ λ e.
            ap (λ b. cons_option (live_object (if b && contains (Object r.number) d then record r { live = false } else r)) (objects_in (map (buried d) rows)))
            e
            ∙ ap (λ b. cons_option (live_object (if b then record r { live = false } else r)) (objects_in (map (buried d) rows))) (knows_number d ns k r.number)
            ∙ at e (has_number ns r.number)
            ∙ ap (λ l. cond (not (has_number ns r.number)) (object_of r ∷ l) l) (objects_left rows)
        | false ↦ λ e.
            ap (λ b. cons_option (live_object (if b && contains (Object r.number) d then record r { live = false } else r)) (objects_in (map (buried d) rows)))
            e
            ∙ ap (λ b. cons_option (if b then Some (object_of r) else None) (objects_in (map (buried d) rows))) e
            ∙ objects_left rows
      ] refl
    where
      at : r.live ≡ true → (h : Bool) →
          cons_option (live_object (if h then record r { live = false } else r)) (objects_in (map (buried d) rows)) ≡ cond (not h)
          (object_of r ∷ objects_in (map (buried d) rows)) (objects_in (map (buried d) rows))
      at e true = refl
      at e false = ap (λ b. cons_option (if b then Some (object_of r) else None) (objects_in (map (buried d) rows))) e

  pub cells_left : (rows : List SetRow) → cells_in (map (swept d) rows) ≡ map (cleaned ns) (filter (cell_stays ns) (cells_in rows))
  cells_left [] = refl
  cells_left (r ∷ rows) =
      elim r.live as (λ b. r.live ≡ b →
      cells_in (map (swept d) (r ∷ rows)) ≡ map (cleaned ns)
      (filter (cell_stays ns) (cons_option (if b then Some (record { object = r.object; column = r.column; set = r.set }) else None) (cells_in rows)))) [
        | true ↦ λ e.
            ap (λ b. cons_option
            (live_cell (if b then (if contains (Object r.object) d then record r { live = false; set = [] } else record r { set = minus r.set d }) else r))
            (cells_in (map (swept d) rows))) e
            ∙ ap (λ b. cons_option (live_cell (if b then record r { live = false; set = [] } else record r { set = minus r.set d }))
            (cells_in (map (swept d) rows))) (knows_number d ns k r.object)
            ∙ at e (cells_left rows) (has_number ns r.object)
        | false ↦ λ e.
            ap (λ b. cons_option
            (live_cell (if b then (if contains (Object r.object) d then record r { live = false; set = [] } else record r { set = minus r.set d }) else r))
            (cells_in (map (swept d) rows))) e
            ∙ ap (λ b. cons_option (if b then Some (record { object = r.object; column = r.column; set = r.set }) else None) (cells_in (map (swept d) rows))) e
            ∙ cells_left rows
      ] refl
    where
      at : r.live ≡ true → cells_in (map (swept d) rows) ≡ map (cleaned ns) (filter (cell_stays ns) (cells_in rows)) → (h : Bool) →
          cons_option (live_cell (if h then record r { live = false; set = [] } else record r { set = minus r.set d })) (cells_in (map (swept d) rows)) ≡ map
          (cleaned ns) (cond (not h) (record { object = r.object; column = r.column; set = r.set } ∷ filter (cell_stays ns) (cells_in rows))
          (filter (cell_stays ns) (cells_in rows)))
      at e rest true = rest
      at e rest false =
          ap (λ b. cons_option (if b then Some (record { object = r.object; column = r.column; set = minus r.set d }) else None)
          (cells_in (map (swept d) rows))) e
          ∙ ap (λ l. record { object = r.object; column = r.column; set = l } ∷ cells_in (map (swept d) rows)) (minus_is r.set)
          ∙ ap (λ l. record { object = r.object; column = r.column; set = filter (is_other ns) r.set } ∷ l) rest

pub set_left : (ns : List ℕ) (o c : ℕ) (cells : List StoredCell) →
    set_in (map (cleaned ns) (filter (cell_stays ns) cells)) o c ≡ (if has_number ns o then [] else filter (is_other ns) (set_in cells o c))
set_left ns o c [] = nothing (has_number ns o)
  where
    nothing : (h : Bool) → set_in [] o c ≡ (if h then [] else filter (is_other ns) (set_in [] o c))
    nothing true = refl
    nothing false = refl
set_left ns o c (x ∷ xs) =
    elim (x.object == o && x.column == c) as (λ b. (x.object == o && x.column == c) ≡ b →
    set_in (map (cleaned ns) (cond (not (has_number ns x.object)) (x ∷ filter (cell_stays ns) xs) (filter (cell_stays ns) xs))) o c ≡ (if has_number ns o
    then [] else filter (is_other ns) (if b then x.set else set_in xs o c))) [
      | true ↦ λ e. hit (set_left ns o c xs) e
      | false ↦ λ e. miss (set_left ns o c xs) e (has_number ns x.object)
    ] refl
  where
    both : (a b : Bool) → (a && b) ≡ true → a ≡ true
    both true b e = refl
    both false b e = cc

    hit : set_in (map (cleaned ns) (filter (cell_stays ns) xs)) o c ≡ (if has_number ns o then [] else filter (is_other ns) (set_in xs o c)) →
        (x.object == o && x.column == c) ≡ true →
        set_in (map (cleaned ns) (cond (not (has_number ns x.object)) (x ∷ filter (cell_stays ns) xs) (filter (cell_stays ns) xs))) o c ≡ (if has_number ns o
        then [] else filter (is_other ns) x.set)
    hit rest e =
        let same : x.object ≡ o = eqb-true x.object o (both (x.object == o) (x.column == c) e) in
        ap (λ n. set_in (map (cleaned ns) (cond (not (has_number ns n)) (x ∷ filter (cell_stays ns) xs) (filter (cell_stays ns) xs))) o c) same
        ∙ elim (has_number ns o) as (λ h. has_number ns o ≡ h →
        set_in (map (cleaned ns) (cond (not h) (x ∷ filter (cell_stays ns) xs) (filter (cell_stays ns) xs))) o
        c ≡ (if h then [] else filter (is_other ns) x.set)) [
          | true ↦ λ h. rest ∙ ap (λ b. if b then [] else filter (is_other ns) (set_in xs o c)) h
          | false ↦ λ h. ap (λ b. if b then filter (is_other ns) x.set else set_in (map (cleaned ns) (filter (cell_stays ns) xs)) o c) e
        ] refl

    miss : set_in (map (cleaned ns) (filter (cell_stays ns) xs)) o c ≡ (if has_number ns o then [] else filter (is_other ns) (set_in xs o c)) →
        (x.object == o && x.column == c) ≡ false → (h : Bool) →
        set_in (map (cleaned ns) (cond (not h) (x ∷ filter (cell_stays ns) xs) (filter (cell_stays ns) xs))) o c ≡ (if has_number ns o then []
        else filter (is_other ns) (set_in xs o c))
    miss rest e true = rest
    miss rest e false = ap (λ b. if b then filter (is_other ns) x.set else set_in (map (cleaned ns) (filter (cell_stays ns) xs)) o c) e ∙ rest

-- what the children of an object that is gone come to
pub orphans : (ns : List ℕ) (p c : ℕ) → has_number ns p ≡ true → (xs : List LiveObject) → AllByRecursion (IsDown ns) xs →
    filter (is_other ns) (children_in xs p c) ≡ []
orphans ns p c dead [] h = refl
orphans ns p c dead (x ∷ xs) h =
    elim (is_child p c x) as (λ b. is_child p c x ≡ b →
    filter (is_other ns) (map (λ (y : LiveObject). Object y.number) (cond b (x ∷ filter (is_child p c) xs) (filter (is_child p c) xs))) ≡ []) [
      | true ↦ λ e.
          ap (λ t. cond (not t) (Object x.number ∷ filter (is_other ns) (children_in xs p c)) (filter (is_other ns) (children_in xs p c)))
          (h.0 (inside x.parent (both (x.column == c) (is_number p x.parent) e)))
          ∙ orphans ns p c dead xs h.1
      | false ↦ λ e. orphans ns p c dead xs h.1
    ] refl
  where
    both : (a b : Bool) → (a && b) ≡ true → b ≡ true
    both true b e = e
    both false b e = cc

    inside : (q : Option ℕ) → is_number p q ≡ true → has_parent_in ns q ≡ true
    inside None e = cc
    inside (Some m) e = ap (has_number ns) (sym (eqb-true p m e)) ∙ dead

-- sums of what goes and what stays
module _ (d : List Value) (ns : List ℕ) (k : Knows d ns) where
  doomed_is : (r : ObjectRow) → is_doomed d r ≡ (r.live && has_number ns r.number)
  doomed_is r = ap (λ b. r.live && b) (knows_number d ns k r.number)

  -- the weight of all objects is that of those that go and those that stay
  pub weighed_apart : (f : LiveObject → ℕ) (rows : List ObjectRow) →
      sum_by f (objects_in rows) ≡ sum_by (λ (r : ObjectRow). if is_doomed d r then f (object_of r) else 0) rows + sum_by f
      (filter (stays ns) (objects_in rows))
  weighed_apart f [] = refl
  weighed_apart f (r ∷ rows) =
      let rest = weighed_apart f rows in
      let lost_here = sum_by-cons (λ (q : ObjectRow). if is_doomed d q then f (object_of q) else 0) r rows in
      let same = ap (λ b. if b then f (object_of r) else 0) (doomed_is r) in
      elim r.live as (λ b. (if r.live && has_number ns r.number then f (object_of r) else 0) ≡ (if b && has_number ns r.number then f (object_of r) else 0) →
      sum_by f (cons_option (if b then Some (object_of r) else None) (objects_in rows)) ≡ sum_by (λ (q : ObjectRow). if is_doomed d q then f (object_of q)
      else 0) (r ∷ rows) + sum_by f (filter (stays ns) (cons_option (if b then Some (object_of r) else None) (objects_in rows)))) [
        | true ↦ λ l.
            let whole = sum_by-cons f (object_of r) (objects_in rows) in
            elim (has_number ns r.number) as (λ h. (if r.live && has_number ns r.number then f (object_of r) else 0) ≡ (if h then f (object_of r) else 0) →
            sum_by f (object_of r ∷ objects_in rows) ≡ sum_by (λ (q : ObjectRow). if is_doomed d q then f (object_of q) else 0) (r ∷ rows) + sum_by f
            (cond (not h) (object_of r ∷ filter (stays ns) (objects_in rows)) (filter (stays ns) (objects_in rows)))) [
              | true ↦ λ m. omega (arith, rest, lost_here, same, m, whole)
              | false ↦ λ m. let kept = sum_by-cons f (object_of r) (filter (stays ns) (objects_in rows)) in
                  omega (arith, rest, lost_here, same, m, whole, kept)
            ] l
        | false ↦ λ l. omega (arith, rest, lost_here, same, l)
      ] refl

  short : (p : Value → Bool) (xs : List Value) → length (filter p xs) ≤ length xs
  short p [] = omega arith
  short p (x ∷ xs) =
      let rest = short p xs in
      elim (p x) as (λ b. length (cond b (x ∷ filter p xs) (filter p xs)) ≤ suc (length xs)) [ true ↦ omega arith | false ↦ omega arith ]

  -- the values of all cells are those that go and those that stay
  pub values_apart : (rows : List SetRow) → stored_values (cells_in rows) ≡ sum_by (lost d) rows + stored_values (cells_in (map (swept d) rows))
  values_apart [] = refl
  values_apart (r ∷ rows) =
      let rest = values_apart rows in
      let lost_here = sum_by-cons (lost d) r rows in
      elim r.live as (λ b. r.live ≡ b →
      stored_values (cons_option (if b then Some (record { object = r.object; column = r.column; set = r.set }) else None) (cells_in rows)) ≡ sum_by
      (lost d) (r ∷ rows) + stored_values (cells_in (map (swept d) (r ∷ rows)))) [
        | true ↦ λ e.
            let whole = sum_by-cons (λ (x : StoredCell). length x.set) (record { object = r.object; column = r.column; set = r.set }) (cells_in rows) in
            elim (contains (Object r.object) d) as (λ h. contains (Object r.object) d ≡ h →
            stored_values (record { object = r.object; column = r.column; set = r.set } ∷ cells_in rows) ≡ sum_by (lost d) (r ∷ rows) + stored_values
            (cells_in (map (swept d) (r ∷ rows)))) [
              | true ↦ λ h.
                  let is : swept d r ≡ record r { live = false; set = [] } =
                  ap (λ b. if b then (if contains (Object r.object) d then record r { live = false; set = [] } else record r { set = minus r.set d })
                  else r) e ∙ ap (λ b. if b then record r { live = false; set = [] } else record r { set = minus r.set d }) h in
                  let gone : lost d r ≡ length r.set = ap (λ (q : SetRow). length r.set - length q.set) is
                  ∙ (let z : length r.set - 0 ≡ length r.set = omega arith in z) in
                  let left : stored_values (cells_in (map (swept d) (r ∷ rows))) ≡ stored_values (cells_in (map (swept d) rows)) =
                  ap (λ (q : SetRow). stored_values (cons_option (live_cell q) (cells_in (map (swept d) rows)))) is in
                  omega (arith, rest, lost_here, whole, gone, left)
              | false ↦ λ h.
                  let is : swept d r ≡ record r { set = minus r.set d } =
                  ap (λ b. if b then (if contains (Object r.object) d then record r { live = false; set = [] } else record r { set = minus r.set d })
                  else r) e ∙ ap (λ b. if b then record r { live = false; set = [] } else record r { set = minus r.set d }) h in
                  let gone : lost d r ≡ length r.set - length (minus r.set d) = ap (λ (q : SetRow). length r.set - length q.set) is in
                  let part = sum_by-cons (λ (x : StoredCell). length x.set) (record { object = r.object; column = r.column; set = minus r.set d })
                  (cells_in (map (swept d) rows)) in
                  let left : stored_values (cells_in (map (swept d) (r ∷ rows))) ≡ stored_values
                  (record { object = r.object; column = r.column; set = minus r.set d } ∷ cells_in (map (swept d) rows)) =
                  ap (λ (q : SetRow). stored_values (cons_option (live_cell q) (cells_in (map (swept d) rows)))) is
                  ∙ ap (λ b. stored_values (cons_option (if b then Some (record { object = r.object; column = r.column; set = minus r.set d }) else None)
                  (cells_in (map (swept d) rows)))) e in
                  let less = short (λ v. not (contains v d)) r.set in
                  omega (arith, rest, lost_here, whole, gone, left, part, less)
            ] refl
        | false ↦ λ e.
            let is : swept d r ≡ r =
            ap (λ b. if b then (if contains (Object r.object) d then record r { live = false; set = [] } else record r { set = minus r.set d }) else r) e in
            let gone : lost d r ≡ 0 = ap (λ (q : SetRow). length r.set - length q.set) is ∙ (let z : length r.set - length r.set ≡ 0 = omega arith in z) in
            let left : stored_values (cells_in (map (swept d) (r ∷ rows))) ≡ stored_values (cells_in (map (swept d) rows)) =
            ap (λ (q : SetRow). stored_values (cons_option (live_cell q) (cells_in (map (swept d) rows)))) is
            ∙ ap (λ b. stored_values (cons_option (if b then Some (record { object = r.object; column = r.column; set = r.set }) else None)
            (cells_in (map (swept d) rows)))) e in
            omega (arith, rest, lost_here, gone, left)
      ] refl
