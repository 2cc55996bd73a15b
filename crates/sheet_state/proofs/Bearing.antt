-- The rows after an object was made.
use Rattle.std.proofs.Common.{◌≡◌, refl, sym, ap, ◌∙◌, subst, ℕ, ◌+◌, ◌<◌, zero, suc, Bool, true, false, cond, List, [], ◌∷◌, ◌++◌, length, arith, Option, Some}
use Rattle.std.proofs.Common.{None, append_assoc, length-append}
use Rattle.std.specs.Prelude.{not, ◌==◌, ◌&&◌, ◌||◌, if◌then◌else◌, map, filter, slice_set, slice_get, IsSome, position}
use Rattle.std.specs.List.{filter_map, flat_map, cons_option, enumerate_from, AllByRecursion}
use Rattle.std.specs.declared.cmp.Ordering.{Ordering}
use Rattle.std.specs.declared.cmp.Ordering.TheVariants.{Less, Equal, Greater}
use Rattle.std.specs.Ordering.{is_eq, nat_cmp, on, ordering_then}
use Rattle.std.specs.Cmp.{nat_cmp_is}
use Rattle.std.proofs.lemmas.List.{length_push, length-map}
use Rattle.std.proofs.lemmas.List.Sums.{sum_by-cons, sum_by-append}
use Rattle.std.proofs.lemmas.Grind.{flat_map-append}
use Rattle.sheet_values.specs.Sorted.{insert, by_order, IsRising, IsBelow}
use Rattle.sheet_values.specs.Order.{value_cmp}
use Rattle.sheet_values.specs.declared.value.Value.{Value}
use Rattle.sheet_values.specs.declared.value.Value.TheVariants.{Object}
use Rattle.sheet_columns.specs.Tree.{is_number}
use Rattle.sheet_columns.specs.declared.tree.Column.{Column}
use Rattle.sheet_columns.specs.declared.tree.Column.TheVariants as column
use Rattle.sheet_columns.specs.declared.tree.Node.{Node}
use Rattle.sheet_state_rows.specs.declared.row.ObjectRow.{ObjectRow}
use Rattle.sheet_state_rows.specs.declared.row.SetRow.{SetRow}
use Rattle.sheet_meaning.specs.Changes.{with_object, first_set}
use Rattle.sheet_meaning.specs.Workbook.{set_in, children_in, is_child, formula_cell, cells_of, formula_cells}
use Rattle.sheet_meaning.specs.WellFormed.{StateColumn, as_state, state_columns, state_cells, stored_values, cell_count}
use Rattle.sheet_meaning.specs.declared.workbook.ColumnFormula.{ColumnFormula}
use Rattle.sheet_meaning.specs.declared.workbook.LiveObject.{LiveObject}
use Rattle.sheet_meaning.specs.declared.workbook.StoredCell.{StoredCell}
use Rattle.sheet_meaning.proofs.Columns.{all_map, all_from}
use Rattle.sheet_meaning.specs.declared.workbook.State.{State}
use Rattle.sheet_state.specs.Births.{new_cell, new_extent, formula_columns, is_formula, firsts}
use Rattle.sheet_state.specs.Stored.{schema_of, book, as_formula, as_extent, object_columns}
use Rattle.sheet_state.specs.Rows.{cells_in, objects_in, object_of, row_cmp}
use Rattle.sheet_state.proofs.WithSet.{all_mono}
use Rattle.sheet_state.proofs.WithObject.{all_both}
use Rattle.sheet_state.proofs.Newborn.{newborn, column_cmp}

-- what the columns under a column give comes in the order of their numbers
module _ {A : Type 0} (f : ℕ → Column → Option A) (number : A → ℕ) (numbered : (k : ℕ) (c : Column) (a : A) → f k c ≡ Some a → number a ≡ k) (c : ℕ) where
  abbrev given : ℕ × Node → Option A
  given x = if is_number c x.1.above then f x.0 x.1.column else None

  numbered_by : (k : ℕ) (n : Node) (a : A) → given (k, n) ≡ Some a → number a ≡ k
  numbered_by k n a e =
      elim (is_number c n.above) as (λ b. (if b then f k n.column else None) ≡ Some a → number a ≡ k) [
        | true ↦ λ h. numbered k n.column a h
        | false ↦ λ h. cc
      ] e

  below_later : (a : A) (k : ℕ) (nodes : List Node) → number a < k → IsBelow (on number nat_cmp) a (filter_map given (enumerate_from k nodes))
  below_later a k [] lt = tt
  below_later a k (n ∷ nodes) lt =
      elim (given (k, n)) as (λ o. given (k, n) ≡ o → IsBelow (on number nat_cmp) a (cons_option o (filter_map given (enumerate_from (k + 1) nodes)))) [
        | None ↦ λ e. below_later a (k + 1) nodes (omega arith)
        | Some b ↦ λ e.
            let at = numbered_by k n b e in
            (sym (nat_cmp_is (number a) (number b) Less (omega arith)), below_later a (k + 1) nodes (omega arith))
      ] refl

  pub in_order : (k : ℕ) (nodes : List Node) → IsRising (on number nat_cmp) (filter_map given (enumerate_from k nodes))
  in_order k [] = tt
  in_order k (n ∷ nodes) =
      elim (given (k, n)) as (λ o. given (k, n) ≡ o → IsRising (on number nat_cmp) (cons_option o (filter_map given (enumerate_from (k + 1) nodes)))) [
        | None ↦ λ e. in_order (k + 1) nodes
        | Some b ↦ λ e. let at = numbered_by k n b e in (below_later b (k + 1) nodes (omega arith), in_order (k + 1) nodes)
      ] refl

state_number : (k : ℕ) (c : Column) (sc : StateColumn) → as_state k c ≡ Some sc → sc.number ≡ k
state_number k column.Object sc e = cc
state_number k (column.State kind one first) sc e =
    let same : record { number = k; kind = kind; one = one; first = first } ≡ sc = cc in ap (λ (s : StateColumn). s.number) (sym same)
state_number k (column.Formula kind) sc e = cc

extent_number : (k : ℕ) (c : Column) (j : ℕ) → as_extent k c ≡ Some j → j ≡ k
extent_number k column.Object j e = cc
extent_number k (column.State kind one first) j e = cc
extent_number k (column.Formula kind) j e = cc

pub states_rise : (nodes : List Node) (c : ℕ) → IsRising column_cmp (state_columns (schema_of nodes) c)
states_rise nodes c = in_order as_state (λ (s : StateColumn). s.number) state_number c 0 nodes

pub extents_rise : (nodes : List Node) (c : ℕ) → IsRising (on (λ (k : ℕ). k) nat_cmp) (object_columns nodes c)
extents_rise nodes c = in_order as_extent (λ (k : ℕ). k) extent_number c 0 nodes

-- two lists in order, the first below the second
rising_append : {A : Type 0} (cmp : A → A → Ordering) (xs ys : List A) → IsRising cmp xs → IsRising cmp ys → AllByRecursion (λ x. IsBelow cmp x ys) xs →
    IsRising cmp (xs ++ ys)
rising_append cmp [] ys r s h = s
rising_append {A} cmp (x ∷ xs) ys r s h = (below xs r.0, rising_append cmp xs ys r.1 s h.1)
  where
    below : (zs : List A) → IsBelow cmp x zs → IsBelow cmp x (zs ++ ys)
    below [] b = h.0
    below (z ∷ zs) b = (b.0, below zs b.1)

ties : (n : ℕ) → nat_cmp n n ≡ Equal
ties n = sym (nat_cmp_is n n Equal refl)

-- rows of one object, in the order of their columns
module _ {A : Type 0} (number : A → ℕ) (row_of : A → SetRow) (n : ℕ) (object : (a : A) → (row_of a).object ≡ n) (column : (a : A) →
    (row_of a).column ≡ number a) where
  same_object : (a b : A) → nat_cmp (number a) (number b) ≡ Less → row_cmp (row_of a) (row_of b) ≡ Less
  same_object a b e =
      ap (λ o. ordering_then (nat_cmp o (row_of b).object) (nat_cmp (row_of a).column (row_of b).column)) (object a)
      ∙ ap (λ o. ordering_then (nat_cmp n o) (nat_cmp (row_of a).column (row_of b).column)) (object b)
      ∙ ap (λ r. ordering_then r (nat_cmp (row_of a).column (row_of b).column)) (ties n)
      ∙ ap (λ k. nat_cmp k (row_of b).column) (column a)
      ∙ ap (nat_cmp (number a)) (column b)
      ∙ e

  below_rows : (a : A) (us : List A) → IsBelow (on number nat_cmp) a us → IsBelow row_cmp (row_of a) (map row_of us)
  below_rows a [] b = tt
  below_rows a (x ∷ xs) b = (same_object a x b.0, below_rows a xs b.1)

  rows_rise : (us : List A) → IsRising (on number nat_cmp) us → IsRising row_cmp (map row_of us)
  rows_rise [] r = tt
  rows_rise (a ∷ us) r = (below_rows a us r.0, rows_rise us r.1)

  older_below : (r : SetRow) → r.object < n → (us : List A) → IsBelow row_cmp r (map row_of us)
  older_below r lt [] = tt
  older_below r lt (a ∷ us) = (
    ap (λ o. ordering_then (nat_cmp r.object o) (nat_cmp r.column (row_of a).column)) (object a)
        ∙ ap (λ x. ordering_then x (nat_cmp r.column (row_of a).column)) (sym (nat_cmp_is r.object n Less lt)),
    older_below r lt us,
  )

  pub grown_rising : (rows : List SetRow) (us : List A) → IsRising row_cmp rows → AllByRecursion (λ (r : SetRow). r.object < n) rows →
      IsRising (on number nat_cmp) us → IsRising row_cmp (rows ++ map row_of us)
  grown_rising rows us r drawn s =
      rising_append row_cmp rows (map row_of us) r (rows_rise us s)
      (all_mono (λ (q : SetRow). q.object < n) (λ (q : SetRow). IsBelow row_cmp q (map row_of us)) (λ q h. older_below q h us) rows drawn)

  pub grown_drawn : (rows : List SetRow) (us : List A) → AllByRecursion (λ (r : SetRow). r.object < n) rows →
      AllByRecursion (λ (r : SetRow). r.object < n + 1) (rows ++ map row_of us)
  grown_drawn rows us drawn =
      all_both (λ (r : SetRow). r.object < n + 1) rows (map row_of us)
      (all_mono (λ (r : SetRow). r.object < n) (λ (r : SetRow). r.object < n + 1) (λ r h. omega arith) rows drawn)
      (all_map (λ (r : SetRow). r.object < n + 1) row_of us (all_from (λ (a : A). (row_of a).object < n + 1) us (λ a i. let o = object a in omega arith)))

pub live_cells : (n : ℕ) (scs : List StateColumn) → cells_in (map (new_cell n) scs) ≡ map (newborn n) scs
live_cells n [] = refl
live_cells n (k ∷ ks) = ap (λ l. newborn n k ∷ l) (live_cells n ks)

abbrev pub empty_extent : ℕ → ℕ → StoredCell
empty_extent n k = record { object = n; column = k; set = [] }

pub live_extents : (n : ℕ) (ks : List ℕ) → cells_in (map (new_extent n) ks) ≡ map (empty_extent n) ks
live_extents n [] = refl
live_extents n (k ∷ ks) = ap (λ l. empty_extent n k ∷ l) (live_extents n ks)

pub no_children : (n : ℕ) (ks : List ℕ) (o k : ℕ) → set_in (map (empty_extent n) ks) o k ≡ []
no_children n [] o k = refl
no_children n (j ∷ js) o k =
    elim (n == o && j == k) as (λ b. (if b then [] else set_in (map (empty_extent n) js) o k) ≡ []) [ true ↦ refl | false ↦ no_children n js o k ]

first_length : (o : Option Value) (rest : List Value) → length (first_set o) + length rest ≡ length (cons_option o rest)
first_length None rest = omega arith
first_length (Some v) rest = omega arith

pub first_values : (n : ℕ) (scs : List StateColumn) → stored_values (map (newborn n) scs) ≡ length (firsts scs)
first_values n [] = refl
first_values n (k ∷ ks) =
    let more = sum_by-cons (λ (x : StoredCell). length x.set) (newborn n k) (map (newborn n) ks) in
    let rest = first_values n ks in
    let l = first_length k.first (firsts ks) in
    omega (arith, more, rest, l)

-- the greatest value goes to the end
pub insert_last : (n : ℕ) (objects : List LiveObject) (o c : ℕ) → AllByRecursion (λ (x : LiveObject). x.number < n) objects →
    insert value_cmp (Object n) (children_in objects o c) ≡ children_in objects o c ++ Object n ∷ []
insert_last n [] o c h = refl
insert_last n (x ∷ xs) o c h =
    elim (is_child o c x)
    as (λ b. insert value_cmp (Object n) (map (λ (y : LiveObject). Object y.number) (cond b (x ∷ filter (is_child o c) xs) (filter (is_child o c) xs))) ≡
    map (λ (y : LiveObject). Object y.number) (cond b (x ∷ filter (is_child o c) xs) (filter (is_child o c) xs)) ++ Object n ∷ []) [
      | true ↦
          ap (λ r. by_order r (Object n ∷ Object x.number ∷ children_in xs o c) (Object x.number ∷ children_in xs o c)
          (Object x.number ∷ insert value_cmp (Object n) (children_in xs o c))) (sym (nat_cmp_is n x.number Greater h.0))
          ∙ ap (λ l. Object x.number ∷ l) (insert_last n xs o c h.1)
      | false ↦ insert_last n xs o c h.1
    ]

-- the live ones of drawn rows
pub live_drawn : (n : ℕ) (rows : List ObjectRow) → AllByRecursion (λ (r : ObjectRow). r.number < n) rows →
    AllByRecursion (λ (x : LiveObject). x.number < n) (objects_in rows)
live_drawn n [] h = tt
live_drawn n (r ∷ rows) h =
    elim r.live as (λ b. AllByRecursion (λ (x : LiveObject). x.number < n) (cons_option (if b then Some (object_of r) else None) (objects_in rows))) [
      | true ↦ (h.0, live_drawn n rows h.1)
      | false ↦ live_drawn n rows h.1
    ]

pub cells_drawn : (n : ℕ) (rows : List SetRow) → AllByRecursion (λ (r : SetRow). r.object < n) rows →
    AllByRecursion (λ (x : StoredCell). x.object < n) (cells_in rows)
cells_drawn n [] h = tt
cells_drawn n (r ∷ rows) h =
    elim r.live as (λ b.
    AllByRecursion (λ (x : StoredCell). x.object < n) (cons_option (if b then Some (record { object = r.object; column = r.column; set = r.set }) else None)
    (cells_in rows))) [
      | true ↦ (h.0, cells_drawn n rows h.1)
      | false ↦ cells_drawn n rows h.1
    ]

-- each element with its index
abbrev IsNumbered : List Node → ℕ × Node → Type 0
IsNumbered nodes x = slice_get nodes x.0 ≡ Some x.1

numbered_from : (pre nodes : List Node) (k : ℕ) → k ≡ length pre → AllByRecursion (IsNumbered (pre ++ nodes)) (enumerate_from k nodes)
numbered_from pre [] k e = tt
numbered_from pre (n ∷ nodes) k e =
    let long = length_push pre n in (
      got pre n nodes k e,
      subst (λ l. AllByRecursion (IsNumbered l) (enumerate_from (k + 1) nodes)) (append_assoc pre (n ∷ []) nodes)
          (numbered_from (pre ++ n ∷ []) nodes (k + 1) (omega arith)),
    )
  where
    got : (xs : List Node) (x : Node) (ys : List Node) (j : ℕ) → j ≡ length xs → slice_get (xs ++ x ∷ ys) j ≡ Some x
    got [] x ys j h = ap (slice_get (x ∷ ys)) h
    got (z ∷ zs) x ys zero h = absurd (omega arith)
    got (z ∷ zs) x ys (suc j) h = got zs x ys j (omega arith)

-- as many formula cells as formula columns
module _ (nodes : List Node) (o c : ℕ) where
  one_formula : (x : ℕ × Node) → IsNumbered nodes x → (fs : List ColumnFormula) (ks : List ℕ) →
      length (filter_map (formula_cell (schema_of nodes) o c) fs) ≡ length ks → (col : Column) →
      length (filter_map (formula_cell (schema_of nodes) o c) (cons_option (as_formula x.0 col) fs)) ≡ length
      (cons_option (if is_number c x.1.above then is_formula x.0 col else None) ks)
  one_formula x at fs ks e column.Object = e ∙ skip (is_number c x.1.above)
    where
      skip : (b : Bool) → length ks ≡ length (cons_option (if b then None else None) ks)
      skip true = refl
      skip false = refl
  one_formula x at fs ks e (column.State kind one first) = e ∙ skip (is_number c x.1.above)
    where
      skip : (b : Bool) → length ks ≡ length (cons_option (if b then None else None) ks)
      skip true = refl
      skip false = refl
  one_formula x at fs ks e (column.Formula kind) =
      ap (λ q. length (cons_option
      (if is_number c q then Some (record { object = o; column = x.0; core = Rattle.sheet_columns.specs.declared.formula.Core.TheVariants.Truth true })
      else None) (filter_map (formula_cell (schema_of nodes) o c) fs))) (ap (Rattle.std.specs.Prelude.option_and_then (λ (m : Node). m.above)) at)
      ∙ both (is_number c x.1.above)
    where
      both : (b : Bool) →
          length (cons_option
          (if b then Some (record { object = o; column = x.0; core = Rattle.sheet_columns.specs.declared.formula.Core.TheVariants.Truth true }) else None)
          (filter_map (formula_cell (schema_of nodes) o c) fs)) ≡ length (cons_option (if b then Some x.0 else None) ks)
      both true = ap suc e
      both false = e

  all_formulas : (xs : List (ℕ × Node)) → AllByRecursion (IsNumbered nodes) xs →
      length (filter_map (formula_cell (schema_of nodes) o c) (filter_map (λ (x : ℕ × Node). as_formula x.0 x.1.column) xs)) ≡ length
      (filter_map (λ (x : ℕ × Node). if is_number c x.1.above then is_formula x.0 x.1.column else None) xs)
  all_formulas [] h = refl
  all_formulas (x ∷ xs) h =
      one_formula x h.0 (filter_map (λ (y : ℕ × Node). as_formula y.0 y.1.column) xs)
      (filter_map (λ (y : ℕ × Node). if is_number c y.1.above then is_formula y.0 y.1.column else None) xs) (all_formulas xs h.1) x.1.column

  pub formulas_counted : length (cells_of (schema_of nodes) o c) ≡ length (formula_columns nodes c)
  formulas_counted = all_formulas (enumerate_from 0 nodes) (numbered_from [] nodes 0 refl)

module _ (nodes : List Node) (s : State) (c p : ℕ) where
  abbrev after : State
  after = with_object (schema_of nodes) s c p

  pub objects_counted : length after.objects ≡ length s.objects + 1
  objects_counted = length_push s.objects (record { number = s.next; column = c; parent = Some p })

  pub cells_counted : cell_count (book nodes after) ≡ cell_count
      (book nodes s) + (length (state_columns (schema_of nodes) c) + length (formula_columns nodes c))
  cells_counted =
      let new : LiveObject = record { number = s.next; column = c; parent = Some p } in
      let scs = state_columns (schema_of nodes) c in
      let states = ap length (flat_map-append (λ (x : LiveObject). map (λ (k : StateColumn). (x.number, k.number)) (state_columns (schema_of nodes) x.column))
      s.objects (new ∷ [])) ∙ length-append {A = ℕ × ℕ} (state_cells (book nodes s)) (map (λ (k : StateColumn). (s.next, k.number)) scs ++ []) in
      let new_states = length-append {A = ℕ × ℕ} (map (λ (k : StateColumn). (s.next, k.number)) scs) [] in
      let as_many = length-map {B = ℕ × ℕ} scs (λ (k : StateColumn). (s.next, k.number)) in
      let formulas = ap length (flat_map-append (λ (x : LiveObject). cells_of (schema_of nodes) x.number x.column) s.objects (new ∷ []))
      ∙ length-append (formula_cells (book nodes s)) (cells_of (schema_of nodes) s.next c ++ []) in
      let new_formulas = length-append (cells_of (schema_of nodes) s.next c) [] in
      let counted = formulas_counted nodes s.next c in
      omega (arith, states, new_states, as_many, formulas, new_formulas, counted)

  pub values_counted : stored_values after.cells ≡ stored_values s.cells + length (firsts (state_columns (schema_of nodes) c))
  values_counted =
      sum_by-append (λ (x : StoredCell). length x.set) s.cells (map (newborn s.next) (state_columns (schema_of nodes) c))
      ∙ ap (λ k. stored_values s.cells + k) (first_values s.next (state_columns (schema_of nodes) c))
