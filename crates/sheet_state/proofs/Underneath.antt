-- What stands under an object, by the rows of the extents and by the objects themselves.
use Rattle.std.proofs.Common.{◌≡◌, refl, sym, ap, ◌∙◌, subst, ℕ, ◌<◌, ◌≤◌, zero, suc, Bool, true, false, cond, List, [], ◌∷◌, length, get_or, arith, Option}
use Rattle.std.proofs.Common.{Some, None, eq-eqb, inl, inr}
use Rattle.std.specs.Prelude.{position, map, filter, ◌==◌, ◌&&◌, ◌||◌, if◌then◌else◌}
use Rattle.std.specs.List.{list_any, AllByRecursion}
use Rattle.std.specs.declared.cmp.Ordering.{Ordering}
use Rattle.std.specs.declared.cmp.Ordering.TheVariants.{Less, Equal, Greater}
use Rattle.std.specs.Ordering.{is_eq, nat_cmp, on, ordering_then}
use Rattle.std.specs.Cmp.{nat_cmp_is}
use Rattle.std.proofs.lemmas.Bool.{eqb-true, cases_lt}
use Rattle.sheet_values.specs.Sorted.{IsBelow, IsRising}
use Rattle.sheet_values.specs.Order.{value_cmp}
use Rattle.sheet_values.specs.Sets.{contains}
use Rattle.sheet_values.specs.declared.value.Value.TheVariants.{Object}
use Rattle.sheet_columns.specs.Tree.{is_number}
use Rattle.sheet_state_rows.specs.Rows.{Table, set_row}
use Rattle.sheet_state_rows.specs.declared.row.ObjectRow.{ObjectRow}
use Rattle.sheet_state_rows.specs.declared.row.SetRow.{SetRow}
use Rattle.sheet_meaning.specs.Workbook.{object_at, children_in, is_child, set_in}
use Rattle.sheet_meaning.specs.declared.workbook.LiveObject.{LiveObject}
use Rattle.sheet_meaning.proofs.Members.{IsIn, both_true}
use Rattle.sheet_state_references.specs.Below.{NeverFalls, holds_under, stands_under}
use Rattle.sheet_state_references.proofs.Inserted.{value_is}
use Rattle.sheet_state_references.proofs.Numbers.{ties}
use Rattle.sheet_state.specs.Rows.{is_object, is_set, objects_in, cells_in, object_cmp, row_cmp, IsSound}
use Rattle.sheet_state.proofs.Lookups.{first_at, first_read, set_found, set_first, set_skip}
use Rattle.sheet_state.proofs.Searching.{found, objects_follow, rows_follow, object_tests, set_tests}
use Rattle.sheet_state_references.proofs.Searched.{nat_less, right, one_of}

abbrev none : SetRow
none = record { object = 0; column = 0; live = false; set = [] }

pub all_in : {A : Type 0} (P : A → Type 0) (xs : List A) (x : A) → AllByRecursion P xs → IsIn x xs → P x
all_in P [] x h i = absurd i
all_in {A} P (y ∷ ys) x h i = elim i [ inl e ↦ subst P (sym e) h.0 | inr j ↦ all_in P ys x h.1 j ]

pub all_at : {A : Type 0} (P : A → Type 0) (xs : List A) (k : ℕ) (d : A) → AllByRecursion P xs → k < length xs → P (get_or xs k d)
all_at P [] k d h lt = absurd (omega arith)
all_at P (y ∷ ys) zero d h lt = h.0
all_at P (y ∷ ys) (suc k) d h lt = all_at P ys k d h.1 (omega arith)

below_at : {A : Type 0} (cmp : A → A → Ordering) (x : A) (xs : List A) (k : ℕ) (d : A) → IsBelow cmp x xs → k < length xs → cmp x (get_or xs k d) ≡ Less
below_at cmp x [] k d b lt = absurd (omega arith)
below_at cmp x (y ∷ ys) zero d b lt = b.0
below_at cmp x (y ∷ ys) (suc k) d b lt = below_at cmp x ys k d b.1 (omega arith)

rising_at : {A : Type 0} (cmp : A → A → Ordering) (xs : List A) (i j : ℕ) (d : A) → IsRising cmp xs → i < j → j < length xs →
    cmp (get_or xs i d) (get_or xs j d) ≡ Less
rising_at cmp [] i j d r lt h = absurd (omega arith)
rising_at cmp (x ∷ xs) i zero d r lt h = absurd (omega arith)
rising_at cmp (x ∷ xs) zero (suc j) d r lt h = below_at cmp x xs j d r.0 (omega arith)
rising_at cmp (x ∷ xs) (suc i) (suc j) d r lt h = rising_at cmp xs i j d r.1 (omega arith) (omega arith)

row_less : (x y : SetRow) → row_cmp x y ≡ Less → x.object ≤ y.object
row_less x y e =
    elim (cases_lt y.object x.object) [
      | inl gt ↦
          let above : nat_cmp x.object y.object ≡ Greater = sym (nat_cmp_is x.object y.object Greater gt) in
          let clash : Greater ≡ Less = sym (ap (λ o. ordering_then o (nat_cmp x.column y.column)) above) ∙ e in
          cc
      | inr le ↦ omega arith
    ]

pub never_falls : (rows : List SetRow) → IsRising row_cmp rows → NeverFalls rows
never_falls rows r i j le lt =
    elim (cases_lt i j) [
      | inl less ↦ row_less (set_row rows i) (set_row rows j) (rising_at row_cmp rows i j none r less lt)
      | inr ge ↦ let same : i ≡ j = omega arith in let e = ap (λ k. (set_row rows k).object) same in omega (arith, e)
    ]

equal : (n : ℕ) → nat_cmp n n ≡ Equal
equal n = sym (nat_cmp_is n n Equal refl)

-- the row of what is there is found where it stands
pub object_placed : (rows : List ObjectRow) (k : ℕ) (d : ObjectRow) → IsRising object_cmp rows → k < length rows → (get_or rows k d).live ≡ true →
    position (is_object (get_or rows k d).number) rows ≡ Some k
object_placed rows k d r lt live =
    let n = (get_or rows k d).number in
    sym (object_tests n rows) ∙ found object_cmp (λ (q : ObjectRow). nat_cmp q.number n) (λ (q : ObjectRow). q.live) (objects_follow n) rows k d r lt (equal n)
    ∙ ap (λ b. if b then Some k else None) live

pub set_placed : (rows : List SetRow) (k : ℕ) → IsRising row_cmp rows → k < length rows → (set_row rows k).live ≡ true →
    position (is_set (set_row rows k).object (set_row rows k).column) rows ≡ Some k
set_placed rows k r lt live =
    let o = (set_row rows k).object in
    let c = (set_row rows k).column in
    sym (set_tests o c rows)
    ∙ found row_cmp (λ (q : SetRow). ordering_then (nat_cmp q.object o) (nat_cmp q.column c)) (λ (q : SetRow). q.live) (rows_follow o c) rows k none r lt
    (ap (λ x. ordering_then x (nat_cmp c c)) (equal o) ∙ equal c)
    ∙ ap (λ b. if b then Some k else None) live

-- what it holds is what is kept there
pub row_held : (rows : List SetRow) (k : ℕ) → IsRising row_cmp rows → k < length rows → (set_row rows k).live ≡ true →
    set_in (cells_in rows) (set_row rows k).object (set_row rows k).column ≡ (set_row rows k).set
row_held rows k r lt live =
    let o = (set_row rows k).object in
    let c = (set_row rows k).column in
    let f = first_at (is_set o c) rows k (set_placed rows k r lt live) in
    set_found o c rows k f.0 f.1 ∙ ap (λ (q : SetRow). q.set) (sym (first_read (is_set o c) rows k f.0 none f.1))

some_at : {A : Type 0} (p : A → Bool) (xs : List A) (d : A) → list_any p xs ≡ true → (k : ℕ) × (k < length xs) × (p (get_or xs k d) ≡ true)
some_at p [] d e = cc
some_at {A} p (x ∷ xs) d e =
    elim (one_of (p x) (list_any p xs) e) [
      | inl h ↦ (0, omega arith, h)
      | inr h ↦ let rest = some_at p xs d h in let lt = rest.1 in (suc rest.0, omega arith, rest.2)
    ]

under_parent : (p : ℕ) (q : Option ℕ) → is_number p q ≡ true → q ≡ Some p
under_parent p None e = cc
under_parent p (Some j) e = ap Some (sym (eqb-true p j e))

-- an object among the objects under another
pub record Child (xs : List LiveObject) (p n : ℕ) : Type 0 where
  pub object : LiveObject
  pub is_there : IsIn object xs
  pub number : object.number ≡ n
  pub parent : object.parent ≡ Some p

child_in : (xs : List LiveObject) (p c n : ℕ) → contains (Object n) (children_in xs p c) ≡ true → (k : Child xs p n) × (k.object.column ≡ c)
child_in [] p c n h = cc
child_in (x ∷ xs) p c n h =
    elim (is_child p c x) as (λ b. is_child p c x ≡ b →
    contains (Object n) (map (λ (y : LiveObject). Object y.number) (cond b (x ∷ filter (is_child p c) xs) (filter (is_child p c) xs))) ≡ true →
    (k : Child (x ∷ xs) p n) × (k.object.column ≡ c)) [
      | true ↦ λ e g. elim (one_of (is_eq (value_cmp (Object n) (Object x.number))) (contains (Object n) (children_in xs p c)) g) [
        | inl same ↦
            let is : Object n ≡ Object x.number = value_is (Object n) (Object x.number) same in
            let number : x.number ≡ n = cc in
            let h = both_true (x.column == c) (is_number p x.parent) e in
            (record { object = x; is_there = inl refl; number = number; parent = under_parent p x.parent h.1 }, eqb-true x.column c h.0)
        | inr more ↦ later (child_in xs p c n more)
      ]
      | false ↦ λ e g. later (child_in xs p c n g)
    ] refl h
  where
    later : ((k : Child xs p n) × (k.object.column ≡ c)) → (k : Child (x ∷ xs) p n) × (k.object.column ≡ c)
    later k = (record { object = k.0.object; is_there = inr k.0.is_there; number = k.0.number; parent = k.0.parent }, k.1)

child_held : (xs : List LiveObject) (x : LiveObject) (p : ℕ) → IsIn x xs → x.parent ≡ Some p → contains (Object x.number) (children_in xs p x.column) ≡ true
child_held [] x p i e = absurd i
child_held (y ∷ ys) x p i e =
    elim (is_child p x.column y) as (λ b. is_child p x.column y ≡ b →
    contains (Object x.number) (map (λ (z : LiveObject). Object z.number) (cond b (y ∷ filter (is_child p x.column) ys) (filter (is_child p x.column) ys)))
    ≡ true) [
      | true ↦ λ t. elim i [
        | inl same ↦ ap (λ b. b || contains (Object x.number) (children_in ys p x.column))
            (ap (λ (z : LiveObject). is_eq (value_cmp (Object x.number) (Object z.number))) (sym same) ∙ itself x.number)
        | inr j ↦ right (is_eq (value_cmp (Object x.number) (Object y.number))) (contains (Object x.number) (children_in ys p x.column)) (child_held ys x p j e)
      ]
      | false ↦ λ t. elim i [
        | inl same ↦
            let hit : is_child p x.column y ≡ true = ap (is_child p x.column) (sym same) ∙ ap (λ b. b && is_number p x.parent) (eq-eqb x.column x.column refl)
            ∙ ap (is_number p) e ∙ eq-eqb p p refl in
            cc
        | inr j ↦ child_held ys x p j e
      ]
    ] refl
  where
    itself : (n : ℕ) → is_eq (value_cmp (Object n) (Object n)) ≡ true
    itself n = ties n n ∙ eq-eqb n n refl

held_under : (rows : List SetRow) (p c n : ℕ) → contains (Object n) (set_in (cells_in rows) p c) ≡ true → stands_under rows p n ≡ true
held_under [] p c n h = cc
held_under (q ∷ rows) p c n h =
    elim (is_set p c q) as (λ b. is_set p c q ≡ b → stands_under (q ∷ rows) p n ≡ true) [
      | true ↦ λ e.
          let live = both_true q.live (q.object == p && q.column == c) e in
          let key = both_true (q.object == p) (q.column == c) live.1 in
          let holds : contains (Object n) q.set ≡ true = ap (contains (Object n)) (sym (set_first p c q (cells_in rows) e)) ∙ h in
          ap (λ b. b || stands_under rows p n) (ap (λ b. b && (q.object == p && contains (Object n) q.set)) live.0
          ∙ ap (λ b. b && contains (Object n) q.set) key.0 ∙ holds)
      | false ↦ λ e. right (holds_under p n q) (stands_under rows p n)
          (held_under rows p c n (ap (contains (Object n)) (sym (set_skip p c q (cells_in rows) e)) ∙ h))
    ] refl

-- a row that holds an object under another
pub record HoldingRow (rows : List SetRow) (p n : ℕ) : Type 0 where
  pub place : ℕ
  pub within : place < length rows
  pub live : (set_row rows place).live ≡ true
  pub object : (set_row rows place).object ≡ p
  pub holds : contains (Object n) (set_row rows place).set ≡ true

holding : (rows : List SetRow) (p n : ℕ) → stands_under rows p n ≡ true → HoldingRow rows p n
holding rows p n u =
    let s = some_at (holds_under p n) rows none u in
    let r = set_row rows s.0 in
    let live = both_true r.live (r.object == p && contains (Object n) r.set) s.2 in
    let more = both_true (r.object == p) (contains (Object n) r.set) live.1 in
    record { place = s.0; within = s.1; live = live.0; object = eqb-true r.object p more.0; holds = more.1 }

module _ (t : Table) (sound : IsSound t) where
  abbrev xs : List LiveObject
  xs = objects_in t.objects

  -- what a row of an extent holds stands under its object, in its column
  pub row_child : (k n : ℕ) → k < length t.extents → (set_row t.extents k).live ≡ true → contains (Object n) (set_row t.extents k).set ≡ true →
      (c : Child xs (set_row t.extents k).object n) × (c.object.column ≡ (set_row t.extents k).column)
  row_child k n lt live h =
      let r = set_row t.extents k in
      child_in xs r.object r.column n (ap (contains (Object n)) (sym (sound.children r.object r.column) ∙ row_held t.extents k sound.extents lt live) ∙ h)

  pub up_child : (p n : ℕ) → stands_under t.extents p n ≡ true → Child xs p n
  up_child p n u =
      let w = holding t.extents p n u in
      subst (λ q. Child xs q n) w.object (row_child w.place n w.within w.live w.holds).0

  pub down_child : (x : LiveObject) (p : ℕ) → IsIn x xs → x.parent ≡ Some p → stands_under t.extents p x.number ≡ true
  down_child x p i e = held_under t.extents p x.column x.number (ap (contains (Object x.number)) (sound.children p x.column) ∙ child_held xs x p i e)

abbrev by_number : LiveObject → LiveObject → Ordering
by_number = on (λ (x : LiveObject). x.number) nat_cmp

below_in : (y : LiveObject) (xs : List LiveObject) (x : LiveObject) → IsBelow by_number y xs → IsIn x xs → y.number < x.number
below_in y [] x b i = absurd i
below_in y (z ∷ zs) x b i =
    elim i [
      | inl e ↦ let less = nat_less y.number z.number b.0 in let same = ap (λ (w : LiveObject). w.number) e in omega (arith, less, same)
      | inr j ↦ below_in y zs x b.1 j
    ]

-- an object that is there is the one with its number
pub in_live : (xs : List LiveObject) (x : LiveObject) → IsRising by_number xs → IsIn x xs → object_at xs x.number ≡ Some x
in_live [] x r i = absurd i
in_live (y ∷ ys) x r i =
    elim i [
      | inl e ↦ ap (λ b. if b then Some y else object_at ys x.number) (eq-eqb y.number x.number (ap (λ (w : LiveObject). w.number) (sym e))) ∙ ap Some (sym e)
      | inr j ↦
          let less = below_in y ys x r.0 j in
          elim (y.number == x.number) as (λ b. (y.number == x.number) ≡ b → (if b then Some y else object_at ys x.number) ≡ Some x) [
            | true ↦ λ t. let same = eqb-true y.number x.number t in absurd (omega arith)
            | false ↦ λ t. in_live ys x r.1 j
          ] refl
    ]
