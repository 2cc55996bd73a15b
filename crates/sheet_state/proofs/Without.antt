-- A workbook without an object and all below it.
use Rattle.std.proofs.Common.{◌≡◌, refl, sym, ap, ◌∙◌, ℕ, ◌+◌, ◌<◌, ◌≤◌, suc, Bool, true, false, cond, List, [], ◌∷◌, ◌++◌, length, arith, Option, Some, None}
use Rattle.std.proofs.Common.{eq-eqb, length-append}
use Rattle.std.specs.Prelude.{not, ◌==◌, ◌||◌, if◌then◌else◌, map, filter, fold, sum_by}
use Rattle.std.specs.List.{flat_map, AllByRecursion}
use Rattle.std.specs.declared.cmp.Ordering.{Ordering}
use Rattle.std.specs.Ordering.{nat_cmp, on}
use Rattle.std.specs.Cmp.{nat_cmp_total, on_total}
use Rattle.std.proofs.lemmas.Bool.{eqb-true}
use Rattle.std.proofs.lemmas.List.{length-map}
use Rattle.std.proofs.lemmas.List.Sums.{sum_by-cons}
use Rattle.sheet_values.specs.Sorted.{IsBelow, IsRising}
use Rattle.sheet_values.specs.Order.{value_cmp}
use Rattle.sheet_values.specs.OrderLaws.{value_total}
use Rattle.sheet_values.proofs.Merging.{filter_rising}
use Rattle.sheet_values.specs.declared.value.Kind.{Kind}
use Rattle.sheet_values.specs.declared.value.Kind.TheVariants as kind
use Rattle.sheet_values.specs.declared.value.Value.{Value}
use Rattle.sheet_values.specs.declared.value.Value.TheVariants.{Truth, Number, Text, Object}
use Rattle.sheet_columns.specs.Tree.{column_of}
use Rattle.sheet_columns.specs.declared.tree.Column.{Column}
use Rattle.sheet_columns.specs.declared.tree.Column.TheVariants as column
use Rattle.sheet_columns.specs.declared.tree.Node.{Node}
use Rattle.sheet_meaning.specs.Changes.{has_number, has_parent_in, family, is_other, without}
use Rattle.sheet_meaning.specs.Workbook.{object_at, column_in, children_in, is_child, cells_of, formula_cells}
use Rattle.sheet_meaning.specs.WellFormed.{StateColumn, state_columns, state_cells, cell_count, stored_values, IsUnder, HasKind, HoldsKind, IsWellFormed}
use Rattle.sheet_meaning.specs.declared.workbook.LiveObject.{LiveObject}
use Rattle.sheet_meaning.specs.declared.workbook.StoredCell.{StoredCell}
use Rattle.sheet_meaning.specs.declared.workbook.State.{State}
use Rattle.sheet_state.specs.Births.{formula_columns}
use Rattle.sheet_state.specs.Stored.{schema_of, book}
use Rattle.sheet_state.proofs.Bearing.{formulas_counted}
use Rattle.sheet_state.proofs.Existing.{key}
use Rattle.sheet_state.proofs.Family.{has_more}
use Rattle.sheet_state.proofs.WithSet.{all_mono}
use Rattle.sheet_state_references.proofs.Searched.{nat_less}

abbrev pub step : ℕ → List ℕ → LiveObject → List ℕ
step o ns x = if x.number == o || has_parent_in ns x.parent then ns ++ x.number ∷ [] else ns

pub differs : (a b : ℕ) → (a ≡ b → ⊥) → (a == b) ≡ false
differs a b ne = elim (a == b) as (λ t. (a == b) ≡ t → t ≡ false) [ true ↦ λ e. absurd (ne (eqb-true a b e)) | false ↦ λ e. refl ] refl

-- a step changes nothing for other numbers
pub step_other : (o : ℕ) (ns : List ℕ) (x : LiveObject) (m : ℕ) → (x.number ≡ m → ⊥) → has_number (step o ns x) m ≡ has_number ns m
step_other o ns x m ne =
    elim (x.number == o || has_parent_in ns x.parent) as (λ b. has_number (if b then ns ++ x.number ∷ [] else ns) m ≡ has_number ns m) [
      | true ↦ has_more ns x.number m ∙ ap (λ b. b || has_number ns m) (differs x.number m ne)
      | false ↦ refl
    ]

-- nor do steps of later objects
steps_later : (o : ℕ) (xs : List LiveObject) (ns : List ℕ) (m : ℕ) → AllByRecursion (λ (x : LiveObject). m < x.number) xs →
    has_number (fold (step o) ns xs) m ≡ has_number ns m
steps_later o [] ns m h = refl
steps_later o (x ∷ xs) ns m h =
    let lt = h.0 in
    steps_later o xs (step o ns x) m h.1 ∙ step_other o ns x m (λ e. omega arith)

-- the root has the number 0, and others stand under lower numbers
abbrev pub IsLower : ℕ → Option ℕ → Type 0
IsLower n None = n ≡ 0
IsLower n (Some p) = p < n

abbrev by_number : LiveObject → LiveObject → Ordering
by_number = on (λ (x : LiveObject). x.number) nat_cmp

below_all : (x : LiveObject) (xs : List LiveObject) → IsBelow by_number x xs → AllByRecursion (λ (y : LiveObject). x.number < y.number) xs
below_all x [] b = tt
below_all x (y ∷ ys) b = (nat_less x.number y.number b.0, below_all x ys b.1)

-- an object is in the family where it is the object itself, or its parent is in the family
abbrev pub IsClosed : ℕ → List ℕ → LiveObject → Type 0
IsClosed o ns x = has_number ns x.number ≡ (x.number == o || has_parent_in ns x.parent)

closed : (o : ℕ) (xs : List LiveObject) (ns : List ℕ) → IsRising by_number xs → AllByRecursion (λ (x : LiveObject). IsLower x.number x.parent) xs →
    AllByRecursion (λ (x : LiveObject). has_number ns x.number ≡ false) xs → AllByRecursion (IsClosed o (fold (step o) ns xs)) xs
closed o [] ns r lower fresh = tt
closed o (x ∷ xs) ns r lower fresh = (
  steps_later o xs (step o ns x) x.number above ∙ here (x.number == o || has_parent_in ns x.parent)
      ∙ ap (λ b. x.number == o || b) (sym (parents x.parent lower.0)),
  closed o xs (step o ns x) r.1 lower.1 (still xs above fresh.1),
)
  where
    above : AllByRecursion (λ (y : LiveObject). x.number < y.number) xs
    above = below_all x xs r.0

    here : (b : Bool) → has_number (if b then ns ++ x.number ∷ [] else ns) x.number ≡ b
    here true = has_more ns x.number x.number ∙ ap (λ b. b || has_number ns x.number) (eq-eqb x.number x.number refl)
    here false = fresh.0

    parents : (p : Option ℕ) → IsLower x.number p → has_parent_in (fold (step o) ns (x ∷ xs)) p ≡ has_parent_in ns p
    parents None h = refl
    parents (Some p) h =
        steps_later o xs (step o ns x) p (all_mono (λ (y : LiveObject). x.number < y.number) (λ (y : LiveObject). p < y.number) (λ y lt. omega arith) xs above)
        ∙ step_other o ns x p (λ e. omega arith)

    still : (ys : List LiveObject) → AllByRecursion (λ (y : LiveObject). x.number < y.number) ys →
        AllByRecursion (λ (y : LiveObject). has_number ns y.number ≡ false) ys →
        AllByRecursion (λ (y : LiveObject). has_number (step o ns x) y.number ≡ false) ys
    still [] a f = tt
    still (y ∷ ys) a f = (let lt = a.0 in step_other o ns x y.number (λ e. omega arith) ∙ f.0, still ys a.1 f.1)

-- the root isn't below any other
rootless : (o : ℕ) → 0 < o → (xs : List LiveObject) (ns : List ℕ) → AllByRecursion (λ (x : LiveObject). IsLower x.number x.parent) xs →
    has_number (fold (step o) ns xs) 0 ≡ has_number ns 0
rootless o positive [] ns h = refl
rootless o positive (x ∷ xs) ns h = rootless o positive xs (step o ns x) h.1 ∙ at x.parent h.0 refl
  where
    at : (p : Option ℕ) → IsLower x.number p → x.parent ≡ p → has_number (step o ns x) 0 ≡ has_number ns 0
    at None root e =
        let no : (x.number == o || has_parent_in ns x.parent) ≡ false = ap (λ b. b || has_parent_in ns x.parent) (differs x.number o (λ h. omega arith))
        ∙ ap (has_parent_in ns) e in
        ap (λ b. has_number (if b then ns ++ x.number ∷ [] else ns) 0) no
    at (Some p) lt e = step_other o ns x 0 (λ h. omega arith)

module _ (nodes : List Node) (s : State) (w : IsWellFormed (book nodes s)) (o : ℕ) (positive : 0 < o) where
  abbrev pub gone : List ℕ
  gone = family s.objects o

  lower : AllByRecursion (λ (x : LiveObject). IsLower x.number x.parent) s.objects
  lower = all_mono (λ (x : LiveObject). IsUnder (book nodes s) x x.parent) (λ (x : LiveObject). IsLower x.number x.parent) (λ x h. at x x.parent h) s.objects
      w.under
    where
      at : (x : LiveObject) (p : Option ℕ) → IsUnder (book nodes s) x p → IsLower x.number p
      at x None h = h.0
      at x (Some p) h = h.0

  none_at_first : (xs : List LiveObject) → AllByRecursion (λ (x : LiveObject). has_number [] x.number ≡ false) xs
  none_at_first [] = tt
  none_at_first (x ∷ xs) = (refl, none_at_first xs)

  pub family_closed : AllByRecursion (IsClosed o gone) s.objects
  family_closed = closed o s.objects [] w.rising lower (none_at_first s.objects)

  pub root_stays : has_number gone 0 ≡ false
  root_stays = rootless o positive s.objects [] lower

-- objects that aren't among some
abbrev pub stays : List ℕ → LiveObject → Bool
stays ns x = not (has_number ns x.number)

pub found_left : (ns : List ℕ) (xs : List LiveObject) (m : ℕ) → object_at (filter (stays ns) xs) m ≡ (if has_number ns m then None else object_at xs m)
found_left ns [] m = nobody (has_number ns m)
  where
    nobody : (b : Bool) → object_at [] 0 ≡ (if b then object_at [] 0 else object_at [] 0)
    nobody true = refl
    nobody false = refl
found_left ns (x ∷ xs) m =
    elim (x.number == m) as (λ b. (x.number == m) ≡ b →
    object_at (cond (stays ns x) (x ∷ filter (stays ns) xs) (filter (stays ns) xs)) m ≡ (if has_number ns m then None
    else (if b then Some x else object_at xs m))) [
      | true ↦ λ e.
          let same : x.number ≡ m = eqb-true x.number m e in
          elim (has_number ns x.number) as (λ b. has_number ns x.number ≡ b →
          object_at (cond (not b) (x ∷ filter (stays ns) xs) (filter (stays ns) xs)) m ≡ (if has_number ns m then None else Some x)) [
            | true ↦ λ h.
                let dead : has_number ns m ≡ true = ap (has_number ns) (sym same) ∙ h in
                found_left ns xs m ∙ ap (λ b. if b then None else object_at xs m) dead ∙ sym (ap (λ b. if b then None else Some x) dead)
            | false ↦ λ h.
                let alive : has_number ns m ≡ false = ap (has_number ns) (sym same) ∙ h in
                ap (λ b. if b then Some x else object_at (filter (stays ns) xs) m) e ∙ sym (ap (λ b. if b then None else Some x) alive)
          ] refl
      | false ↦ λ e.
          elim (has_number ns x.number)
          as (λ b. object_at (cond (not b) (x ∷ filter (stays ns) xs) (filter (stays ns) xs)) m ≡ (if has_number ns m then None else object_at xs m)) [
            | true ↦ found_left ns xs m
            | false ↦ ap (λ b. if b then Some x else object_at (filter (stays ns) xs) m) e ∙ found_left ns xs m
          ]
    ] refl

pub children_left : (ns : List ℕ) (xs : List LiveObject) (o c : ℕ) → children_in (filter (stays ns) xs) o c ≡ filter (is_other ns) (children_in xs o c)
children_left ns [] o c = refl
children_left ns (x ∷ xs) o c =
    elim (has_number ns x.number) as (λ h. has_number ns x.number ≡ h →
    children_in (cond (not h) (x ∷ filter (stays ns) xs) (filter (stays ns) xs)) o c ≡ filter (is_other ns) (children_in (x ∷ xs) o c)) [
      | true ↦ λ e.
          elim (is_child o c x)
          as (λ b. children_in (filter (stays ns) xs) o c ≡ filter (is_other ns)
          (map (λ (y : LiveObject). Object y.number) (cond b (x ∷ filter (is_child o c) xs) (filter (is_child o c) xs)))) [
            | true ↦ children_left ns xs o c
                ∙ sym (ap (λ h. cond (not h) (Object x.number ∷ filter (is_other ns) (children_in xs o c)) (filter (is_other ns) (children_in xs o c))) e)
            | false ↦ children_left ns xs o c
          ]
      | false ↦ λ e.
          elim (is_child o c x)
          as (λ b. map (λ (y : LiveObject). Object y.number)
          (cond b (x ∷ filter (is_child o c) (filter (stays ns) xs)) (filter (is_child o c) (filter (stays ns) xs))) ≡ filter (is_other ns)
          (map (λ (y : LiveObject). Object y.number) (cond b (x ∷ filter (is_child o c) xs) (filter (is_child o c) xs)))) [
            | true ↦ ap (λ l. Object x.number ∷ l) (children_left ns xs o c)
                ∙ sym (ap (λ h. cond (not h) (Object x.number ∷ filter (is_other ns) (children_in xs o c)) (filter (is_other ns) (children_in xs o c))) e)
            | false ↦ children_left ns xs o c
          ]
    ] refl

pub filter_all : {A : Type 0} (P : A → Type 0) (p : A → Bool) (xs : List A) → AllByRecursion P xs → AllByRecursion P (filter p xs)
filter_all P p [] h = tt
filter_all P p (x ∷ xs) h =
    elim (p x) as (λ b. AllByRecursion P (cond b (x ∷ filter p xs) (filter p xs))) [ true ↦ (h.0, filter_all P p xs h.1) | false ↦ filter_all P p xs h.1 ]

pub filter_kept : {A : Type 0} (P Q : A → Type 0) (p : A → Bool) → ((x : A) → p x ≡ true → P x → Q x) → (xs : List A) → AllByRecursion P xs →
    AllByRecursion Q (filter p xs)
filter_kept P Q p f [] h = tt
filter_kept {A} P Q p f (x ∷ xs) h =
    elim (p x) as (λ b. p x ≡ b → AllByRecursion Q (cond b (x ∷ filter p xs) (filter p xs))) [
      | true ↦ λ e. (f x e h.0, filter_kept P Q p f xs h.1)
      | false ↦ λ e. filter_kept P Q p f xs h.1
    ] refl

pub filter_short : {A : Type 0} (p : A → Bool) (xs : List A) → length (filter p xs) ≤ length xs
filter_short p [] = omega arith
filter_short p (x ∷ xs) =
    let rest = filter_short p xs in
    elim (p x) as (λ b. length (cond b (x ∷ filter p xs) (filter p xs)) ≤ suc (length xs)) [ true ↦ omega arith | false ↦ omega arith ]

filter_sum : {A : Type 0} (f : A → ℕ) (p : A → Bool) (xs : List A) → sum_by f (filter p xs) ≤ sum_by f xs
filter_sum f p [] = omega arith
filter_sum f p (x ∷ xs) =
    let rest = filter_sum f p xs in
    let whole = sum_by-cons f x xs in
    elim (p x) as (λ b. sum_by f (cond b (x ∷ filter p xs) (filter p xs)) ≤ sum_by f (x ∷ xs)) [
      | true ↦ let part = sum_by-cons f x (filter p xs) in omega arith
      | false ↦ omega arith
    ]

-- the cells that are left
abbrev pub cleaned : List ℕ → StoredCell → StoredCell
cleaned ns x = record x { set = filter (is_other ns) x.set }

abbrev pub cell_stays : List ℕ → StoredCell → Bool
cell_stays ns x = not (has_number ns x.object)

pub keys_left : (ns : List ℕ) (cells : List StoredCell) →
    map key (map (cleaned ns) (filter (cell_stays ns) cells)) ≡ filter (λ (p : ℕ × ℕ). not (has_number ns p.0)) (map key cells)
keys_left ns [] = refl
keys_left ns (x ∷ xs) =
    elim (has_number ns x.object) as (λ h. map key (map (cleaned ns) (cond (not h) (x ∷ filter (cell_stays ns) xs) (filter (cell_stays ns) xs))) ≡ cond (not h)
    (key x ∷ filter (λ (p : ℕ × ℕ). not (has_number ns p.0)) (map key xs)) (filter (λ (p : ℕ × ℕ). not (has_number ns p.0)) (map key xs))) [
      | true ↦ keys_left ns xs
      | false ↦ ap (λ l. key x ∷ l) (keys_left ns xs)
    ]

abbrev pair_stays : List ℕ → ℕ × ℕ → Bool
pair_stays ns p = not (has_number ns p.0)

pairs_gone : {A : Type 0} (ns : List ℕ) (n : ℕ) (number : A → ℕ) → has_number ns n ≡ true → (us : List A) (rest : List (ℕ × ℕ)) →
    filter (pair_stays ns) (map (λ (a : A). (n, number a)) us ++ rest) ≡ filter (pair_stays ns) rest
pairs_gone ns n number e [] rest = refl
pairs_gone {A} ns n number e (a ∷ us) rest =
    ap (λ h. cond (not h) ((n, number a) ∷ filter (pair_stays ns) (map (λ (b : A). (n, number b)) us ++ rest))
    (filter (pair_stays ns) (map (λ (b : A). (n, number b)) us ++ rest))) e
    ∙ pairs_gone ns n number e us rest

pairs_kept : {A : Type 0} (ns : List ℕ) (n : ℕ) (number : A → ℕ) → has_number ns n ≡ false → (us : List A) (rest : List (ℕ × ℕ)) →
    filter (pair_stays ns) (map (λ (a : A). (n, number a)) us ++ rest) ≡ map (λ (a : A). (n, number a)) us ++ filter (pair_stays ns) rest
pairs_kept ns n number e [] rest = refl
pairs_kept {A} ns n number e (a ∷ us) rest =
    ap (λ h. cond (not h) ((n, number a) ∷ filter (pair_stays ns) (map (λ (b : A). (n, number b)) us ++ rest))
    (filter (pair_stays ns) (map (λ (b : A). (n, number b)) us ++ rest))) e
    ∙ ap (λ l. (n, number a) ∷ l) (pairs_kept ns n number e us rest)

-- the cells of an object are all kept, or all gone
pub pairs_left : {A : Type 0} (ns : List ℕ) (g : LiveObject → List A) (number : A → ℕ) (objects : List LiveObject) →
    filter (λ (p : ℕ × ℕ). not (has_number ns p.0)) (flat_map (λ (x : LiveObject). map (λ (a : A). (x.number, number a)) (g x)) objects) ≡ flat_map
    (λ (x : LiveObject). map (λ (a : A). (x.number, number a)) (g x)) (filter (stays ns) objects)
pairs_left ns g number [] = refl
pairs_left {A} ns g number (x ∷ xs) =
    elim (has_number ns x.number) as (λ h. has_number ns x.number ≡ h →
    filter (λ (p : ℕ × ℕ). not (has_number ns p.0))
    (map (λ (a : A). (x.number, number a)) (g x) ++ flat_map (λ (y : LiveObject). map (λ (a : A). (y.number, number a)) (g y)) xs) ≡ flat_map
    (λ (y : LiveObject). map (λ (a : A). (y.number, number a)) (g y)) (cond (not h) (x ∷ filter (stays ns) xs) (filter (stays ns) xs))) [
      | true ↦ λ e. pairs_gone ns x.number number e (g x) (flat_map (λ (y : LiveObject). map (λ (a : A). (y.number, number a)) (g y)) xs)
          ∙ pairs_left ns g number xs
      | false ↦ λ e. pairs_kept ns x.number number e (g x) (flat_map (λ (y : LiveObject). map (λ (a : A). (y.number, number a)) (g y)) xs)
          ∙ ap (λ l. map (λ (a : A). (x.number, number a)) (g x) ++ l) (pairs_left ns g number xs)
    ] refl

-- how many cells the objects have
abbrev pub weight_of : List Node → LiveObject → ℕ
weight_of nodes x = length (state_columns (schema_of nodes) x.column) + length (formula_columns nodes x.column)

pub cells_weighed : (nodes : List Node) (objects : List LiveObject) (cells : List StoredCell) (next : ℕ) →
    cell_count (book nodes (record { objects = objects; cells = cells; next = next })) ≡ sum_by (weight_of nodes) objects
cells_weighed nodes [] cells next = refl
cells_weighed nodes (x ∷ xs) cells next =
    let whole = sum_by-cons (weight_of nodes) x xs in
    let rest = cells_weighed nodes xs cells next in
    let states = length-append {A = ℕ × ℕ} (map (λ (k : StateColumn). (x.number, k.number)) (state_columns (schema_of nodes) x.column))
    (state_cells (book nodes (record { objects = xs; cells = cells; next = next }))) in
    let as_many = length-map {B = ℕ × ℕ} (state_columns (schema_of nodes) x.column) (λ (k : StateColumn). (x.number, k.number)) in
    let formulas = length-append (cells_of (schema_of nodes) x.number x.column)
    (formula_cells (book nodes (record { objects = xs; cells = cells; next = next }))) in
    let counted = formulas_counted nodes x.number x.column in
    omega (arith, whole, rest, states, as_many, formulas, counted)

-- with an object some hold all that stand directly under it
abbrev pub IsDown : List ℕ → LiveObject → Type 0
IsDown ns x = has_parent_in ns x.parent ≡ true → has_number ns x.number ≡ true

pub family_down : (nodes : List Node) (s : State) → IsWellFormed (book nodes s) → (o : ℕ) → 0 < o → AllByRecursion (IsDown (family s.objects o)) s.objects
family_down nodes s w o positive =
    all_mono (IsClosed o (family s.objects o)) (IsDown (family s.objects o))
    (λ x c h. c ∙ ap (λ b. x.number == o || b) h ∙ or_true (x.number == o)) s.objects (family_closed nodes s w o positive)
  where
    or_true : (b : Bool) → (b || true) ≡ true
    or_true true = refl
    or_true false = refl

module _ (nodes : List Node) (s : State) (w : IsWellFormed (book nodes s)) (ns : List ℕ) (down : AllByRecursion (IsDown ns) s.objects) (no_root : has_number ns
    0 ≡ false) where
  abbrev after : State
  after = without s ns

  column_left : (m c : ℕ) → has_number ns m ≡ false → column_in (object_at s.objects m) ≡ Some c → column_in (object_at after.objects m) ≡ Some c
  column_left m c alive e = ap column_in (found_left ns s.objects m) ∙ ap (λ b. column_in (if b then None else object_at s.objects m)) alive ∙ e

  kind_left : (k : Kind) (v : Value) → is_other ns v ≡ true → HasKind s k v → HasKind after k v
  kind_left kind.Truth (Truth b) a h = tt
  kind_left kind.Number (Number n) a h = tt
  kind_left kind.Text (Text t) a h = tt
  kind_left (kind.Object c) (Object m) a h = column_left m c (turned (has_number ns m) a) h
    where
      turned : (b : Bool) → not b ≡ true → b ≡ false
      turned true e = cc
      turned false e = refl
  kind_left k v a h = absurd h

  holds_left : (x : StoredCell) (c : Option Column) → HoldsKind s x c → HoldsKind after (cleaned ns x) c
  holds_left x None h = h
  holds_left x (Some column.Object) h = h
  holds_left x (Some (column.State k one first)) h = (
    filter_rising value_cmp value_total (is_other ns) x.set h.0,
    filter_kept (HasKind s k) (HasKind after k) (is_other ns) (λ v a g. kind_left k v a g) x.set
        h.1,
  )
  holds_left x (Some (column.Formula k)) h = h

  all_cleaned : (cells : List StoredCell) → AllByRecursion (λ (x : StoredCell). HoldsKind s x (column_of nodes x.column)) cells →
      AllByRecursion (λ (x : StoredCell). HoldsKind after x (column_of nodes x.column)) (map (cleaned ns) cells)
  all_cleaned [] h = tt
  all_cleaned (x ∷ xs) h = (holds_left x (column_of nodes x.column) h.0, all_cleaned xs h.1)

  values_cleaned : (cells : List StoredCell) → stored_values (map (cleaned ns) cells) ≤ stored_values cells
  values_cleaned [] = omega arith
  values_cleaned (x ∷ xs) =
      let a = sum_by-cons (λ (y : StoredCell). length y.set) (cleaned ns x) (map (cleaned ns) xs) in
      let b = sum_by-cons (λ (y : StoredCell). length y.set) x xs in
      let short = filter_short (is_other ns) x.set in
      let rest = values_cleaned xs in
      omega (arith, a, b, short, rest)

  under_left : (x : LiveObject) (p : Option ℕ) → IsDown ns x → x.parent ≡ p → stays ns x ≡ true → IsUnder (book nodes s) x p →
      IsUnder (book nodes after) x p
  under_left x None closed_at e alive h = h
  under_left x (Some p) closed_at e alive h =
      (h.0, h.1, (h.2.0, h.2.1, column_left p h.2.0 parent_stays h.2.2))
    where
      parent_stays : has_number ns p ≡ false
      parent_stays =
          elim (has_number ns p) as (λ b. has_number ns p ≡ b → b ≡ false) [
            | true ↦ λ t.
                let inside : has_number ns x.number ≡ true = closed_at (ap (has_parent_in ns) e ∙ t) in
                let out : not true ≡ true = ap not (sym inside) ∙ alive in
                cc
            | false ↦ λ t. refl
          ] refl

  zip_all : (P Q : LiveObject → Type 0) (xs : List LiveObject) → AllByRecursion P xs → AllByRecursion Q xs → AllByRecursion (λ x. P x × Q x) xs
  zip_all P Q [] h g = tt
  zip_all P Q (x ∷ xs) h g = ((h.0, g.0), zip_all P Q xs h.1 g.1)

  pub left_well_formed : IsWellFormed (book nodes after)
  left_well_formed =
      let weighed = cells_weighed nodes s.objects s.cells s.next in
      let weighed_after = cells_weighed nodes after.objects after.cells after.next in
      let lighter = filter_sum (weight_of nodes) (stays ns) s.objects in
      let fewer = filter_short (stays ns) s.objects in
      let fewer_cells = filter_sum (λ (x : StoredCell). length x.set) (cell_stays ns) s.cells in
      let fewer_values = values_cleaned (filter (cell_stays ns) s.cells) in
      let few_cells = w.few_cells in
      let few_objects = w.few_objects in
      let few_values = w.few_values in
      record {
        formulas = w.formulas;
        root = found_left ns s.objects 0 ∙ ap (λ b. if b then None else object_at s.objects 0) no_root ∙ w.root;
        rising = filter_rising by_number (on_total (λ (x : LiveObject). x.number) nat_cmp_total) (stays ns) s.objects w.rising;
        under =
            filter_kept (λ (x : LiveObject). IsDown ns x × IsUnder (book nodes s) x x.parent) (λ (x : LiveObject). IsUnder (book nodes after) x x.parent)
            (stays ns) (λ x alive h. under_left x x.parent h.0 refl alive h.1) s.objects
            (zip_all (IsDown ns) (λ (x : LiveObject). IsUnder (book nodes s) x x.parent) s.objects down w.under);
        drawn = filter_all (λ (x : LiveObject). x.number < s.next) (stays ns) s.objects w.drawn;
        cells = keys_left ns s.cells ∙ ap (filter (λ (p : ℕ × ℕ). not (has_number ns p.0))) w.cells
            ∙ pairs_left ns (λ (x : LiveObject). state_columns (schema_of nodes) x.column) (λ (k : StateColumn). k.number) s.objects;
        typed = all_cleaned (filter (cell_stays ns) s.cells)
            (filter_all (λ (x : StoredCell). HoldsKind s x (column_of nodes x.column)) (cell_stays ns) s.cells w.typed);
        few_objects = omega arith;
        few_cells = omega arith;
        few_values = omega arith;
        few_numbers = w.few_numbers;
      }
