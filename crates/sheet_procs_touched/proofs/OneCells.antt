-- The cells that must hold exactly one value: which they are, and that they stand in order.
use Rattle.std.proofs.Common.{◌≡◌, refl, sym, ap, ◌∙◌, subst, ℕ, zero, suc, ◌≤◌, Bool, true, false, List, [], ◌∷◌, ◌++◌, length, arith, Option, Some, None, ⊎_elim, inl, inr}
use Rattle.std.specs.Prelude.{◌==◌, ◌&&◌, not, map, filter, cond, option_map, option_and_then, slice_get}
use Rattle.std.specs.List.{flat_map}
use Rattle.std.proofs.lemmas.Bool.{eqb-true}
use Rattle.std.specs.Cmp.{nat_cmp_is}
use Rattle.std.specs.Ordering.{nat_cmp, ordering_then}
use Rattle.std.specs.declared.cmp.Ordering.TheVariants.{Less, Equal}
use Rattle.sheet_values.specs.Sorted.{IsBelow, IsRising}
use Rattle.sheet_columns.specs.Cells.{Cell, has_cell}
use Rattle.sheet_columns.specs.Tree.{column_of, above_of, is_number, root, IsTree}
use Rattle.sheet_columns.specs.declared.tree.Column.{Column}
use Rattle.sheet_columns.specs.declared.tree.Column.TheVariants as column
use Rattle.sheet_columns.specs.declared.tree.Node.{Node}
use Rattle.sheet_meaning.specs.WellFormed.{StateColumn, as_state, state_columns, one_cells, IsWellFormed}
use Rattle.sheet_meaning.specs.Workbook.{object_at, column_in, set_in}
use Rattle.sheet_meaning.specs.declared.workbook.LiveObject.{LiveObject}
use Rattle.sheet_meaning.specs.declared.workbook.Schema.{Schema}
use Rattle.sheet_meaning.specs.declared.workbook.Workbook.{Workbook}
use Rattle.sheet_meaning.proofs.Cells.{has_in, in_has}
use Rattle.sheet_meaning.proofs.Columns.{column_there}
use Rattle.sheet_meaning.proofs.FormulaCells.{object_cmp}
use Rattle.sheet_meaning.proofs.Members.{IsIn, in_flat_map, from_flat_map, both_true}
use Rattle.sheet_meaning.proofs.Untouched.{found_rising}
use Rattle.sheet_state.proofs.Bearing.{states_rise}
use Rattle.sheet_state.proofs.Existing.{live_in, given_in, in_map}
use Rattle.sheet_state.proofs.Newborn.{column_cmp}
use Rattle.sheet_procs_touched.specs.Touched.{cell_cmp, holds_one, is_open}
use Rattle.sheet_procs_touched.proofs.Rising.{filter_in, in_filter, both_ways}

-- the cells of an object of a column that must hold exactly one value
abbrev pub ones : Schema → ℕ → ℕ → List Cell
ones s o c = map (λ (k : StateColumn). (o, k.number)) (filter (λ (k : StateColumn). k.one) (state_columns s c))

abbrev pub ones_of : Schema → LiveObject → List Cell
ones_of s x = ones s x.number x.column

from_map : {A B : Type 0} (f : A → B) (xs : List A) (y : B) → IsIn y (map f xs) → (x : A) × IsIn x xs × (y ≡ f x)
from_map f [] y h = absurd h
from_map f (x ∷ xs) y h = ⊎_elim (λ e. (x, inl refl, e)) (λ k. let r = from_map f xs y k in (r.0, inr r.1, r.2)) h

-- what is told of such a cell
pub record IsOne (s : Schema) (o c : ℕ) (x : Cell) : Type 0 where
  pub object : x.0 ≡ o
  pub one : holds_one (column_of s.columns x.1) ≡ true
  pub under : is_number c (above_of s.columns x.1) ≡ true

pub one_is : (s : Schema) (o c : ℕ) (x : Cell) → IsIn x (ones s o c) → IsOne s o c x
one_is s o c x h =
    let m = from_map (λ (k : StateColumn). (o, k.number)) (filter (λ (k : StateColumn). k.one) (state_columns s c)) x h in
    let f = filter_in (λ (k : StateColumn). k.one) (state_columns s c) m.0 m.1 in
    let t = column_there s c m.0 f.0 in
    let number : m.0.number ≡ x.1 = sym (ap (λ (z : Cell). z.1) m.2) in
    let at : slice_get s.columns x.1 ≡ Some t.node = ap (slice_get s.columns) (sym number) ∙ t.at in
    record {
      object = ap (λ (z : Cell). z.0) m.2;
      one = ap (λ (p : Option Node). holds_one (option_map (λ (n : Node). n.column) p)) at ∙ ap (λ d. holds_one (Some d)) t.column ∙ f.1;
      under = ap (λ (p : Option Node). is_number c (option_and_then (λ (n : Node). n.above) p)) at ∙ t.under;
    }

number_is : (a : ℕ) (o : Option ℕ) → is_number a o ≡ true → o ≡ Some a
number_is a None e = cc
number_is a (Some b) e = ap Some (sym (eqb-true a b e))

pub one_there : (s : Schema) (o c k : ℕ) → holds_one (column_of s.columns k) ≡ true → is_number c (above_of s.columns k) ≡ true →
    IsIn {A = Cell} (o, k) (ones s o c)
one_there s o c k one under = at (column_of s.columns k) refl one
  where
    at : (d : Option Column) → column_of s.columns k ≡ d → holds_one d ≡ true → IsIn {A = Cell} (o, k) (ones s o c)
    at None e h = cc
    at (Some column.Object) e h = cc
    at (Some (column.State kind one first)) e h =
        let sc : StateColumn = record { number = k; kind = kind; one = one; first = first } in
        in_map (λ (j : StateColumn). (o, j.number)) (filter (λ (j : StateColumn). j.one) (state_columns s c)) sc
        (in_filter (λ (j : StateColumn). j.one) (state_columns s c) sc
        (given_in as_state s.columns c k (column.State kind one first) sc (number_is c (above_of s.columns k) under) e refl) h)
    at (Some (column.Formula kind)) e h = cc

-- which cells they are, by the column of the object
abbrev pub by_column : Schema → Option ℕ → ℕ → Bool
by_column s None k = false
by_column s (Some c) k = holds_one (column_of s.columns k) && is_number c (above_of s.columns k)

-- no column is under another where it is the root, or where there is none
pub no_root : (nodes : List Node) (a c : ℕ) → IsTree nodes → c ≡ 0 → false ≡ (holds_one (column_of nodes c) && is_number a (above_of nodes c))
no_root nodes a c tree zero_is =
    let at : slice_get nodes c ≡ Some root = ap (slice_get nodes) zero_is ∙ tree.first in
    sym (ap (λ (p : Option Node). holds_one (option_map (λ (n : Node). n.column) p) && is_number a (option_and_then (λ (n : Node). n.above) p)) at)

pub no_column : (xs : List Node) (k : ℕ) → length xs ≤ k → slice_get xs k ≡ None
no_column [] zero le = refl
no_column [] (suc k) le = refl
no_column (x ∷ xs) zero le = absurd (omega (arith, le))
no_column (x ∷ xs) (suc k) le = no_column xs k (omega (arith, le))

pub past_all : (nodes : List Node) (a c : ℕ) → length nodes ≤ c → false ≡ (holds_one (column_of nodes c) && is_number a (above_of nodes c))
past_all nodes a c le =
    sym (ap (λ (p : Option Node). holds_one (option_map (λ (n : Node). n.column) p) && is_number a (option_and_then (λ (n : Node). n.above) p)) (no_column nodes c le))

module _ (w : Workbook) (formed : IsWellFormed w) where
  pub one_by_column : (x : Cell) → has_cell (one_cells w) x ≡ by_column w.schema (column_in (object_at w.state.objects x.0)) x.1
  one_by_column x = both_ways _ _ there back
    where
      there : has_cell (one_cells w) x ≡ true → by_column w.schema (column_in (object_at w.state.objects x.0)) x.1 ≡ true
      there h =
          let f = from_flat_map (ones_of w.schema) w.state.objects x (has_in (one_cells w) x h) in
          let i = one_is w.schema f.0.number f.0.column x f.2 in
          let found : column_in (object_at w.state.objects x.0) ≡ Some f.0.column =
          ap (λ n. column_in (object_at w.state.objects n)) i.object ∙ ap column_in (found_rising w.state.objects formed.rising f.0 f.1) in
          ap (λ o. by_column w.schema o x.1) found
          ∙ ap (λ b. b && is_number f.0.column (above_of w.schema.columns x.1)) i.one
          ∙ i.under

      live : (o : Option LiveObject) → object_at w.state.objects x.0 ≡ o → by_column w.schema (column_in o) x.1 ≡ true → has_cell (one_cells w) x ≡ true
      live None e h = cc
      live (Some y) e h =
          let l = live_in w.state.objects x.0 y e in
          let t = both_true (holds_one (column_of w.schema.columns x.1)) (is_number y.column (above_of w.schema.columns x.1)) h in
          in_has (one_cells w) x
          (in_flat_map (ones_of w.schema) w.state.objects y x l.0
          (subst (λ n. IsIn {A = Cell} (n, x.1) (ones w.schema y.number y.column)) l.1 (one_there w.schema y.number y.column x.1 t.0 t.1)))

      back : by_column w.schema (column_in (object_at w.state.objects x.0)) x.1 ≡ true → has_cell (one_cells w) x ≡ true
      back h = live (object_at w.state.objects x.0) refl h

  -- whether a cell is unfilled, by the column of its object
  pub open_by_column : (x : Cell) (o : Option ℕ) → column_in (object_at w.state.objects x.0) ≡ o →
      is_open w x ≡ (by_column w.schema o x.1 && not (length (set_in w.state.cells x.0 x.1) == 1))
  open_by_column x o e =
      ap (λ b. b && not (length (set_in w.state.cells x.0 x.1) == 1)) (one_by_column x ∙ ap (λ p. by_column w.schema p x.1) e)

-- they stand in order
ties : (n : ℕ) → nat_cmp n n ≡ Equal
ties n = sym (nat_cmp_is n n Equal refl)

below_both : (x : Cell) (xs ys : List Cell) → IsBelow cell_cmp x xs → IsBelow cell_cmp x ys → IsBelow cell_cmp x (xs ++ ys)
below_both x [] ys a b = b
below_both x (z ∷ zs) ys a b = (a.0, below_both x zs ys a.1 b)

rising_both : (xs ys : List Cell) → IsRising cell_cmp xs → IsRising cell_cmp ys → ((x : Cell) → IsIn x xs → IsBelow cell_cmp x ys) → IsRising cell_cmp (xs ++ ys)
rising_both [] ys r s h = s
rising_both (x ∷ xs) ys r s h = (below_both x xs ys r.0 (h x (inl refl)), rising_both xs ys r.1 s (λ y i. h y (inr i)))

below_all : (x : Cell) (ys : List Cell) → ((y : Cell) → IsIn y ys → cell_cmp x y ≡ Less) → IsBelow cell_cmp x ys
below_all x [] h = tt
below_all x (y ∷ ys) h = (h y (inl refl), below_all x ys (λ z i. h z (inr i)))

module _ (o : ℕ) where
  below_kept : (k : StateColumn) (ks : List StateColumn) → IsBelow column_cmp k ks →
      IsBelow cell_cmp (o, k.number) (map (λ (j : StateColumn). (o, j.number)) (filter (λ (j : StateColumn). j.one) ks))
  below_kept k [] b = tt
  below_kept k (j ∷ ks) b =
      elim j.one as (λ t. IsBelow cell_cmp (o, k.number) (map (λ (i : StateColumn). (o, i.number)) (cond t (j ∷ filter (λ (i : StateColumn). i.one) ks)
      (filter (λ (i : StateColumn). i.one) ks)))) [
        | true ↦ (ap (λ r. ordering_then r (nat_cmp k.number j.number)) (ties o) ∙ b.0, below_kept k ks b.1)
        | false ↦ below_kept k ks b.1
      ]

  ones_in_order : (ks : List StateColumn) → IsRising column_cmp ks →
      IsRising cell_cmp (map (λ (j : StateColumn). (o, j.number)) (filter (λ (j : StateColumn). j.one) ks))
  ones_in_order [] r = tt
  ones_in_order (k ∷ ks) r =
      elim k.one as (λ t. IsRising cell_cmp (map (λ (i : StateColumn). (o, i.number)) (cond t (k ∷ filter (λ (i : StateColumn). i.one) ks)
      (filter (λ (i : StateColumn). i.one) ks)))) [
        | true ↦ (below_kept k ks r.0, ones_in_order ks r.1)
        | false ↦ ones_in_order ks r.1
      ]

module _ (s : Schema) where
  ones_rise : (o c : ℕ) → IsRising cell_cmp (ones s o c)
  ones_rise o c = ones_in_order o (state_columns s c) (states_rise s.columns c)

  later : (x : LiveObject) (ys : List LiveObject) → IsBelow object_cmp x ys → (y : LiveObject) → IsIn y ys → nat_cmp x.number y.number ≡ Less
  later x [] b y i = absurd i
  later x (z ∷ zs) b y i = ⊎_elim (λ e. ap (λ (v : LiveObject). nat_cmp x.number v.number) e ∙ b.0) (λ j. later x zs b.1 y j) i

  pub all_in_order : (xs : List LiveObject) → IsRising object_cmp xs → IsRising cell_cmp (flat_map (ones_of s) xs)
  all_in_order [] r = tt
  all_in_order (x ∷ xs) r =
      rising_both (ones_of s x) (flat_map (ones_of s) xs) (ones_rise x.number x.column) (all_in_order xs r.1)
      (λ a i. below_all a (flat_map (ones_of s) xs) (λ b j.
      let f = from_flat_map (ones_of s) xs b j in
      let first = (one_is s x.number x.column a i).object in
      let second = (one_is s f.0.number f.0.column b f.2).object in
      ap (λ n. ordering_then (nat_cmp n b.0) (nat_cmp a.1 b.1)) first
      ∙ ap (λ n. ordering_then (nat_cmp x.number n) (nat_cmp a.1 b.1)) second
      ∙ ap (λ o. ordering_then o (nat_cmp a.1 b.1)) (later x xs r.0 f.0 f.1)))
