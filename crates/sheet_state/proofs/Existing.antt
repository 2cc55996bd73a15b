-- The cells and extents that there are have their rows.
use Rattle.std.proofs.Common.{◌≡◌, refl, sym, ap, ◌∙◌, subst, ℕ, ◌+◌, zero, suc, Bool, true, false, List, [], ◌∷◌, arith, Option, Some, None, eq-eqb, inl, inr}
use Rattle.std.proofs.Common.{⊎_elim}
use Rattle.std.specs.Prelude.{slice_get, ◌==◌, ◌&&◌, if◌then◌else◌, map, option_map, option_and_then, IsSome}
use Rattle.std.specs.List.{filter_map, cons_option, enumerate_from, AllByRecursion}
use Rattle.std.proofs.lemmas.Bool.{eqb-true}
use Rattle.sheet_columns.specs.Tree.{above_of, column_of, is_number}
use Rattle.sheet_columns.specs.declared.tree.Column.{Column}
use Rattle.sheet_columns.specs.declared.tree.Column.TheVariants as column
use Rattle.sheet_columns.specs.declared.tree.Node.{Node}
use Rattle.sheet_values.specs.declared.value.Kind.{Kind}
use Rattle.sheet_values.specs.declared.value.Value.{Value}
use Rattle.sheet_state_rows.specs.declared.row.SetRow.{SetRow}
use Rattle.sheet_meaning.specs.Workbook.{object_at}
use Rattle.sheet_meaning.specs.WellFormed.{StateColumn, as_state, state_columns, state_cells, HoldsKind}
use Rattle.sheet_meaning.specs.declared.workbook.LiveObject.{LiveObject}
use Rattle.sheet_meaning.specs.declared.workbook.StoredCell.{StoredCell}
use Rattle.sheet_meaning.specs.declared.workbook.State.{State}
use Rattle.sheet_meaning.proofs.Members.{IsIn, in_flat_map, in_filter_map}
use Rattle.sheet_state.specs.Stored.{schema_of, book, as_extent, object_columns, extents_of}
use Rattle.sheet_state.specs.Rows.{cells_in, is_set}
use Rattle.sheet_state.proofs.SetRows.{at}

pub in_map : {A B : Type 0} (f : A → B) (xs : List A) (x : A) → IsIn x xs → IsIn (f x) (map f xs)
in_map f [] x h = absurd h
in_map f (y ∷ ys) x h = ⊎_elim (λ e. inl (ap f e)) (λ k. inr (in_map f ys x k)) h

-- a live object is one of the objects
pub live_in : (objects : List LiveObject) (o : ℕ) (x : LiveObject) → object_at objects o ≡ Some x → IsIn x objects × (x.number ≡ o)
live_in [] o x e = cc
live_in (y ∷ ys) o x e =
    elim (y.number == o) as (λ b. (y.number == o) ≡ b → (if b then Some y else object_at ys o) ≡ Some x → IsIn x (y ∷ ys) × (x.number ≡ o)) [
      | true ↦ λ t h. let same : y ≡ x = cc in (inl (sym same), subst (λ (z : LiveObject). z.number ≡ o) same (eqb-true y.number o t))
      | false ↦ λ t h. let rest = live_in ys o x h in (inr rest.0, rest.1)
    ] refl e

in_enumerate : {A : Type 0} (xs : List A) (n k : ℕ) (x : A) → slice_get xs k ≡ Some x → IsIn (n + k, x) (enumerate_from n xs)
in_enumerate [] n k x e = cc
in_enumerate (y ∷ ys) n zero x e = let same : y ≡ x = cc in let none : n + 0 ≡ n = omega arith in inl (ap (λ k. (k, x)) none ∙ ap (λ z. (n, z)) (sym same))
in_enumerate {A} (y ∷ ys) n (suc k) x e =
    let step : n + 1 + k ≡ n + suc k = omega arith in
    inr (subst (λ (j : ℕ). IsIn (j, x) (enumerate_from (n + 1) ys)) step (in_enumerate ys (n + 1) k x e))

-- the node of a column
node_at : (nodes : List Node) (k : ℕ) (c : Column) → column_of nodes k ≡ Some c → (n : Node) × (slice_get nodes k ≡ Some n) × (n.column ≡ c)
node_at nodes k c e = of_option (slice_get nodes k) e
  where
    of_option : (o : Option Node) → option_map (λ (n : Node). n.column) o ≡ Some c → (n : Node) × (o ≡ Some n) × (n.column ≡ c)
    of_option None h = cc
    of_option (Some n) h = let same : n.column ≡ c = cc in (n, refl, same)

same_number : (k : ℕ) → (k == k) ≡ true
same_number k = eq-eqb k k refl

-- what a column gives is among what the columns under the one above it give
module _ {A : Type 0} (f : ℕ → Column → Option A) (nodes : List Node) (above k : ℕ) (c : Column) (a : A) where
  pub given_in : above_of nodes k ≡ Some above → column_of nodes k ≡ Some c → f k c ≡ Some a →
      IsIn a (filter_map (λ (x : ℕ × Node). if is_number above x.1.above then f x.0 x.1.column else None) (enumerate_from 0 nodes))
  given_in up is gives =
      let n = node_at nodes k c is in
      let under : n.0.above ≡ Some above = ap (option_and_then (λ (m : Node). m.above)) (sym n.1) ∙ up in
      in_filter_map (λ (x : ℕ × Node). if is_number above x.1.above then f x.0 x.1.column else None) (enumerate_from 0 nodes) (k, n.0) a
      (let zero_k : 0 + k ≡ k = omega arith in subst (λ (j : ℕ). IsIn (j, n.0) (enumerate_from 0 nodes)) zero_k (in_enumerate nodes 0 k n.0 n.1))
      (ap (λ o. if is_number above o then f k n.0.column else None) under
      ∙ ap (λ b. if b then f k n.0.column else None) (same_number above)
      ∙ ap (f k) n.2
      ∙ gives)

module _ (nodes : List Node) (s : State) (o k : ℕ) (x : LiveObject) (live : object_at s.objects o ≡ Some x) (up : above_of nodes k ≡ Some x.column) where
  -- a state cell of a live object is one of those that there are
  pub cell_there : (kind : Kind) (one : Bool) (first : Option Value) → column_of nodes k ≡ Some (column.State kind one first) →
      IsIn {A = ℕ × ℕ} (o, k) (state_cells (book nodes s))
  cell_there kind one first is =
      let l = live_in s.objects o x live in
      let sc : StateColumn = record { number = k; kind = kind; one = one; first = first } in
      in_flat_map (λ (y : LiveObject). map (λ (c : StateColumn). (y.number, c.number)) (state_columns (schema_of nodes) y.column)) s.objects x (o, k) l.0
      (subst (λ (n : ℕ). IsIn {A = ℕ × ℕ} (n, k) (map (λ (c : StateColumn). (x.number, c.number)) (state_columns (schema_of nodes) x.column))) l.1
      (in_map (λ (c : StateColumn). (x.number, c.number)) (state_columns (schema_of nodes) x.column) sc
      (given_in as_state nodes x.column k (column.State kind one first) sc up is refl)))

  -- so is an extent
  pub extent_there : column_of nodes k ≡ Some column.Object → IsIn {A = ℕ × ℕ} (o, k) (extents_of nodes s.objects)
  extent_there is =
      let l = live_in s.objects o x live in
      in_flat_map (λ (y : LiveObject). map (λ (c : ℕ). (y.number, c)) (object_columns nodes y.column)) s.objects x (o, k) l.0
      (subst (λ (n : ℕ). IsIn {A = ℕ × ℕ} (n, k) (map (λ (c : ℕ). (x.number, c)) (object_columns nodes x.column))) l.1
      (in_map (λ (c : ℕ). (x.number, c)) (object_columns nodes x.column) k (given_in as_extent nodes x.column k column.Object k up is refl)))

-- the object and column of a cell
abbrev pub key : StoredCell → ℕ × ℕ
key x = (x.object, x.column)

-- what is there has a row
pub row_there : (o c : ℕ) (rows : List SetRow) → IsIn {A = ℕ × ℕ} (o, c) (map key (cells_in rows)) → AllByRecursion (λ r. is_set o c r ≡ false) rows → ⊥
row_there o c [] h none = h
row_there o c (q ∷ rows) h none =
    elim q.live as (λ b. (b && at o c q) ≡ false →
    IsIn {A = ℕ × ℕ} (o, c)
    (map key (cons_option (if b then Some (record { object = q.object; column = q.column; set = q.set }) else None) (cells_in rows))) → ⊥) [
      | true ↦ λ e i. ⊎_elim
          (λ (same : (o, c) ≡ (q.object, q.column)).
          let hit : at o c q ≡ true = ap (λ b. b && q.column == c) (eq-eqb q.object o (ap (λ p. p.0) (sym same)))
          ∙ eq-eqb q.column c (ap (λ p. p.1) (sym same)) in
          cc)
          (λ j. row_there o c rows j none.1)
          i
      | false ↦ λ e i. row_there o c rows i none.1
    ] none.0 h

-- a column that holds sets of values is a state column
pub state_column : (s : State) (x : StoredCell) (c : Option Column) → HoldsKind s x c →
    (kind : Kind) × (one : Bool) × (first : Option Value) × (c ≡ Some (column.State kind one first))
state_column s x None h = absurd h
state_column s x (Some column.Object) h = absurd h
state_column s x (Some (column.State kind one first)) h = (kind, one, first, refl)
state_column s x (Some (column.Formula kind)) h = absurd h

pub some_of : {A : Type 0} (o : Option A) → IsSome o → (x : A) × (o ≡ Some x)
some_of None h = cc
some_of (Some x) h = (x, refl)
