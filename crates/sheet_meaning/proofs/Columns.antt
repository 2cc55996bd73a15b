-- The state columns under a column are what the tree says, and a new cell has its column's type.
use Rattle.std.proofs.Common.{◌≡◌, refl, sym, ap, ◌∙◌, subst, ℕ, ◌+◌, suc, Bool, true, false, List, [], ◌∷◌, arith, Option, Some, None, inl, inr, ⊎_elim}
use Rattle.std.specs.Prelude.{if◌then◌else◌, map, slice_get, option_map}
use Rattle.std.specs.List.{enumerate_from, AllByRecursion}
use Rattle.sheet_values.specs.declared.value.Kind.{Kind}
use Rattle.sheet_values.specs.declared.value.Kind.TheVariants as kind
use Rattle.sheet_values.specs.declared.value.Value.{Value}
use Rattle.sheet_values.specs.declared.value.Value.TheVariants.{Truth, Number, Text}
use Rattle.sheet_columns.specs.Tree.{column_of, is_number, IsOfKind, HasFittingFirst, IsTree}
use Rattle.sheet_columns.specs.declared.tree.Column.{Column}
use Rattle.sheet_columns.specs.declared.tree.Column.TheVariants as column
use Rattle.sheet_columns.specs.declared.tree.Node.{Node}
use Rattle.sheet_meaning.specs.Changes.{first_set}
use Rattle.sheet_meaning.specs.WellFormed.{StateColumn, as_state, state_columns, HasKind, HoldsKind}
use Rattle.sheet_meaning.specs.declared.workbook.Schema.{Schema}
use Rattle.sheet_meaning.specs.declared.workbook.State.{State}
use Rattle.sheet_meaning.proofs.Members.{IsIn, from_filter_map}

pub all_from : {A : Type 0} (P : A → Type 0) (xs : List A) → ((x : A) → IsIn x xs → P x) → AllByRecursion P xs
all_from P [] f = tt
all_from P (x ∷ xs) f = (f x (inl refl), all_from P xs (λ y i. f y (inr i)))

pub all_in : {A : Type 0} (P : A → Type 0) (xs : List A) (x : A) → AllByRecursion P xs → IsIn x xs → P x
all_in P [] x h i = absurd i
all_in P (y ∷ ys) x h i = ⊎_elim (λ e. subst P (sym e) h.0) (λ j. all_in P ys x h.1 j) i

pub all_map : {A B : Type 0} (P : B → Type 0) (f : A → B) (xs : List A) → AllByRecursion (λ x. P (f x)) xs → AllByRecursion P (map f xs)
all_map P f [] h = tt
all_map P f (x ∷ xs) h = (h.0, all_map P f xs h.1)

pub from_enumerate : {A : Type 0} (xs : List A) (n k : ℕ) (x : A) → IsIn {A = ℕ × A} (k, x) (enumerate_from n xs) →
    (j : ℕ) × (k ≡ n + j) × (slice_get xs j ≡ Some x) × IsIn x xs
from_enumerate [] n k x i = absurd i
from_enumerate {A} (y ∷ ys) n k x i =
    ⊎_elim
    (λ e. let same : x ≡ y = ap (λ (p : ℕ × A). p.1) e in let at : k ≡ n = ap (λ (p : ℕ × A). p.0) e in (0, omega arith, ap Some (sym same), inl same))
    (λ j. let f = from_enumerate ys (n + 1) k x j in (suc f.0, let h = f.1 in omega arith, f.2, inr f.3))
    i

state_is : (k : ℕ) (c : Column) (sc : StateColumn) → as_state k c ≡ Some sc → (k ≡ sc.number) × (c ≡ column.State sc.kind sc.one sc.first)
state_is k column.Object sc e = cc
state_is k (column.State kind one first) sc e =
    let same : record { number = k; kind = kind; one = one; first = first } ≡ sc = cc in
    (ap (λ (s : StateColumn). s.number) same, ap (λ (s : StateColumn). column.State s.kind s.one s.first) same)
state_is k (column.Formula kind) sc e = cc

-- what the tree says of a state column under a column
pub record IsThere (nodes : List Node) (c : ℕ) (sc : StateColumn) : Type 0 where
  pub node : Node
  pub at : slice_get nodes sc.number ≡ Some node
  pub among : IsIn node nodes
  pub under : is_number c node.above ≡ true
  pub column : node.column ≡ column.State sc.kind sc.one sc.first

pub column_there : (s : Schema) (c : ℕ) (sc : StateColumn) → IsIn sc (state_columns s c) → IsThere s.columns c sc
column_there s c sc i =
    let f = from_filter_map (λ (x : ℕ × Node). if is_number c x.1.above then as_state x.0 x.1.column else None) (enumerate_from 0 s.columns) sc i in
    let k = f.0.0 in
    let n = f.0.1 in
    let at = from_enumerate s.columns 0 k n f.1 in
    let here : at.0 ≡ k = let h = at.1 in omega arith in
    elim (is_number c n.above) as (λ b. is_number c n.above ≡ b → (if b then as_state k n.column else None) ≡ Some sc → IsThere s.columns c sc) [
      | true ↦ λ u h.
          let is = state_is k n.column sc h in
          record { node = n; at = ap (slice_get s.columns) (sym is.0) ∙ ap (slice_get s.columns) (sym here) ∙ at.2; among = at.3; under = u; column = is.1 }
      | false ↦ λ u h. cc
    ] refl f.2

first_fits : (s : State) (k : Kind) (v : Value) → IsOfKind k v → HasKind s k v
first_fits s kind.Truth (Truth b) h = tt
first_fits s kind.Number (Number n) h = tt
first_fits s kind.Text (Text t) h = tt
first_fits s k v h = absurd h

first_held : (s : State) (o k : ℕ) (t : Kind) (one : Bool) (first : Option Value) → HasFittingFirst (column.State t one first) →
    HoldsKind s (record { object = o; column = k; set = first_set first }) (Some (column.State t one first))
first_held s o k t one None h = (tt, tt)
first_held s o k t one (Some v) h = ((tt, tt), (first_fits s t v h, tt))

-- a new cell has its column's type
pub new_typed : (schema : Schema) → IsTree schema.columns → (s : State) (o c : ℕ) (sc : StateColumn) → IsIn sc (state_columns schema c) →
    HoldsKind s (record { object = o; column = sc.number; set = first_set sc.first }) (column_of schema.columns sc.number)
new_typed schema tree s o c sc i =
    let n = column_there schema c sc i in
    let is : column_of schema.columns sc.number ≡ Some (column.State sc.kind sc.one sc.first) = ap (option_map (λ (m : Node). m.column)) n.at
    ∙ ap Some n.column in
    let fits = subst HasFittingFirst n.column (tree.fitting sc.number n.node n.at) in
    subst (HoldsKind s (record { object = o; column = sc.number; set = first_set sc.first })) (sym is) (first_held s o sc.number sc.kind sc.one sc.first fits)
