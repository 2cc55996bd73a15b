-- The content of a well-formed workbook's items is of the types of its columns.
use Rattle.std.proofs.Common.{◌≡◌, refl, sym, ap, ◌∙◌, subst, inl, inr, ℕ, ◌+◌, suc, Bool, true, false, cond, List, [], ◌∷◌, arith, Option, Some, None}
use Rattle.std.specs.Prelude.{◌==◌, ◌&&◌, zero, map, filter, is_some, slice_index_or, if◌then◌else◌}
use Rattle.std.specs.List.{AllByRecursion}
use Rattle.std.specs.Cmp.{nat_cmp_total, on_total}
use Rattle.std.proofs.lemmas.Bool.{eqb-true}
use Rattle.sheet_values.specs.Order.{value_cmp}
use Rattle.sheet_values.specs.OrderLaws.{value_total}
use Rattle.sheet_values.specs.Sets.{IsRising}
use Rattle.sheet_values.specs.Sorted as sorted
use Rattle.sheet_values.proofs.Merging.{filter_rising}
use Rattle.sheet_values.specs.declared.value.Kind.{Kind}
use Rattle.sheet_values.specs.declared.value.Kind.TheVariants as kind
use Rattle.sheet_values.specs.declared.value.Value.{Value}
use Rattle.sheet_values.specs.declared.value.Value.TheVariants.{Truth, Number, Text, Object}
use Rattle.sheet_columns.specs.Tree.{column_of, above_of, is_number}
use Rattle.sheet_columns.specs.declared.tree.Column.{Column}
use Rattle.sheet_columns.specs.declared.tree.Column.TheVariants as column
use Rattle.sheet_columns.specs.declared.tree.Node.{Node}
use Rattle.sheet_types_rules.specs.Columns.{kind_of_column, kinds_from}
use Rattle.sheet_types_rules.specs.Formulas.{is_object, is_state, is_formula}
use Rattle.sheet_meaning.specs.Formula.{is_read, objects_of}
use Rattle.sheet_meaning.specs.Run.{Outcome}
use Rattle.sheet_meaning.specs.WellFormed.{HasKind, HoldsKind, IsUnder, IsWellFormed}
use Rattle.sheet_meaning.specs.Workbook.{object_at, column_in, parent_in, children_in, is_child, set_in, world}
use Rattle.sheet_meaning.specs.declared.workbook.LiveObject.{LiveObject}
use Rattle.sheet_meaning.specs.declared.workbook.State.{State}
use Rattle.sheet_meaning.specs.declared.workbook.StoredCell.{StoredCell}
use Rattle.sheet_meaning.specs.declared.workbook.Workbook.{Workbook}
use Rattle.sheet_meaning.proofs.Columns.{all_from, all_in, all_map}
use Rattle.sheet_meaning.proofs.FormulaCells.{object_cmp}
use Rattle.sheet_meaning.proofs.Keeping.{from_filter}
use Rattle.sheet_meaning.proofs.Members.{IsIn, both_true}
use Rattle.sheet_meaning.proofs.Untouched.{found_rising}
use Rattle.sheet_engine_types.specs.Types.{IsSetOf, HasKindWhereLive, IsVariableOf}

-- the type of a column by its number
kind_at : (d : ℕ) (nodes : List Node) (c : ℕ) (x : Column) → column_of nodes c ≡ Some x →
    slice_index_or (kinds_from d nodes) c kind.Unknown ≡ kind_of_column (d + c) x
kind_at d [] c x is = cc
kind_at d (m ∷ nodes) zero x is =
    let same : m.column ≡ x = cc in
    let here : d ≡ d + 0 = omega arith in
    ap (kind_of_column d) same ∙ ap (λ n. kind_of_column n x) here
kind_at d (m ∷ nodes) (suc c) x is =
    let further : d + 1 + c ≡ d + suc c = omega arith in
    kind_at (d + 1) nodes c x is ∙ ap (λ n. kind_of_column n x) further

pub object_there : (o : Option Column) → is_object o ≡ true → o ≡ Some column.Object
object_there None e = cc
object_there (Some column.Object) e = refl
object_there (Some (column.State k one first)) e = cc
object_there (Some (column.Formula k)) e = cc

-- a state column, with its type
pub record IsState (nodes : List Node) (c : ℕ) : Type 0 where
  pub holds : Kind
  pub one : Bool
  pub first : Option Value
  pub is : column_of nodes c ≡ Some (column.State holds one first)
  pub kind : slice_index_or (kinds_from 0 nodes) c kind.Unknown ≡ holds

pub state_there : (nodes : List Node) (c : ℕ) → is_state (column_of nodes c) ≡ true → IsState nodes c
state_there nodes c e = at (column_of nodes c) refl e
  where
    at : (o : Option Column) → column_of nodes c ≡ o → is_state o ≡ true → IsState nodes c
    at None is e = cc
    at (Some column.Object) is e = cc
    at (Some (column.State k one first)) is e =
        record { holds = k; one = one; first = first; is = is; kind = kind_at 0 nodes c (column.State k one first) is }
    at (Some (column.Formula k)) is e = cc

-- a formula column, with its type
pub record IsFormula (nodes : List Node) (c : ℕ) : Type 0 where
  pub holds : Kind
  pub is : column_of nodes c ≡ Some (column.Formula holds)
  pub kind : slice_index_or (kinds_from 0 nodes) c kind.Unknown ≡ holds

pub formula_there : (nodes : List Node) (c : ℕ) → is_formula (column_of nodes c) ≡ true → IsFormula nodes c
formula_there nodes c e = at (column_of nodes c) refl e
  where
    at : (o : Option Column) → column_of nodes c ≡ o → is_formula o ≡ true → IsFormula nodes c
    at None is e = cc
    at (Some column.Object) is e = cc
    at (Some (column.State k one first)) is e = cc
    at (Some (column.Formula k)) is e = record { holds = k; is = is; kind = kind_at 0 nodes c (column.Formula k) is }

-- an object that is found is there
pub found_there : (xs : List LiveObject) (o : ℕ) (x : LiveObject) → object_at xs o ≡ Some x → IsIn x xs
found_there [] o x e = cc
found_there (y ∷ ys) o x e =
    elim (y.number == o) as (λ b. (if b then Some y else object_at ys o) ≡ Some x → IsIn x (y ∷ ys)) [
      | true ↦ λ h. let same : y ≡ x = cc in inl (sym same)
      | false ↦ λ h. inr (found_there ys o x h)
    ] e

-- numbers of objects rise as the objects do
numbers_rise : (xs : List LiveObject) → sorted.IsRising object_cmp xs → IsRising (map (λ (x : LiveObject). Object x.number) xs)
numbers_rise [] r = tt
numbers_rise (x ∷ xs) r = (below xs r.0, numbers_rise xs r.1)
  where
    below : (ys : List LiveObject) → sorted.IsBelow object_cmp x ys → sorted.IsBelow value_cmp (Object x.number) (map (λ (y : LiveObject). Object y.number) ys)
    below [] b = tt
    below (y ∷ ys) b = (b.0, below ys b.1)

some_number : (o : Option ℕ) → is_some o ≡ true → (d : ℕ) × (o ≡ Some d)
some_number None e = cc
some_number (Some d) e = (d, refl)

module _ (w : Workbook) (formed : IsWellFormed w) where
  abbrev s : State
  s = w.state

  abbrev nodes : List Node
  nodes = w.schema.columns

  pub root_typed : HasKind s (kind.Object 0) (Object 0)
  root_typed = ap column_in formed.root

  pub children_typed : (o c : ℕ) → IsSetOf s (kind.Object c) (children_in s.objects o c)
  children_typed o c = (
    numbers_rise (filter (is_child o c) s.objects)
        (filter_rising object_cmp (on_total (λ (x : LiveObject). x.number) nat_cmp_total) (is_child o c) s.objects formed.rising),
    all_map (HasKind s (kind.Object c)) (λ (x : LiveObject). Object x.number) (filter (is_child o c) s.objects)
        (all_from (λ (x : LiveObject). HasKind s (kind.Object c) (Object x.number)) (filter (is_child o c) s.objects) (λ x i.
        let f = from_filter (is_child o c) s.objects x i in
        ap column_in (found_rising s.objects formed.rising x f.0)
        ∙ ap Some (eqb-true x.column c (both_true (x.column == c) (is_number o x.parent) f.1).0))),
  )

  stored_in : (o c : ℕ) (k : Kind) (one : Bool) (first : Option Value) → column_of nodes c ≡ Some (column.State k one first) → (cells : List StoredCell) →
      AllByRecursion (λ (x : StoredCell). HoldsKind s x (column_of nodes x.column)) cells → IsSetOf s k (set_in cells o c)
  stored_in o c k one first is [] h = (tt, tt)
  stored_in o c k one first is (x ∷ xs) h =
      elim (x.object == o && x.column == c) as (λ b. (x.object == o && x.column == c) ≡ b → IsSetOf s k (if b then x.set else set_in xs o c)) [
        | true ↦ λ e.
            let here : x.column ≡ c = eqb-true x.column c (both_true (x.object == o) (x.column == c) e).1 in
            subst (HoldsKind s x) (ap (column_of nodes) here ∙ is) h.0
        | false ↦ λ e. stored_in o c k one first is xs h.1
      ] refl

  pub stored_typed : (o c : ℕ) (k : Kind) (one : Bool) (first : Option Value) → column_of nodes c ≡ Some (column.State k one first) →
      IsSetOf s k (set_in s.cells o c)
  stored_typed o c k one first is = stored_in o c k one first is s.cells formed.typed

  pub parent_typed : (o c a : ℕ) → above_of nodes c ≡ Some a → HasKind s (kind.Object c) (Object o) →
      IsSetOf s (kind.Object a) (objects_of (parent_in (object_at s.objects o)))
  parent_typed o c a above h = found (object_at s.objects o) refl h
    where
      under : (x : LiveObject) (p : Option ℕ) → x.column ≡ c → IsUnder w x p → IsSetOf s (kind.Object a) (objects_of p)
      under x None e u = (tt, tt)
      under x (Some p) e u =
          let place = u.2 in
          let same : Some place.0 ≡ Some a = sym place.1 ∙ ap (above_of nodes) e ∙ above in
          ((tt, tt), (place.2 ∙ same, tt))

      found : (x : Option LiveObject) → object_at s.objects o ≡ x → column_in x ≡ Some c → IsSetOf s (kind.Object a) (objects_of (parent_in x))
      found None e g = cc
      found (Some x) e g =
          let here : x.column ≡ c = cc in
          under x x.parent here
          (all_in (λ (y : LiveObject). IsUnder w y y.parent) s.objects x formed.under (found_there s.objects o x e))

  -- a value that is read is of its variable's type
  pub read_typed : (worked : ℕ → ℕ → Outcome (List Value)) (k : Kind) (v : Value) → HasKindWhereLive s k v → is_read (world w worked) v ≡ true → HasKind s k v
  read_typed worked kind.Unknown (Truth b) h e = h
  read_typed worked kind.Unknown (Number n) h e = h
  read_typed worked kind.Unknown (Text t) h e = h
  read_typed worked kind.Unknown (Object o) h e = h
  read_typed worked kind.Truth (Truth b) h e = h
  read_typed worked kind.Truth (Number n) h e = h
  read_typed worked kind.Truth (Text t) h e = h
  read_typed worked kind.Truth (Object o) h e = h
  read_typed worked kind.Number (Truth b) h e = h
  read_typed worked kind.Number (Number n) h e = h
  read_typed worked kind.Number (Text t) h e = h
  read_typed worked kind.Number (Object o) h e = h
  read_typed worked kind.Text (Truth b) h e = h
  read_typed worked kind.Text (Number n) h e = h
  read_typed worked kind.Text (Text t) h e = h
  read_typed worked kind.Text (Object o) h e = h
  read_typed worked (kind.Object c) (Truth b) h e = h
  read_typed worked (kind.Object c) (Number n) h e = h
  read_typed worked (kind.Object c) (Text t) h e = h
  read_typed worked (kind.Object c) (Object o) h e =
      let d = some_number (column_in (object_at s.objects o)) e in
      d.1 ∙ ap Some (h d.0 d.1)

  pub variable_typed : (worked : ℕ → ℕ → Outcome (List Value)) (k : Kind) (set : List Value) → IsVariableOf s k set →
      IsSetOf s k (filter (is_read (world w worked)) set)
  variable_typed worked k set h = (filter_rising value_cmp value_total (is_read (world w worked)) set h.0, all set h.1)
    where
      all : (xs : List Value) → AllByRecursion (HasKindWhereLive s k) xs → AllByRecursion (HasKind s k) (filter (is_read (world w worked)) xs)
      all [] h = tt
      all (x ∷ xs) h =
          elim (is_read (world w worked) x)
          as (λ b. is_read (world w worked) x ≡ b → AllByRecursion (HasKind s k)
          (cond b (x ∷ filter (is_read (world w worked)) xs) (filter (is_read (world w worked)) xs))) [
            | true ↦ λ e. (read_typed worked k x h.0 e, all xs h.1)
            | false ↦ λ e. all xs h.1
          ] refl
