-- The references of state cells stay listed.
use Rattle.std.proofs.Common.{◌≡◌, ap, ◌∙◌, subst, ℕ, Bool, true, false, cond, List, [], ◌∷◌, ◌++◌, Option, Some, None, refl, inl, inr, eq-eqb}
use Rattle.std.specs.Prelude.{map, filter, not, ◌==◌, ◌&&◌, ◌||◌, if◌then◌else◌}
use Rattle.std.specs.List.{AllByRecursion}
use Rattle.std.specs.Ordering.{is_eq}
use Rattle.sheet_values.specs.Sorted.{contains as holds}
use Rattle.sheet_values.specs.Order.{value_cmp}
use Rattle.sheet_values.specs.Sets.{contains, minus}
use Rattle.sheet_values.specs.declared.value.Kind.{Kind}
use Rattle.sheet_values.specs.declared.value.Kind.TheVariants as kind
use Rattle.sheet_values.specs.declared.value.Value.{Value}
use Rattle.sheet_values.specs.declared.value.Value.TheVariants.{Truth, Number, Text, Object}
use Rattle.sheet_columns.specs.Tree.{IsOfKind, HasFittingFirst, IsTree}
use Rattle.sheet_columns.specs.declared.tree.Column.TheVariants as column
use Rattle.sheet_columns.specs.declared.tree.Node.{Node}
use Rattle.sheet_state_rows.specs.Rows.{Table, only_live}
use Rattle.sheet_state_rows.specs.declared.row.SetRow.{SetRow}
use Rattle.sheet_meaning.specs.Changes.{first_set}
use Rattle.sheet_meaning.specs.WellFormed.{StateColumn, state_columns}
use Rattle.sheet_meaning.proofs.Columns.{all_from, all_map, column_there}
use Rattle.sheet_meaning.proofs.Members.{IsIn, any_in}
use Rattle.sheet_state_references.specs.Order.{reference_cmp, holds_reference, is_held}
use Rattle.sheet_state_references.specs.declared.references.Reference.{Reference}
use Rattle.sheet_state_references.proofs.Between.{stays}
use Rattle.sheet_state.specs.Births.{new_cell}
use Rattle.sheet_state.specs.Deaths.{swept}
use Rattle.sheet_state.specs.Stored.{schema_of}
use Rattle.sheet_state.specs.Places.{IsListedRow, IsListed}
use Rattle.sheet_state.proofs.Underneath.{all_in}
use Rattle.sheet_state.proofs.WithObject.{all_both}
use Rattle.sheet_state.proofs.WithSet.{all_mono}
use Rattle.sheet_state.proofs.Without.{filter_all}
use Rattle.sheet_state_references.proofs.Searched.{right, one_of}

-- more references are listed
pub record Grows (rs more : List Reference) : Type 0 where
  pub kept : (r : Reference) → holds reference_cmp r rs ≡ true → holds reference_cmp r more ≡ true

pub row_grown : (rs more : List Reference) → Grows rs more → (r : SetRow) → IsListedRow rs r → IsListedRow more r
row_grown rs more g r h = λ live n e. g.kept (record { to = n; object = r.object; column = r.column }) (h live n e)

pub listed_grown : (rs more : List Reference) → Grows rs more → (t : Table) → IsListed rs t → IsListed more t
listed_grown rs more g t h = all_mono (IsListedRow rs) (IsListedRow more) (row_grown rs more g) t.cells h

pub all_grown : (rs more : List Reference) → Grows rs more → (ts : List Table) → AllByRecursion (IsListed rs) ts → AllByRecursion (IsListed more) ts
all_grown rs more g ts h = all_mono (IsListed rs) (IsListed more) (listed_grown rs more g) ts h

-- what is left of a set was in it
in_minus : (v : Value) (xs d : List Value) → contains v (minus xs d) ≡ true → contains v xs ≡ true
in_minus v [] d h = h
in_minus v (x ∷ xs) d h =
    elim (not (contains x d)) as (λ b. contains v (cond b (x ∷ minus xs d) (minus xs d)) ≡ true → contains v (x ∷ xs) ≡ true) [
      | true ↦ λ e. elim (one_of (is_eq (value_cmp v x)) (contains v (minus xs d)) e) [
        | inl f ↦ ap (λ b. b || contains v xs) f
        | inr f ↦ right (is_eq (value_cmp v x)) (contains v xs) (in_minus v xs d f)
      ]
      | false ↦ λ e. right (is_eq (value_cmp v x)) (contains v xs) (in_minus v xs d e)
    ] h

row_swept : (rs : List Reference) (d : List Value) (r : SetRow) → IsListedRow rs r → IsListedRow rs (swept d r)
row_swept rs d r h = at r.live (contains (Object r.object) d)
  where
    at : (b c : Bool) → IsListedRow rs (if b then (if c then record r { live = false; set = [] } else record r { set = minus r.set d }) else r)
    at true true = λ live n e. cc
    at true false = λ live n e. h live n (in_minus (Object n) r.set d e)
    at false c = h

-- after objects are gone
pub cells_swept : (rs : List Reference) (d : List Value) (rows : List SetRow) → AllByRecursion (IsListedRow rs) rows →
    AllByRecursion (IsListedRow rs) (map (swept d) rows)
cells_swept rs d rows h = all_map (IsListedRow rs) (swept d) rows (all_mono (IsListedRow rs) (λ r. IsListedRow rs (swept d r)) (row_swept rs d) rows h)

-- after the rows of gone objects were dropped
pub listed_kept : (rs : List Reference) (t : Table) → IsListed rs t → IsListed rs (only_live t)
listed_kept rs t h = filter_all (IsListedRow rs) (λ (r : SetRow). r.live) t.cells h

no_object : (t : Kind) (v : Value) → IsOfKind t v → (n : ℕ) → contains (Object n) (v ∷ []) ≡ true → ⊥
no_object kind.Truth (Truth b) h n e = cc
no_object kind.Number (Number m) h n e = cc
no_object kind.Text (Text s) h n e = cc
no_object t v h n e = absurd h

no_reference : (t : Kind) (one : Bool) (first : Option Value) → HasFittingFirst (column.State t one first) → (n : ℕ) →
    contains (Object n) (first_set first) ≡ true → ⊥
no_reference t one None h n e = cc
no_reference t one (Some v) h n e = no_object t v h n e

new_row : (rs : List Reference) (nodes : List Node) → IsTree nodes → (o c : ℕ) (sc : StateColumn) → IsIn sc (state_columns (schema_of nodes) c) →
    IsListedRow rs (new_cell o sc)
new_row rs nodes tree o c sc i = λ live n e.
    let m = column_there (schema_of nodes) c sc i in
    let fits = subst HasFittingFirst m.column (tree.fitting sc.number m.node m.at) in
    absurd (no_reference sc.kind sc.one sc.first fits n e)

-- after an object came
pub cells_born : (rs : List Reference) (nodes : List Node) → IsTree nodes → (o c : ℕ) (rows : List SetRow) → AllByRecursion (IsListedRow rs) rows →
    AllByRecursion (IsListedRow rs) (rows ++ map (new_cell o) (state_columns (schema_of nodes) c))
cells_born rs nodes tree o c rows h =
    all_both (IsListedRow rs) rows (map (new_cell o) (state_columns (schema_of nodes) c)) h
    (all_map (IsListedRow rs) (new_cell o) (state_columns (schema_of nodes) c)
    (all_from (λ sc. IsListedRow rs (new_cell o sc)) (state_columns (schema_of nodes) c) (new_row rs nodes tree o c)))

-- after the references were dropped that none holds
pub listed_held : (rs : List Reference) (t : Table) → IsListed rs t → IsListed (filter (is_held t.cells) rs) t
listed_held rs t h = all_from (IsListedRow (filter (is_held t.cells) rs)) t.cells (λ r i live n e. held r i live n e)
  where
    held : (r : SetRow) → IsIn r t.cells → r.live ≡ true → (n : ℕ) → contains (Object n) r.set ≡ true →
        holds reference_cmp (record { to = n; object = r.object; column = r.column }) (filter (is_held t.cells) rs) ≡ true
    held r i live n e =
        let q : Reference = record { to = n; object = r.object; column = r.column } in
        let hit : holds_reference q r ≡ true =
        ap (λ b. b && (r.object == r.object && (r.column == r.column && contains (Object n) r.set))) live
        ∙ ap (λ b. b && (r.column == r.column && contains (Object n) r.set)) (eq-eqb r.object r.object refl)
        ∙ ap (λ b. b && contains (Object n) r.set) (eq-eqb r.column r.column refl)
        ∙ e in
        stays (is_held t.cells) q rs (all_in (IsListedRow rs) t.cells r h i live n e) (any_in (holds_reference q) t.cells r i hit)
