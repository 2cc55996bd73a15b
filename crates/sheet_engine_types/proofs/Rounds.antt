-- Formula cells have their columns' types in every round, and so have the values of formulas.
use Rattle.std.proofs.Common.{◌≡◌, refl, sym, ap, ◌∙◌, subst, inl, inr, ℕ, true, false, List, [], ◌∷◌, Ok, Err, Option, Some, None}
use Rattle.std.specs.Prelude.{◌⊎◌, ◌==◌, ◌&&◌, zero, suc, map, IfOk, if◌then◌else◌}
use Rattle.std.proofs.lemmas.Bool.{eqb-true}
use Rattle.sheet_values.specs.declared.value.Kind.{Kind}
use Rattle.sheet_values.specs.declared.value.Kind.TheVariants as kind
use Rattle.sheet_values.specs.declared.value.Value.{Value}
use Rattle.sheet_values.specs.declared.value.Value.TheVariants.{Object}
use Rattle.sheet_columns.specs.Tree.{column_of, above_of, is_number}
use Rattle.sheet_columns.specs.declared.fault.Place.TheVariants as place
use Rattle.sheet_columns.specs.declared.tree.Column.TheVariants as column
use Rattle.sheet_columns.specs.declared.tree.Node.{Node}
use Rattle.sheet_types_rules.specs.Columns.{kinds_from, home, home_at}
use Rattle.sheet_types_rules.specs.Formulas.{kind_in}
use Rattle.sheet_types_rules.specs.Kinds.{common}
use Rattle.sheet_meaning.specs.Rounds.{Table, outcome_in, world_at, run_cell, table, rounds}
use Rattle.sheet_meaning.specs.Run.{Outcome, none}
use Rattle.sheet_meaning.specs.WellFormed.{IsWellFormed}
use Rattle.sheet_meaning.specs.Workbook.{FormulaCell, object_at, column_in, formula_cell, cells_of, formula_cells}
use Rattle.sheet_meaning.specs.declared.workbook.LiveObject.{LiveObject}
use Rattle.sheet_meaning.specs.declared.workbook.Workbook.{Workbook}
use Rattle.sheet_meaning.proofs.Columns.{all_in}
use Rattle.sheet_meaning.proofs.Members.{IsIn, from_flat_map, from_filter_map, both_true}
use Rattle.sheet_meaning.proofs.Untouched.{found_rising}
use Rattle.sheet_engine_types.specs.Types.{IsSetOf, HaveKinds, FitsItsColumn, IsTypedSchema, RoundsHaveKinds, MeaningsHaveKinds, ValuesHaveKinds}
use Rattle.sheet_engine_types.proofs.Forms.{AreWorked, forms_typed}
use Rattle.sheet_engine_types.proofs.OneKind.{came, agree, becomes, of_one, set_where_live}

-- what is known of a formula cell: its formula is that of its column, which stands directly under its live object's column
record IsOwn (w : Workbook) (f : FormulaCell) : Type 0 where
  live : column_in (object_at w.state.objects f.object) ≡ Some (home w.schema.columns f.column)
  fits : FitsItsColumn w.schema.columns (record { column = f.column; core = f.core })

module _ (w : Workbook) (formed : IsWellFormed w) (schema : IsTypedSchema w.schema) where
  abbrev nodes : List Node
  nodes = w.schema.columns

  abbrev cells : List FormulaCell
  cells = formula_cells w

  own : (f : FormulaCell) → IsIn f cells → IsOwn w f
  own f i =
      let x = from_flat_map (λ (y : LiveObject). cells_of w.schema y.number y.column) w.state.objects f i in
      let g = from_filter_map (formula_cell w.schema x.0.number x.0.column) w.schema.formulas f x.2 in
      let fits = all_in (FitsItsColumn nodes) w.schema.formulas g.0 schema g.1 in
      let found = found_rising w.state.objects formed.rising x.0 x.1 in
      elim (is_number x.0.column (above_of nodes g.0.column)) as (λ b. is_number x.0.column (above_of nodes g.0.column) ≡ b →
      (if b then Some (record { object = x.0.number; column = g.0.column; core = g.0.core }) else None) ≡ Some f → IsOwn w f) [
        | true ↦ λ e h.
            let same : record { object = x.0.number; column = g.0.column; core = g.0.core } ≡ f = cc in
            subst (IsOwn w) same
            (record {
              live = ap column_in found ∙ ap Some (sym (above_is x.0.column (above_of nodes g.0.column) e));
              fits = fits;
            })
        | false ↦ λ e h. cc
      ] refl g.2
    where
      above_is : (c : ℕ) (o : Option ℕ) → is_number c o ≡ true → home_at o ≡ c
      above_is c None e = cc
      above_is c (Some d) e = sym (eqb-true c d e)

  -- worked out over outcomes of the right types, a formula cell gives one of its own
  worked_out : (t : Table) → AreWorked w (outcome_in cells t) → (f : FormulaCell) → IsIn f cells → (k : Kind) →
      column_of nodes f.column ≡ Some (column.Formula k) → IfOk (run_cell (world_at w t) f).outcome (IsSetOf w.state k)
  worked_out t sound f i k is =
      let mine = own f i in
      let this = home nodes f.column in
      let r = came (kind_in f.core nodes (kinds_from 0 nodes) (kind.Object this ∷ [])) (common k) k (mine.fits k is) in
      let bound : HaveKinds w.state (kind.Object this ∷ []) ((Object f.object ∷ []) ∷ []) =
      (set_where_live w.state (kind.Object this) (Object f.object ∷ []) (of_one w.state (kind.Object this) (Object f.object) mine.live), tt) in
      become r.from k (agree k r.from k r.gives).right (run_cell (world_at w t) f).outcome
      (forms_typed w formed (outcome_in cells t) sound (place.Cell f.object f.column) f.core (kind.Object this ∷ []) ((Object f.object ∷ []) ∷ []) r.from bound
      r.is)
    where
      become : (x y : Kind) → (x ≡ kind.Unknown) ⊎ (x ≡ y) → (o : Outcome (List Value)) → IfOk o (IsSetOf w.state x) → IfOk o (IsSetOf w.state y)
      become x y b (Ok set) h = becomes w.state x y set b h
      become x y b (Err e) h = tt

  -- what is found in a table that was made of formula cells
  found_in_table : (g : FormulaCell → Outcome (List Value)) (fs : List FormulaCell) (o c : ℕ) (k : Kind) →
      ((f : FormulaCell) → IsIn f fs → f.column ≡ c → IfOk (g f) (IsSetOf w.state k)) → IfOk (outcome_in fs (map g fs) o c) (IsSetOf w.state k)
  found_in_table g [] o c k h = tt
  found_in_table g (f ∷ fs) o c k h =
      elim (f.object == o && f.column == c) as (λ b. (f.object == o && f.column == c) ≡ b →
      IfOk (if b then g f else outcome_in fs (map g fs) o c) (IsSetOf w.state k)) [
        | true ↦ λ e. h f (inl refl) (eqb-true f.column c (both_true (f.object == o) (f.column == c) e).1)
        | false ↦ λ e. found_in_table g fs o c k (λ x i. h x (inr i))
      ] refl

  pub after_rounds : (r : ℕ) → AreWorked w (outcome_in cells (table w r))
  after_rounds zero o c k is = found_in_table (λ f. none) cells o c k (λ f i e. tt)
  after_rounds (suc r) o c k is =
      found_in_table (λ f. (run_cell (world_at w (table w r)) f).outcome) cells o c k
      (λ f i e. worked_out (table w r) (after_rounds r) f i k (ap (column_of nodes) e ∙ is))

pub rounds_have_kinds : RoundsHaveKinds
rounds_have_kinds w r o c k formed schema is = after_rounds w formed schema r o c k is

pub meanings_have_kinds : MeaningsHaveKinds
meanings_have_kinds w o c k formed schema is = after_rounds w formed schema (rounds w) o c k is

pub values_have_kinds : ValuesHaveKinds
values_have_kinds w e p v sets k formed schema got h =
    forms_typed w formed (outcome_in (formula_cells w) (table w (rounds w))) (after_rounds w formed schema (rounds w)) p e v sets k h got
