use Rattle.std.proofs.Common.{◌≡◌, ◌∙◌, refl, sym, ap, subst, ℕ, [], ◌∷◌, ◌++◌, arith, None, true}
use Rattle.std.specs.Prelude.{map}
use Rattle.std.specs.List.{AllByRecursion}
use Rattle.sheet_state_rows.specs.Rows.{Versions, with_objects}
use Rattle.sheet_state_rows.specs.declared.row.Counters.{Counters}
use Rattle.sheet_state_rows.specs.declared.row.ObjectRow.{ObjectRow}
use Rattle.sheet_meaning.specs.WellFormed.{state_columns}
use Rattle.sheet_state.specs.Births.{with_rows}
use Rattle.sheet_state.specs.Stored.{IsMoment, schema_of, object_columns}
use Rattle.sheet_state.specs.Places.{IsListed}
use Rattle.sheet_state.specs.Rows.{moment, state_of, IsSound}
use Rattle.sheet_state.proofs.Listed.{cells_born}
use Rattle.sheet_state.proofs.Starting.{first, state_first, sound_first, moment_first}
use Rattle.sheet_state.proofs.state.State.new.Goals as goal

abbrev root : ObjectRow
root = record { number = 0; column = 0; parent = None; live = true }

abbrev counted : ℕ → ℕ → Counters
counted cells values = record { next = 1; objects = 1; cells = cells; values = values }

made : (c : goal.After-empty) →
    c.forget.new.self.present ≡ first c.args.columns.now c.weight_of-weight.ensures.tree (counted c.weight_of-weight.result.0 c.weight_of-weight.result.1)
made c =
    c.forget.ensures.present
    ∙ c.in_ok-add_rows.ensures.rows
    ∙ ap (λ u. with_rows u 0 (state_columns (schema_of c.args.columns.now) 0) (object_columns c.args.columns.now 0))
    (c.in_ok-add_object.ensures.ok ∙ ap (λ (v : Versions). with_objects v.present (v.present.objects ++ root ∷ [])) c.new-tables.ensures)

left : (c : goal.After-drop-items-inside-2) →
    c.forget.new.self.present ≡ first c.args.columns.now c.weight_of-weight.ensures.tree (counted c.weight_of-weight.result.0 c.weight_of-weight.result.1)
left c =
    c.forget.ensures.present
    ∙ c.in_ok-add_rows.ensures.rows
    ∙ ap (λ u. with_rows u 0 (state_columns (schema_of c.args.columns.now) 0) (object_columns c.args.columns.now 0))
    (c.in_ok-add_object.ensures.ok ∙ ap (λ (v : Versions). with_objects v.present (v.present.objects ++ root ∷ [])) c.new-tables.ensures)

pub invariant_of-result : goal.invariant_of-result
invariant_of-result c = (
  subst IsSound (sym (made c)) (sound_first c.args.columns.now c.weight_of-weight.ensures.tree (counted c.weight_of-weight.result.0 c.weight_of-weight.result.1)
      refl refl c.weight_of-weight.ensures.values),
  subst (AllByRecursion IsSound) (sym c.forget.ensures.earlier) tt,
  c.empty.ensures,
  subst (IsListed _) (sym (made c)) (cells_born _ c.args.columns.now c.weight_of-weight.ensures.tree 0 0 [] tt),
  subst (AllByRecursion (IsListed _)) (sym c.forget.ensures.earlier) tt,
)

pub returns-clause-state : goal.returns-clause-state
returns-clause-state c =
    ap state_of (left c) ∙ state_first c.args.columns.now c.weight_of-weight.ensures.tree (counted c.weight_of-weight.result.0 c.weight_of-weight.result.1) refl

pub returns-clause-kept : goal.returns-clause-kept
returns-clause-kept c =
    let w = c.weight_of-weight.ensures in
    record {
      present =
          subst (λ u. IsMoment c.args.columns.now (moment u)) (sym (left c))
          (moment_first c.args.columns.now w.tree (counted c.weight_of-weight.result.0 c.weight_of-weight.result.1) refl w.cells w.few_cells
          (omega (arith, w.values, w.few_values)));
      earlier = subst (λ ts. AllByRecursion (IsMoment c.args.columns.now) (map moment ts)) (sym c.forget.ensures.earlier) tt;
    }
