-- What a step of the third pass adds.
use Rattle.std.proofs.Common.{◌≡◌, ℕ, ◌+◌, ◌≤◌, List, [], ◌∷◌, ◌++◌, length, Ok, sym, ap, ◌∙◌, length-append, arith}
use Rattle.std.specs.Prelude.{slice_index_or}
use Rattle.sheet_values.specs.declared.value.Kind.{Kind}
use Rattle.sheet_define_data.specs.declared.definition.Declaration.{Declaration}
use Rattle.sheet_define_data.specs.declared.definition.Declaration.TheVariants as declaration
use Rattle.sheet_types_outline.specs.declared.outline.Outline.{Outline}
use Rattle.sheet_types_outline.specs.Columns.{objects_at, objects_in}
use Rattle.sheet_types_outline.proofs.StepLemmas.{both_ok, same_ok}
use Rattle.sheet_types_rounds.specs.Rounds.{formula_in}
use Rattle.sheet_types_bodies.specs.Bodies.{start, procedure_of, view_of}
use Rattle.sheet_types.specs.declared.bodies.Bodies.{Bodies}
use Rattle.sheet_types.specs.Elaboration.{column_body, judge}

same_formulas : (s t : Bodies) → s ≡ t → length t.formulas ≡ length s.formulas + 0
same_formulas s t same = let e = ap (λ (b : Bodies). length b.formulas) same in omega (arith, e)

-- there is a formula more, or none, for each declared column
pub judged_grows : (o : Outline) (kinds : List Kind) (s t : Bodies) (d : Declaration) → judge o kinds s d ≡ Ok t →
    length t.formulas ≡ length s.formulas + length (objects_at d)
judged_grows o kinds s t (declaration.Callers line p) is = same_formulas s t (same_ok s t is)
judged_grows o kinds s t (declaration.Column w) is =
    let b = both_ok (column_body o.columns kinds (length s.formulas) (formula_in w.content)) (λ f. Ok (record s { formulas = s.formulas ++ f ∷ [] })) t is in
    let next : Bodies = record s { formulas = s.formulas ++ b.0 ∷ [] } in
    ap (λ (u : Bodies). length u.formulas) (sym (same_ok next t b.2)) ∙ length-append s.formulas (b.0 ∷ [])
judged_grows o kinds s t (declaration.Procedure p) is =
    let ps = slice_index_or o.procedures (length s.procedures) [] in
    let b = both_ok (procedure_of p ps (start o.columns kinds o.callers ps)) (λ q. Ok (record s { procedures = s.procedures ++ q ∷ [] })) t is in
    let next : Bodies = record s { procedures = s.procedures ++ b.0 ∷ [] } in
    same_formulas next t (same_ok next t b.2)
judged_grows o kinds s t (declaration.View v) is =
    let ps = slice_index_or o.views (length s.views) [] in
    let b = both_ok (view_of v ps (start o.columns kinds o.callers ps)) (λ w. Ok (record s { views = s.views ++ w ∷ [] })) t is in
    let next : Bodies = record s { views = s.views ++ b.0 ∷ [] } in
    same_formulas next t (same_ok next t b.2)

-- there is a place for each formula behind a declaration
pub counted_behind : (d : Declaration) (ds : List Declaration) (count more all : ℕ) → more ≡ count + length (objects_at d) →
    count + length (objects_at d ++ objects_in ds) ≤ all → more + length (objects_in ds) ≤ all
counted_behind d ds count more all grown few = let e = length-append (objects_at d) (objects_in ds) in omega (arith, e, grown, few)
