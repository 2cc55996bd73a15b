-- Books of definitions are well typed.
use Rattle.std.proofs.Common.{◌≡◌, ℕ, ◌+◌, ◌<◌, ◌≤◌, zero, suc, Bool, true, false, cond, List, [], ◌∷◌, ◌++◌, length, map, Option, Some, None, Ok, Err, refl}
use Rattle.std.proofs.Common.{sym, ap, ◌∙◌, subst, append_assoc, length-append, arith}
use Rattle.std.specs.Prelude.{slice_index_or, is_some, codes}
use Rattle.std.specs.List.{AllByRecursion}
use Rattle.std.proofs.lemmas.List.{length-map}
use Rattle.sheet_values.specs.declared.value.Kind.{Kind}
use Rattle.sheet_values.specs.declared.value.Kind.TheVariants as kind
use Rattle.sheet_columns.specs.declared.tree.Column.{Column}
use Rattle.sheet_columns.specs.declared.tree.Column.TheVariants as column
use Rattle.sheet_columns.specs.declared.tree.Node.{Node}
use Rattle.sheet_columns.specs.declared.formula.Core.{Core}
use Rattle.sheet_columns.specs.Tree.{column_of}
use Rattle.sheet_syntax_trees.specs.declared.tree.Tree.{Tree}
use Rattle.sheet_define_data.specs.declared.definition.Content.{Content}
use Rattle.sheet_define_data.specs.declared.definition.Content.TheVariants as content
use Rattle.sheet_define_data.specs.declared.definition.Declaration.{Declaration}
use Rattle.sheet_define_data.specs.declared.definition.Declaration.TheVariants as declaration
use Rattle.sheet_define_data.specs.declared.definition.Definition.{Definition}
use Rattle.sheet_types_rules.specs.Columns.{is_known, kind_of_column, kinds_from, home}
use Rattle.sheet_types_rules.specs.Parameters.{AreParametersIn}
use Rattle.sheet_types_rules.specs.Formulas.{kind_in, serves}
use Rattle.sheet_types_rules.specs.Kinds.{common}
use Rattle.sheet_types_rules.specs.Statements.{suits}
use Rattle.sheet_types_formulas.specs.declared.refusal.TypeRefusal.{TypeRefusal}
use Rattle.sheet_types_formulas.specs.Typing.{typed}
use Rattle.sheet_types_formulas.specs.Answers.{◌>>=◌}
use Rattle.sheet_types_outline.specs.declared.outline.Outline.{Outline}
use Rattle.sheet_types_outline.specs.Columns.{objects_in}
use Rattle.sheet_types_outline.specs.Naming.{untyped}
use Rattle.sheet_types_outline.specs.Steps.{in_turn}
use Rattle.sheet_types_outline.specs.Within.{form, forms_in, IsWithin, OutlinesAreWithin}
use Rattle.sheet_types_outline.proofs.StepLemmas.{both_ok, same_ok}
use Rattle.sheet_types_rounds.specs.Rounds.{formula_in, formulas_of, written_formulas, count_formulas, at_column}
use Rattle.sheet_types_bodies.specs.Bodies.{start, procedure_of, view_of}
use Rattle.sheet_types_bodies.specs.Rules.{ProceduresAreTyped, ViewsAreTyped}
use Rattle.sheet_books.specs.Books.{IsFormulaOf, HasFormula, HaveFormulas, IsWellTypedProcedure, IsWellTypedView, IsWellTyped}
use Rattle.sheet_books.specs.Within.{KindsAreWithin}
use Rattle.sheet_types.specs.declared.bodies.Bodies.{Bodies}
use Rattle.sheet_types.specs.Elaboration.{judged, column_formula, column_body, with_procedure, with_view, add_column, judge, no_bodies, all_judged, with_kinds}
use Rattle.sheet_types.specs.Elaboration.{last_kinds, settled, book_of, with_bodies}
use Rattle.sheet_types.specs.WellTyped.{BooksAreWellTyped}
use Rattle.sheet_types.proofs.SettledLemmas.{FormulasHaveKinds, AreAllKindsIn, AreFrom, from_first, first_is, from_next, first_within, rounds_within}
use Rattle.sheet_types.proofs.SettledLemmas.{settled_object, settled_length, settled_parameters, settled_firsts, settled_columns, settled_forms}
use Rattle.sheet_types_outline.proofs.WithinLemmas.{all_more}

append_nil : {A : Type 0} (xs : List A) → xs ++ [] ≡ xs
append_nil [] = refl
append_nil (x ∷ xs) = ap (λ t. x ∷ t) (append_nil xs)

-- the type of a formula column among those of all columns
formula_kind : (k : ℕ) (nodes : List Node) (c : ℕ) (l : Kind) → column_of nodes c ≡ Some (column.Formula l) →
    slice_index_or (kinds_from k nodes) c kind.Unknown ≡ l
formula_kind k [] c l is = cc
formula_kind k (n ∷ nodes) zero l is = let same : n.column ≡ column.Formula l = cc in ap (kind_of_column k) same
formula_kind k (n ∷ nodes) (suc c) l is = formula_kind (k + 1) nodes c l is

-- A type that a formula column may have is known, and that of its formula serves.
record IsJudged (k found : Kind) : Type 0 where
  known : is_known k ≡ true
  serves : serves k found ≡ true

held : (b : Bool) (e : TypeRefusal) (u : Unit {0}) → cond b (Ok tt) (Err e) ≡ Ok u → b ≡ true
held true e u is = refl
held false e u is = cc

judged_known : (n : List Node) (c : ℕ) (k found : Kind) (u : Unit {0}) → judged n c k found ≡ Ok u → IsJudged k found
judged_known n c kind.Unknown found u is = cc
judged_known n c kind.Truth found u is = record { known = refl; serves = held (is_some (common kind.Truth found)) _ u is }
judged_known n c kind.Number found u is = record { known = refl; serves = held (is_some (common kind.Number found)) _ u is }
judged_known n c kind.Text found u is = record { known = refl; serves = held (is_some (common kind.Text found)) _ u is }
judged_known n c (kind.Object d) found u is = record { known = refl; serves = held (is_some (common (kind.Object d) found)) _ u is }

module _ (haves : FormulasHaveKinds) where
  formula_has : (n : List Node) (c : ℕ) (l : Kind) (e : Tree) (f : Core) → column_of n c ≡ Some (column.Formula l) →
      column_formula n (kinds_from 0 n) c e ≡ Ok f → IsFormulaOf n c l f
  formula_has n c l e f there is =
      let kinds = kinds_from 0 n in
      let k = slice_index_or kinds c kind.Unknown in
      let a = both_ok (typed e (at_column n kinds c)) (λ t. judged n c k t.kind >>= (λ u. Ok t.core)) f is in
      let b = both_ok (judged n c k a.0.kind) (λ u. Ok a.0.core) f a.2 in
      let same : a.0.core ≡ f = same_ok a.0.core f b.2 in
      let j : IsJudged l a.0.kind = subst (λ m. IsJudged m a.0.kind) (formula_kind 0 n c l there) (judged_known n c k a.0.kind b.0 b.1) in
      let has = haves n kinds (record { name = codes "this"; kind = kind.Object (home n c) } ∷ []) e a.0 a.1 in
      (j.known, subst (λ g. suits l (kind_in g n kinds (kind.Object (home n c) ∷ [])) ≡ true) same (ap (suits l) has ∙ j.serves))

  body_has : (n : List Node) (c : ℕ) (x : Column) (w : Content) (f : Option Core) → column_of n c ≡ Some x → form x ≡ untyped w →
      column_body n (kinds_from 0 n) c (formula_in w) ≡ Ok f → HasFormula n c x f
  body_has n c column.Object content.Object f there same is = sym (same_ok None f is)
  body_has n c column.Object (content.State t one first) f there same is = cc
  body_has n c column.Object (content.Formula t e) f there same is = cc
  body_has n c (column.State k o v) content.Object f there same is = cc
  body_has n c (column.State k o v) (content.State t one first) f there same is = sym (same_ok None f is)
  body_has n c (column.State k o v) (content.Formula t e) f there same is = cc
  body_has n c (column.Formula l) content.Object f there same is = cc
  body_has n c (column.Formula l) (content.State t one first) f there same is = cc
  body_has n c (column.Formula l) (content.Formula t e) f there same is =
      let a = both_ok (column_formula n (kinds_from 0 n) c e) (λ g. Ok (Some g)) f is in
      subst (HasFormula n c (column.Formula l)) (same_ok (Some a.0) f a.2) (formula_has n c l e a.0 there a.1)

longer : (fs : List (Option Core)) (f : Option Core) (c : ℕ) → length fs ≡ c → length (fs ++ f ∷ []) ≡ c + 1
longer fs f c counted = length-append fs (f ∷ []) ∙ ap (λ k. k + 1) counted

regrouped : (all fs more : List (Option Core)) (f : Option Core) → all ≡ (fs ++ f ∷ []) ++ more → all ≡ fs ++ (f ∷ more)
regrouped all fs more f grown = grown ∙ append_assoc fs (f ∷ []) more

-- What declarations add goes with these columns, which have the numbers from that one on.
record Goes (n : List Node) (c : ℕ) (ms : List Node) (s t : Bodies) : Type 0 where
  more : List (Option Core)
  grown : t.formulas ≡ s.formulas ++ more
  have : HaveFormulas n c ms more

module _ (haves : FormulasHaveKinds) (o : Outline) where
  abbrev kinds : List Kind
  kinds = kinds_from 0 o.columns

  goes : (ds : List Declaration) (c : ℕ) (s t : Bodies) (ms : List Node) → length s.formulas ≡ c → in_turn (judge o kinds) s ds ≡ Ok t → AreFrom o.columns c ms
      → map (λ (m : Node). form m.column) ms ≡ forms_in ds → Goes o.columns c ms s t
  goes [] c s t [] counted is from forms =
      record { more = []; grown = ap (λ (b : Bodies). b.formulas) (sym (same_ok s t is)) ∙ sym (append_nil s.formulas); have = tt }
  goes [] c s t (m ∷ ms) counted is from forms = cc
  goes (declaration.Callers line p ∷ ds) c s t ms counted is from forms = goes ds c s t ms counted is from forms
  goes (declaration.Column w ∷ ds) c s t [] counted is from forms = cc
  goes (declaration.Column w ∷ ds) c s t (m ∷ ms) counted is from forms =
      let a = both_ok (add_column o kinds s w) (λ u. in_turn (judge o kinds) u ds) t is in
      let b = both_ok (column_body o.columns kinds (length s.formulas) (formula_in w.content)) (λ f. Ok (record s { formulas = s.formulas ++ f ∷ [] })) a.0
      a.1 in
      let next : Bodies = record s { formulas = s.formulas ++ b.0 ∷ [] } in
      let e : next ≡ a.0 = same_ok next a.0 b.2 in
      let here : form m.column ≡ untyped w.content = cc in
      let rest : map (λ (n : Node). form n.column) ms ≡ forms_in ds = cc in
      let long : length next.formulas ≡ c + 1 = longer s.formulas b.0 c counted in
      let r = goes ds (c + 1) next t ms long (subst (λ u. in_turn (judge o kinds) u ds ≡ Ok t) (sym e) a.2) (from_next o.columns c m ms from) rest in
      let has : HasFormula o.columns (length s.formulas) m.column b.0 =
      body_has haves o.columns (length s.formulas) m.column w.content b.0 (ap (column_of o.columns) counted ∙ first_is o.columns c m ms from) here b.1 in
      record {
        more = b.0 ∷ r.more;
        grown = regrouped t.formulas s.formulas r.more b.0 r.grown;
        have = (subst (λ k. HasFormula o.columns k m.column b.0) counted has, r.have);
      }
  goes (declaration.Procedure p ∷ ds) c s t ms counted is from forms =
      let ps = slice_index_or o.procedures (length s.procedures) [] in
      let a = both_ok (with_procedure o kinds s p ps) (λ u. in_turn (judge o kinds) u ds) t is in
      let b = both_ok (procedure_of p ps (start o.columns kinds o.callers ps)) (λ q. Ok (record s { procedures = s.procedures ++ q ∷ [] })) a.0 a.1 in
      let next : Bodies = record s { procedures = s.procedures ++ b.0 ∷ [] } in
      let e : next ≡ a.0 = same_ok next a.0 b.2 in
      let r = goes ds c next t ms counted (subst (λ u. in_turn (judge o kinds) u ds ≡ Ok t) (sym e) a.2) from forms in
      record { more = r.more; grown = r.grown; have = r.have }
  goes (declaration.View v ∷ ds) c s t ms counted is from forms =
      let ps = slice_index_or o.views (length s.views) [] in
      let a = both_ok (with_view o kinds s v ps) (λ u. in_turn (judge o kinds) u ds) t is in
      let b = both_ok (view_of v ps (start o.columns kinds o.callers ps)) (λ q. Ok (record s { views = s.views ++ q ∷ [] })) a.0 a.1 in
      let next : Bodies = record s { views = s.views ++ b.0 ∷ [] } in
      let e : next ≡ a.0 = same_ok next a.0 b.2 in
      let r = goes ds c next t ms counted (subst (λ u. in_turn (judge o kinds) u ds ≡ Ok t) (sym e) a.2) from forms in
      record { more = r.more; grown = r.grown; have = r.have }

  root_has : (x : Column) → form x ≡ column.Object → HasFormula o.columns 0 x None
  root_has column.Object same = refl
  root_has (column.State k one first) same = cc
  root_has (column.Formula k) same = cc

  have_all : (ds : List Declaration) (t : Bodies) (ms : List Node) → all_judged o kinds ds ≡ Ok t → AreFrom o.columns 0 ms
      → map (λ (m : Node). form m.column) ms ≡ column.Object ∷ forms_in ds → HaveFormulas o.columns 0 ms t.formulas
  have_all ds t [] is from forms = cc
  have_all ds t (m ∷ ms) is from forms =
      let first : form m.column ≡ column.Object = cc in
      let rest : map (λ (n : Node). form n.column) ms ≡ forms_in ds = cc in
      let g = goes ds 1 no_bodies t ms refl is (from_next o.columns 0 m ms from) rest in
      subst (HaveFormulas o.columns 0 (m ∷ ms)) (sym g.grown) (root_has m.column first, g.have)

-- So far all procedures and views are well typed.
record AreTyped (o : Outline) (s : Bodies) : Type 0 where
  procedures : AllByRecursion (IsWellTypedProcedure o.columns o.callers) s.procedures
  views : AllByRecursion (IsWellTypedView o.columns o.callers) s.views

parameters_at : (n : List Node) (lists : List (List (List ℕ × Kind))) (k : ℕ) → AllByRecursion (AreParametersIn n) lists →
    AreParametersIn n (slice_index_or lists k [])
parameters_at n [] k all = (omega arith, tt)
parameters_at n (ps ∷ lists) zero all = all.0
parameters_at n (ps ∷ lists) (suc k) all = parameters_at n lists k all.1

module _ (typed_procedures : ProceduresAreTyped) (typed_views : ViewsAreTyped) (o : Outline) where
  abbrev own : List Kind
  own = kinds_from 0 o.columns

  step_typed : (s t : Bodies) (d : Declaration) → AllByRecursion (AreParametersIn o.columns) o.procedures → AllByRecursion (AreParametersIn o.columns) o.views
      → AreTyped o s → judge o own s d ≡ Ok t → AreTyped o t
  step_typed s t (declaration.Callers line p) procedures views all is = subst (AreTyped o) (same_ok s t is) all
  step_typed s t (declaration.Column w) procedures views all is =
      let b = both_ok (column_body o.columns own (length s.formulas) (formula_in w.content)) (λ f. Ok (record s { formulas = s.formulas ++ f ∷ [] })) t is in
      let next : Bodies = record s { formulas = s.formulas ++ b.0 ∷ [] } in
      subst (AreTyped o) (same_ok next t b.2) (record { procedures = all.procedures; views = all.views })
  step_typed s t (declaration.Procedure p) procedures views all is =
      let ps = slice_index_or o.procedures (length s.procedures) [] in
      let b = both_ok (procedure_of p ps (start o.columns own o.callers ps)) (λ q. Ok (record s { procedures = s.procedures ++ q ∷ [] })) t is in
      let next : Bodies = record s { procedures = s.procedures ++ b.0 ∷ [] } in
      let here = typed_procedures o.columns o.callers ps p b.0 (parameters_at o.columns o.procedures (length s.procedures) procedures) b.1 in
      subst (AreTyped o) (same_ok next t b.2) (record {
        procedures = all_more (IsWellTypedProcedure o.columns o.callers) s.procedures b.0 all.procedures here;
        views = all.views;
      })
  step_typed s t (declaration.View v) procedures views all is =
      let ps = slice_index_or o.views (length s.views) [] in
      let b = both_ok (view_of v ps (start o.columns own o.callers ps)) (λ w. Ok (record s { views = s.views ++ w ∷ [] })) t is in
      let next : Bodies = record s { views = s.views ++ b.0 ∷ [] } in
      let here = typed_views o.columns o.callers ps v b.0 (parameters_at o.columns o.views (length s.views) views) b.1 in
      subst (AreTyped o) (same_ok next t b.2) (record {
        procedures = all.procedures;
        views = all_more (IsWellTypedView o.columns o.callers) s.views b.0 all.views here;
      })

  all_typed : (ds : List Declaration) (s t : Bodies) → AllByRecursion (AreParametersIn o.columns) o.procedures →
      AllByRecursion (AreParametersIn o.columns) o.views
      → AreTyped o s → in_turn (judge o own) s ds ≡ Ok t → AreTyped o t
  all_typed [] s t procedures views all is = subst (AreTyped o) (same_ok s t is) all
  all_typed (d ∷ ds) s t procedures views all is =
      let a = both_ok (judge o own s d) (λ u. in_turn (judge o own) u ds) t is in
      all_typed ds a.0 t procedures views (step_typed s a.0 d procedures views all a.1) a.2

settled_lists : (ks : List Kind) (nodes : List Node) (lists : List (List (List ℕ × Kind))) → AllByRecursion (AreParametersIn nodes) lists →
    AllByRecursion (AreParametersIn (with_kinds ks 0 nodes)) lists
settled_lists ks nodes [] all = tt
settled_lists ks nodes (ps ∷ lists) all = (settled_parameters ks nodes ps all.0, settled_lists ks nodes lists all.1)

-- the books of orderly definitions are well typed
pub books_well_typed : OutlinesAreWithin → FormulasHaveKinds → KindsAreWithin → ProceduresAreTyped → ViewsAreTyped → BooksAreWellTyped
books_well_typed outlines haves within procedures views d o b orderly is tree made =
    let w : IsWithin d o = outlines d o orderly is in
    let formulas = formulas_of d.declarations in
    let ks = last_kinds d o in
    let found : AreAllKindsIn o.columns ks =
    rounds_within haves within o.columns tree formulas (count_formulas formulas) (kinds_from 0 o.columns) (first_within o.columns w.columns) in
    let p : Outline = settled d o in
    let a = both_ok (all_judged p (kinds_from 0 p.columns) d.declarations) (λ s. Ok (book_of p s)) b made in
    let typed_all = all_typed procedures views p d.declarations no_bodies a.0 (settled_lists ks o.columns o.procedures w.procedures)
    (settled_lists ks o.columns o.views w.views) (record { procedures = tt; views = tt }) a.1 in
    subst IsWellTyped (same_ok (book_of p a.0) b a.2) (record {
      callers = settled_object ks 0 o.columns o.callers w.callers;
      columns = settled_columns ks o.columns found w.columns;
      first_values = settled_firsts ks 0 o.columns w.first_values;
      formulas = have_all haves p d.declarations a.0 p.columns a.1 (from_first p.columns) (settled_forms ks 0 o.columns ∙ w.forms);
      procedures = typed_all.procedures;
      views = typed_all.views;
    })

forms_written : (ds : List Declaration) → length (written_formulas ds) ≡ length (forms_in ds)
forms_written [] = refl
forms_written (declaration.Callers line p ∷ ds) = forms_written ds
forms_written (declaration.Column c ∷ ds) = let rest = forms_written ds in omega (arith, rest)
forms_written (declaration.Procedure p ∷ ds) = forms_written ds
forms_written (declaration.View v ∷ ds) = forms_written ds

forms_objects : (ds : List Declaration) → length (objects_in ds) ≡ length (forms_in ds)
forms_objects [] = refl
forms_objects (declaration.Callers line p ∷ ds) = forms_objects ds
forms_objects (declaration.Column c ∷ ds) = let rest = forms_objects ds in omega (arith, rest)
forms_objects (declaration.Procedure p ∷ ds) = forms_objects ds
forms_objects (declaration.View v ∷ ds) = forms_objects ds

-- there is a column for each formula
pub formulas_fit : (d : Definition) (o : Outline) → IsWithin d o → length (formulas_of d.declarations) ≤ length o.columns
formulas_fit d o w =
    let count = length-map o.columns (λ (n : Node). form n.column) in
    let same = ap length w.forms in
    let written = forms_written d.declarations in
    omega (arith, count, same, written)

-- and behind the root one for each declared column
pub objects_fit : (d : Definition) (o : Outline) (ks : List Kind) → IsWithin d o → length (objects_in d.declarations) < length (with_kinds ks 0 o.columns)
objects_fit d o ks w =
    let settled_count = settled_length ks 0 o.columns in
    let count = length-map o.columns (λ (n : Node). form n.column) in
    let same = ap length w.forms in
    let objects = forms_objects d.declarations in
    omega (arith, settled_count, count, same, objects)

-- what the third pass makes of an outline whose formula columns have these types
pub made_by : (d : Definition) (o : Outline) (columns : List Node) (ks : List Kind) (ds : List Declaration) (s : Bodies) →
    columns ≡ with_kinds (last_kinds d o) 0 o.columns
    → ks ≡ kinds_from 0 columns → ds ≡ d.declarations → all_judged (record o { columns = columns }) ks ds ≡ Ok s
    → with_bodies (settled d o) d.declarations ≡ Ok (book_of (record o { columns = columns }) s)
made_by d o columns ks ds s settled_is kinds_are declared made =
    subst (λ ns. with_bodies (settled d o) d.declarations ≡ Ok (book_of (record o { columns = ns }) s)) (sym settled_is)
    (ap (λ r. r >>= (λ b. Ok (book_of (settled d o) b)))
    (subst (λ ns. all_judged (record o { columns = ns }) (kinds_from 0 ns) d.declarations ≡ Ok s) settled_is
    (subst (λ es. all_judged (record o { columns = columns }) (kinds_from 0 columns) es ≡ Ok s) declared
    (subst (λ k. all_judged (record o { columns = columns }) k ds ≡ Ok s) kinds_are made))))
