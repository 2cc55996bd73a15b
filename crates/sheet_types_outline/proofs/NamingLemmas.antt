-- What a step of the first pass keeps.
use Rattle.std.proofs.Common.{◌≡◌, ℕ, ◌+◌, ◌<◌, zero, suc, true, false, List, [], ◌∷◌, ◌++◌, length, map, take, Option, Some, None, Ok, Err, refl, sym, ap, ◌∙◌}
use Rattle.std.proofs.Common.{subst, arith, length-append}
use Rattle.std.specs.Prelude.{◌==◌, is_some, slice_get, slice_index_or, option_map}
use Rattle.std.proofs.lemmas.Bool.Decides.{nat_tests}
use Rattle.std.proofs.lemmas.List.{map-append, length-take-le}
use Rattle.sheet_columns.specs.declared.tree.Column.TheVariants as column
use Rattle.sheet_columns.specs.declared.tree.ColumnRefusal.{ColumnRefusal}
use Rattle.sheet_columns.specs.declared.tree.ColumnRefusal.TheVariants as refusal
use Rattle.sheet_columns.specs.declared.tree.Node.{Node}
use Rattle.sheet_columns.specs.Tree.{column_of, child_named, depth}
use Rattle.sheet_define_data.specs.declared.definition.Column.{Column}
use Rattle.sheet_define_data.specs.declared.definition.Content.{Content}
use Rattle.sheet_define_data.specs.declared.definition.Content.TheVariants.{Object, State, Formula}
use Rattle.sheet_define_data.specs.declared.definition.Declaration.{Declaration}
use Rattle.sheet_define_data.specs.declared.definition.Declaration.TheVariants as declaration
use Rattle.sheet_define_data.specs.declared.definition.Procedure.{Procedure}
use Rattle.sheet_define_data.specs.declared.definition.View.{View}
use Rattle.sheet_types_formulas.specs.declared.refusal.TypeRefusal.TheVariants.{Doubled}
use Rattle.sheet_types_formulas.specs.Answers.{◌>>=◌}
use Rattle.sheet_types_outline.specs.declared.naming.Named.{Named}
use Rattle.sheet_types_outline.specs.Columns.{is_object, objects_at, is_object_node, AreObjects}
use Rattle.sheet_types_outline.specs.Names.{one_more}
use Rattle.sheet_types_outline.specs.Steps.{Leaves}
use Rattle.sheet_types_outline.specs.Naming.{parameter_names, part_names, refusal_on, untyped, open_behind, name_callers, name_under, name_procedure, name_view}
use Rattle.sheet_types_outline.specs.Naming.{name_declaration}
use Rattle.sheet_types_outline.specs.Orderly.{IsOrderlyAt, count_inside, count_behind}
use Rattle.sheet_types_outline.proofs.StepLemmas.{both_ok, refused_not, passed, refused_by, not_refused_by}

-- an open column is an object column
pub open_object : (nodes : List Node) (opened : List ℕ) → AreObjects nodes opened → (k : ℕ) → k < length opened →
    column_of nodes (slice_index_or opened k 0) ≡ Some column.Object
open_object nodes [] all k lt = absurd (omega arith)
open_object nodes (c ∷ cs) all zero lt = all.0
open_object nodes (c ∷ cs) all (suc k) lt = open_object nodes cs all.1 k (omega arith)

get_more : {A : Type 0} (xs ys : List A) (k : ℕ) (x : A) → slice_get xs k ≡ Some x → slice_get (xs ++ ys) k ≡ Some x
get_more [] ys k x got = cc
get_more (y ∷ xs) ys zero x got = got
get_more (y ∷ xs) ys (suc k) x got = get_more xs ys k x got

get_new : {A : Type 0} (xs : List A) (x : A) → slice_get (xs ++ x ∷ []) (length xs) ≡ Some x
get_new [] x = refl
get_new (y ∷ xs) x = get_new xs x

some_column : (o p : Option Node) → ((n : Node) → o ≡ Some n → p ≡ Some n) → option_map (λ (n : Node). n.column) o ≡ Some column.Object →
    option_map (λ (n : Node). n.column) p ≡ Some column.Object
some_column None p f e = cc
some_column (Some n) p f e = ap (option_map (λ (n : Node). n.column)) (f n refl) ∙ e

-- object columns stay object columns where more columns come
still_objects : (nodes more : List Node) (cs : List ℕ) → AreObjects nodes cs → AreObjects (nodes ++ more) cs
still_objects nodes more [] all = tt
still_objects nodes more (c ∷ cs) all =
    (some_column (slice_get nodes c) (slice_get (nodes ++ more) c) (λ n got. get_more nodes more c n got) all.0, still_objects nodes more cs all.1)

taken_objects : (nodes : List Node) (cs : List ℕ) (k : ℕ) → AreObjects nodes cs → AreObjects nodes (take k cs)
taken_objects nodes cs zero all = tt
taken_objects nodes [] (suc k) all = tt
taken_objects nodes (c ∷ cs) (suc k) all = (all.0, taken_objects nodes cs k all.1)

one_more_object : (nodes : List Node) (cs : List ℕ) (c : ℕ) → AreObjects nodes cs → column_of nodes c ≡ Some column.Object → AreObjects nodes (cs ++ c ∷ [])
one_more_object nodes [] c all here = (here, tt)
one_more_object nodes (b ∷ cs) c all here = (all.0, one_more_object nodes cs c all.1 here)

-- The object columns stay open or are closed, as many as the depths say, and the columns are those declared.
pub record GoesOn (s t : Named) (d : Declaration) : Type 0 where
  pub objects : AreObjects t.columns t.opened
  pub count : length t.opened ≡ count_behind (length s.opened) d
  pub sorts : map is_object_node t.columns ≡ map is_object_node s.columns ++ objects_at d

append_nil : {A : Type 0} (xs : List A) → xs ++ [] ≡ xs
append_nil [] = refl
append_nil (x ∷ xs) = ap (λ t. x ∷ t) (append_nil xs)

-- a step that adds no column
same : (s t : Named) (d : Declaration) → AreObjects s.columns s.opened → s.columns ≡ t.columns → s.opened ≡ t.opened → objects_at d ≡ [] →
    count_behind (length s.opened) d ≡ length s.opened → GoesOn s t d
same s t d all columns opened none behind = record {
  objects = subst (λ o. AreObjects t.columns o) opened (subst (λ ns. AreObjects ns s.opened) columns all);
  count = ap length (sym opened) ∙ sym behind;
  sorts = ap (map is_object_node) (sym columns) ∙ sym (append_nil _) ∙ ap (λ bs. map is_object_node s.columns ++ bs) (sym none);
}

sort_untyped : (x : Content) (a : Option ℕ) (name : List ℕ) → is_object_node (record { above = a; name = name; column = untyped x }) ≡ is_object x
sort_untyped Object a name = refl
sort_untyped (State t one first) a name = refl
sort_untyped (Formula t f) a name = refl

opened_objects : (nodes : List Node) (a : Option ℕ) (name : List ℕ) (x : Content) (opened : List ℕ) (k : ℕ) → AreObjects nodes opened
    → AreObjects (nodes ++ record { above = a; name = name; column = untyped x } ∷ []) (open_behind opened k (length nodes) x)
opened_objects nodes a name Object opened k all =
    one_more_object _ (take (k + 1) opened) (length nodes) (taken_objects _ opened (k + 1) (still_objects nodes _ opened all))
    (ap (option_map (λ (n : Node). n.column)) (get_new nodes _))
opened_objects nodes a name (State t one first) opened k all = taken_objects _ opened (k + 1) (still_objects nodes _ opened all)
opened_objects nodes a name (Formula t f) opened k all = taken_objects _ opened (k + 1) (still_objects nodes _ opened all)

opened_count : (opened : List ℕ) (k number : ℕ) (x : Content) → k < length opened → length (open_behind opened k number x) ≡ count_inside k x
opened_count opened k number Object lt =
    let e = length-take-le (k + 1) opened (omega arith) in let l = length-append (take (k + 1) opened) (number ∷ []) in omega arith
opened_count opened k number (State t one first) lt = length-take-le (k + 1) opened (omega arith)
opened_count opened k number (Formula t f) lt = length-take-le (k + 1) opened (omega arith)

goes_callers : (s t : Named) (line : ℕ) (d : Declaration) → AreObjects s.columns s.opened → objects_at d ≡ [] →
    count_behind (length s.opened) d ≡ length s.opened → name_callers s line ≡ Ok t → GoesOn s t d
goes_callers s t line d all none behind is =
    let e : record s { has_callers = true } ≡ t = passed s.has_callers _ _ t is in
    same s t d all (ap (λ (n : Named). n.columns) e) (ap (λ (n : Named). n.opened) e) none behind

goes_procedure : (s t : Named) (p : Procedure) (d : Declaration) → AreObjects s.columns s.opened → objects_at d ≡ [] →
    count_behind (length s.opened) d ≡ length s.opened → name_procedure s p ≡ Ok t → GoesOn s t d
unfolding name_procedure
goes_procedure s t p d all none behind is =
    let a = both_ok (one_more s.procedures p.line p.name) (λ names. parameter_names p.parameters >>= λ parameters. Ok (record s { procedures = names })) t is in
    let b = both_ok (parameter_names p.parameters) (λ parameters. Ok (record s { procedures = a.0 })) t a.2 in
    let e : record s { procedures = a.0 } ≡ t = passed false (Doubled 0) _ t b.2 in
    same s t d all (ap (λ (n : Named). n.columns) e) (ap (λ (n : Named). n.opened) e) none behind

goes_view : (s t : Named) (v : View) (d : Declaration) → AreObjects s.columns s.opened → objects_at d ≡ [] →
    count_behind (length s.opened) d ≡ length s.opened → name_view s v ≡ Ok t → GoesOn s t d
unfolding name_view
goes_view s t v d all none behind is =
    let a = both_ok (one_more s.views v.line v.name) (λ names. parameter_names v.parameters >>= λ parameters. part_names v.parts >>= λ parts.
    Ok (record s { views = names })) t is in
    let b = both_ok (parameter_names v.parameters) (λ parameters. part_names v.parts >>= λ parts. Ok (record s { views = a.0 })) t a.2 in
    let f = both_ok (part_names v.parts) (λ parts. Ok (record s { views = a.0 })) t b.2 in
    let e : record s { views = a.0 } ≡ t = passed false (Doubled 0) _ t f.2 in
    same s t d all (ap (λ (n : Named). n.columns) e) (ap (λ (n : Named). n.opened) e) none behind

goes_column : (s t : Named) (above : ℕ) (c : Column) → AreObjects s.columns s.opened → c.depth < length s.opened → name_under s above c ≡ Ok t →
    GoesOn s t (declaration.Column c)
unfolding name_under
goes_column s t above c all inside is =
    let a = refused_not (is_some (child_named s.columns above c.name)) _ _ t is in
    let b = refused_not (depth s.columns above == 8) _ _ t a in
    let e = passed (length s.columns == 1000) _ _ t b in
    record {
      objects = subst (λ (n : Named). AreObjects n.columns n.opened) e (opened_objects s.columns (Some above) c.name c.content s.opened c.depth all);
      count = ap (λ (n : Named). length n.opened) (sym e) ∙ opened_count s.opened c.depth (length s.columns) c.content inside;
      sorts = ap (λ (n : Named). map is_object_node n.columns) (sym e) ∙ map-append is_object_node s.columns _
          ∙ ap (λ b. map is_object_node s.columns ++ b ∷ []) (sort_untyped c.content (Some above) c.name);
    }

-- what a step of the first pass leaves
pub goes_on : (s t : Named) (d : Declaration) → AreObjects s.columns s.opened → IsOrderlyAt (length s.opened) d → name_declaration s d ≡ Ok t → GoesOn s t d
goes_on s t (declaration.Callers line path) all orderly is = goes_callers s t line (declaration.Callers line path) all refl refl is
goes_on s t (declaration.Column c) all orderly is = goes_column s t _ c all orderly.inside is
goes_on s t (declaration.Procedure p) all orderly is = goes_procedure s t p (declaration.Procedure p) all refl refl is
goes_on s t (declaration.View v) all orderly is = goes_view s t v (declaration.View v) all refl refl is

below_eight : (d : ℕ) → d < 8 → (d == 8) ≡ false
below_eight d lt = grind (arith, nat_tests)

-- a column is refused as the tree refuses it
pub column_refused : (s new : Named) (above : ℕ) (c : Column) (r : ColumnRefusal)
    → ((sibling : ℕ) → r ≡ refusal.NameTaken sibling → child_named s.columns above c.name ≡ Some sibling)
    → (r ≡ refusal.TooDeep → (child_named s.columns above c.name ≡ None) × (depth s.columns above ≡ 8))
    → (r ≡ refusal.TooMany → (child_named s.columns above c.name ≡ None) × (depth s.columns above < 8) × (length s.columns ≡ 1000))
    → Leaves (Err (refusal_on c.line r)) new (name_under s above c)
unfolding name_under
column_refused s new above c (refusal.NameTaken k) taken deep many = refused_by (is_some (child_named s.columns above c.name)) _ _ (ap is_some (taken k refl))
column_refused s new above c refusal.TooDeep taken deep many =
    let h = deep refl in
    not_refused_by (is_some (child_named s.columns above c.name)) _ _ (ap is_some h.0)
    ∙ refused_by (depth s.columns above == 8) _ _ (ap (λ d. d == 8) h.1)
column_refused s new above c refusal.TooMany taken deep many =
    let h = many refl in
    not_refused_by (is_some (child_named s.columns above c.name)) _ _ (ap is_some h.0)
    ∙ not_refused_by (depth s.columns above == 8) _ _ (below_eight (depth s.columns above) h.1)
    ∙ refused_by (length s.columns == 1000) _ _ (ap (λ n. n == 1000) h.2)
column_refused s new above c refusal.NoMemory taken deep many = tt
