-- The columns and types of an outline are its own.
use Rattle.std.proofs.Common.{◌≡◌, ℕ, ◌+◌, ◌≤◌, zero, suc, Bool, true, false, ◌&&◌, cond, List, [], ◌∷◌, ◌++◌, length, map, Option, Some, None, Ok, Err, refl}
use Rattle.std.proofs.Common.{sym, ap, ◌∙◌, subst, append_assoc, length-append, arith}
use Rattle.std.specs.Prelude.{◌==◌, option_map, unwrap_or}
use Rattle.std.specs.List.{AllByRecursion}
use Rattle.std.proofs.lemmas.List.{map-append}
use Rattle.sheet_values.specs.declared.value.Kind.{Kind}
use Rattle.sheet_values.specs.declared.value.Kind.TheVariants as kind
use Rattle.sheet_columns.specs.declared.tree.Column as columns
use Rattle.sheet_columns.specs.declared.tree.Column.TheVariants as column
use Rattle.sheet_columns.specs.declared.tree.Node.{Node}
use Rattle.sheet_columns.specs.Tree.{column_of, path}
use Rattle.sheet_columns.specs.Contents.{holds_objects}
use Rattle.sheet_define_data.specs.declared.definition.Content.{Content}
use Rattle.sheet_define_data.specs.declared.definition.Content.TheVariants as content
use Rattle.sheet_define_data.specs.declared.definition.Literal.{Literal}
use Rattle.sheet_define_data.specs.declared.definition.Parameter.{Parameter}
use Rattle.sheet_define_data.specs.declared.definition.TypeName.{TypeName}
use Rattle.sheet_define_data.specs.declared.definition.TypeName.TheVariants as type
use Rattle.sheet_define_data.specs.declared.definition.Declaration.{Declaration}
use Rattle.sheet_define_data.specs.declared.definition.Declaration.TheVariants as declaration
use Rattle.sheet_types_formulas.specs.declared.refusal.TypeRefusal.TheVariants.{NeedsFirst, UnknownName}
use Rattle.sheet_types_formulas.specs.Answers.{◌>>=◌}
use Rattle.sheet_types_outline.specs.declared.naming.Named.{Named}
use Rattle.sheet_types_outline.specs.declared.resolving.Resolved.{Resolved}
use Rattle.sheet_types_outline.specs.Columns.{objects_at, objects_in, is_object_node, AreObjects, AreFitting, AreAlike}
use Rattle.sheet_types_outline.specs.Steps.{in_turn}
use Rattle.sheet_types_outline.specs.Naming.{untyped, name_declaration, nothing_named, all_named}
use Rattle.sheet_types_outline.specs.Orderly.{IsOrderlyAt, IsOrderlyFrom, count_behind}
use Rattle.sheet_types_outline.specs.Types.{follow, is_object_column, if_object_column, object_column_at, kind_of, declared_kind, first_value, state_column}
use Rattle.sheet_types_outline.specs.Types.{column_content}
use Rattle.sheet_types_outline.specs.Resolving.{resolve_parameter, parameters_of, resolve, nothing_resolved, all_resolved}
use Rattle.sheet_types_outline.specs.Outlines.{filled, outline_of}
use Rattle.sheet_types_outline.specs.Within.{form, forms_at, forms_in, IsWithin, OutlinesAreWithin}
use Rattle.sheet_types_rules.specs.Columns.{is_known, IsKindIn, IsHeldIn, AreKindsIn}
use Rattle.sheet_types_rules.specs.Parameters.{most_parameters, AreParametersIn}
use Rattle.sheet_types_outline.proofs.StepLemmas.{both_ok, same_ok, passed}
use Rattle.sheet_types_outline.proofs.NamingLemmas.{goes_on}
use Rattle.sheet_types_outline.proofs.ResolvingLemmas.{grows}
use Rattle.sheet_types_outline.proofs.FillLemmas.{alike_sorts}
use Rattle.sheet_types_outline.proofs.FirstLemmas.{outline_firsts}

-- procedures and views have 16 parameters at most
abbrev HasFew : Declaration → Type 0
HasFew (declaration.Callers line p) = Unit {0}
HasFew (declaration.Column c) = Unit {0}
HasFew (declaration.Procedure p) = length p.parameters ≤ most_parameters
HasFew (declaration.View v) = length v.parameters ≤ most_parameters

few_at : (count : ℕ) (d : Declaration) → IsOrderlyAt count d → HasFew d
few_at count (declaration.Callers line p) orderly = tt
few_at count (declaration.Column c) orderly = tt
few_at count (declaration.Procedure p) orderly = orderly
few_at count (declaration.View v) orderly = orderly

all_few : (count : ℕ) (ds : List Declaration) → IsOrderlyFrom count ds → AllByRecursion HasFew ds
all_few count [] orderly = tt
all_few count (d ∷ ds) orderly = (few_at count d orderly.0, all_few (count_behind count d) ds orderly.1)

append_nil : {A : Type 0} (xs : List A) → xs ++ [] ≡ xs
append_nil [] = refl
append_nil (x ∷ xs) = ap (λ t. x ∷ t) (append_nil xs)

-- the columns named are those declared
named_sorts : (s t : Named) (ds : List Declaration) → AreObjects s.columns s.opened → IsOrderlyFrom (length s.opened) ds → in_turn name_declaration s ds ≡ Ok t
    → map is_object_node t.columns ≡ map is_object_node s.columns ++ objects_in ds
named_sorts s t [] all orderly is = ap (λ (n : Named). map is_object_node n.columns) (sym (same_ok s t is)) ∙ sym (append_nil (map is_object_node s.columns))
named_sorts s t (d ∷ ds) all orderly is =
    let a = both_ok (name_declaration s d) (λ u. in_turn name_declaration u ds) t is in
    let g = goes_on s a.0 d all orderly.0 a.1 in
    named_sorts a.0 t ds g.objects (subst (λ n. IsOrderlyFrom n ds) (sym g.count) orderly.1) a.2
    ∙ ap (λ bs. bs ++ objects_in ds) g.sorts ∙ append_assoc (map is_object_node s.columns) (objects_at d) (objects_in ds)

-- a column that is found holds objects
some_object : (o : Option columns.Column) → unwrap_or (option_map holds_objects o) false ≡ true → o ≡ Some column.Object
some_object None is = cc
some_object (Some column.Object) is = refl
some_object (Some (column.State k one first)) is = cc
some_object (Some (column.Formula k)) is = cc

chosen : (nodes : List Node) (line d c : ℕ) (b : Bool) → is_object_column nodes d ≡ b → cond b (Ok d) (Err (UnknownName line)) ≡ Ok c →
    column_of nodes c ≡ Some column.Object
chosen nodes line d c true holds is = subst (λ k. column_of nodes k ≡ Some column.Object) (same_ok d c is) (some_object (column_of nodes d) holds)
chosen nodes line d c false holds is = cc

found_object : (nodes : List Node) (line : ℕ) (o : Option ℕ) (c : ℕ) → if_object_column nodes line o ≡ Ok c → column_of nodes c ≡ Some column.Object
found_object nodes line None c is = cc
found_object nodes line (Some d) c is = chosen nodes line d c (is_object_column nodes d) refl is

kind_in : (nodes : List Node) (t : TypeName) (k : Kind) → kind_of nodes t ≡ Ok k → IsKindIn nodes k
kind_in nodes type.Number k is = subst (IsKindIn nodes) (same_ok kind.Number k is) tt
kind_in nodes type.Text k is = subst (IsKindIn nodes) (same_ok kind.Text k is) tt
kind_in nodes type.Truth k is = subst (IsKindIn nodes) (same_ok kind.Truth k is) tt
kind_in nodes (type.Object p) k is =
    let a = both_ok (object_column_at nodes p) (λ c. Ok (kind.Object c)) k is in
    subst (IsKindIn nodes) (same_ok (kind.Object a.0) k a.2) (found_object nodes p.line (follow nodes 0 p.names) a.0 a.1)

declared_in : (nodes : List Node) (t : Option TypeName) (k : Kind) → declared_kind nodes t ≡ Ok k → IsKindIn nodes k
declared_in nodes None k is = subst (IsKindIn nodes) (same_ok kind.Unknown k is) tt
declared_in nodes (Some t) k is = kind_in nodes t k is

state_form : (nodes : List Node) (number depth : ℕ) (one : Bool) (first : Option Literal) (k : Kind) (x : columns.Column) →
    state_column nodes number depth one first k ≡ Ok x → form x ≡ column.State kind.Unknown one None
state_form nodes number depth one None k x is = ap form (sym (passed (one && depth == 0) (NeedsFirst (path nodes number)) (column.State k one None) x is))
state_form nodes number depth one (Some l) k x is =
    let a = both_ok (first_value nodes k l) (λ v. Ok (column.State k one (Some v))) x is in
    ap form (sym (same_ok (column.State k one (Some a.0)) x a.2))

-- what a column holds has the declared form
form_held : (nodes : List Node) (number depth : ℕ) (c : Content) (x : columns.Column) → column_content nodes number depth c ≡ Ok x → form x ≡ untyped c
form_held nodes number depth content.Object x is = ap form (sym (same_ok column.Object x is))
form_held nodes number depth (content.State t one first) x is =
    let a = both_ok (kind_of nodes t) (state_column nodes number depth one first) x is in
    state_form nodes number depth one first a.0 x a.2
form_held nodes number depth (content.Formula t f) x is =
    let a = both_ok (declared_kind nodes t) (λ k. Ok (column.Formula k)) x is in
    ap form (sym (same_ok (column.Formula a.0) x a.2))

step_forms : (nodes : List Node) (r t : Resolved) (d : Declaration) → resolve nodes r d ≡ Ok t → map form t.contents ≡ map form r.contents ++ forms_at d
step_forms nodes r t (declaration.Callers line p) is =
    let a = both_ok (object_column_at nodes p) (λ c. Ok (record r { callers = c })) t is in
    let e : record r { callers = a.0 } ≡ t = same_ok _ t a.2 in
    ap (λ (s : Resolved). map form s.contents) (sym e) ∙ sym (append_nil (map form r.contents))
step_forms nodes r t (declaration.Column c) is =
    let a = both_ok (column_content nodes (length r.contents) c.depth c.content) (λ x. Ok (record r { contents = r.contents ++ x ∷ [] })) t is in
    let e : record r { contents = r.contents ++ a.0 ∷ [] } ≡ t = same_ok _ t a.2 in
    ap (λ (s : Resolved). map form s.contents) (sym e) ∙ map-append form r.contents (a.0 ∷ [])
    ∙ ap (λ x. map form r.contents ++ x ∷ []) (form_held nodes (length r.contents) c.depth c.content a.0 a.1)
step_forms nodes r t (declaration.Procedure p) is =
    let a = both_ok (parameters_of nodes p.parameters) (λ ps. Ok (record r { procedures = r.procedures ++ ps ∷ [] })) t is in
    let e : record r { procedures = r.procedures ++ a.0 ∷ [] } ≡ t = same_ok _ t a.2 in
    ap (λ (s : Resolved). map form s.contents) (sym e) ∙ sym (append_nil (map form r.contents))
step_forms nodes r t (declaration.View v) is =
    let a = both_ok (parameters_of nodes v.parameters) (λ ps. Ok (record r { views = r.views ++ ps ∷ [] })) t is in
    let e : record r { views = r.views ++ a.0 ∷ [] } ≡ t = same_ok _ t a.2 in
    ap (λ (s : Resolved). map form s.contents) (sym e) ∙ sym (append_nil (map form r.contents))

-- the contents have the declared forms
forms_held : (nodes : List Node) (r t : Resolved) (ds : List Declaration) → in_turn (resolve nodes) r ds ≡ Ok t →
    map form t.contents ≡ map form r.contents ++ forms_in ds
forms_held nodes r t [] is = ap (λ (s : Resolved). map form s.contents) (sym (same_ok r t is)) ∙ sym (append_nil (map form r.contents))
forms_held nodes r t (d ∷ ds) is =
    let a = both_ok (resolve nodes r d) (λ u. in_turn (resolve nodes) u ds) t is in
    forms_held nodes a.0 t ds a.2 ∙ ap (λ xs. xs ++ forms_in ds) (step_forms nodes r a.0 d a.1) ∙ append_assoc (map form r.contents) (forms_at d) (forms_in ds)

-- a type that a text names is known
kind_known : (nodes : List Node) (t : TypeName) (k : Kind) → kind_of nodes t ≡ Ok k → is_known k ≡ true
kind_known nodes type.Number k is = subst (λ x. is_known x ≡ true) (same_ok kind.Number k is) refl
kind_known nodes type.Text k is = subst (λ x. is_known x ≡ true) (same_ok kind.Text k is) refl
kind_known nodes type.Truth k is = subst (λ x. is_known x ≡ true) (same_ok kind.Truth k is) refl
kind_known nodes (type.Object p) k is =
    let a = both_ok (object_column_at nodes p) (λ c. Ok (kind.Object c)) k is in
    subst (λ x. is_known x ≡ true) (same_ok (kind.Object a.0) k a.2) refl

state_in : (nodes : List Node) (number depth : ℕ) (one : Bool) (first : Option Literal) (k : Kind) (x : columns.Column) →
    IsKindIn nodes k × (is_known k ≡ true) → state_column nodes number depth one first k ≡ Ok x → IsHeldIn nodes x
state_in nodes number depth one None k x within is =
    subst (IsHeldIn nodes) (passed (one && depth == 0) (NeedsFirst (path nodes number)) (column.State k one None) x is) within
state_in nodes number depth one (Some l) k x within is =
    let a = both_ok (first_value nodes k l) (λ v. Ok (column.State k one (Some v))) x is in
    subst (IsHeldIn nodes) (same_ok (column.State k one (Some a.0)) x a.2) within

held_in : (nodes : List Node) (number depth : ℕ) (c : Content) (x : columns.Column) → column_content nodes number depth c ≡ Ok x → IsHeldIn nodes x
held_in nodes number depth content.Object x is = subst (IsHeldIn nodes) (same_ok column.Object x is) tt
held_in nodes number depth (content.State t one first) x is =
    let a = both_ok (kind_of nodes t) (state_column nodes number depth one first) x is in
    state_in nodes number depth one first a.0 x (kind_in nodes t a.0 a.1, kind_known nodes t a.0 a.1) a.2
held_in nodes number depth (content.Formula t f) x is =
    let a = both_ok (declared_kind nodes t) (λ k. Ok (column.Formula k)) x is in
    subst (IsHeldIn nodes) (same_ok (column.Formula a.0) x a.2) (declared_in nodes t a.0 a.1)

pub all_more : {A : Type 0} (P : A → Type 0) (xs : List A) (x : A) → AllByRecursion P xs → P x → AllByRecursion P (xs ++ x ∷ [])
all_more P [] x all here = (here, tt)
all_more P (y ∷ xs) x all here = (all.0, all_more P xs x all.1 here)

parameters_in : (nodes : List Node) (typed found : List (List ℕ × Kind)) (ps : List Parameter) → AreKindsIn nodes typed →
    in_turn (resolve_parameter nodes) typed ps ≡ Ok found → AreKindsIn nodes found
parameters_in nodes typed found [] all is = subst (AreKindsIn nodes) (same_ok typed found is) all
parameters_in nodes typed found (p ∷ ps) all is =
    let a = both_ok (resolve_parameter nodes typed p) (λ u. in_turn (resolve_parameter nodes) u ps) found is in
    let b = both_ok (kind_of nodes p.values) (λ k. Ok (typed ++ (p.name, k) ∷ [])) a.0 a.1 in
    parameters_in nodes a.0 found ps
    (subst (AreKindsIn nodes) (same_ok (typed ++ (p.name, b.0) ∷ []) a.0 b.2)
    (all_more (λ (q : List ℕ × Kind). IsKindIn nodes q.1) typed (p.name, b.0) all (kind_in nodes p.values b.0 b.1)))
    a.2

-- there are as many parameters as declared
parameters_count : (nodes : List Node) (typed found : List (List ℕ × Kind)) (ps : List Parameter) → in_turn (resolve_parameter nodes) typed ps ≡ Ok found →
    length found ≡ length typed + length ps
parameters_count nodes typed found [] is = let e = ap length (sym (same_ok typed found is)) in omega (arith, e)
parameters_count nodes typed found (p ∷ ps) is =
    let a = both_ok (resolve_parameter nodes typed p) (λ u. in_turn (resolve_parameter nodes) u ps) found is in
    let b = both_ok (kind_of nodes p.values) (λ k. Ok (typed ++ (p.name, k) ∷ [])) a.0 a.1 in
    let more : length a.0 ≡ length (typed ++ (p.name, b.0) ∷ []) = ap length (sym (same_ok (typed ++ (p.name, b.0) ∷ []) a.0 b.2)) in
    let one = length-append typed ((p.name, b.0) ∷ []) in
    let rest = parameters_count nodes a.0 found ps a.2 in
    omega (arith, more, one, rest)

parameters_of_declared : (nodes : List Node) (found : List (List ℕ × Kind)) (ps : List Parameter) → length ps ≤ most_parameters →
    parameters_of nodes ps ≡ Ok found → AreParametersIn nodes found
parameters_of_declared nodes found ps few is =
    let count = parameters_count nodes [] found ps is in
    (omega (arith, few, count), parameters_in nodes [] found ps tt is)

-- What is resolved is of these columns.
record IsResolvedIn (nodes : List Node) (r : Resolved) : Type 0 where
  callers : column_of nodes r.callers ≡ Some column.Object
  contents : AllByRecursion (IsHeldIn nodes) r.contents
  procedures : AllByRecursion (AreParametersIn nodes) r.procedures
  views : AllByRecursion (AreParametersIn nodes) r.views

step_in : (nodes : List Node) (r t : Resolved) (d : Declaration) → HasFew d → IsResolvedIn nodes r → resolve nodes r d ≡ Ok t → IsResolvedIn nodes t
step_in nodes r t (declaration.Callers line p) few all is =
    let a = both_ok (object_column_at nodes p) (λ c. Ok (record r { callers = c })) t is in
    let e : record r { callers = a.0 } ≡ t = same_ok _ t a.2 in
    subst (IsResolvedIn nodes) e (record {
      callers = found_object nodes p.line (follow nodes 0 p.names) a.0 a.1;
      contents = all.contents;
      procedures = all.procedures;
      views = all.views;
    })
step_in nodes r t (declaration.Column c) few all is =
    let a = both_ok (column_content nodes (length r.contents) c.depth c.content) (λ x. Ok (record r { contents = r.contents ++ x ∷ [] })) t is in
    let e : record r { contents = r.contents ++ a.0 ∷ [] } ≡ t = same_ok _ t a.2 in
    subst (IsResolvedIn nodes) e (record {
      callers = all.callers;
      contents = all_more (IsHeldIn nodes) r.contents a.0 all.contents (held_in nodes (length r.contents) c.depth c.content a.0 a.1);
      procedures = all.procedures;
      views = all.views;
    })
step_in nodes r t (declaration.Procedure p) few all is =
    let a = both_ok (parameters_of nodes p.parameters) (λ ps. Ok (record r { procedures = r.procedures ++ ps ∷ [] })) t is in
    let e : record r { procedures = r.procedures ++ a.0 ∷ [] } ≡ t = same_ok _ t a.2 in
    subst (IsResolvedIn nodes) e (record {
      callers = all.callers;
      contents = all.contents;
      procedures = all_more (AreParametersIn nodes) r.procedures a.0 all.procedures (parameters_of_declared nodes a.0 p.parameters few a.1);
      views = all.views;
    })
step_in nodes r t (declaration.View v) few all is =
    let a = both_ok (parameters_of nodes v.parameters) (λ ps. Ok (record r { views = r.views ++ ps ∷ [] })) t is in
    let e : record r { views = r.views ++ a.0 ∷ [] } ≡ t = same_ok _ t a.2 in
    subst (IsResolvedIn nodes) e (record {
      callers = all.callers;
      contents = all.contents;
      procedures = all.procedures;
      views = all_more (AreParametersIn nodes) r.views a.0 all.views (parameters_of_declared nodes a.0 v.parameters few a.1);
    })

-- what the columns hold in the end, and that it is of these columns
record IsGrown (nodes : List Node) (r t : Resolved) (ds : List Declaration) : Type 0 where
  sorts : map holds_objects t.contents ≡ map holds_objects r.contents ++ objects_in ds
  within : IsResolvedIn nodes t

resolved_in : (nodes : List Node) (r t : Resolved) (ds : List Declaration) → AllByRecursion HasFew ds → AreFitting r.contents → IsResolvedIn nodes r →
    in_turn (resolve nodes) r ds ≡ Ok t → IsGrown nodes r t ds
resolved_in nodes r t [] few fitting all is =
    let e = same_ok r t is in
    record {
      sorts = ap (λ (s : Resolved). map holds_objects s.contents) (sym e) ∙ sym (append_nil (map holds_objects r.contents));
      within =
          subst (IsResolvedIn nodes) e all;
    }
resolved_in nodes r t (d ∷ ds) few fitting all is =
    let a = both_ok (resolve nodes r d) (λ u. in_turn (resolve nodes) u ds) t is in
    let g = grows nodes r a.0 d fitting a.1 in
    let more = resolved_in nodes a.0 t ds few.1 g.fitting (step_in nodes r a.0 d few.0 all a.1) a.2 in
    record {
      sorts = more.sorts ∙ ap (λ bs. bs ++ objects_in ds) g.sorts ∙ append_assoc (map holds_objects r.contents) (objects_at d) (objects_in ds);
      within = more.within;
    }

-- object columns are object columns in the filled tree
filled_object : (nodes : List Node) (xs : List columns.Column) (c : ℕ) → AreAlike nodes xs → column_of nodes c ≡ Some column.Object →
    column_of (filled nodes xs) c ≡ Some column.Object
filled_object [] xs c alike is = is
filled_object (n ∷ nodes) [] c alike is = is
filled_object (n ∷ nodes) (x ∷ xs) zero alike is = some_object (Some x) (sym alike.0 ∙ ap (λ o. unwrap_or (option_map holds_objects o) false) is)
filled_object (n ∷ nodes) (x ∷ xs) (suc c) alike is = filled_object nodes xs c alike.1 is

filled_kind : (nodes : List Node) (xs : List columns.Column) (k : Kind) → AreAlike nodes xs → IsKindIn nodes k → IsKindIn (filled nodes xs) k
filled_kind nodes xs kind.Unknown alike within = tt
filled_kind nodes xs kind.Truth alike within = tt
filled_kind nodes xs kind.Number alike within = tt
filled_kind nodes xs kind.Text alike within = tt
filled_kind nodes xs (kind.Object c) alike within = filled_object nodes xs c alike within

filled_held : (nodes : List Node) (xs : List columns.Column) (x : columns.Column) → AreAlike nodes xs → IsHeldIn nodes x → IsHeldIn (filled nodes xs) x
filled_held nodes xs column.Object alike within = tt
filled_held nodes xs (column.State k one first) alike within = (filled_kind nodes xs k alike within.0, within.1)
filled_held nodes xs (column.Formula k) alike within = filled_kind nodes xs k alike within

all_map : {A : Type 0} (P Q : A → Type 0) → ((x : A) → P x → Q x) → (xs : List A) → AllByRecursion P xs → AllByRecursion Q xs
all_map P Q f [] all = tt
all_map P Q f (x ∷ xs) all = (f x all.0, all_map P Q f xs all.1)

-- what holds of all contents holds of all columns that are filled with them
all_filled : (P : columns.Column → Type 0) (nodes : List Node) (xs : List columns.Column) → map holds_objects xs ≡ map is_object_node nodes →
    AllByRecursion P xs → AllByRecursion (λ (n : Node). P n.column) (filled nodes xs)
all_filled P [] xs same all = tt
all_filled P (n ∷ nodes) [] same all = cc
all_filled P (n ∷ nodes) (x ∷ xs) same all = (all.0, all_filled P nodes xs (cc) all.1)

-- the filled columns have the forms of what they are filled with
filled_forms : (nodes : List Node) (xs : List columns.Column) → map holds_objects xs ≡ map is_object_node nodes →
    map (λ (n : Node). form n.column) (filled nodes xs) ≡ map form xs
filled_forms [] [] same = refl
filled_forms [] (x ∷ xs) same = cc
filled_forms (n ∷ nodes) [] same = cc
filled_forms (n ∷ nodes) (x ∷ xs) same = ap (λ ys. form x ∷ ys) (filled_forms nodes xs (cc))

filled_parameters : (nodes : List Node) (xs : List columns.Column) → AreAlike nodes xs → (ps : List (List ℕ × Kind)) → AreParametersIn nodes ps →
    AreParametersIn (filled nodes xs) ps
filled_parameters nodes xs alike ps all = (
  all.0,
  all_map (λ (p : List ℕ × Kind). IsKindIn nodes p.1) (λ (p : List ℕ × Kind). IsKindIn (filled nodes xs) p.1)
      (λ p within. filled_kind nodes xs p.1 alike within) ps all.1,
)

first_object : (nodes : List Node) (bs : List Bool) → map is_object_node nodes ≡ true ∷ bs → column_of nodes 0 ≡ Some column.Object
first_object [] bs same = cc
first_object (n ∷ nodes) bs same = some_object (Some n.column) (cc)

pub outlines_within : OutlinesAreWithin
outlines_within d o orderly is =
    let a = both_ok (all_named d.declarations) (λ s. all_resolved s.columns d.declarations >>= λ r. Ok (outline_of s.columns r)) o is in
    let nodes = a.0.columns in
    let b = both_ok (all_resolved nodes d.declarations) (λ r. Ok (outline_of nodes r)) o a.2 in
    let contents = b.0.contents in
    let e : outline_of nodes b.0 ≡ o = same_ok _ o b.2 in
    let sorts : map is_object_node nodes ≡ true ∷ objects_in d.declarations = named_sorts nothing_named a.0 d.declarations (refl, tt) orderly a.1 in
    let root = first_object nodes (objects_in d.declarations) sorts in
    let start : IsResolvedIn nodes nothing_resolved = record { callers = root; contents = (tt, tt); procedures = tt; views = tt } in
    let grown = resolved_in nodes nothing_resolved b.0 d.declarations (all_few 1 d.declarations orderly) (tt, tt) start b.1 in
    let same : map holds_objects contents ≡ map is_object_node nodes = grown.sorts ∙ sym sorts in
    let alike = alike_sorts nodes contents same in
    subst (IsWithin d) e (record {
      forms = filled_forms nodes contents same ∙ forms_held nodes nothing_resolved b.0 d.declarations b.1;
      callers = filled_object nodes contents b.0.callers alike grown.within.callers;
      columns = all_filled (IsHeldIn (filled nodes contents)) nodes contents same
          (all_map (IsHeldIn nodes) (IsHeldIn (filled nodes contents)) (λ x within. filled_held nodes contents x alike within) contents grown.within.contents);
      first_values = outline_firsts d.declarations a.0 b.0 orderly a.1 b.1;
      procedures = all_map (AreParametersIn nodes) (AreParametersIn (filled nodes contents)) (filled_parameters nodes contents alike) b.0.procedures
          grown.within.procedures;
      views = all_map (AreParametersIn nodes) (AreParametersIn (filled nodes contents)) (filled_parameters nodes contents alike) b.0.views grown.within.views;
    })
