-- What a step of the second pass keeps.
use Rattle.std.proofs.Common.{◌≡◌, ℕ, Bool, true, false, ◌&&◌, cond, List, [], ◌∷◌, ◌++◌, length, map, Option, Some, None, Ok, Err, refl, sym, ap, ◌∙◌, subst}
use Rattle.std.proofs.Common.{arith, length-append}
use Rattle.std.specs.Prelude.{◌==◌}
use Rattle.std.proofs.lemmas.List.{length-map, map-append}
use Rattle.sheet_values.specs.declared.value.Kind.{Kind}
use Rattle.sheet_values.specs.declared.value.Kind.TheVariants as kind
use Rattle.sheet_values.specs.declared.value.Value.{Value}
use Rattle.sheet_columns.specs.declared.tree.Column as columns
use Rattle.sheet_columns.specs.declared.tree.Column.TheVariants as column
use Rattle.sheet_columns.specs.declared.tree.Node.{Node}
use Rattle.sheet_columns.specs.Tree.{IsOfKind, HasFittingFirst, path}
use Rattle.sheet_columns.specs.Contents.{holds_objects}
use Rattle.sheet_define_data.specs.declared.definition.Content.{Content}
use Rattle.sheet_define_data.specs.declared.definition.Content.TheVariants as content
use Rattle.sheet_define_data.specs.declared.definition.Literal.{Literal}
use Rattle.sheet_define_data.specs.declared.definition.Literal.TheVariants as literal
use Rattle.sheet_define_data.specs.declared.definition.Declaration.{Declaration}
use Rattle.sheet_define_data.specs.declared.definition.Declaration.TheVariants as declaration
use Rattle.sheet_types_formulas.specs.declared.refusal.TypeRefusal.TheVariants.{Mismatch, NeedsFirst}
use Rattle.sheet_types_rules.specs.Kinds.{same_kind}
use Rattle.sheet_types_formulas.specs.Kinds.{kind_text}
use Rattle.sheet_types_outline.specs.declared.resolving.Resolved.{Resolved}
use Rattle.sheet_types_outline.specs.Columns.{is_object, objects_at, objects_in, is_object_node, IsCounted, AreFitting}
use Rattle.sheet_types_outline.specs.Orderly.{IsOrderlyAt, IsOrderlyFrom, IsUnsignedAt, count_behind}
use Rattle.sheet_types_outline.specs.Types.{kind_of, declared_kind, object_column_at, literal_line, literal_kind, literal_value, first_value, state_column}
use Rattle.sheet_types_outline.specs.Types.{column_content}
use Rattle.sheet_types_outline.specs.Resolving.{parameters_of, resolve}
use Rattle.sheet_types_outline.proofs.StepLemmas.{both_ok, same_ok, passed}
use Rattle.sheet_types_outline.proofs.FillLemmas.{more_fitting}

-- first values are unsigned wherever columns are open
abbrev pub AreUnsigned : List Declaration → Type 0
AreUnsigned [] = Unit {0}
AreUnsigned (d ∷ ds) = IsUnsignedAt d × AreUnsigned ds

unsigned_at : (count : ℕ) (d : Declaration) → IsOrderlyAt count d → IsUnsignedAt d
unsigned_at count (declaration.Callers line path) orderly = tt
unsigned_at count (declaration.Column c) orderly = orderly.unsigned
unsigned_at count (declaration.Procedure p) orderly = tt
unsigned_at count (declaration.View v) orderly = tt

pub all_unsigned : (count : ℕ) (ds : List Declaration) → IsOrderlyFrom count ds → AreUnsigned ds
all_unsigned count [] orderly = tt
all_unsigned count (d ∷ ds) orderly = (unsigned_at count d orderly.0, all_unsigned (count_behind count d) ds orderly.1)

-- a value of the same type is of the column's kind
of_kind : (k : Kind) (l : Literal) → same_kind k (literal_kind l) ≡ true → IsOfKind k (literal_value l)
of_kind kind.Unknown (literal.Number line n) same = cc
of_kind kind.Unknown (literal.Negative line n) same = cc
of_kind kind.Unknown (literal.Text line t) same = cc
of_kind kind.Unknown (literal.Truth line b) same = cc
of_kind kind.Truth (literal.Number line n) same = cc
of_kind kind.Truth (literal.Negative line n) same = cc
of_kind kind.Truth (literal.Text line t) same = cc
of_kind kind.Truth (literal.Truth line b) same = tt
of_kind kind.Number (literal.Number line n) same = tt
of_kind kind.Number (literal.Negative line n) same = tt
of_kind kind.Number (literal.Text line t) same = cc
of_kind kind.Number (literal.Truth line b) same = cc
of_kind kind.Text (literal.Number line n) same = cc
of_kind kind.Text (literal.Negative line n) same = cc
of_kind kind.Text (literal.Text line t) same = tt
of_kind kind.Text (literal.Truth line b) same = cc
of_kind (kind.Object c) (literal.Number line n) same = cc
of_kind (kind.Object c) (literal.Negative line n) same = cc
of_kind (kind.Object c) (literal.Text line t) same = cc
of_kind (kind.Object c) (literal.Truth line b) same = cc

tested : (k : Kind) (l : Literal) (nodes : List Node) (b : Bool) (v : Value) → same_kind k (literal_kind l) ≡ b
    → cond b (Ok (literal_value l)) (Err (Mismatch (literal_line l) (kind_text nodes k) (kind_text nodes (literal_kind l)))) ≡ Ok v → IsOfKind k v
tested k l nodes true v same is = subst (IsOfKind k) (same_ok _ v is) (of_kind k l same)
tested k l nodes false v same is = cc

pub first_fits : (nodes : List Node) (k : Kind) (l : Literal) (v : Value) → first_value nodes k l ≡ Ok v → IsOfKind k v
first_fits nodes k l v is = tested k l nodes (same_kind k (literal_kind l)) v refl is

-- What a column holds is of the declared sort, and its first value fits.
pub record IsHeld (c : Content) (x : columns.Column) : Type 0 where
  pub sort : holds_objects x ≡ is_object c
  pub fitting : HasFittingFirst x

state_held : (nodes : List Node) (number depth : ℕ) (one : Bool) (first : Option Literal) (k : Kind) (x : columns.Column) →
    state_column nodes number depth one first k ≡ Ok x → (holds_objects x ≡ false) × HasFittingFirst x
state_held nodes number depth one None k x is =
    let e = passed (one && depth == 0) (NeedsFirst (path nodes number)) (column.State k one None) x is in
    (ap holds_objects (sym e), subst HasFittingFirst e tt)
state_held nodes number depth one (Some l) k x is =
    let a = both_ok (first_value nodes k l) (λ v. Ok (column.State k one (Some v))) x is in
    let e = same_ok (column.State k one (Some a.0)) x a.2 in
    (ap holds_objects (sym e), subst HasFittingFirst e (first_fits nodes k l a.0 a.1))

pub content_held : (nodes : List Node) (number depth : ℕ) (c : Content) (x : columns.Column) → column_content nodes number depth c ≡ Ok x → IsHeld c x
content_held nodes number depth content.Object x is =
    let e = same_ok column.Object x is in record { sort = ap holds_objects (sym e); fitting = subst HasFittingFirst e tt }
content_held nodes number depth (content.State t one first) x is =
    let a = both_ok (kind_of nodes t) (state_column nodes number depth one first) x is in
    let h = state_held nodes number depth one first a.0 x a.2 in
    record { sort = h.0; fitting = h.1 }
content_held nodes number depth (content.Formula t f) x is =
    let a = both_ok (declared_kind nodes t) (λ k. Ok (column.Formula k)) x is in
    let e = same_ok (column.Formula a.0) x a.2 in
    record { sort = ap holds_objects (sym e); fitting = subst HasFittingFirst e tt }

-- What the columns hold grows by what is declared.
pub record Grows (r t : Resolved) (d : Declaration) : Type 0 where
  pub sorts : map holds_objects t.contents ≡ map holds_objects r.contents ++ objects_at d
  pub fitting : AreFitting t.contents

append_nil : {A : Type 0} (xs : List A) → xs ++ [] ≡ xs
append_nil [] = refl
append_nil (x ∷ xs) = ap (λ t. x ∷ t) (append_nil xs)

same : (r t : Resolved) (d : Declaration) → AreFitting r.contents → r.contents ≡ t.contents → objects_at d ≡ [] → Grows r t d
same r t d fitting contents none = record {
  sorts = ap (map holds_objects) (sym contents) ∙ sym (append_nil _) ∙ ap (λ bs. map holds_objects r.contents ++ bs) (sym none);
  fitting = subst AreFitting contents fitting;
}

-- what a step of the second pass leaves
pub grows : (nodes : List Node) (r t : Resolved) (d : Declaration) → AreFitting r.contents → resolve nodes r d ≡ Ok t → Grows r t d
grows nodes r t (declaration.Callers line path) fitting is =
    let a = both_ok (object_column_at nodes path) (λ c. Ok (record r { callers = c })) t is in
    let e : record r { callers = a.0 } ≡ t = same_ok _ t a.2 in
    same r t (declaration.Callers line path) fitting (ap (λ (s : Resolved). s.contents) e) refl
grows nodes r t (declaration.Column c) fitting is =
    let a = both_ok (column_content nodes (length r.contents) c.depth c.content) (λ x. Ok (record r { contents = r.contents ++ x ∷ [] })) t is in
    let e : record r { contents = r.contents ++ a.0 ∷ [] } ≡ t = same_ok _ t a.2 in
    let held = content_held nodes (length r.contents) c.depth c.content a.0 a.1 in
    record {
      sorts = ap (λ (s : Resolved). map holds_objects s.contents) (sym e) ∙ map-append holds_objects r.contents (a.0 ∷ [])
          ∙ ap (λ b. map holds_objects r.contents ++ b ∷ []) held.sort;
      fitting = subst (λ (s : Resolved). AreFitting s.contents) e (more_fitting r.contents a.0 fitting held.fitting);
    }
grows nodes r t (declaration.Procedure p) fitting is =
    let a = both_ok (parameters_of nodes p.parameters) (λ ps. Ok (record r { procedures = r.procedures ++ ps ∷ [] })) t is in
    let e : record r { procedures = r.procedures ++ a.0 ∷ [] } ≡ t = same_ok _ t a.2 in
    same r t (declaration.Procedure p) fitting (ap (λ (s : Resolved). s.contents) e) refl
grows nodes r t (declaration.View v) fitting is =
    let a = both_ok (parameters_of nodes v.parameters) (λ ps. Ok (record r { views = r.views ++ ps ∷ [] })) t is in
    let e : record r { views = r.views ++ a.0 ∷ [] } ≡ t = same_ok _ t a.2 in
    same r t (declaration.View v) fitting (ap (λ (s : Resolved). s.contents) e) refl

-- a declared column that isn't resolved yet has its place in the tree
pub counted : (nodes : List Node) (xs : List columns.Column) (d : Declaration) (ds : List Declaration) →
    map holds_objects xs ++ (objects_at d ++ objects_in ds) ≡ map is_object_node nodes → IsCounted nodes xs d
counted nodes xs (declaration.Callers line path) ds same = tt
counted nodes xs (declaration.Column c) ds same =
    let a = length-append (map holds_objects xs) (is_object c.content ∷ objects_in ds) in
    let b = length-map xs holds_objects in
    let e = length-map nodes is_object_node in
    let f = ap length same in
    omega arith
counted nodes xs (declaration.Procedure p) ds same = tt
counted nodes xs (declaration.View v) ds same = tt
