-- Resolved procedures and views are well typed, where typed formulas have their types.
use Rattle.std.proofs.Common.{◌≡◌, refl, ap, subst, ℕ, true, List, [], ◌∷◌, map}
use Rattle.std.specs.Prelude.{Option, Some, None, Ok, is_some}
use Rattle.sheet_values.specs.declared.value.Kind.{Kind}
use Rattle.sheet_values.specs.declared.value.Kind.TheVariants as kind
use Rattle.sheet_columns.specs.declared.tree.Node.{Node}
use Rattle.sheet_columns.specs.declared.formula.Core.{Core}
use Rattle.sheet_columns.specs.declared.formula.Core.TheVariants as formula
use Rattle.sheet_columns.specs.declared.view.CoreView.{CoreView}
use Rattle.sheet_syntax_trees.specs.declared.tree.Tree.{Tree}
use Rattle.sheet_types_rules.specs.Columns.{kinds_from}
use Rattle.sheet_types_rules.specs.Formulas.{kind_in}
use Rattle.sheet_types_rules.specs.Statements.{suits, behind_list}
use Rattle.sheet_types_rules.specs.Views.{are_parts}
use Rattle.sheet_books.specs.declared.body.Procedure.{Procedure}
use Rattle.sheet_books.specs.declared.body.View.{View}
use Rattle.sheet_books.specs.Books.{kinds_at_start, IsWellTypedProcedure, IsWellTypedView}
use Rattle.sheet_types_formulas.specs.declared.scope.Variable.{Variable}
use Rattle.sheet_types_formulas.specs.Answers.{◌>>=◌}
use Rattle.sheet_types_formulas.specs.Names.{reach}
use Rattle.sheet_types_bodies.specs.Statements.{Block, listed, in_block}
use Rattle.sheet_types_bodies.specs.Parts.{parts}
use Rattle.sheet_types_bodies.specs.Bodies.{variable_of, first_variables, allow_of, procedure_of, view_of}
use Rattle.sheet_types_bodies.specs.Rules.{ProceduresAreTyped, ViewsAreTyped}
use Rattle.sheet_types_bodies.proofs.WellTyped.{HaveKinds, kinds_of, came_from, ok_same, formula_suits}
use Rattle.sheet_types_bodies.proofs.Holding.{list_fits}
use Rattle.sheet_types_bodies.proofs.Showing.{parts_fit}

parameters_have : (ps : List (List ℕ × Kind)) → kinds_of (map variable_of ps) ≡ map (λ (p : List ℕ × Kind). p.1) ps
parameters_have [] = refl
parameters_have (p ∷ ps) = ap (λ ks. p.1 ∷ ks) (parameters_have ps)

-- the variables at the start have the types of the positions there
starts : (callers : ℕ) (ps : List (List ℕ × Kind)) → kinds_of (first_variables callers ps) ≡ kinds_at_start callers ps
starts callers ps = ap (λ ks. kind.Object callers ∷ kind.Truth ∷ ks) (parameters_have ps)

allow_fits : HaveKinds → (n : List Node) (k : List Kind) (v : List Variable) (o : Option Tree) (c : Core)
    → allow_of o (reach n k v) ≡ Ok c → suits kind.Truth (kind_in c n k (kinds_of v)) ≡ true
unfolding allow_of
allow_fits law n k v None c h = let P : Core → Type 0 = λ x. suits kind.Truth (kind_in x n k (kinds_of v)) ≡ true in
    subst P (ok_same (formula.Truth true) c h) refl
allow_fits law n k v (Some e) c h = formula_suits law n k v kind.Truth e c h

pub procedures_fit : HaveKinds → ProceduresAreTyped
unfolding procedure_of
procedures_fit law n callers ps p q are h =
    let k = kinds_from 0 n in
    let v = first_variables callers ps in
    let r = reach n k v in
    let made : Core → Block → Procedure = λ a b. record { name = p.name; parameters = ps; allow = a; body = listed b.list } in
    let a = came_from (allow_of p.allow r) (λ x. in_block p.body r 1 >>= (λ b. Ok (made x b))) q h in
    let b = came_from (in_block p.body r 1) (λ x. Ok (made a.0 x)) q a.2 in
    let fits = list_fits law n k v p.body 1 b.0 b.1 in
    let A : List Kind → Type 0 = λ ks. suits kind.Truth (kind_in a.0 n k ks) ≡ true in
    let B : List Kind → Type 0 = λ ks. is_some (behind_list b.0.list n k ks) ≡ true in
    subst (IsWellTypedProcedure n callers) (ok_same (made a.0 b.0) q b.2)
    (record {
      parameters = are;
      allow = subst A (starts callers ps) (allow_fits law n k v p.allow a.0 a.1);
      body = subst B (starts callers ps) fits.0;
      numbers = ap is_some fits.1;
    })

pub views_fit : HaveKinds → ViewsAreTyped
unfolding view_of
views_fit law n callers ps v w are h =
    let k = kinds_from 0 n in
    let us = first_variables callers ps in
    let r = reach n k us in
    let made : Core → List CoreView → View = λ a xs. record { name = v.name; parameters = ps; allow = a; parts = xs } in
    let a = came_from (allow_of v.allow r) (λ x. parts v.parts r 1 >>= (λ xs. Ok (made x xs))) w h in
    let b = came_from (parts v.parts r 1) (λ xs. Ok (made a.0 xs)) w a.2 in
    let A : List Kind → Type 0 = λ ks. suits kind.Truth (kind_in a.0 n k ks) ≡ true in
    let B : List Kind → Type 0 = λ ks. are_parts b.0 n k ks 1 ≡ true in
    subst (IsWellTypedView n callers) (ok_same (made a.0 b.0) w b.2)
    (record {
      parameters = are;
      allow = subst A (starts callers ps) (allow_fits law n k us v.allow a.0 a.1);
      parts = subst B (starts callers ps) (parts_fit law n k us v.parts 1 b.0 b.1);
    })
