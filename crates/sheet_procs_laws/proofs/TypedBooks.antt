-- The formulas of a well-typed book fit their columns.
use Rattle.std.proofs.Common.{◌≡◌, refl, ap, sym, ◌∙◌, subst, ⊎_elim, true, [], ◌∷◌, Option, Some, None}
use Rattle.std.specs.Prelude.{is_some}
use Rattle.sheet_values.specs.declared.value.Kind.{Kind}
use Rattle.sheet_values.specs.declared.value.Kind.TheVariants as kind
use Rattle.sheet_types_rules.specs.Columns.{is_known, kinds_from, home}
use Rattle.sheet_types_rules.specs.Formulas.{kind_in, serves, ◌>>◌}
use Rattle.sheet_types_rules.specs.Kinds.{common}
use Rattle.sheet_types_rules.specs.Statements.{suits}
use Rattle.sheet_meaning.proofs.Columns.{all_from}
use Rattle.sheet_books.specs.Schemas.{schema_of}
use Rattle.sheet_procs_laws.proofs.FormulaLemmas.{formulas_typed}
use Rattle.sheet_engine_types.specs.Types.{FitsItsColumn}
use Rattle.sheet_engine_types.proofs.OneKind.{Becomes, agree}
use Rattle.sheet_procs_laws.specs.Keeping.{BooksAreTyped}

-- a type that serves where a known one is wanted
pub record Serves (wanted k : Kind) : Type 0 where
  pub common_is : common wanted k ≡ Some wanted
  pub becomes : Becomes k wanted

known_kept : (k m : Kind) → is_known k ≡ true → Becomes k m → k ≡ m
known_kept k m known b = ⊎_elim (λ e. let no : is_known kind.Unknown ≡ true = subst (λ x. is_known x ≡ true) e known in cc) (λ e. e) b

pub serving : (wanted k : Kind) → is_known wanted ≡ true → serves wanted k ≡ true → Serves wanted k
serving wanted k known h = at (common wanted k) refl h
  where
    at : (o : Option Kind) → common wanted k ≡ o → is_some o ≡ true → Serves wanted k
    at None e g = cc
    at (Some m) e g =
        let agreed = agree wanted k m e in
        let same : m ≡ wanted = sym (known_kept wanted m known agreed.left) in
        record { common_is = e ∙ ap Some same; becomes = subst (λ x. Becomes k x) same agreed.right }

-- a formula that suits has a type that serves
pub record Suits (wanted : Kind) (o : Option Kind) : Type 0 where
  pub has : Kind
  pub is : o ≡ Some has
  pub serves : Serves wanted has

pub suiting : (wanted : Kind) (o : Option Kind) → is_known wanted ≡ true → suits wanted o ≡ true → Suits wanted o
suiting wanted None known h = cc
suiting wanted (Some k) known h = record { has = k; is = refl; serves = serving wanted k known h }

pub books_are_typed : BooksAreTyped
books_are_typed b typed =
    all_from (FitsItsColumn b.columns) (schema_of b).formulas (λ f i k is.
    let own = formulas_typed b typed f i k is in
    let formula = kind_in f.core b.columns (kinds_from 0 b.columns) (kind.Object (home b.columns f.column) ∷ []) in
    let s = suiting k formula own.0 own.1 in
    ap (λ o. o >> common k) s.is ∙ s.serves.common_is)
