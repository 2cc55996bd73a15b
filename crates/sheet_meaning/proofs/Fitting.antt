-- No argument is bad exactly where they fit.
use Rattle.std.proofs.Common.{◌≡◌, refl, sym, ap, ◌∙◌, ℕ, ◌+◌, suc, true, false, List, [], ◌∷◌, length, arith, Option, Some, None, eq-eqb}
use Rattle.std.specs.Prelude.{◌==◌, if◌then◌else◌}
use Rattle.std.proofs.lemmas.Bool.{eqb-true}
use Rattle.sheet_values.specs.declared.value.Kind.{Kind}
use Rattle.sheet_values.specs.declared.value.Kind.TheVariants as kind
use Rattle.sheet_values.specs.declared.value.Value.{Value}
use Rattle.sheet_values.specs.declared.value.Value.TheVariants.{Truth, Number, Text, Object}
use Rattle.sheet_columns.specs.Tree.{is_number}
use Rattle.sheet_meaning.specs.Arguments.{is_live, bad_from, AreArguments, GoodArgumentsFit}
use Rattle.sheet_meaning.specs.Workbook.{object_at, column_in}
use Rattle.sheet_meaning.specs.WellFormed.{HasKind}
use Rattle.sheet_meaning.specs.declared.workbook.State.{State}

given_some : (c : ℕ) (o : Option ℕ) → is_number c o ≡ true → o ≡ Some c
given_some c None e = cc
given_some c (Some k) e = ap Some (sym (eqb-true c k e))

is_some_number : (c : ℕ) (o : Option ℕ) → o ≡ Some c → is_number c o ≡ true
is_some_number c o e = ap (is_number c) e ∙ eq-eqb c c refl

live_has : (s : State) (k : Kind) (v : Value) → is_live s k v ≡ true → HasKind s k v
live_has s kind.Truth (Truth b) e = tt
live_has s kind.Number (Number n) e = tt
live_has s kind.Text (Text t) e = tt
live_has s (kind.Object c) (Object o) e = given_some c (column_in (object_at s.objects o)) e
live_has s k v e = cc

has_live : (s : State) (k : Kind) (v : Value) → HasKind s k v → is_live s k v ≡ true
has_live s kind.Truth (Truth b) h = refl
has_live s kind.Number (Number n) h = refl
has_live s kind.Text (Text t) h = refl
has_live s (kind.Object c) (Object o) h = is_some_number c (column_in (object_at s.objects o)) h
has_live s k v h = absurd h

module _ (s : State) where
  good_fit : (k : ℕ) (ps : List (List ℕ × Kind)) (vs : List Value) → length ps ≡ length vs → bad_from s k ps vs ≡ None → AreArguments s ps vs
  good_fit k [] [] same e = tt
  good_fit k [] (v ∷ vs) same e = absurd (omega (arith, same))
  good_fit k (p ∷ ps) [] same e = absurd (omega (arith, same))
  good_fit k (p ∷ ps) (v ∷ vs) same e =
      elim (is_live s p.1 v) as (λ b. is_live s p.1 v ≡ b → (if b then bad_from s (k + 1) ps vs else Some k) ≡ None → AreArguments s (p ∷ ps) (v ∷ vs)) [
        | true ↦ λ t h. (live_has s p.1 v t, good_fit (k + 1) ps vs (omega (arith, same)) h)
        | false ↦ λ t h. cc
      ] refl e

  fit_good : (k : ℕ) (ps : List (List ℕ × Kind)) (vs : List Value) → AreArguments s ps vs → bad_from s k ps vs ≡ None
  fit_good k [] [] h = refl
  fit_good k [] (v ∷ vs) h = absurd h
  fit_good k (p ∷ ps) [] h = absurd h
  fit_good k (p ∷ ps) (v ∷ vs) h = ap (λ b. if b then bad_from s (k + 1) ps vs else Some k) (has_live s p.1 v h.0) ∙ fit_good (k + 1) ps vs h.1

  fit_as_many : (ps : List (List ℕ × Kind)) (vs : List Value) → AreArguments s ps vs → length ps ≡ length vs
  fit_as_many [] [] h = refl
  fit_as_many [] (v ∷ vs) h = absurd h
  fit_as_many (p ∷ ps) [] h = absurd h
  fit_as_many (p ∷ ps) (v ∷ vs) h = ap suc (fit_as_many ps vs h.1)

pub good_arguments_fit : GoodArgumentsFit
good_arguments_fit s ps vs = (
  λ e.
      elim (length ps == length vs) as (λ b. (length ps == length vs) ≡ b → (if b then bad_from s 1 ps vs else Some 0) ≡ None → AreArguments s ps vs) [
        | true ↦ λ t h. good_fit s 1 ps vs (eqb-true (length ps) (length vs) t) h
        | false ↦ λ t h. cc
      ] refl e,
  λ h. ap (λ b. if b then bad_from s 1 ps vs else Some 0) (eq-eqb (length ps) (length vs) (fit_as_many s ps vs h)) ∙ fit_good s 1 ps vs h,
)
