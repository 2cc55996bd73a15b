-- The variables at the start.
use Rattle.std.proofs.Common.{◌≡◌, refl, sym, ◌∙◌, ap, ℕ, ◌+◌, ◌<◌, List, [], ◌∷◌, ◌++◌, length, get_or, take, map}
use Rattle.std.proofs.lemmas.List.{take_more}
use Rattle.sheet_values.specs.declared.value.Kind.{Kind}
use Rattle.sheet_values.specs.declared.value.Kind.TheVariants as kind
use Rattle.sheet_types_formulas.specs.declared.scope.Variable.{Variable}
use Rattle.std.specs.Prelude.{codes}
use Rattle.sheet_types_bodies.specs.Bodies.{variable_of, first_variables}

map_one : (ps : List (List ℕ × Kind)) (p : List ℕ × Kind) → map variable_of ps ++ variable_of p ∷ [] ≡ map variable_of (ps ++ p ∷ [])
map_one [] p = refl
map_one (q ∷ ps) p = ap (λ vs. variable_of q ∷ vs) (map_one ps p)

first_one : (callers : ℕ) (ps : List (List ℕ × Kind)) (p : List ℕ × Kind) →
    first_variables callers ps ++ variable_of p ∷ [] ≡ first_variables callers (ps ++ p ∷ [])
first_one callers ps p =
    ap (λ vs. record { name = codes "caller"; kind = kind.Object callers } ∷ record { name = codes "operator"; kind = kind.Truth } ∷ vs) (map_one ps p)

-- one parameter more
pub parameter_more : (callers : ℕ) (ps : List (List ℕ × Kind)) (i : ℕ) (p : List ℕ × Kind) (vs more : List Variable)
    → i < length ps → p ≡ get_or ps i p → vs ≡ first_variables callers (take i ps) → more ≡ vs ++ variable_of p ∷ [] →
    more ≡ first_variables callers (take (i + 1) ps)
parameter_more callers ps i p vs more lt is so_far one =
    one
    ∙ ap (λ us. us ++ variable_of p ∷ []) so_far
    ∙ first_one callers (take i ps) p
    ∙ ap (λ qs. first_variables callers (take i ps ++ qs ∷ [])) is
    ∙ ap (first_variables callers) (sym (take_more ps i p lt))
