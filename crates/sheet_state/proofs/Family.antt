-- The set of the objects with some numbers.
use Rattle.std.proofs.Common.{◌≡◌, refl, ◌∙◌, ℕ, Bool, true, false, List, [], ◌∷◌, ◌++◌}
use Rattle.std.specs.Prelude.{not, ◌==◌, ◌||◌}
use Rattle.std.proofs.lemmas.List.Folds.{list_any-append}
use Rattle.sheet_values.specs.Sets.{contains}
use Rattle.sheet_values.specs.declared.value.Value.{Value}
use Rattle.sheet_values.specs.declared.value.Value.TheVariants.{Object}
use Rattle.sheet_meaning.specs.Changes.{has_number, is_other}

-- the set of the objects with these numbers
pub record Knows (d : List Value) (ns : List ℕ) : Type 0 where
  pub holds : (v : Value) → contains v d ≡ not (is_other ns v)

pub knows_number : (d : List Value) (ns : List ℕ) → Knows d ns → (n : ℕ) → contains (Object n) d ≡ has_number ns n
knows_number d ns k n = k.holds (Object n) ∙ twice (has_number ns n)
  where
    twice : (b : Bool) → not (not b) ≡ b
    twice true = refl
    twice false = refl

pub has_more : (ns : List ℕ) (m n : ℕ) → has_number (ns ++ m ∷ []) n ≡ (m == n || has_number ns n)
has_more ns m n = list_any-append (λ k. k == n) ns (m ∷ []) ∙ turned (has_number ns n) (m == n)
  where
    turned : (a b : Bool) → (a || (b || false)) ≡ (b || a)
    turned true true = refl
    turned true false = refl
    turned false true = refl
    turned false false = refl
