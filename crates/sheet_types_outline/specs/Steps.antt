-- Steps that may be refused, one after another.
use Rattle.std.specs.Prelude.{◌≡◌, List, [], ◌∷◌, Result, Ok, Err}
use Rattle.sheet_types_formulas.specs.declared.refusal.TypeRefusal.{TypeRefusal}
use Rattle.sheet_types_formulas.specs.declared.refusal.TypeRefusal.TheVariants.{NoMemory}
use Rattle.sheet_types_formulas.specs.Answers.{Answer, ◌>>=◌}

-- a step for each element, from the first on, up to the first that is refused
abbrev pub in_turn : {S X : Type 0} → (S → X → Answer S) → S → List X → Answer S
in_turn step s [] = Ok s
in_turn step s (x ∷ xs) = step s x >>= λ t. in_turn step t xs

-- a call leaves what is told, or answers the refusal that is told, where a refusal for want of memory is free
abbrev pub Leaves : {S : Type 0} → Result (Unit {0}) TypeRefusal → S → Answer S → Type 0
Leaves (Ok x) new told = told ≡ Ok new
Leaves (Err NoMemory) new told = Unit {0}
Leaves (Err e) new told = told ≡ Err e
