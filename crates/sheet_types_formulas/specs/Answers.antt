-- Answers of typing: what is told, or the first refusal.
use Rattle.std.specs.Prelude.{◌≡◌, Result, Ok, Err}
use Rattle.sheet_types_formulas.specs.declared.refusal.TypeRefusal.{TypeRefusal}
use Rattle.sheet_types_formulas.specs.declared.refusal.TypeRefusal.TheVariants.{NoMemory}

-- what is told, or the first refusal
abbrev pub Answer : Type 0 → Type 0
Answer A = Result A TypeRefusal

-- a second step, where the first isn't refused
infixl 10 ◌>>=◌
abbrev pub ◌>>=◌ : {A B : Type 0} → Answer A → (A → Answer B) → Answer B
(Ok x) >>= f = f x
(Err e) >>= f = Err e

-- a call answers what is told, where a refusal for want of memory is free
abbrev pub Answers : {A : Type 0} → Result A TypeRefusal → Answer A → Type 0
Answers (Ok x) told = told ≡ Ok x
Answers (Err NoMemory) told = Unit {0}
Answers (Err e) told = told ≡ Err e

-- the same, where what is told is seen in the answer
abbrev pub AnswersAs : {A B : Type 0} → (A → B) → Result A TypeRefusal → Answer B → Type 0
AnswersAs view (Ok x) told = told ≡ Ok (view x)
AnswersAs view (Err NoMemory) told = Unit {0}
AnswersAs view (Err e) told = told ≡ Err e
