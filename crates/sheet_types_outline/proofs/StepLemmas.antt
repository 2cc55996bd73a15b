-- Steps that may be refused.
use Rattle.std.proofs.Common.{◌≡◌, Bool, true, false, cond, Ok, Err, List, [], ◌∷◌, refl, sym, ap, ◌∙◌, ℕ, ◌+◌, ◌<◌, zero, suc, length, drop, get_or, add-one}
use Rattle.std.proofs.Common.{arith}
use Rattle.sheet_types_formulas.specs.declared.refusal.TypeRefusal.{TypeRefusal}
use Rattle.sheet_types_formulas.specs.declared.refusal.TypeRefusal.TheVariants.{Doubled, TooDeep, TooMany, UnknownName, Mismatch, NeedsFirst, NeedsType}
use Rattle.sheet_types_formulas.specs.declared.refusal.TypeRefusal.TheVariants.{DeclaredOther, NoMemory}
use Rattle.sheet_types_formulas.specs.Answers.{Answer, Answers, ◌>>=◌}
use Rattle.sheet_types_outline.specs.Steps.{in_turn, Leaves}
use Rattle.sheet_types_formulas.proofs.Recursion.{drop_suc}

-- where two steps aren't refused, neither is
pub both_ok : {A B : Type 0} (r : Answer A) (f : A → Answer B) (t : B) → (r >>= f) ≡ Ok t → (x : A) × (r ≡ Ok x) × (f x ≡ Ok t)
both_ok (Ok x) f t is = (x, refl, is)
both_ok (Err e) f t is = cc

-- what isn't refused by a test goes on
pub refused_not : {A : Type 0} (b : Bool) (e : TypeRefusal) (r : Answer A) (t : A) → cond b (Err e) r ≡ Ok t → r ≡ Ok t
refused_not true e r t is = cc
refused_not false e r t is = is

-- what isn't refused by the last test is the result
pub passed : {A : Type 0} (b : Bool) (e : TypeRefusal) (x t : A) → cond b (Err e) (Ok x) ≡ Ok t → x ≡ t
passed true e x t is = cc
passed false e x t is = cc

-- nothing was refused
pub same_ok : {A : Type 0} (x t : A) → cond false (Err NoMemory) (Ok x) ≡ Ok t → x ≡ t
same_ok x t is = passed false NoMemory x t is

pub refused_by : {A : Type 0} (b : Bool) (e : TypeRefusal) (r : Answer A) → b ≡ true → cond b (Err e) r ≡ Err e
refused_by true e r is = refl
refused_by false e r is = cc

pub not_refused_by : {A : Type 0} (b : Bool) (e : TypeRefusal) (r : Answer A) → b ≡ false → cond b (Err e) r ≡ r
not_refused_by true e r is = cc
not_refused_by false e r is = refl

-- a refused step refuses the whole
pub handed_on : {S W : Type 0} (e : TypeRefusal) (new : S) (told : Answer S) (whole : Answer W) → (told ≡ Err e → whole ≡ Err e) → Leaves (Err e) new told →
    Answers (Err e) whole
handed_on (Doubled l) new told whole f h = f h
handed_on (TooDeep l) new told whole f h = f h
handed_on (TooMany l) new told whole f h = f h
handed_on (UnknownName l) new told whole f h = f h
handed_on (Mismatch l w g) new told whole f h = f h
handed_on (NeedsFirst p) new told whole f h = f h
handed_on (NeedsType p) new told whole f h = f h
handed_on (DeclaredOther p d g) new told whole f h = f h
handed_on NoMemory new told whole f h = tt

-- a refused turn of a loop refuses the loop
pub turn_refused : {S X : Type 0} (step : S → X → Answer S) (s new : S) (x : X) (xs : List X) (whole : Answer S) (e : TypeRefusal)
    → in_turn step s (x ∷ xs) ≡ whole → Leaves (Err e) new (step s x) → Answers (Err e) whole
turn_refused step s new x xs whole e so_far h =
    handed_on e new (step s x) whole (λ is. sym so_far ∙ ap (λ t. t >>= λ u. in_turn step u xs) is) h

-- a turn of a loop
pub turned : {S X : Type 0} (step : S → X → Answer S) (s t : S) (x : X) (xs : List X) (whole : Answer S)
    → in_turn step s (x ∷ xs) ≡ whole → step s x ≡ Ok t → in_turn step t xs ≡ whole
turned step s t x xs whole so_far is = sym (ap (λ r. r >>= λ u. in_turn step u xs) is) ∙ so_far

-- what is left of a list begins with its next element
pub drop_item : {X : Type 0} (xs : List X) (i : ℕ) (x : X) → i < length xs → x ≡ get_or xs i x → drop i xs ≡ x ∷ drop (i + 1) xs
drop_item xs i x lt is = drop_suc xs i x lt is ∙ ap (λ k. x ∷ drop k xs) (sym (add-one i))
