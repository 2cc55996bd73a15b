-- Steps of answers: what is told where a step is refused, and where it isn't.
use Rattle.std.proofs.Common.{◌≡◌, refl, sym, ◌∙◌, ap, subst, ℕ, ◌+◌, ◌<◌, ◌≤◌, zero, suc, List, [], ◌∷◌, ◌++◌, length, get_or, drop, append_assoc, arith}
use Rattle.std.specs.Prelude.{Result, Ok, Err}
use Rattle.sheet_types_formulas.specs.declared.refusal.TypeRefusal.{TypeRefusal}
use Rattle.sheet_types_formulas.specs.declared.refusal.TypeRefusal.TheVariants.{Doubled, TooDeep, TooMany, UnknownName, Mismatch, NeedsFirst, NeedsType}
use Rattle.sheet_types_formulas.specs.declared.refusal.TypeRefusal.TheVariants.{DeclaredOther, NoMemory}
use Rattle.std.specs.Result.{IsErrAnd}
use Rattle.sheet_types_formulas.specs.Answers.{Answer, Answers, AnswersAs, ◌>>=◌}
use Rattle.sheet_types_bodies.specs.Parts.{in_turn}
use Rattle.sheet_types_formulas.proofs.Recursion.{drop_item, drop_suc}

-- second steps that are the same
pub then_same : {A B : Type 0} (a : Answer A) (f g : A → Answer B) → ((x : A) → f x ≡ g x) → a >>= f ≡ a >>= g
then_same (Ok x) f g h = h x
then_same (Err e) f g h = refl

-- a refusal that one step tells is told of the whole, where the whole has that refusal then
pub handed_on : {A B C D : Type 0} (e : TypeRefusal) (view : A → B) (see : C → D) (told : Answer B) (whole : Answer D)
    → AnswersAs view (Err e) told
    → (◌≡◌ {A = Answer B} told (Err e) → ◌≡◌ {A = Answer D} whole (Err e))
    → AnswersAs see (Err e) whole
handed_on (Doubled l) view see told whole a h = h a
handed_on (TooDeep l) view see told whole a h = h a
handed_on (TooMany l) view see told whole a h = h a
handed_on (UnknownName l) view see told whole a h = h a
handed_on (Mismatch l w x) view see told whole a h = h a
handed_on (NeedsFirst p) view see told whole a h = h a
handed_on (NeedsType p) view see told whole a h = h a
handed_on (DeclaredOther p d x) view see told whole a h = h a
handed_on NoMemory view see told whole a h = tt

-- things in order of which the first ones are made
abbrev pub rest_in_turn : {X Y : Type 0} → (X → ℕ → Answer Y) → (X → ℕ) → List Y → List X → ℕ → Answer (List Y)
rest_in_turn f count made xs n = in_turn f count xs n >>= (λ ys. Ok (made ++ ys))

pub none_made : {Y : Type 0} (a : Answer (List Y)) → a ≡ a >>= (λ ys. Ok ([] ++ ys))
none_made (Ok ys) = refl
none_made (Err e) = refl

one_more : {Y : Type 0} (made : List Y) (y : Y) (a : Answer (List Y))
    → (a >>= (λ ys. Ok (y ∷ ys))) >>= (λ ys. Ok (made ++ ys)) ≡ a >>= (λ ys. Ok ((made ++ y ∷ []) ++ ys))
one_more made y (Ok ys) = ap Ok (sym (append_assoc made (y ∷ []) ys))
one_more made y (Err e) = refl

pub turn_made : {X Y : Type 0} (f : X → ℕ → Answer Y) (count : X → ℕ) (made : List Y) (x : X) (xs : List X) (n : ℕ) (y : Y)
    → f x n ≡ Ok y
    → rest_in_turn f count made (x ∷ xs) n ≡ rest_in_turn f count (made ++ y ∷ []) xs (n + count x)
turn_made f count made x xs n y h =
    ap (λ a. (a >>= (λ z. in_turn f count xs (n + count x) >>= (λ ys. Ok (z ∷ ys)))) >>= (λ ys. Ok (made ++ ys))) h
    ∙ one_more made y (in_turn f count xs (n + count x))

pub turn_refused : {X Y : Type 0} (f : X → ℕ → Answer Y) (count : X → ℕ) (made : List Y) (x : X) (xs : List X) (n : ℕ) (e : TypeRefusal)
    → ◌≡◌ {A = Answer Y} (f x n) (Err e)
    → ◌≡◌ {A = Answer (List Y)} (rest_in_turn f count made (x ∷ xs) n) (Err e)
turn_refused f count made x xs n e h =
    ap (λ a. (a >>= (λ z. in_turn f count xs (n + count x) >>= (λ ys. Ok (z ∷ ys)))) >>= (λ ys. Ok (made ++ ys))) h

-- a refusal that is the whole's, also where it is want of memory
refused_as : {C D : Type 0} (e : TypeRefusal) (whole : Answer D) (see : C → D) → ◌≡◌ {A = Answer D} whole (Err e) → AnswersAs see (Err e) whole
refused_as (Doubled l) whole see h = h
refused_as (TooDeep l) whole see h = h
refused_as (TooMany l) whole see h = h
refused_as (UnknownName l) whole see h = h
refused_as (Mismatch l w x) whole see h = h
refused_as (NeedsFirst p) whole see h = h
refused_as (NeedsType p) whole see h = h
refused_as (DeclaredOther p d x) whole see h = h
refused_as NoMemory whole see h = tt

abbrev refusal_of : {D : Type 0} → TypeRefusal → Answer D
refusal_of e = Err e

at_same : {C D : Type 0} (e f : TypeRefusal) (whole : Answer D) (see : C → D) → f ≡ e → ◌≡◌ {A = Answer D} whole (Err e) → AnswersAs see (Err f) whole
at_same {D = D} e f whole see same h = refused_as f whole see (h ∙ ap (refusal_of {D = D}) (sym same))

at_none : {C D : Type 0} (f : TypeRefusal) (whole : Answer D) (see : C → D) → f ≡ NoMemory → AnswersAs see (Err f) whole
at_none f whole see same = let P : TypeRefusal → Type 0 = λ x. AnswersAs see (Err x) whole in subst P (sym same) tt

-- a refusal that was told of a step is handed on by `?`
pub passed_on : {A C D : Type 0} (e : TypeRefusal) (told : Answer A) (whole : Answer D) (see : C → D) (r : Result C TypeRefusal)
    → IsErrAnd r (λ f. f ≡ e)
    → Answers (Err e) told
    → (◌≡◌ {A = Answer A} told (Err e) → ◌≡◌ {A = Answer D} whole (Err e))
    → AnswersAs see r whole
passed_on e told whole see (Ok x) same a h = absurd same
passed_on (Doubled l) told whole see (Err f) same a h = at_same _ f whole see same (h a)
passed_on (TooDeep l) told whole see (Err f) same a h = at_same _ f whole see same (h a)
passed_on (TooMany l) told whole see (Err f) same a h = at_same _ f whole see same (h a)
passed_on (UnknownName l) told whole see (Err f) same a h = at_same _ f whole see same (h a)
passed_on (Mismatch l w x) told whole see (Err f) same a h = at_same _ f whole see same (h a)
passed_on (NeedsFirst p) told whole see (Err f) same a h = at_same _ f whole see same (h a)
passed_on (NeedsType p) told whole see (Err f) same a h = at_same _ f whole see same (h a)
passed_on (DeclaredOther p d x) told whole see (Err f) same a h = at_same _ f whole see same (h a)
passed_on NoMemory told whole see (Err f) same a h = at_none f whole see same

-- the same, where the answer is seen as it is
seen_as_it_is : {C : Type 0} (r : Result C TypeRefusal) (whole : Answer C) → AnswersAs (λ x. x) r whole → Answers r whole
seen_as_it_is (Ok x) whole a = a
seen_as_it_is (Err (Doubled l)) whole a = a
seen_as_it_is (Err (TooDeep l)) whole a = a
seen_as_it_is (Err (TooMany l)) whole a = a
seen_as_it_is (Err (UnknownName l)) whole a = a
seen_as_it_is (Err (Mismatch l w x)) whole a = a
seen_as_it_is (Err (NeedsFirst p)) whole a = a
seen_as_it_is (Err (NeedsType p)) whole a = a
seen_as_it_is (Err (DeclaredOther p d x)) whole a = a
seen_as_it_is (Err NoMemory) whole a = tt

-- a refusal, whatever is seen in other answers
pub seen_plainly : {A B : Type 0} (e : TypeRefusal) (view : A → B) (told : Answer B) → AnswersAs view (Err e) told → Answers (Err e) told
seen_plainly (Doubled l) view told a = a
seen_plainly (TooDeep l) view told a = a
seen_plainly (TooMany l) view told a = a
seen_plainly (UnknownName l) view told a = a
seen_plainly (Mismatch l w x) view told a = a
seen_plainly (NeedsFirst p) view told a = a
seen_plainly (NeedsType p) view told a = a
seen_plainly (DeclaredOther p d x) view told a = a
seen_plainly NoMemory view told a = tt

pub passed_plainly : {A C : Type 0} (e : TypeRefusal) (told : Answer A) (whole : Answer C) (r : Result C TypeRefusal)
    → IsErrAnd r (λ f. f ≡ e)
    → Answers (Err e) told
    → (◌≡◌ {A = Answer A} told (Err e) → ◌≡◌ {A = Answer C} whole (Err e))
    → Answers r whole
passed_plainly e told whole r same a h = seen_as_it_is r whole (passed_on e told whole (λ x. x) r same a h)

-- ---- loops over slices

-- nothing is left past the end
pub drop_past : {X : Type 0} (xs : List X) (i : ℕ) → length xs ≤ i → drop i xs ≡ []
drop_past [] zero le = refl
drop_past [] (suc i) le = refl
drop_past (x ∷ xs) zero le = absurd (omega arith)
drop_past (x ∷ xs) (suc i) le = drop_past xs i (omega arith)

pub append_none : {X : Type 0} (xs : List X) → xs ++ [] ≡ xs
append_none [] = refl
append_none (x ∷ xs) = ap (λ ys. x ∷ ys) (append_none xs)

module _ {X Y : Type 0} (f : X → ℕ → Answer Y) (count : X → ℕ) (xs : List X) (i n : ℕ) (made : List Y) (whole : Answer (List Y))
    (so_far : whole ≡ rest_in_turn f count made (drop i xs) n) where
  -- a turn makes one more
  pub turn_goes_on : (x : X) (y : Y) (more : List Y) (m : ℕ) → i < length xs → x ≡ get_or xs i x → f x n ≡ Ok y → more ≡ made ++ y ∷ [] → m ≡ n + count x →
      whole ≡ rest_in_turn f count more (drop (i + 1) xs) m
  turn_goes_on x y more m lt is told one next =
      so_far
      ∙ ap (λ rest. rest_in_turn f count made rest n) (drop_item xs i x lt is)
      ∙ turn_made f count made x (drop (i + 1) xs) n y told
      ∙ ap (λ ys. rest_in_turn f count ys (drop (i + 1) xs) (n + count x)) (sym one)
      ∙ ap (rest_in_turn f count more (drop (i + 1) xs)) (sym next)

  -- a turn is refused
  pub turn_stops : (x : X) (e : TypeRefusal) → i < length xs → x ≡ get_or xs i x → Answers (Err e) (f x n) → Answers (Err e) whole
  turn_stops x e lt is told =
      seen_as_it_is {C = List Y} (Err e) whole
      (handed_on e (λ (y : Y). y) (λ (ys : List Y). ys) (f x n) whole told
      (λ h. so_far ∙ ap (λ rest. rest_in_turn f count made rest n) (drop_item xs i x lt is) ∙ turn_refused f count made x (drop (i + 1) xs) n e h))

  -- all are made
  pub turns_end : length xs ≤ i → whole ≡ Ok made
  turns_end le = so_far ∙ ap (λ rest. rest_in_turn f count made rest n) (drop_past xs i le) ∙ ap (λ ys. Ok ys) (append_none made)
