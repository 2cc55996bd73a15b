-- What an evaluation gives, where it gives something.
use Rattle.std.proofs.Common.{Bool, true, false, List, [], ◌∷◌, ◌++◌, Ok, Err}
use Rattle.std.specs.Prelude.{map, fold, IfOk, if◌then◌else◌}
use Rattle.std.specs.List.{AllByRecursion}
use Rattle.sheet_meaning.specs.Run.{Outcome, done, after, run_after, finish, and_then, both_outcomes, both, all}
use Rattle.sheet_meaning.specs.Formula.{joined, single, gathered, turn}
use Rattle.sheet_meaning.specs.declared.run.Run.{Run}
use Rattle.sheet_meaning.proofs.Columns.{all_map}

-- what an evaluation gives meets this
pub record Gives {A : Type 0} (P : A → Type 0) (r : Run A) : Type 0 where
  pub is : IfOk r.outcome P

-- no more is known of it
abbrev pub Any : {A : Type 0} → A → Type 0
Any a = Unit {0}

pub any : {A : Type 0} (r : Run A) → Gives {A = A} Any r
any {A} r = record { is = at r.outcome }
  where
    at : (o : Outcome A) → IfOk o Any
    at (Ok a) = tt
    at (Err e) = tt

module _ {A B : Type 0} (Q : A → Type 0) (P : B → Type 0) where
  pub finished : (f : A → Outcome B) (r : Run A) → Gives Q r → ((a : A) → Q a → IfOk (f a) P) → Gives P (finish r f)
  finished f r h g = record { is = at r.outcome h.is }
    where
      at : (o : Outcome A) → IfOk o Q → IfOk (after o f) P
      at (Ok a) q = g a q
      at (Err e) q = tt

  pub followed : (f : A → Run B) (r : Run A) → Gives Q r → ((a : A) → Q a → Gives P (f a)) → Gives P (and_then r f)
  followed f r h g = record { is = at r.outcome h.is }
    where
      at : (o : Outcome A) → IfOk o Q → IfOk (run_after o f).outcome P
      at (Ok a) q = (g a q).is
      at (Err e) q = tt

  -- both parts
  abbrev pub Both : A × B → Type 0
  Both x = Q x.0 × P x.1

  pub both_given : (r : Run A) (s : Run B) → Gives Q r → Gives P s → Gives Both (both r s)
  both_given r s h g = record { is = at r.outcome s.outcome h.is g.is }
    where
      at : (o : Outcome A) (q : Outcome B) → IfOk o Q → IfOk q P → IfOk (both_outcomes o q) Both
      at (Ok a) (Ok b) x y = (x, y)
      at (Ok a) (Err f) x y = tt
      at (Err e) (Ok b) x y = tt
      at (Err e) (Err f) x y = tt

module _ {A : Type 0} (P : A → Type 0) where
  -- what is made of any value meets this
  pub made : {B : Type 0} (f : B → Outcome A) (r : Run B) → ((b : B) → IfOk (f b) P) → Gives P (finish r f)
  made f r g = finished Any P f r (any r) (λ b h. g b)

  pub done_given : (a : A) → P a → Gives P (done a)
  done_given a h = record { is = h }

  pub chosen_given : (b : Bool) (r s : Run A) → Gives P r → Gives P s → Gives P (if b then r else s)
  chosen_given true r s h g = h
  chosen_given false r s h g = g

  pub single_given : (r : Run A) → Gives P r → Gives (AllByRecursion P) (single r)
  single_given r h = finished P (AllByRecursion P) (λ a. Ok (a ∷ [])) r h (λ a q. (q, tt))

  pub all_given : (rs : List (Run A)) → AllByRecursion (λ (r : Run A). Gives P r) rs → Gives (AllByRecursion P) (all rs)
  all_given [] h = record { is = tt }
  all_given (r ∷ rs) h =
      finished (Both P (AllByRecursion P)) (AllByRecursion P) (λ (x : A × List A). Ok (x.0 ∷ x.1)) (both r (all rs))
      (both_given P (AllByRecursion P) r (all rs) h.0 (all_given rs h.1)) (λ x q. q)

  pub turn_given : (c : Run Bool) (r : Run A) → Gives P r → Gives (AllByRecursion P) (turn c r)
  turn_given c r h =
      followed Any (AllByRecursion P) (λ holds. if holds then single r else done []) c (any c)
      (λ holds q. chosen_for holds)
    where
      chosen_for : (holds : Bool) → Gives (AllByRecursion P) (if holds then single r else done [])
      chosen_for true = single_given r h
      chosen_for false = record { is = tt }

  pub appended : (xs ys : List A) → AllByRecursion P xs → AllByRecursion P ys → AllByRecursion P (xs ++ ys)
  appended [] ys h g = g
  appended (x ∷ xs) ys h g = (h.0, appended xs ys h.1 g)

  pub all_joined : (xss : List (List A)) → AllByRecursion (AllByRecursion P) xss → AllByRecursion P (joined xss)
  all_joined [] h = tt
  all_joined (xs ∷ xss) h = appended xs (joined xss) h.0 (all_joined xss h.1)

-- what holds of all holds of what follows from it
pub all_more : {A : Type 0} (P Q : A → Type 0) → ((a : A) → P a → Q a) → (xs : List A) → AllByRecursion P xs → AllByRecursion Q xs
all_more P Q f [] h = tt
all_more P Q f (x ∷ xs) h = (f x h.0, all_more P Q f xs h.1)

-- what many things give, folded
pub gathered_given : {X A B : Type 0} (Q : A → Type 0) (P : B → Type 0) (g : B → A → B) (b : B) (f : X → Run (List A)) (xs : List X) →
    AllByRecursion (λ (x : X). Gives (AllByRecursion Q) (f x)) xs → ((parts : List A) → AllByRecursion Q parts → P (fold g b parts)) →
    Gives P (gathered g b f xs)
gathered_given {X} {A} Q P g b f xs h fine =
    finished (AllByRecursion (AllByRecursion Q)) P (λ (parts : List (List A)). Ok (fold g b (joined parts))) (all (map f xs))
    (all_given (AllByRecursion Q) (map f xs) (all_map (λ (r : Run (List A)). Gives (AllByRecursion Q) r) f xs h))
    (λ parts q. fine (joined parts) (all_joined Q parts q))
