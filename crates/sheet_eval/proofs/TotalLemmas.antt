-- Comprehensions: what each value gives, put together.
use Rattle.std.proofs.Common.{◌≡◌, refl, sym, ap, ◌∙◌, subst, ℕ, ℤ, ◌≤◌, Bool, true, false, List, [], ◌∷◌, ◌++◌, length, append_assoc}
use Rattle.std.proofs.Common.{Ok, Err}
use Rattle.std.specs.Prelude.{pos, ◌+ℤ◌, map, fold, if◌then◌else◌}
use denote.Hole.Carrier.{hidden}
use Rattle.sheet_columns.specs.declared.formula.Core.TheBlock.{hidden-the_row-Core-0}
use Rattle.sheet_columns.specs.declared.formula.Core.{Core, Comprehension, Sum, Quantify}
use Rattle.sheet_columns.specs.declared.formula.Quantifier.{Quantifier}
use Rattle.sheet_columns.specs.declared.formula.Quantifier.TheVariants.{Any, All}
use Rattle.sheet_columns.specs.declared.fault.Fault.{Fault}
use Rattle.sheet_columns.specs.declared.fault.Place.{Place}
use Rattle.sheet_values.specs.declared.value.Value.{Value}
use Rattle.sheet_values.specs.declared.value.Value.TheVariants.{Number, Truth}
use Rattle.sheet_meaning.specs.declared.run.Run.{Run}
use Rattle.sheet_meaning.specs.Run.{Outcome, after, both_outcomes, finish, and_then, run_after, all, done, both}
use Rattle.sheet_meaning.specs.Formula.{World, Variables, run, bind, truth, number, gathered, joined, single, turn, told, fits, quantified}
use Rattle.sheet_eval.specs.Parts.{truth_of, quantify, quantify_none}
use Rattle.sheet_eval.specs.Told.{Noted, Came, Folds}
use Rattle.sheet_eval.specs.Totals.{Tally, start, with_part, taken, no_part, next_so_far, finished, is_test, taken_run, turn_run, turn_of, finished_run}
use Rattle.sheet_eval.specs.Totals.{gathered_from, aggregated, number_held}
use Rattle.sheet_eval.specs.declared.total.Aggregate.{Aggregate}
use Rattle.sheet_eval.specs.declared.total.Aggregate.TheVariants as aggregate
use Rattle.sheet_eval.proofs.PartLemmas.{after_ok, finish_came, leads_came, known_came, failed_came, folds_single, folds_came, fold_one}
use Rattle.sheet_eval.proofs.PartLemmas.{fold_nothing, Reached, reached_none, reached_end}
use Rattle.sheet_eval.proofs.FormLemmas.{truth_came}

-- a fold over parts, and over what they are wrapped in
module _ {A S : Type 0} (h : A → S) where
  joined_wrapped : (xss : List (List A)) → joined (map (map h) xss) ≡ map h (joined xss)
  joined_wrapped [] = refl
  joined_wrapped (xs ∷ xss) = ap (λ l. map h xs ++ l) (joined_wrapped xss) ∙ sym (both_lists xs (joined xss))
    where
      both_lists : (xs ys : List A) → map h (xs ++ ys) ≡ map h xs ++ map h ys
      both_lists [] ys = refl
      both_lists (x ∷ xs) ys = ap (λ l. h x ∷ l) (both_lists xs ys)

  alone_wrapped : (o : Outcome A) → after (after o (λ a. Ok (h a))) (λ b. Ok (b ∷ [])) ≡ after (after o (λ a. Ok (a ∷ []))) (λ l. Ok (map h l))
  alone_wrapped (Ok a) = refl
  alone_wrapped (Err e) = refl

  pub single_wrapped : (r : Run A) → single (finish r (λ a. Ok (h a))) ≡ finish (single r) (λ l. Ok (map h l))
  single_wrapped r = ap (λ o. record { outcome = o; uses = r.uses }) (alone_wrapped r.outcome)

  next_wrapped : (o : Outcome Bool) (r : Run A)
      → run_after o (λ holds. if holds then single (finish r (λ a. Ok (h a))) else done []) ≡ finish
      (run_after o (λ holds. if holds then single r else done [])) (λ l. Ok (map h l))
  next_wrapped (Ok true) r = single_wrapped r
  next_wrapped (Ok false) r = refl
  next_wrapped (Err e) r = refl

  pub turn_wrapped : (c : Run Bool) (r : Run A) → turn c (finish r (λ a. Ok (h a))) ≡ finish (turn c r) (λ l. Ok (map h l))
  turn_wrapped c r = ap (λ (n : Run (List S)). record { outcome = n.outcome; uses = c.uses ++ n.uses }) (next_wrapped c.outcome r)

  pair_wrapped : (o : Outcome (List A)) (q : Outcome (List (List A)))
      → after (both_outcomes (after o (λ l. Ok (map h l))) (after q (λ ls. Ok (map (map h) ls)))) (λ p. Ok (p.0 ∷ p.1)) ≡ after
      (after (both_outcomes o q) (λ p. Ok (p.0 ∷ p.1))) (λ ls. Ok (map (map h) ls))
  pair_wrapped (Ok xs) (Ok xss) = refl
  pair_wrapped (Ok xs) (Err f) = refl
  pair_wrapped (Err e) (Ok xss) = refl
  pair_wrapped (Err e) (Err f) = refl

  all_wrapped : {X : Type 0} (f : X → Run (List A)) (f' : X → Run (List S)) → ((x : X) → f' x ≡ finish (f x) (λ l. Ok (map h l))) → (xs : List X)
      → all (map f' xs) ≡ finish (all (map f xs)) (λ ls. Ok (map (map h) ls))
  all_wrapped f f' e [] = refl
  all_wrapped f f' e (x ∷ xs) =
      ap (λ r. finish (both r (all (map f' xs))) (λ p. Ok (p.0 ∷ p.1))) (e x)
      ∙ ap (λ r. finish (both (finish (f x) (λ l. Ok (map h l))) r) (λ p. Ok (p.0 ∷ p.1))) (all_wrapped f f' e xs)
      ∙ ap (λ o. record { outcome = o; uses = (f x).uses ++ (all (map f xs)).uses }) (pair_wrapped (f x).outcome (all (map f xs)).outcome)

  module _ {B : Type 0} (k : B → S) (g : B → A → B) (g' : S → S → S) (law : (b : B) (a : A) → g' (k b) (h a) ≡ k (g b a)) where
    fold_wrapped : (b : B) (xs : List A) → fold g' (k b) (map h xs) ≡ k (fold g b xs)
    fold_wrapped b [] = refl
    fold_wrapped b (x ∷ xs) = ap (λ s. fold g' s (map h xs)) (law b x) ∙ fold_wrapped (g b x) xs

    whole_wrapped : (b : B) (q : Outcome (List (List A)))
        → after (after q (λ ls. Ok (map (map h) ls))) (λ parts. Ok (fold g' (k b) (joined parts))) ≡ after (after q (λ parts. Ok (fold g b (joined parts))))
        (λ t. Ok (k t))
    whole_wrapped b (Ok xss) = ap Ok (ap (fold g' (k b)) (joined_wrapped xss) ∙ fold_wrapped b (joined xss))
    whole_wrapped b (Err e) = refl

    gathered_wrapped : {X : Type 0} (b : B) (f : X → Run (List A)) (f' : X → Run (List S)) → ((x : X) → f' x ≡ finish (f x) (λ l. Ok (map h l)))
        → (xs : List X) → gathered g' (k b) f' xs ≡ finish (gathered g b f xs) (λ t. Ok (k t))
    gathered_wrapped b f f' e xs =
        ap (λ r. finish r (λ parts. Ok (fold g' (k b) (joined parts)))) (all_wrapped f f' e xs)
        ∙ ap (λ o. record { outcome = o; uses = (all (map f xs)).uses }) (whole_wrapped b (all (map f xs)).outcome)

    after_wrapped : {X : Type 0} (o : Outcome (List X)) (b : B) (f : X → Run (List A)) (f' : X → Run (List S))
        → ((x : X) → f' x ≡ finish (f x) (λ l. Ok (map h l))) → run_after o (gathered g' (k b) f') ≡ finish (run_after o (gathered g b f)) (λ t. Ok (k t))
    after_wrapped (Ok xs) b f f' e = gathered_wrapped b f f' e xs
    after_wrapped (Err e) b f f' h = refl

    pub then_wrapped : {X : Type 0} (r : Run (List X)) (b : B) (f : X → Run (List A)) (f' : X → Run (List S))
        → ((x : X) → f' x ≡ finish (f x) (λ l. Ok (map h l))) → and_then r (gathered g' (k b) f') ≡ finish (and_then r (gathered g b f)) (λ t. Ok (k t))
    then_wrapped r b f f' e = ap (λ (n : Run S). record { outcome = n.outcome; uses = r.uses ++ n.uses }) (after_wrapped r.outcome b f f' e)

abbrev number_set : ℤ → List Value
number_set n = Number n ∷ []

abbrev truth_set : Bool → List Value
truth_set b = Truth b ∷ []

module _ (w : World) (p : Place) (v : Variables) where
  pub run-Comprehension : (body source condition : Core)
      → run (Comprehension body source condition) w p v ≡ aggregated aggregate.Union body source condition w p v
  unfolding hidden hidden-the_row-Core-0
  run-Comprehension body source condition = refl

  as_sum : (body source condition : Core)
      → run (Sum body source condition) w p v ≡ finish (and_then (run source w p v)
      (gathered ◌+ℤ◌ (pos 0) (λ x. turn (truth p (run condition w p (bind v x))) (number p (run body w p (bind v x)))))) (fits p)
  unfolding hidden hidden-the_row-Core-0
  as_sum body source condition = refl

  pub run-Sum : (body source condition : Core) → run (Sum body source condition) w p v ≡ aggregated aggregate.Sum body source condition w p v
  run-Sum body source condition =
      as_sum body source condition
      ∙ sym (ap (finished_run aggregate.Sum p) (then_wrapped number_set number_set ◌+ℤ◌ (with_part aggregate.Sum) (λ a b. refl) (run source w p v) (pos 0) f
      (turn_of aggregate.Sum body condition w p v) (λ x. turn_wrapped number_set (truth p (run condition w p (bind v x)))
      (number p (run body w p (bind v x)))))
      ∙ ap (λ o. record { outcome = o; uses = whole.uses }) (after_ok whole.outcome number_set (λ s. fits p (number_held s))))
    where
      f : Value → Run (List ℤ)
      f x = turn (truth p (run condition w p (bind v x))) (number p (run body w p (bind v x)))

      whole : Run ℤ
      whole = and_then (run source w p v) (gathered ◌+ℤ◌ (pos 0) f)

  as_quantified : (q : Quantifier) (source condition : Core)
      → run (Quantify q source condition) w p v ≡ finish (and_then (run source w p v) (quantified q (λ x. truth p (run condition w p (bind v x))))) told
  unfolding hidden hidden-the_row-Core-0
  as_quantified q source condition = refl

  by_quantifier : (q : Quantifier) (r : Run (List Value)) (f : Value → Run Bool)
      → and_then r (quantified q f) ≡ and_then r (gathered (quantify q) (quantify_none q) (λ x. single (f x)))
  by_quantifier Any r f = refl
  by_quantifier All r f = refl

  pub run-Quantify : (q : Quantifier) (source condition : Core)
      → run (Quantify q source condition) w p v ≡ aggregated (aggregate.Quantify q) condition source condition w p v
  run-Quantify q source condition =
      as_quantified q source condition
      ∙ ap (λ r. finish r told) (by_quantifier q (run source w p v) (λ x. truth p (run condition w p (bind v x))))
      ∙ sym (then_wrapped truth_set truth_set (quantify q) (with_part (aggregate.Quantify q)) (λ a b. refl) (run source w p v) (quantify_none q)
      (λ x. single (truth p (run condition w p (bind v x)))) (turn_of (aggregate.Quantify q) condition condition w p v)
      (λ x. single_wrapped truth_set (truth p (run condition w p (bind v x)))))

-- what one value gives
module _ (a : Aggregate) (p : Place) (condition body : Run (List Value)) where
  taken_came : {r : Run (List Value)} {o : Outcome (List Value)} {u0 u1 : Noted} → Came r u0 o u1 → Came (taken_run a p r) u0 (taken a p o) u1
  taken_came c = record { outcome = ap (taken a p) c.outcome; uses = c.uses }

  abbrev tested : Run (List (List Value))
  tested = single (taken_run a p condition)

  abbrev guarded : Run (List (List Value))
  guarded = turn (truth p condition) (taken_run a p body)

  pub at_test : {h so_far next : Outcome (List Value)} {u0 u1 : Noted} → is_test a ≡ true → Came condition u0 h u1
      → next ≡ after (both_outcomes so_far (taken a p h)) (λ x. Ok (with_part a x.0 x.1))
      → Folds (with_part a) (turn_run a p condition body) so_far u0 next u1
  at_test {h} {so_far} {next} {u0} {u1} t c e =
      subst (λ b. Folds (with_part a) (if b then tested else guarded) so_far u0 next u1) (sym t) (folds_single (with_part a) (taken_came c) e)

  guarded_turn : {part : Outcome (List (List Value))} {so_far next : Outcome (List Value)} {u0 u1 : Noted} → is_test a ≡ false → Came guarded u0 part u1
      → next ≡ next_so_far a so_far part → Folds (with_part a) (turn_run a p condition body) so_far u0 next u1
  guarded_turn {part} {so_far} {next} {u0} {u1} t c e =
      subst (λ b. Folds (with_part a) (if b then tested else guarded) so_far u0 next u1) (sym t) (folds_came (with_part a) c e)

  abbrev held_by : Bool → Run (List (List Value))
  held_by holds = if holds then single (taken_run a p body) else done []

  pub at_fault : {h so_far next : Outcome (List Value)} {e : Fault} {u0 u1 : Noted} → is_test a ≡ false → Came condition u0 h u1 → Err e ≡ truth_of p h
      → next ≡ next_so_far a so_far (no_part e) → Folds (with_part a) (turn_run a p condition body) so_far u0 next u1
  at_fault t c e f = guarded_turn t (failed_came held_by (truth_came p c e)) f

  pub at_false : {h so_far : Outcome (List Value)} {u0 u1 : Noted} → is_test a ≡ false → Came condition u0 h u1 → Ok false ≡ truth_of p h
      → Folds (with_part a) (turn_run a p condition body) so_far u0 so_far u1
  at_false {h} {so_far} t c e =
      guarded_turn t (known_came held_by (truth_came p c e) (record { outcome = refl; uses = refl })) (fold_nothing (with_part a) so_far)

  pub at_true : {h o so_far next : Outcome (List Value)} {u0 u1 u2 : Noted} → is_test a ≡ false → Came condition u0 h u1 → Ok true ≡ truth_of p h
      → Came body u1 o u2 → next ≡ after (both_outcomes so_far (taken a p o)) (λ x. Ok (with_part a x.0 x.1))
      → Folds (with_part a) (turn_run a p condition body) so_far u0 next u2
  at_true {h} {o} {so_far} t c e d f =
      guarded_turn t (known_came held_by (truth_came p c e) (finish_came (λ y. Ok (y ∷ [])) (taken_came d)))
      (f ∙ sym (fold_one (with_part a) so_far (taken a p o)))

-- the variable that is bound stands behind all others
pub bound_came : (a : Aggregate) (body condition : Core) (w : World) (p : Place) (base bound : Variables) (x : Value) {with_it : Variables}
    {so_far next : Outcome (List Value)} {u0 u1 : Noted} → with_it ≡ bound ++ (x ∷ []) ∷ [] → Folds (with_part a)
    (turn_run a p (run condition w p (base ++ with_it)) (run body w p (base ++ with_it))) so_far u0 next u1 → Folds (with_part a)
    (turn_of a body condition w p (base ++ bound) x) so_far u0 next u1
bound_came a body condition w p base bound x {so_far = so_far} {next} {u0} {u1} e c =
    subst (λ s. Folds (with_part a) (turn_run a p (run condition w p s) (run body w p s)) so_far u0 next u1)
    (ap (λ b. base ++ b) e ∙ sym (append_assoc base bound ((x ∷ []) ∷ []))) c

-- a turn, at the aggregate and the variables that the loop began with
pub turned : {a a' : Aggregate} (body condition : Core) (w : World) (p : Place) (base : Variables) {bound bound' : Variables} (x : Value)
    {so_far next : Outcome (List Value)} {u0 u1 : Noted} → a' ≡ a → bound' ≡ bound → Folds (with_part a') (turn_of a' body condition w p (base ++ bound') x)
    so_far u0 next u1 → Folds (with_part a) (turn_of a body condition w p (base ++ bound) x) so_far u0 next u1
turned {a} {a'} body condition w p base {bound} {bound'} x {so_far} {next} {u0} {u1} e f c =
    subst (λ b. Folds (with_part a) (turn_of a body condition w p (base ++ b) x) so_far u0 next u1) f
    (subst (λ z. Folds (with_part z) (turn_of z body condition w p (base ++ bound') x) so_far u0 next u1) e c)

-- the loop over the values of a set
module _ (a : Aggregate) (f : Value → Run (List (List Value))) (p : Place) (s : List Value) (old : Noted) where
  pub total_start : {total : Tally} → total ≡ record { aggregate = a; so_far = Ok (start a) } → Reached (with_part a) (start a) f s old total.so_far old 0
  total_start e = subst (λ (t : Tally). Reached (with_part a) (start a) f s old t.so_far old 0) (sym e) (reached_none (with_part a) (start a) f s old)

  pub total_end : {total : Tally} {o : Outcome (List Value)} {uses : Noted} {k : ℕ} → length s ≤ k → total.aggregate ≡ a
      → Reached (with_part a) (start a) f s old total.so_far uses k → o ≡ finished total.aggregate p total.so_far
      → Came (finished_run a p (gathered (with_part a) (start a) f s)) old o uses
  total_end {total} {o} le same r e =
      let c = reached_end (with_part a) (start a) f s old le r in
      record { outcome = e ∙ ap (λ z. finished z p total.so_far) same ∙ ap (finished a p) c.outcome; uses = c.uses }

-- a comprehension whose source has a fault or no result, and one whose source is known
finished_fault : (a : Aggregate) (p : Place) (e : Fault) → Err e ≡ finished a p (Err e)
finished_fault aggregate.Union p e = refl
finished_fault aggregate.Sum p e = refl
finished_fault (aggregate.Quantify q) p e = refl

module _ (a : Aggregate) (p : Place) (g : List Value → Run (List Value)) {r : Run (List Value)} {u0 u1 : Noted} where
  pub source_fault : {e : Fault} → Came r u0 (Err e) u1 → Came (finished_run a p (and_then r g)) u0 (Err e) u1
  source_fault {e} c = leads_came (λ x. finished_run a p (run_after x g)) c (record { outcome = finished_fault a p e; uses = refl })

  pub source_known : {s : List Value} {o : Outcome (List Value)} {u2 : Noted} → Came r u0 (Ok s) u1 → Came (finished_run a p (g s)) u1 o u2
      → Came (finished_run a p (and_then r g)) u0 o u2
  source_known c d = leads_came (λ x. finished_run a p (run_after x g)) c d

-- a comprehension over the values of a set, at equal variables and equal sets
pub values_at : (a : Aggregate) (body condition : Core) (w : World) (p : Place) {v v' : Variables} (s : List Value) {o : Outcome (List Value)}
    {u0 u1 : Noted} → v' ≡ v → Came (finished_run a p (gathered_from a body condition w p v' s)) u0 o u1 → Came
    (finished_run a p (gathered_from a body condition w p v s)) u0 o u1
values_at a body condition w p s {o} {u0} {u1} same c = subst (λ z. Came (finished_run a p (gathered_from a body condition w p z s)) u0 o u1) same c
