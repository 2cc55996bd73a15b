-- Each form from its parts.
use Rattle.std.proofs.Common.{◌≡◌, refl, sym, ap, ◌∙◌, subst, Bool, true, false, ℕ, List, [], ◌∷◌, Ok, Err}
use Rattle.std.specs.Prelude.{map, fold, if◌then◌else◌}
use denote.Hole.Carrier.{hidden}
use Rattle.sheet_columns.specs.declared.formula.Core.TheBlock.{hidden-the_row-Core-0, hidden-the_row-Core-1}
use Rattle.sheet_columns.specs.declared.formula.Core.{Core, Row_of-Core, end_of-Core, more_of-Core, items-the_row-Core, items_hidden-the_row-Core-1}
use Rattle.sheet_columns.specs.declared.formula.Core.{ObjectStep, StateStep, FormulaStep, Up, Set, Combine, Compare, Order, Arithmetic, Negate, Join, Not}
use Rattle.sheet_columns.specs.declared.formula.Core.{Connect, If, Count, Only, Extreme}
use Rattle.sheet_columns.specs.declared.formula.SetOperator.{SetOperator}
use Rattle.sheet_columns.specs.declared.formula.SetTest.{SetTest}
use Rattle.sheet_columns.specs.declared.formula.OrderTest.{OrderTest}
use Rattle.sheet_columns.specs.declared.formula.ArithmeticOperator.{ArithmeticOperator}
use Rattle.sheet_columns.specs.declared.formula.Connective.{Connective}
use Rattle.sheet_columns.specs.declared.formula.Extremum.{Extremum}
use Rattle.sheet_columns.specs.declared.fault.Fault.{Fault}
use Rattle.sheet_columns.specs.declared.fault.Place.{Place}
use Rattle.sheet_values.specs.declared.value.Value.{Value}
use Rattle.sheet_values.specs.Sets.{union}
use Rattle.sheet_meaning.specs.declared.run.Run.{Run}
use Rattle.sheet_meaning.specs.Run.{Outcome, after, both_outcomes, finish, and_then, all, done, given, connect, second_truth}
use Rattle.sheet_meaning.proofs.Relation.{behind_fault, as_part}
use Rattle.sheet_meaning.specs.Formula.{World, Variables, run, run_each, truth, step, gathered, joined, single, told}
use Rattle.sheet_eval.specs.Made.{made_of_one, made_of_two, unary_run, binary_run}
use Rattle.sheet_eval.specs.Parts.{truth_of}
use Rattle.sheet_eval.specs.Told.{Noted, Came, Folds}
use Rattle.sheet_eval.specs.Turns.{way_of, choice, skips}
use Rattle.sheet_eval.specs.declared.forms.Unary.{Unary}
use Rattle.sheet_eval.specs.declared.forms.Unary.TheVariants as unary
use Rattle.sheet_eval.specs.declared.forms.Binary.{Binary}
use Rattle.sheet_eval.specs.declared.forms.Binary.TheVariants as binary
use Rattle.sheet_eval.specs.declared.contents.Way.TheVariants.{Children, OfState, OfFormula, Parent}
use Rattle.sheet_eval.proofs.PartLemmas.{same_run, finish_came, both_came, leads_came, folds_single}

-- the same run, moved
pub moved : {A : Type 0} {r s : Run A} {o : Outcome A} {u0 u : Noted} → r ≡ s → Came r u0 o u → Came s u0 o u
moved {o = o} {u0 = u0} {u = u} e c = subst (λ r. Came r u0 o u) e c

module _ (w : World) (p : Place) (v : Variables) where
  pub run-ObjectStep : (c : ℕ) (e : Core) → run (ObjectStep e c) w p v ≡ and_then (run e w p v) (step (way_of w (Children c)))
  unfolding hidden hidden-the_row-Core-0
  run-ObjectStep c e = refl

  pub run-StateStep : (c : ℕ) (e : Core) → run (StateStep e c) w p v ≡ and_then (run e w p v) (step (way_of w (OfState c)))
  unfolding hidden hidden-the_row-Core-0
  run-StateStep c e = refl

  pub run-FormulaStep : (c : ℕ) (e : Core) → run (FormulaStep e c) w p v ≡ and_then (run e w p v) (step (way_of w (OfFormula c)))
  unfolding hidden hidden-the_row-Core-0
  run-FormulaStep c e = refl

  pub run-Up : (e : Core) → run (Up e) w p v ≡ and_then (run e w p v) (step (way_of w Parent))
  unfolding hidden hidden-the_row-Core-0
  run-Up e = refl

  each_row : {m : _} (row : Row_of-Core m) → run_each row w p v ≡ map (λ e. single (run e w p v)) (items-the_row-Core m row)
  each_row end_of-Core = refl
  each_row (more_of-Core e rest) = ap (λ rs. single (run e w p v) ∷ rs) (each_row rest)

  pub run-Set : (parts : List Core) → run (Set parts) w p v ≡ gathered union [] (λ e. single (run e w p v)) parts
  run-Set parts =
      ap (λ rs. finish (all rs) (λ xs. Ok (fold union [] (joined xs))))
      (each_row (hidden-the_row-Core-1 parts) ∙ ap (map (λ e. single (run e w p v))) (items_hidden-the_row-Core-1 parts))

  pub run-Combine : (op : SetOperator) (a b : Core) → run (Combine op a b) w p v ≡ binary_run (binary.Combine op) p (run a w p v) (run b w p v)
  unfolding hidden hidden-the_row-Core-0
  run-Combine op a b = refl

  pub run-Compare : (test : SetTest) (a b : Core) → run (Compare test a b) w p v ≡ binary_run (binary.Compare test) p (run a w p v) (run b w p v)
  unfolding hidden hidden-the_row-Core-0
  run-Compare test a b = refl

  pub run-Order : (test : OrderTest) (a b : Core) → run (Order test a b) w p v ≡ binary_run (binary.Order test) p (run a w p v) (run b w p v)
  unfolding hidden hidden-the_row-Core-0
  run-Order test a b = refl

  pub run-Arithmetic : (op : ArithmeticOperator) (a b : Core)
      → run (Arithmetic op a b) w p v ≡ binary_run (binary.Arithmetic op) p (run a w p v) (run b w p v)
  unfolding hidden hidden-the_row-Core-0
  run-Arithmetic op a b = refl

  pub run-Join : (a b : Core) → run (Join a b) w p v ≡ binary_run binary.Join p (run a w p v) (run b w p v)
  unfolding hidden hidden-the_row-Core-0
  run-Join a b = refl

  pub run-Negate : (a : Core) → run (Negate a) w p v ≡ unary_run unary.Negate p (run a w p v)
  unfolding hidden hidden-the_row-Core-0
  run-Negate a = refl

  pub run-Not : (a : Core) → run (Not a) w p v ≡ unary_run unary.Not p (run a w p v)
  unfolding hidden hidden-the_row-Core-0
  run-Not a = refl

  pub run-Count : (e : Core) → run (Count e) w p v ≡ unary_run unary.Count p (run e w p v)
  unfolding hidden hidden-the_row-Core-0
  run-Count e = refl

  pub run-Only : (e : Core) → run (Only e) w p v ≡ unary_run unary.Only p (run e w p v)
  unfolding hidden hidden-the_row-Core-0
  run-Only e = refl

  pub run-Extreme : (m : Extremum) (e : Core) → run (Extreme m e) w p v ≡ unary_run (unary.Extreme m) p (run e w p v)
  unfolding hidden hidden-the_row-Core-0
  run-Extreme m e = refl

  pub run-Connect : (c : Connective) (a b : Core) → run (Connect c a b) w p v ≡ finish (connect c (truth p (run a w p v)) (truth p (run b w p v))) told
  unfolding hidden hidden-the_row-Core-0
  run-Connect c a b = refl

  pub run-If : (c a b : Core) → run (If c a b) w p v ≡ and_then (truth p (run c w p v)) (choice a b w p v)
  unfolding hidden hidden-the_row-Core-0
  run-If c a b = refl

  -- a form at the values that the program read it and its parts from
  pub of_one : {P : Type 0} (form : P → Run (List Value)) {core made : Core} {e part : P} {o : Outcome (List Value)} {u0 u1 : Noted} → core ≡ made
      → run made w p v ≡ form e → part ≡ e → Came (form part) u0 o u1 → Came (run core w p v) u0 o u1
  of_one form is law same c = same_run (ap (λ k. run k w p v) is ∙ law) (moved (ap form same) c)

  pub of_two : (form : Core → Core → Run (List Value)) {core made a b left right : Core} {o : Outcome (List Value)} {u0 u1 : Noted} → core ≡ made
      → run made w p v ≡ form a b → left ≡ a → right ≡ b → Came (form left right) u0 o u1 → Came (run core w p v) u0 o u1
  of_two form {core} {made} {a} {b} {left} {right} is law same_a same_b c =
      same_run (ap (λ k. run k w p v) is ∙ law) (moved (ap (λ k. form k right) same_a ∙ ap (form a) same_b) c)

  pub of_three : (form : Core → Core → Core → Run (List Value)) {core made a b c first second third : Core} {o : Outcome (List Value)} {u0 u1 : Noted}
      → core ≡ made → run made w p v ≡ form a b c → first ≡ a → second ≡ b → third ≡ c → Came (form first second third) u0 o u1
      → Came (run core w p v) u0 o u1
  of_three form {core} {made} {a} {b} {c} {first} {second} {third} is law same_a same_b same_c came =
      same_run (ap (λ k. run k w p v) is ∙ law) (moved (ap (λ k. form k second third) same_a ∙ ap (λ k. form a k third) same_b ∙ ap (form a b) same_c) came)

  -- a form of no parts
  pub of_none : {core made : Core} {s : List Value} {o : Outcome (List Value)} {u : Noted} → core ≡ made → run made w p v ≡ done s → o ≡ Ok s
      → Came (run core w p v) u o u
  of_none is law value = same_run (ap (λ k. run k w p v) is ∙ law) (record { outcome = value; uses = refl })

-- an evaluation at equal variables
pub at_variables : (e : Core) (w : World) (p : Place) {v v' : Variables} {o : Outcome (List Value)} {u0 u : Noted} → v' ≡ v → Came (run e w p v') u0 o u
    → Came (run e w p v) u0 o u
at_variables e w p {o = o} {u0} {u} same c = subst (λ s. Came (run e w p s) u0 o u) same c

-- one part, with what the form makes of it
pub one_made : (form : Unary) (p : Place) {r : Run (List Value)} {x o : Outcome (List Value)} {u0 u1 : Noted} → Came r u0 x u1 → o ≡ made_of_one form p x
    → Came (unary_run form p r) u0 o u1
one_made form p c e = record { outcome = e ∙ ap (made_of_one form p) c.outcome; uses = c.uses }

-- two parts
pub two_made : (form : Binary) (p : Place) {r s : Run (List Value)} {x y o : Outcome (List Value)} {u0 u1 u2 : Noted} → Came r u0 x u1 → Came s u1 y u2
    → o ≡ made_of_two form p x y → Came (binary_run form p r s) u0 o u2
two_made form p {r} {s} {x} {y} {o} c d e =
    leads_came (λ z. record { outcome = made_of_two form p z s.outcome; uses = s.uses }) c
    (record { outcome = e ∙ ap (made_of_two form p x) d.outcome; uses = d.uses })

-- a part that must be one truth
pub truth_came : (p : Place) {r : Run (List Value)} {x : Outcome (List Value)} {t : Outcome Bool} {u0 u1 : Noted} → Came r u0 x u1 → t ≡ truth_of p x
    → Came (truth p r) u0 t u1
truth_came p c e = record { outcome = e ∙ ap (truth_of p) c.outcome; uses = c.uses }

-- the second of two truths, skipped or not
skipped : (c : Connective) (b : Run Bool) (x : Outcome Bool) → skips c x ≡ true → (n : Noted) → Came (finish (second_truth c x b) told) n (after x told) n
skipped c b (Ok a) s n = subst (λ t. Came (finish (if t then done a else b) told) n (told a) n) (sym s) (record { outcome = refl; uses = refl })
skipped c b (Err e) s n =
    subst (λ t. Came (finish (if t then given (Err e) else behind_fault e b) told) n (Err e) n) (sym s) (record { outcome = refl; uses = refl })

second_alone : (a : Bool) (y : Outcome Bool) → after (after (both_outcomes (Ok a) y) (λ z. Ok z.1)) told ≡ after y told
second_alone a (Ok b) = refl
second_alone a (Err e) = refl

first_fault : (e : Fault) (n : Noted) → Came {A = Bool} (given (Err e)) n (Err e) n
first_fault e n = record { outcome = refl; uses = refl }

not_skipped : (c : Connective) (b : Run Bool) (x y : Outcome Bool) {n m : Noted} → skips c x ≡ false → Came b n y m
    → Came (finish (second_truth c x b) told) n (after (after (both_outcomes x y) (λ z. Ok z.1)) told) m
not_skipped c b (Ok a) y {n} {m} s d =
    subst (λ t. Came (finish (if t then done a else b) told) n (after (after (both_outcomes (Ok a) y) (λ z. Ok z.1)) told) m) (sym s)
    (record { outcome = second_alone a y ∙ ap (λ o. after o told) d.outcome; uses = d.uses })
not_skipped c b (Err e) y {n} {m} s d =
    subst (λ t. Came (finish (if t then given (Err e) else behind_fault e b) told) n
    (after (after (both_outcomes (Err e) y) (λ (z : Bool × Bool). Ok z.1)) told) m) (sym s)
    (subst (λ r. Came (finish r told) n (after (after (both_outcomes (Err e) y) (λ (z : Bool × Bool). Ok z.1)) told) m) (as_part e b)
    (finish_came told (finish_came (λ (z : Bool × Bool). Ok z.1) (both_came (first_fault e n) d))))

pub connect_skipped : (c : Connective) (a b : Run Bool) {x : Outcome Bool} {o : Outcome (List Value)} {u0 u1 : Noted} → Came a u0 x u1 → skips c x ≡ true
    → o ≡ after x told → Came (finish (connect c a b) told) u0 o u1
connect_skipped c a b {x} {o} {u0} {u1} came s e =
    leads_came (λ z. finish (second_truth c z b) told) came (subst (λ q. Came (finish (second_truth c x b) told) u1 q u1) (sym e) (skipped c b x s u1))

pub connect_both : (c : Connective) (a b : Run Bool) {x y z : Outcome Bool} {o : Outcome (List Value)} {u0 u1 u2 : Noted} → Came a u0 x u1
    → skips c x ≡ false → Came b u1 y u2 → z ≡ after (both_outcomes x y) (λ q. Ok q.1) → o ≡ after z told → Came (finish (connect c a b) told) u0 o u2
connect_both c a b {x} {y} {z} {o} {u0} {u1} {u2} came s other e f =
    leads_came (λ q. finish (second_truth c q b) told) came
    (subst (λ q. Came (finish (second_truth c x b) told) u1 q u2) (sym (f ∙ ap (λ q. after q told) e)) (not_skipped c b x y s other))

-- one part of a list, folded into the union so far
pub union_part : (w : World) (p : Place) (part : Core) {v v' : Variables} {so_far o next : Outcome (List Value)} {u0 u1 : Noted} → v' ≡ v
    → Came (run part w p v') u0 o u1 → next ≡ after (both_outcomes so_far o) (λ x. Ok (union x.0 x.1))
    → Folds union (single (run part w p v)) so_far u0 next u1
union_part w p part {v} {v'} {so_far} {o} {next} {u0} {u1} sets c e = folds_single union (subst (λ s. Came (run part w p s) u0 o u1) sets c) e
