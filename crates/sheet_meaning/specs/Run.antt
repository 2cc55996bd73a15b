-- Evaluations: what one comes to, and what it uses on the way.
--
-- The words that put one thing after another, each of which leaves no outcome, and a fault, as they are:
--
--   after      an outcome      then the outcome that its value leads to
--   finish     an evaluation   then the outcome that its value leads to, for which nothing is used
--   run_after  an outcome      then the evaluation that its value leads to, and its uses
--   and_then   an evaluation   then the evaluation that its value leads to, and the uses of both
--
-- Parts that stand beside one another, all of which are evaluated, are put together by `both` and `all`.
use Rattle.std.specs.Prelude.{Bool, true, false, not, if◌then◌else◌, List, [], ◌∷◌, ◌++◌, Result, Ok, Err}
use Rattle.sheet_values.specs.declared.value.NotOne.TheVariants.{Zero, Many}
use Rattle.sheet_columns.specs.declared.fault.Fault.{Fault}
use Rattle.sheet_columns.specs.declared.fault.Fault.TheVariants as fault
use Rattle.sheet_columns.specs.declared.fault.Place.{Place}
use Rattle.sheet_columns.specs.declared.formula.Connective.{Connective}
use Rattle.sheet_columns.specs.declared.formula.Connective.TheVariants.{And, Or}
use Rattle.sheet_meaning.specs.declared.run.Run.{Run}

-- what an evaluation comes to: a value, a fault, or nothing so far, which is written as the fault `cycle`
abbrev pub Outcome : Type 0 → Type 0
Outcome A = Result A Fault

-- no outcome so far
abbrev pub none : {A : Type 0} → Outcome A
none = Err fault.Cycle

-- whether a fault stands for no outcome
abbrev pub is_none : Fault → Bool
is_none fault.Cycle = true
is_none (fault.NotOne how p) = false
is_none (fault.Overflow p) = false
is_none (fault.ZeroDivisor p) = false
is_none (fault.TextTooLong p) = false

-- an outcome for which nothing is used
abbrev pub given : {A : Type 0} → Outcome A → Run A
given o = record { outcome = o; uses = [] }

abbrev pub done : {A : Type 0} → A → Run A
done a = given (Ok a)

-- goes on from a value; no outcome, and a fault, stay
abbrev pub after : {A B : Type 0} → Outcome A → (A → Outcome B) → Outcome B
after (Ok a) f = f a
after (Err e) f = Err e

abbrev pub run_after : {A B : Type 0} → Outcome A → (A → Run B) → Run B
run_after (Ok a) f = f a
run_after (Err e) f = given (Err e)

-- the same uses, and an outcome made of the value
abbrev pub finish : {A B : Type 0} → Run A → (A → Outcome B) → Run B
finish r f = record { outcome = after r.outcome f; uses = r.uses }

-- the first, and where it has a value the second, which is skipped otherwise
abbrev pub and_then : {A B : Type 0} → Run A → (A → Run B) → Run B
and_then r f = let next = run_after r.outcome f in record { outcome = next.outcome; uses = r.uses ++ next.uses }

-- the fault of the left part, unless the right part has no outcome
abbrev pub outranked : Fault → Fault → Fault
outranked e f = if is_none f then f else e

-- the rule of parts, for two: no outcome where one of them has none; otherwise the fault of the leftmost part with a fault
abbrev pub both_outcomes : {A B : Type 0} → Outcome A → Outcome B → Outcome (A × B)
both_outcomes (Ok a) (Ok b) = Ok (a, b)
both_outcomes (Ok a) (Err f) = Err f
both_outcomes (Err e) (Ok b) = Err e
both_outcomes (Err e) (Err f) = Err (outranked e f)

-- two parts
abbrev pub both : {A B : Type 0} → Run A → Run B → Run (A × B)
both r s = record { outcome = both_outcomes r.outcome s.outcome; uses = r.uses ++ s.uses }

-- any number of parts
abbrev pub all : {A : Type 0} → List (Run A) → Run (List A)
all [] = done []
all (r ∷ rs) = finish (both r (all rs)) (λ p. Ok (p.0 ∷ p.1))

-- whether the first truth decides: false does for `and`, true for `or`
abbrev pub decides : Connective → Bool → Bool
decides And a = not a
decides Or a = a

-- a left part with a fault, in three cases: the right part has a value, and the fault stays; it has no outcome, and there is none; it has
-- a fault, and that of the left part stays
abbrev pub left_fault : {A B : Type 0} → Fault → Outcome A → Outcome B
left_fault e (Ok a) = Err e
left_fault e (Err fault.Cycle) = none
left_fault e (Err f) = Err e

-- the second of two truths, where the first one has a fault; it is skipped where the first one has no outcome
abbrev pub second_after_fault : Fault → Run Bool → Run Bool
second_after_fault e b = if is_none e then given (Err e) else record { outcome = left_fault e b.outcome; uses = b.uses }

-- the second of two truths, which is skipped where the first one has no outcome or decides; otherwise both are parts
abbrev pub second_truth : Connective → Outcome Bool → Run Bool → Run Bool
second_truth c (Ok a) b = if decides c a then done a else b
second_truth c (Err e) b = second_after_fault e b

-- two truths joined by `and` or `or`
abbrev pub connect : Connective → Run Bool → Run Bool → Run Bool
connect c a b = let next = second_truth c a.outcome b in record { outcome = next.outcome; uses = a.uses ++ next.uses }

-- the one value, which must be one
abbrev pub the_one : {A : Type 0} → Place → List A → Outcome A
the_one p [] = Err (fault.NotOne Zero p)
the_one p (a ∷ []) = Ok a
the_one p (a ∷ b ∷ rest) = Err (fault.NotOne Many p)
