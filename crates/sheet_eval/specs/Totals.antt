-- How the values of a comprehension are put together, as sets: a sum so far is the set of a number, a truth so far the set of a truth.
use Rattle.std.specs.Prelude.{ℤ, pos, ◌+ℤ◌, Bool, true, false, if◌then◌else◌, List, [], ◌∷◌, fold, Option, Some, None, Ok, Err}
use Rattle.sheet_values.specs.declared.value.Value.{Value}
use Rattle.sheet_values.specs.declared.value.Value.TheVariants.{Number, Truth}
use Rattle.sheet_values.specs.Sets.{union}
use Rattle.sheet_columns.specs.declared.fault.Fault.{Fault}
use Rattle.sheet_columns.specs.declared.fault.Place.{Place}
use Rattle.sheet_columns.specs.declared.formula.Core.{Core}
use Rattle.sheet_meaning.specs.declared.run.Run.{Run}
use Rattle.sheet_meaning.specs.Run.{Outcome, after, both_outcomes, and_then}
use Rattle.sheet_meaning.specs.Formula.{World, Variables, run, bind, turn, truth, told, fits, single, gathered, number_in, truth_in}
use Rattle.sheet_eval.specs.Parts.{number_of, truth_of, quantify, quantify_none}
use Rattle.sheet_eval.specs.declared.total.Aggregate.{Aggregate}
use Rattle.sheet_eval.specs.declared.total.Aggregate.TheVariants.{Union, Sum, Quantify}

-- how the values are put together, and what that comes to so far
pub record Tally : Type 0 where
  pub aggregate : Aggregate
  pub so_far : Outcome (List Value)

abbrev pub or_zero : Option ℤ → ℤ
or_zero None = pos 0
or_zero (Some n) = n

abbrev pub or_false : Option Bool → Bool
or_false None = false
or_false (Some b) = b

-- the number, and the truth, of a set of one
abbrev pub number_held : List Value → ℤ
number_held [] = pos 0
number_held (x ∷ xs) = or_zero (number_in x)

abbrev pub truth_held : List Value → Bool
truth_held [] = false
truth_held (x ∷ xs) = or_false (truth_in x)

-- what nothing comes to
abbrev pub start : Aggregate → List Value
start Union = []
start Sum = Number (pos 0) ∷ []
start (Quantify q) = Truth (quantify_none q) ∷ []

-- one part more
abbrev pub with_part : Aggregate → List Value → List Value → List Value
with_part Union a b = union a b
with_part Sum a b = Number (number_held a +ℤ number_held b) ∷ []
with_part (Quantify q) a b = Truth (quantify q (truth_held a) (truth_held b)) ∷ []

-- what is taken of a part: its set, the one number that it must be, or the one truth
abbrev pub taken : Aggregate → Place → Outcome (List Value) → Outcome (List Value)
taken Union p o = o
taken Sum p o = after (number_of p o) (λ n. Ok (Number n ∷ []))
taken (Quantify q) p o = after (truth_of p o) told

-- what a value without a result, or with a fault, gives
abbrev pub no_part : Fault → Outcome (List (List Value))
no_part e = Err e

-- what a value's parts add to what there is so far
abbrev pub next_so_far : Aggregate → Outcome (List Value) → Outcome (List (List Value)) → Outcome (List Value)
next_so_far a so_far parts = after (both_outcomes so_far parts) (λ x. Ok (fold (with_part a) x.0 x.1))

-- the whole, of which a sum must fit 64 bits
abbrev pub finished : Aggregate → Place → Outcome (List Value) → Outcome (List Value)
finished Union p o = o
finished Sum p o = after o (λ s. fits p (number_held s))
finished (Quantify q) p o = o

-- whether the condition is itself what is taken
abbrev pub is_test : Aggregate → Bool
is_test Union = false
is_test Sum = false
is_test (Quantify q) = true

abbrev pub taken_run : Aggregate → Place → Run (List Value) → Run (List Value)
taken_run a p r = record { outcome = taken a p r.outcome; uses = r.uses }

-- what a value gives, by the runs of its condition and of its body
abbrev pub turn_run : Aggregate → Place → Run (List Value) → Run (List Value) → Run (List (List Value))
turn_run a p condition body = if is_test a then single (taken_run a p condition) else turn (truth p condition) (taken_run a p body)

abbrev pub turn_of : Aggregate → Core → Core → World → Place → Variables → Value → Run (List (List Value))
turn_of a body condition w p v x = turn_run a p (run condition w p (bind v x)) (run body w p (bind v x))

abbrev pub finished_run : Aggregate → Place → Run (List Value) → Run (List Value)
finished_run a p r = record { outcome = finished a p r.outcome; uses = r.uses }

-- a comprehension over the values of a set, and over a source
abbrev pub gathered_from : Aggregate → Core → Core → World → Place → Variables → List Value → Run (List Value)
gathered_from a body condition w p v s = gathered (with_part a) (start a) (turn_of a body condition w p v) s

abbrev pub aggregated : Aggregate → Core → Core → Core → World → Place → Variables → Run (List Value)
aggregated a body source condition w p v = finished_run a p (and_then (run source w p v) (gathered_from a body condition w p v))
