-- What each form makes of the evaluations of its parts.
use Rattle.std.specs.Prelude.{ℤ, pos, ◌+ℤ◌, neg_ℤ, ◌||◌, ◌&&◌, not, Bool, true, false, if◌then◌else◌, List, [], ◌∷◌, ◌++◌, fold, map, length, Ok, Err}
use Rattle.sheet_values.specs.declared.value.Value.{Value}
use Rattle.sheet_values.specs.declared.value.Value.TheVariants.{Number}
use Rattle.sheet_values.specs.Order.{value_cmp}
use Rattle.sheet_values.specs.Sets.{union}
use Rattle.sheet_columns.specs.declared.fault.Place.{Place}
use Rattle.sheet_columns.specs.declared.formula.SetOperator.{SetOperator}
use Rattle.sheet_columns.specs.declared.formula.SetTest.{SetTest}
use Rattle.sheet_columns.specs.declared.formula.OrderTest.{OrderTest}
use Rattle.sheet_columns.specs.declared.formula.ArithmeticOperator.{ArithmeticOperator}
use Rattle.sheet_columns.specs.declared.formula.Connective.{Connective}
use Rattle.sheet_columns.specs.declared.formula.Extremum.{Extremum}
use Rattle.sheet_columns.specs.declared.formula.Quantifier.{Quantifier}
use Rattle.sheet_columns.specs.declared.formula.Quantifier.TheVariants.{Any, All}
use Rattle.sheet_meaning.specs.declared.run.Run.{Run}
use Rattle.sheet_meaning.specs.declared.run.Use.{Use}
use Rattle.sheet_meaning.specs.Run.{Outcome, finish, and_then, both, all, connect}
use Rattle.sheet_meaning.specs.Formula.{one, truth, number, text, told, fits, fits_text, combine, compare, ordered, arithmetic, extreme, single, joined, turn}

-- union, intersection or difference of two sets
abbrev pub combined : SetOperator → Run (List Value) → Run (List Value) → Run (List Value)
combined op a b = finish (both a b) (λ x. Ok (combine op x.0 x.1))

-- two sets compared as sets
abbrev pub compared : SetTest → Run (List Value) → Run (List Value) → Run (List Value)
compared test a b = finish (both a b) (λ x. told (compare test x.0 x.1))

-- two single values compared by size
abbrev pub in_order : OrderTest → Place → Run (List Value) → Run (List Value) → Run (List Value)
in_order test p a b = finish (both (one p a) (one p b)) (λ x. told (ordered test (value_cmp x.0 x.1)))

-- arithmetic of two single numbers
abbrev pub calculated : ArithmeticOperator → Place → Run (List Value) → Run (List Value) → Run (List Value)
calculated op p a b = finish (both (number p a) (number p b)) (λ x. arithmetic op p x.0 x.1)

-- a single number with the other sign
abbrev pub negated : Place → Run (List Value) → Run (List Value)
negated p a = finish (number p a) (λ n. fits p (neg_ℤ n))

-- two single texts, one behind the other
abbrev pub joined_texts : Place → Run (List Value) → Run (List Value) → Run (List Value)
joined_texts p a b = finish (both (text p a) (text p b)) (λ x. fits_text p (x.0 ++ x.1))

-- the other truth
abbrev pub denied : Place → Run (List Value) → Run (List Value)
denied p a = finish (truth p a) (λ b. told (not b))

-- two truths joined by and or or
abbrev pub connected : Connective → Place → Run (List Value) → Run (List Value) → Run (List Value)
connected c p a b = finish (connect c (truth p a) (truth p b)) told

-- the one of two that a truth chooses
abbrev pub chosen : Place → Run (List Value) → Run (List Value) → Run (List Value) → Run (List Value)
chosen p c a b = and_then (truth p c) (λ x. if x then a else b)

-- how many values there are
abbrev pub counted : Run (List Value) → Run (List Value)
counted s = finish s (λ s. Ok (Number (pos (length s)) ∷ []))

-- the single value
abbrev pub only : Place → Run (List Value) → Run (List Value)
only p s = finish (one p s) (λ x. Ok (x ∷ []))

-- the least or greatest value
abbrev pub extreme_of : Extremum → Place → Run (List Value) → Run (List Value)
extreme_of m p s = finish s (extreme m p)

-- an evaluation after other uses
abbrev pub followed : {A : Type 0} → List Use → Run A → Run A
followed uses next = record { outcome = next.outcome; uses = uses ++ next.uses }

-- parts by their rule, one list after the other
abbrev pub all_joined : {A : Type 0} → List (Run (List A)) → Run (List A)
all_joined rs = finish (all rs) (λ parts. Ok (joined parts))

-- the union of parts
abbrev pub united : List (Run (List (List Value))) → Run (List Value)
united rs = finish (all rs) (λ parts. Ok (fold union [] (joined parts)))

-- each by itself, in a list
abbrev pub singles : {A : Type 0} → List (Run A) → List (Run (List A))
singles rs = map single rs

-- what each value of a comprehension gives, from its condition and its body
abbrev pub turns : Place → List (Run (List Value) × Run (List Value)) → List (Run (List (List Value)))
turns p pairs = map (λ x. turn (truth p x.0) x.1) pairs

-- what each value of a sum gives, from its condition and its body
abbrev pub number_turns : Place → List (Run (List Value) × Run (List Value)) → List (Run (List ℤ))
number_turns p pairs = map (λ x. turn (truth p x.0) (number p x.1)) pairs

-- each as a truth
abbrev pub truths_of : Place → List (Run (List Value)) → List (Run Bool)
truths_of p rs = map (truth p) rs

-- the exact total, tested once
abbrev pub totalled : Place → List (Run (List ℤ)) → Run (List Value)
totalled p rs = finish (finish (all rs) (λ parts. Ok (fold ◌+ℤ◌ (pos 0) (joined parts)))) (fits p)

-- whether any or all of these hold
abbrev pub answered : Quantifier → List Bool → Bool
answered Any bs = fold ◌||◌ false bs
answered All bs = fold ◌&&◌ true bs

-- whether any or all parts hold
abbrev pub quantified_over : Quantifier → List (Run (List Bool)) → Run (List Value)
quantified_over q rs = finish (finish (all rs) (λ parts. Ok (answered q (joined parts)))) told

-- what is made for the values of a source, which is judged first
abbrev pub for_source : Run (List Value) → Run (List Value) → Run (List Value)
for_source source r = and_then source (λ s. r)

-- the values of an outcome, and none of a fault
abbrev pub values_in : Outcome (List Value) → List Value
values_in (Ok xs) = xs
values_in (Err e) = []
