-- What forms make of their parts.
use Rattle.std.specs.Prelude.{pos, neg_ℤ, not, List, [], ◌∷◌, ◌++◌, length, Ok}
use Rattle.sheet_values.specs.declared.value.Value.{Value}
use Rattle.sheet_values.specs.declared.value.Value.TheVariants.{Number}
use Rattle.sheet_values.specs.Order.{value_cmp}
use Rattle.sheet_columns.specs.declared.fault.Place.{Place}
use Rattle.sheet_meaning.specs.declared.run.Run.{Run}
use Rattle.sheet_meaning.specs.Run.{Outcome, after, both_outcomes}
use Rattle.sheet_meaning.specs.Formula.{told, fits, fits_text, combine, compare, ordered, arithmetic, extreme}
use Rattle.sheet_eval.specs.Parts.{number_of, truth_of, text_of, one_of}
use Rattle.sheet_eval.specs.declared.forms.Unary.{Unary}
use Rattle.sheet_eval.specs.declared.forms.Unary.TheVariants.{Negate, Not, Count, Only, Extreme}
use Rattle.sheet_eval.specs.declared.forms.Binary.{Binary}
use Rattle.sheet_eval.specs.declared.forms.Binary.TheVariants.{Combine, Compare, Order, Arithmetic, Join}

-- what a form makes of its part
abbrev pub made_of_one : Unary → Place → Outcome (List Value) → Outcome (List Value)
made_of_one Negate p x = after (number_of p x) (λ n. fits p (neg_ℤ n))
made_of_one Not p x = after (truth_of p x) (λ b. told (not b))
made_of_one Count p x = after x (λ s. Ok (Number (pos (length s)) ∷ []))
made_of_one Only p x = after (one_of p x) (λ y. Ok (y ∷ []))
made_of_one (Extreme m) p x = after x (extreme m p)

-- what a form makes of its two parts
abbrev pub made_of_two : Binary → Place → Outcome (List Value) → Outcome (List Value) → Outcome (List Value)
made_of_two (Combine op) p x y = after (both_outcomes x y) (λ z. Ok (combine op z.0 z.1))
made_of_two (Compare test) p x y = after (both_outcomes x y) (λ z. told (compare test z.0 z.1))
made_of_two (Order test) p x y = after (both_outcomes (one_of p x) (one_of p y)) (λ z. told (ordered test (value_cmp z.0 z.1)))
made_of_two (Arithmetic op) p x y = after (both_outcomes (number_of p x) (number_of p y)) (λ z. arithmetic op p z.0 z.1)
made_of_two Join p x y = after (both_outcomes (text_of p x) (text_of p y)) (λ z. fits_text p (z.0 ++ z.1))

-- a form of one part, and of two, with the uses of all
abbrev pub unary_run : Unary → Place → Run (List Value) → Run (List Value)
unary_run form p r = record { outcome = made_of_one form p r.outcome; uses = r.uses }

abbrev pub binary_run : Binary → Place → Run (List Value) → Run (List Value) → Run (List Value)
binary_run form p r s = record { outcome = made_of_two form p r.outcome s.outcome; uses = r.uses ++ s.uses }
