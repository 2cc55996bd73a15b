-- Parts that must be one, and what each form makes of its parts.
use Rattle.std.specs.Prelude.{◌≡◌, ℕ, ℤ, Bool, true, false, List, [], ◌∷◌, ◌||◌, ◌&&◌, Result, Ok, Err, MatchResult}
use Rattle.std.specs.List.{filter_map}
use Rattle.std.specs.Borrow.{Bor}
use Rattle.sheet_values.specs.declared.value.Value.{Value}
use Rattle.sheet_columns.specs.declared.fault.Fault.{Fault}
use Rattle.sheet_columns.specs.declared.fault.Place.{Place}
use Rattle.sheet_columns.specs.declared.formula.Quantifier.{Quantifier}
use Rattle.sheet_columns.specs.declared.formula.Quantifier.TheVariants.{Any, All}
use Rattle.sheet_meaning.specs.Run.{Outcome, after, the_one}
use Rattle.sheet_meaning.specs.Formula.{truth_in, number_in, text_in}

abbrev pub number_of : Place → Outcome (List Value) → Outcome ℤ
number_of p o = after o (λ s. the_one p (filter_map number_in s))

abbrev pub truth_of : Place → Outcome (List Value) → Outcome Bool
truth_of p o = after o (λ s. the_one p (filter_map truth_in s))

abbrev pub text_of : Place → Outcome (List Value) → Outcome (List ℕ)
text_of p o = after o (λ s. the_one p (filter_map text_in s))

abbrev pub one_of : Place → Outcome (List Value) → Outcome Value
one_of p o = after o (the_one p)

-- a reference to the one value, to the one text
abbrev pub is_one : Place → Outcome (List Value) → Result (Bor Value) Fault → Type 0
is_one p o r = MatchResult r (λ v. one_of p o ≡ Ok v.now) (λ f. one_of p o ≡ Err f)

abbrev pub is_one_text : Place → Outcome (List Value) → Result (Bor (List ℕ)) Fault → Type 0
is_one_text p o r = MatchResult r (λ v. text_of p o ≡ Ok v.now) (λ f. text_of p o ≡ Err f)

abbrev pub not_nothing : {A : Type 0} → List A → Bool
not_nothing [] = false
not_nothing (x ∷ xs) = true

-- a truth more, by the quantifier
abbrev pub quantify : Quantifier → Bool → Bool → Bool
quantify Any a b = a || b
quantify All a b = a && b

abbrev pub quantify_none : Quantifier → Bool
quantify_none Any = false
quantify_none All = true
