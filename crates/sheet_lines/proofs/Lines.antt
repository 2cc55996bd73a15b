-- Lines, one after another.
use Rattle.std.proofs.Common.{◌≡◌, ℕ, ◌-◌, ◌<◌, List, [], ◌∷◌, ◌++◌, length, take, true, false, refl, ap, ◌∙◌, inl, inr, arith}
use Rattle.std.specs.Prelude.{◌==◌}
use Rattle.std.specs.Str.Lines.{strip_carriage_return}
use Rattle.std.proofs.lemmas.Bool.{cases_Bool}
use Rattle.std.proofs.lemmas.List.{length-append, take_at}
use Rattle.sheet_lines.specs.Lines.{lines, grow, ends_in_feed, said}
use Rattle.sheet_lines.specs.Reading.{HasNoFeed}

-- a line that a line feed ends, before the others
pub lines_feed : (line rest : List ℕ) → HasNoFeed line → lines (line ++ 10 ∷ rest) ≡ (line ++ 10 ∷ []) ∷ lines rest
lines_feed [] rest = λ none. refl
lines_feed (c ∷ cs) rest =
    elim (cases_Bool (c == 10)) [
      | inl feed ↦ rw feed (λ none. cc)
      | inr other ↦ rw other (λ none. ap (grow c) (lines_feed cs rest none))
    ]

-- a last line that no line feed ends
pub lines_last : (line : List ℕ) → HasNoFeed line → 0 < length line → lines line ≡ line ∷ []
lines_last [] = λ none some. absurd (omega arith)
lines_last (c ∷ []) =
    elim (cases_Bool (c == 10)) [
      | inl feed ↦ rw feed (λ none some. cc)
      | inr other ↦ rw other (λ none some. refl)
    ]
lines_last (c ∷ d ∷ ds) =
    elim (cases_Bool (c == 10)) [
      | inl feed ↦ rw feed (λ none some. cc)
      | inr other ↦ rw other (λ none some. ap (grow c) (lines_last (d ∷ ds) none (omega arith)))
    ]

pub ends_feed : (line : List ℕ) → ends_in_feed (line ++ 10 ∷ []) ≡ true
ends_feed [] = refl
ends_feed (c ∷ []) = refl
ends_feed (c ∷ d ∷ ds) = ends_feed (d ∷ ds)

pub ends_not : (line : List ℕ) → HasNoFeed line → ends_in_feed line ≡ false
ends_not [] = λ none. refl
ends_not (c ∷ []) =
    elim (cases_Bool (c == 10)) [
      | inl feed ↦ rw feed (λ none. none)
      | inr other ↦ rw other (λ none. refl)
    ]
ends_not (c ∷ d ∷ ds) =
    elim (cases_Bool (c == 10)) [
      | inl feed ↦ rw feed (λ none. cc)
      | inr other ↦ rw other (λ none. ends_not (d ∷ ds) none)
    ]

pub said_feed : (line : List ℕ) → said (line ++ 10 ∷ []) ≡ strip_carriage_return line
said_feed line =
    let size : length (line ++ 10 ∷ []) - 1 ≡ length line = omega (arith, length-append line (10 ∷ [])) in
    rw (ends_feed line) (ap strip_carriage_return (ap (λ n. take n (line ++ 10 ∷ [])) size ∙ take_at line (10 ∷ []) (length line) refl))

pub said_last : (line : List ℕ) → HasNoFeed line → said line ≡ line
said_last line none = rw (ends_not line none) refl
