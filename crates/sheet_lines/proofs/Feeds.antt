-- Where the first line feed is, and what the front and the rest of a piece are.
use Rattle.std.proofs.Common.{◌≡◌, ℕ, suc, ◌+◌, ◌-◌, ◌<◌, ◌≤◌, List, [], ◌∷◌, ◌++◌, length, take, drop, false, cond, Some, None, refl, sym, ap, ◌∙◌, subst, inl}
use Rattle.std.proofs.Common.{inr, add-one, append_assoc, arith}
use Rattle.std.specs.Prelude.{Option, ◌==◌, nat_lt}
use Rattle.std.specs.List.{position, position_or_len}
use Rattle.std.proofs.lemmas.Bool.{cases_Bool, eqb-true, ltb-true, ltb-false}
use Rattle.std.proofs.lemmas.List.{drop-take, drop-drop, drop-append-le, take-append-drop}
use Rattle.std.proofs.Math.Seq.{drop-append_seam}
use Rattle.std.proofs.lemmas.List.Recursion.{is_position_or_len}
use Rattle.sheet_lines.specs.Lines.{has_feed}
use Rattle.sheet_lines.specs.Reading.{HasNoFeed, IsFirstFeed}

-- using the front of what is ahead in a piece
pub advanced : (items : List ℕ) (at end count : ℕ) → count ≤ end - at →
    take (end - (at + count)) (drop (at + count) items) ≡ drop count (take (end - at) (drop at items))
advanced items at end count within =
    let more = end - (at + count) in
    let parts : end - at ≡ count + more = omega arith in
    sym (ap (λ n. drop count (take n (drop at items))) parts ∙ drop-take count more (drop at items) ∙ ap (take more) (drop-drop count at items))

-- how many bytes stand before the first line feed
place : List ℕ → ℕ
place [] = 0
place (c ∷ cs) = cond (c == 10) 0 (suc (place cs))

place_found : (bytes : List ℕ) → place bytes ≡ position_or_len (λ c. c == 10) bytes
unfolding place
place_found bytes = is_position_or_len place (λ c. c == 10) refl (λ c cs. ap (λ n. cond (c == 10) 0 n) (omega arith)) bytes

front_has_none : (bytes : List ℕ) → has_feed (take (place bytes) bytes) ≡ false
unfolding place
front_has_none [] = refl
front_has_none (c ∷ cs) =
    elim (cases_Bool (c == 10)) [
      | inl feed ↦ rw feed refl
      | inr other ↦ rw (other, other) (front_has_none cs)
    ]

place_is_there : (bytes : List ℕ) → place bytes < length bytes → bytes ≡ take (place bytes) bytes ++ 10 ∷ drop (suc (place bytes)) bytes
unfolding place
place_is_there [] = λ within. absurd (omega arith)
place_is_there (c ∷ cs) =
    elim (cases_Bool (c == 10)) [
      | inl feed ↦ rw feed (λ _. ap (λ x. x ∷ cs) (eqb-true c 10 feed))
      | inr other ↦ rw other (λ within. ap (λ l. c ∷ l) (place_is_there cs (omega arith)))
    ]

none_past_the_end : (bytes : List ℕ) → length bytes ≤ place bytes → has_feed bytes ≡ false
unfolding place
none_past_the_end [] = λ past. refl
none_past_the_end (c ∷ cs) =
    elim (cases_Bool (c == 10)) [
      | inl feed ↦ rw feed (λ past. absurd (omega arith))
      | inr other ↦ rw other (λ past. none_past_the_end cs (omega arith))
    ]

found : (bytes : List ℕ) (at : ℕ) → at ≡ place bytes → IsFirstFeed bytes (cond (nat_lt at (length bytes)) (Some at) None)
found bytes at here =
    elim (cases_Bool (nat_lt at (length bytes))) [
      | inl before ↦
          let within : at < length bytes = ltb-true at (length bytes) before in
          let front : HasNoFeed (take at bytes) = rw here (front_has_none bytes) in
          let parts : bytes ≡ take at bytes ++ 10 ∷ drop (at + 1) bytes = rw (add-one, here) (place_is_there bytes (omega arith)) in
          rw before (front, within, parts)
      | inr past ↦ let short : length bytes ≤ at = ltb-false at (length bytes) past in rw past (none_past_the_end bytes (omega arith))
    ]

-- the first byte that is a line feed is the first line feed
pub position_is_first : (bytes : List ℕ) (result : Option ℕ) → result ≡ position (λ c. c == 10) bytes → IsFirstFeed bytes result
position_is_first bytes result same = let P : Option ℕ → Type 0 = λ o. IsFirstFeed bytes o in
    subst P (sym same) (found bytes (position_or_len (λ c. c == 10) bytes) (sym (place_found bytes)))

-- a window on what is ahead, up to its first line feed
pub feed_ahead : (ahead front new : List ℕ) (n at : ℕ) → front ≡ take n ahead → Some at ≡ position (λ c. c == 10) front → new ≡ drop (at + 1) ahead →
    HasNoFeed (take at front) × (ahead ≡ take at front ++ 10 ∷ new)
feed_ahead ahead front new n at window first rest =
    let here = position_is_first front (Some at) first in
    let whole : ahead ≡ front ++ drop n ahead = sym (ap (λ l. l ++ drop n ahead) window ∙ take-append-drop n ahead) in
    let behind : new ≡ drop (at + 1) front ++ drop n ahead = rest ∙ ap (drop (at + 1)) whole ∙ drop-append-le (at + 1) front (drop n ahead) (omega arith) in (
      here.0,
      whole ∙ ap (λ l. l ++ drop n ahead) here.2 ∙ append_assoc (take at front) (10 ∷ drop (at + 1) front) (drop n ahead)
          ∙ ap (λ l. take at front ++ 10 ∷ l) (sym behind),
    )

-- a window on what is ahead, without a line feed
pub more_ahead : (ahead front new : List ℕ) (n : ℕ) → front ≡ take n ahead → None ≡ position (λ c. c == 10) front → new ≡ drop (length front) ahead →
    HasNoFeed front × (ahead ≡ front ++ new)
more_ahead ahead front new n window first rest =
    let whole : ahead ≡ front ++ drop n ahead = sym (ap (λ l. l ++ drop n ahead) window ∙ take-append-drop n ahead) in
    let behind : new ≡ drop n ahead = rest ∙ ap (drop (length front)) whole ∙ drop-append_seam front (drop n ahead) in
    (position_is_first front None first, whole ∙ ap (λ l. front ++ l) (sym behind))
