-- Lines one after another.
use Rattle.std.proofs.Common.{◌≡◌, ℕ, ◌-◌, List, [], ◌∷◌, ◌++◌, length, take, true, false, refl, inl, inr, sym, ap, ◌∙◌, append_assoc, append-nil, arith}
use Rattle.std.specs.Prelude.{◌==◌}
use Rattle.std.specs.Str.Lines.{strip_carriage_return}
use Rattle.std.proofs.lemmas.Bool.{cases_Bool}
use Rattle.std.proofs.lemmas.List.{length-append}
use Rattle.std.proofs.Math.Seq.{take-append_seam}
use Rattle.sheet_lines.specs.Lines.{lines, grow, has_feed, ends_in_feed, said, ended, all_said, unless_empty}
use Rattle.sheet_lines.specs.Reading.{HasNoFeed}
use Rattle.objsheet.specs.Serving.{IsCut}

-- the first byte of some without a line feed is none, and the others have none
tail_none : (c : ℕ) (cs : List ℕ) → has_feed (c ∷ cs) ≡ false → (c == 10 ≡ false) × (has_feed cs ≡ false)
tail_none c cs none =
    elim (cases_Bool (c == 10)) [
      | inl feed ↦ let wrong = rw feed at none in cc
      | inr other ↦ (other, rw other at none)
    ]

-- a line that a line feed ends stands before the other lines
pub feed_line : (bytes more : List ℕ) → HasNoFeed bytes → lines (bytes ++ 10 ∷ more) ≡ (bytes ++ 10 ∷ []) ∷ lines more
feed_line [] more none = refl
feed_line (c ∷ cs) more none =
    let h = tail_none c cs none in
    rw h.0 (ap (grow c) (feed_line cs more h.1))

-- bytes without a line feed are one line, or none
pub last_line : (bytes : List ℕ) → HasNoFeed bytes → lines bytes ≡ unless_empty bytes
last_line [] none = refl
last_line (c ∷ []) none = let h = tail_none c [] none in rw h.0 refl
last_line (c ∷ d ∷ cs) none =
    let h = tail_none c (d ∷ cs) none in
    rw h.0 (ap (grow c) (last_line (d ∷ cs) h.1))

ends_behind : (bytes : List ℕ) → ends_in_feed (bytes ++ 10 ∷ []) ≡ true
ends_behind [] = refl
ends_behind (c ∷ []) = refl
ends_behind (c ∷ d ∷ cs) = ends_behind (d ∷ cs)

none_ends : (bytes : List ℕ) → HasNoFeed bytes → ends_in_feed bytes ≡ false
none_ends [] none = refl
none_ends (c ∷ []) none = (tail_none c [] none).0
none_ends (c ∷ d ∷ cs) none = none_ends (d ∷ cs) (tail_none c (d ∷ cs) none).1

-- a line that a line feed ends says what stands before it, without a carriage return
pub said_feed : (bytes : List ℕ) → said (bytes ++ 10 ∷ []) ≡ strip_carriage_return bytes
said_feed bytes =
    let size : length (bytes ++ 10 ∷ []) - 1 ≡ length bytes = omega (arith, length-append bytes (10 ∷ [])) in
    let front : take (length (bytes ++ 10 ∷ []) - 1) (bytes ++ 10 ∷ []) ≡ bytes = ap (λ n. take n (bytes ++ 10 ∷ [])) size ∙ take-append_seam bytes (10 ∷ []) in
    rw (ends_behind bytes) (ap strip_carriage_return front)

pub said_last : (bytes : List ℕ) → HasNoFeed bytes → said bytes ≡ bytes
said_last bytes none = rw (none_ends bytes none) refl

-- the one request line of a line that a line feed ends
pub all_said_feed : (bytes : List ℕ) → HasNoFeed bytes → all_said (lines (bytes ++ 10 ∷ [])) ≡ unless_empty (strip_carriage_return bytes)
all_said_feed bytes none = ap all_said (feed_line bytes [] none) ∙ append-nil (unless_empty (said (bytes ++ 10 ∷ []))) ∙ ap unless_empty (said_feed bytes)

pub all_said_last : (bytes : List ℕ) → HasNoFeed bytes → all_said (lines bytes) ≡ unless_empty bytes
all_said_last [] none = refl
all_said_last (c ∷ cs) none = ap all_said (last_line (c ∷ cs) none) ∙ append-nil (unless_empty (said (c ∷ cs))) ∙ ap unless_empty (said_last (c ∷ cs) none)

pub ended_append : (ls ks : List (List ℕ)) → ended (ls ++ ks) ≡ ended ls ++ ended ks
ended_append [] ks = refl
ended_append (l ∷ ls) ks =
    elim (cases_Bool (ends_in_feed l)) [
      | inl feed ↦ rw feed (ap (λ x. l ∷ x) (ended_append ls ks))
      | inr other ↦ rw other (ended_append ls ks)
    ]

pub all_said_append : (ls ks : List (List ℕ)) → all_said (ls ++ ks) ≡ all_said ls ++ all_said ks
all_said_append [] ks = refl
all_said_append (l ∷ ls) ks =
    ap (λ x. unless_empty (said l) ++ x) (all_said_append ls ks) ∙ sym (append_assoc (unless_empty (said l)) (all_said ls) (all_said ks))

-- a line that no line feed ends is among none that one ends
pub none_ended : (bytes : List ℕ) → HasNoFeed bytes → ended (lines bytes) ≡ []
none_ended [] none = refl
none_ended (c ∷ cs) none = ap ended (last_line (c ∷ cs) none) ∙ rw (none_ends (c ∷ cs) none) refl

pub cut_none : IsCut []
cut_none = record { apart = λ more. refl; all_ended = refl }

pub cut_feed : (bytes : List ℕ) → HasNoFeed bytes → IsCut (bytes ++ 10 ∷ [])
cut_feed bytes none =
    let line = feed_line bytes [] none in
    let apart : (more : List ℕ) → lines ((bytes ++ 10 ∷ []) ++ more) ≡ lines (bytes ++ 10 ∷ []) ++ lines more =
    λ more. ap lines (append_assoc bytes (10 ∷ []) more) ∙ feed_line bytes more none ∙ sym (ap (λ l. l ++ lines more) line) in
    let feed : ended ((bytes ++ 10 ∷ []) ∷ []) ≡ (bytes ++ 10 ∷ []) ∷ [] = rw (ends_behind bytes) refl in
    record { apart = apart; all_ended = ap ended line ∙ feed ∙ sym line }

pub cut_append : (a b : List ℕ) → IsCut a → IsCut b → IsCut (a ++ b)
cut_append a b first next =
    let both : lines (a ++ b) ≡ lines a ++ lines b = first.apart b in
    let apart : (more : List ℕ) → lines ((a ++ b) ++ more) ≡ lines (a ++ b) ++ lines more =
    λ more. ap lines (append_assoc a b more) ∙ first.apart (b ++ more) ∙ ap (λ l. lines a ++ l) (next.apart more)
    ∙ sym (append_assoc (lines a) (lines b) (lines more)) ∙ sym (ap (λ l. l ++ lines more) both) in
    let all_ended : ended (lines (a ++ b)) ≡ lines (a ++ b) =
    ap ended both ∙ ended_append (lines a) (lines b) ∙ ap (λ l. l ++ ended (lines b)) first.all_ended ∙ ap (λ l. lines a ++ l) next.all_ended ∙ sym both in
    record { apart = apart; all_ended = all_ended }
