-- The parts of a line, one after another.
use Rattle.std.proofs.Common.{◌≡◌, ◌≢◌, ℕ, ◌+◌, List, [], ◌∷◌, ◌++◌, length, Ok, Err, Result, refl, sym, ap, ◌∙◌, append_assoc, append-nil, inl, inr, take, ◌<◌}
use Rattle.std.proofs.Common.{arith}
use Rattle.std.proofs.lemmas.List.{take_at, length-append}
use Rattle.std.specs.Prelude.{Option, ◌==◌}
use Rattle.std.proofs.lemmas.Bool.{cases_Bool}
use Rattle.sheet_outside.specs.Told.{WhereTold}
use Rattle.sheet_lines.specs.Reading.{HasNoFeed, ReadsPart, PassesPart, TakesLine, PassesLine, ReadsLine, UsesPart, UsesLine, EndsLine}
use Rattle.sheet_lines.specs.declared.reader.LineEnd.{LineEnd}
use Rattle.sheet_lines.specs.declared.reader.LineEnd.TheVariants as end
use Rattle.sheet_lines.specs.declared.reader.Part.{Part}
use Rattle.sheet_lines.specs.declared.reader.Part.TheVariants.{Feed, More, Full, End}
use Rattle.sheet_lines.proofs.Telling.{told_then}

pub no_feed_append : (xs ys : List ℕ) → HasNoFeed xs → HasNoFeed ys → HasNoFeed (xs ++ ys)
no_feed_append [] ys = λ first more. more
no_feed_append (c ∷ cs) ys =
    elim (cases_Bool (c == 10)) [
      | inl feed ↦ rw feed (λ first more. first)
      | inr other ↦ rw other (λ first more. no_feed_append cs ys first more)
    ]

-- a line so far: these bytes of it, of which none is a line feed, were used and kept
abbrev pub IsSoFar : List ℕ → List ℕ → List ℕ → List ℕ → Type 0
IsSoFar kept kept' old new = (bytes : List ℕ) × (kept' ≡ kept ++ bytes) × (HasNoFeed bytes × (old ≡ bytes ++ new))

-- one more part
pub part_more : (E : Type 0) (result : Result Part E) (kept kept' kept'' old mid new : List ℕ) → IsSoFar kept kept' old mid →
    ReadsPart result kept' kept'' mid new → TakesLine result kept kept'' old new
part_more E result kept kept' kept'' old mid new before part = (
  before.0 ++ part.0,
  part.1 ∙ ap (λ l. l ++ part.0) before.1 ∙ append_assoc kept before.0 part.0,
  uses result before.0 part.0 old mid new before.2.0 before.2.1 part.2,
) where
  uses : (r : Result Part E) (first more : List ℕ) (old mid new : List ℕ) → HasNoFeed first → old ≡ first ++ mid → UsesPart r more mid new →
      UsesLine r (first ++ more) old new
  uses (Ok Feed) first more old mid new none whole part =
      (no_feed_append first more none part.0, whole ∙ ap (λ l. first ++ l) part.1 ∙ sym (append_assoc first more (10 ∷ new)))
  uses (Ok More) first more old mid new none whole part =
      (no_feed_append first more none part.0, whole ∙ ap (λ l. first ++ l) part.1 ∙ sym (append_assoc first more new))
  uses (Ok Full) first more old mid new none whole part =
      let all : first ++ more ≡ first = ap (λ l. first ++ l) part.0 ∙ append-nil first in
      (rw all none, whole ∙ ap (λ l. first ++ l) part.1 ∙ ap (λ l. l ++ new) (sym all))
  uses (Ok End) first more old mid new none whole part =
      let all : first ++ more ≡ first = ap (λ l. first ++ l) part.0 ∙ append-nil first in
      (rw all none, whole ∙ ap (λ l. first ++ l) part.1 ∙ append-nil first ∙ sym all, part.2)
  uses (Err e) first more old mid new none whole part =
      let all : first ++ more ≡ first = ap (λ l. first ++ l) part.0 ∙ append-nil first in
      (rw all none, whole ∙ ap (λ l. first ++ l) part.1 ∙ ap (λ l. l ++ new) (sym all))

-- the same, where it is told
pub told_part : (E : Type 0) (result : Result Part E) (kept kept' kept'' : List ℕ) (first next last : Option (List ℕ)) →
    WhereTold (IsSoFar kept kept') first next → WhereTold (ReadsPart result kept' kept'') next last → WhereTold (TakesLine result kept kept'') first last
told_part E result kept kept' kept'' first next last before part =
    told_then (IsSoFar kept kept') (ReadsPart result kept' kept'') (TakesLine result kept kept'') first next last before part
    (part_more E result kept kept' kept'')

-- how many bytes are used and how many are left, after two reads
pub told_counts : (u0 u1 u2 : ℕ) (first next last : Option (List ℕ)) →
    WhereTold {A = List ℕ} {B = List ℕ} (λ old new. u1 + length new ≡ u0 + length old) first next
    → WhereTold {A = List ℕ} {B = List ℕ} (λ old new. u2 + length new ≡ u1 + length old) next last →
    WhereTold {A = List ℕ} {B = List ℕ} (λ old new. u2 + length new ≡ u0 + length old) first last
told_counts u0 u1 u2 first next last one two =
    told_then {A = List ℕ} {B = List ℕ} {C = List ℕ} (λ old new. u1 + length new ≡ u0 + length old) (λ old new. u2 + length new ≡ u1 + length old)
    (λ old new. u2 + length new ≡ u0 + length old) first next last one two (λ x y z a b. b ∙ a)

-- these bytes, of which none is a line feed, were passed over
abbrev pub IsPassed : List ℕ → List ℕ → Type 0
IsPassed old new = (bytes : List ℕ) × (HasNoFeed bytes × (old ≡ bytes ++ new))

-- bytes of a line were used so
abbrev pub UsesSome : {E : Type 0} → Result Part E → List ℕ → List ℕ → Type 0
UsesSome result old new = (bytes : List ℕ) × UsesLine result bytes old new

-- one more part is passed over
pub told_pass : (E : Type 0) (result : Result Part E) (first next last : Option (List ℕ)) → WhereTold IsPassed first next →
    WhereTold (PassesPart result) next last → WhereTold (UsesSome result) first last
told_pass E result first next last before part =
    told_then IsPassed (PassesPart result) (UsesSome result) first next last before part
    (λ old mid new passed more. let all = part_more E result [] passed.0 (passed.0 ++ more.0) old mid new (passed.0, refl, passed.1) (more.0, refl, more.1) in
    (all.0, all.2))

-- a line of which no more is kept is passed over to its end
full_line : (E : Type 0) (most : ℕ) (result : Result LineEnd E) (line old mid new : List ℕ) → (result ≡ Ok end.Nothing → ⊥) → length line ≡ most → 0 < most →
    TakesLine {E = E} (Ok Full) [] line old mid → PassesLine result mid new → ReadsLine most result line old new
full_line E most result line old mid new some full wide front rest =
    reads result front.0 rest.0 some (ap length (sym front.1) ∙ full) front.1 front.2.0 front.2.1 rest.1 where
      kept : (bytes more : List ℕ) → length bytes ≡ most → line ≡ bytes → line ≡ take most (bytes ++ more)
      kept bytes more size same = same ∙ sym (take_at bytes more most size)

      reads : (r : Result LineEnd E) (bytes more : List ℕ) → (r ≡ Ok end.Nothing → ⊥) → length bytes ≡ most → line ≡ bytes → HasNoFeed bytes → old ≡ bytes ++ mid →
          EndsLine r more mid new → ReadsLine most r line old new
      reads (Ok end.Feed) bytes more some size same none whole ends = (
        bytes ++ more,
        kept bytes more size same,
        (no_feed_append bytes more none ends.0, whole ∙ ap (λ l. bytes ++ l) ends.1 ∙ sym (append_assoc bytes more (10 ∷ new))),
      )
      reads (Ok end.Input) bytes more some size same none whole ends = (
        bytes ++ more,
        (kept bytes more size same, omega (arith, length-append bytes more)),
        (no_feed_append bytes more none ends.0, whole ∙ ap (λ l. bytes ++ l) ends.1, ends.2),
      )
      reads (Ok end.Nothing) bytes more some size same none whole ends = absurd (some refl)
      reads (Err e) bytes more some size same none whole ends =
          (bytes ++ more, tt, (no_feed_append bytes more none ends.0, whole ∙ ap (λ l. bytes ++ l) ends.1 ∙ sym (append_assoc bytes more new)))

pub told_full_line : (E : Type 0) (most : ℕ) (result : Result LineEnd E) (line : List ℕ) (first next last : Option (List ℕ)) → (result ≡ Ok end.Nothing → ⊥) →
    length line ≡ most → 0 < most
    → WhereTold (TakesLine {E = E} (Ok Full) [] line) first next → WhereTold (PassesLine result) next last → WhereTold (ReadsLine most result line) first last
told_full_line E most result line first next last some full wide front rest =
    told_then (TakesLine {E = E} (Ok Full) [] line) (PassesLine result) (ReadsLine most result line) first next last front rest (λ old mid new taken passed.
    full_line E most result line old mid new some full wide taken passed)

pub more_is_no_feed : (E : Type 0) (part : Part) → part ≡ More → ◌≢◌ {A = Result Part E} (Ok part) (Ok Feed)
more_is_no_feed E part more = λ feed. cc
