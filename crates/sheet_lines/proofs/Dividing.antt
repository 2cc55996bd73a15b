-- The definition, line by line.
use Rattle.std.proofs.Common.{◌≡◌, ◌≢◌, ℕ, ◌+◌, ◌-◌, ◌≤◌, List, [], ◌∷◌, ◌++◌, length, take, drop, Bool, true, false, cond, Ok, Err, Result, refl, sym, ap, ◌∙◌}
use Rattle.std.proofs.Common.{append_assoc, append-nil, inl, inr, subst, arith}
use Rattle.std.specs.Prelude.{◌==◌, codes, slice_index, Option}
use Rattle.std.specs.Str.{bytes_eq}
use Rattle.std.specs.Str.Lines.{strip_carriage_return}
use Rattle.std.proofs.lemmas.Bool.{cases_Bool, eqb-true}
use Rattle.std.proofs.lemmas.List.{length-append, length-take}
use Rattle.std.proofs.lemmas.Slice.Eq.{bytes_eq-Decides}
use Rattle.std.proofs.Math.Seq.{take-append_seam, drop-append_seam}
use Rattle.sheet_outside.specs.Told.{WhereTold}
use Rattle.sheet_lines.specs.Lines.{lines}
use Rattle.sheet_lines.specs.Division.{is_divider, before_divider, behind_divider, definition_of, lines_behind}
use Rattle.sheet_lines.specs.Reading.{HasNoFeed, TakesLine}
use Rattle.sheet_lines.specs.Dividing.{Divides, IsPastLongest, StopsDividing, DividesOn, AddsLine, AddsLast}
use Rattle.sheet_lines.specs.declared.reader.Part.{Part}
use Rattle.sheet_lines.specs.declared.reader.Part.TheVariants as part
use Rattle.sheet_lines.specs.declared.definition.Growth.{Growth}
use Rattle.sheet_lines.specs.declared.definition.Growth.TheVariants.{Line, Divided, Longer}
use Rattle.sheet_lines.proofs.Lines.{lines_feed, lines_last, said_feed, said_last}
use Rattle.sheet_lines.proofs.Telling.{told_map, told_then, told_refl}
use Rattle.sheet_lines.proofs.Parts.{no_feed_append}

divides : List ℕ → Bool
divides line = bytes_eq (strip_carriage_return line) (codes "%%")

-- ---- the definition over the first line

definition_feed : (line rest : List ℕ) → HasNoFeed line → definition_of (line ++ 10 ∷ rest) ≡ cond (divides line) [] ((line ++ 10 ∷ []) ++ definition_of rest)
unfolding divides
definition_feed line rest none =
    ap before_divider (lines_feed line rest none) ∙ ap (λ l. cond (bytes_eq l (codes "%%")) [] ((line ++ 10 ∷ []) ++ definition_of rest)) (said_feed line)

behind_feed : (line rest : List ℕ) → HasNoFeed line → lines_behind (line ++ 10 ∷ rest) ≡ cond (divides line) (lines rest) (lines_behind rest)
unfolding divides
behind_feed line rest none =
    ap behind_divider (lines_feed line rest none) ∙ ap (λ l. cond (bytes_eq l (codes "%%")) (lines rest) (lines_behind rest)) (said_feed line)

definition_last : (line : List ℕ) → HasNoFeed line → definition_of line ≡ cond (bytes_eq line (codes "%%")) [] line
definition_last [] none = refl
definition_last (c ∷ cs) none =
    let line = c ∷ cs in
    ap before_divider (lines_last line none (omega arith)) ∙ ap (λ l. cond (bytes_eq l (codes "%%")) [] (line ++ [])) (said_last line none)
    ∙ ap (λ l. cond (bytes_eq line (codes "%%")) [] l) (append-nil line)

none_either_way : (b : Bool) → cond {A = List (List ℕ)} b [] [] ≡ []
none_either_way true = refl
none_either_way false = refl

behind_last : (line : List ℕ) → HasNoFeed line → lines_behind line ≡ []
behind_last [] none = refl
behind_last (c ∷ cs) none = ap behind_divider (lines_last (c ∷ cs) none (omega arith)) ∙ none_either_way (is_divider (c ∷ cs))

-- a line that is no divider belongs to the definition
at_line : (line rest : List ℕ) → HasNoFeed line → divides line ≡ false →
    (definition_of (line ++ 10 ∷ rest) ≡ (line ++ 10 ∷ []) ++ definition_of rest) × (lines_behind (line ++ 10 ∷ rest) ≡ lines_behind rest)
at_line line rest none other = (
  definition_feed line rest none ∙ ap (λ b. cond b [] ((line ++ 10 ∷ []) ++ definition_of rest)) other,
  behind_feed line rest none ∙ ap (λ b. cond b (lines rest) (lines_behind rest)) other,
)

-- a divider ends it
at_divider : (line rest : List ℕ) → HasNoFeed line → divides line ≡ true →
    (definition_of (line ++ 10 ∷ rest) ≡ []) × (lines_behind (line ++ 10 ∷ rest) ≡ lines rest)
at_divider line rest none here = (
  definition_feed line rest none ∙ ap (λ b. cond b [] ((line ++ 10 ∷ []) ++ definition_of rest)) here,
  behind_feed line rest none ∙ ap (λ b. cond b (lines rest) (lines_behind rest)) here,
)

behind_one : (line : List ℕ) → HasNoFeed line → lines_behind (line ++ 10 ∷ []) ≡ []
behind_one line none = behind_feed line [] none ∙ none_either_way (divides line)

-- ---- one line behind the text so far

-- all that is left was used
ends : (line old new : List ℕ) → HasNoFeed line → old ≡ line → new ≡ [] → (text : List ℕ) → definition_of line ≡ text → Divides text old new
ends line old new none whole end text is = (
  line,
  whole ∙ sym (ap (λ l. line ++ l) end ∙ append-nil line),
  λ front back parts.
      let nothing : front ≡ [] = no_front front back (sym parts ∙ end) in
      let all : line ++ front ≡ line = ap (λ l. line ++ l) nothing ∙ append-nil line in
      (ap definition_of all ∙ is, ap lines_behind all ∙ behind_last line none ∙ sym (ap lines nothing)),
) where
  no_front : (front back : List ℕ) → front ++ back ≡ [] → front ≡ []
  no_front [] back none = refl
  no_front (c ∷ cs) back none = cc

line_from : (text text1 line : List ℕ) → text1 ≡ text ++ line → drop (length text) text1 ≡ line
line_from text text1 line same = ap (drop (length text)) same ∙ drop-append_seam text line

text_to : (text text1 line : List ℕ) → text1 ≡ text ++ line → take (length text) text1 ≡ text
text_to text text1 line same = ap (take (length text)) same ∙ take-append_seam text line

feed_grows : (E : Type 0) (result : Result Growth E) (text text1 text2 line old new : List ℕ) → text1 ≡ text ++ line → HasNoFeed line → old ≡ line ++ 10 ∷ new →
    AddsLine 262144 result (length text) text1 text2 → DividesOn result text text2 old new
unfolding divides
feed_grows E (Ok Line) text text1 text2 line old new same none whole adds =
    let other : divides line ≡ false = ap (λ l. divides l) (sym (line_from text text1 line same)) ∙ adds.0 in
    (line, none, other, whole, adds.2 ∙ ap (λ l. l ++ 10 ∷ []) same ∙ append_assoc text line (10 ∷ []))
feed_grows E (Ok Divided) text text1 text2 line old new same none whole adds =
    let here : divides line ≡ true = ap (λ l. divides l) (sym (line_from text text1 line same)) ∙ adds.0 in (
      [],
      (
        line ++ 10 ∷ [],
        whole ∙ sym (append_assoc line (10 ∷ []) new),
        λ front back parts. let divider = at_divider line front none here in
            (ap definition_of (append_assoc line (10 ∷ []) front) ∙ divider.0, ap lines_behind (append_assoc line (10 ∷ []) front) ∙ divider.1),
      ),
      adds.1 ∙ text_to text text1 line same ∙ sym (append-nil text),
    )
feed_grows E (Ok Longer) text text1 text2 line old new same none whole adds =
    let other : divides line ≡ false = ap (λ l. divides l) (sym (line_from text text1 line same)) ∙ adds.0 in
    let size = ap length (ap definition_of whole ∙ (at_line line new none other).0) in
    omega (arith, length-append (line ++ 10 ∷ []) (definition_of new), length-append line (10 ∷ []), ap length same, length-append text line)
feed_grows E (Err e) text text1 text2 line old new same none whole adds = (line ++ 10 ∷ [], whole ∙ sym (append_assoc line (10 ∷ []) new), behind_one line none)

-- the last line, which no line feed ended
end_grows : (E : Type 0) (growth : Growth) (text text1 text2 line old new : List ℕ) → text1 ≡ text ++ line → HasNoFeed line → old ≡ line → new ≡ [] →
    AddsLast 262144 growth (length text) text1 text2 → DividesOn {E = E} (Ok growth) text text2 old new
end_grows E Line text text1 text2 line old new same none whole end adds = absurd adds
end_grows E Divided text text1 text2 line old new same none whole end adds =
    let from = line_from text text1 line same in
    elim adds [
      | inl divider ↦
          let here : bytes_eq line (codes "%%") ≡ true = ap (λ l. bytes_eq l (codes "%%")) (sym from) ∙ divider.0 in (
            [],
            ends line old new none whole end [] (definition_last line none ∙ ap (λ b. cond b [] line) here),
            divider.1 ∙ text_to text text1 line same
                ∙ sym (append-nil text),
          )
      | inr other ↦
          let here : bytes_eq line (codes "%%") ≡ false = ap (λ l. bytes_eq l (codes "%%")) (sym from) ∙ other.0 in
          (line, ends line old new none whole end line (definition_last line none ∙ ap (λ b. cond b [] line) here), other.2 ∙ same)
    ]
end_grows E Longer text text1 text2 line old new same none whole end adds =
    let here : bytes_eq line (codes "%%") ≡ false = ap (λ l. bytes_eq l (codes "%%")) (sym (line_from text text1 line same)) ∙ adds.0 in
    let size = ap length (ap definition_of whole ∙ definition_last line none ∙ ap (λ b. cond b [] line) here) in
    omega (arith, ap length same, length-append text line)

-- ---- a line that is longer than a divider

-- a divider has two bytes
two_bytes : (line : List ℕ) → bytes_eq line (codes "%%") ≡ true → length line ≡ 2
two_bytes line here = ap length ((bytes_eq-Decides line (codes "%%")).0 here)

is_other : (line : List ℕ) → 3 ≤ length line → bytes_eq line (codes "%%") ≡ false
is_other line long =
    elim (cases_Bool (bytes_eq line (codes "%%"))) [
      | inl here ↦ let two = two_bytes line here in absurd (omega arith)
      | inr other ↦ other
    ]

-- at most one byte is stripped
strip_length : (line : List ℕ) → length line ≤ length (strip_carriage_return line) + 1
strip_length line =
    elim (cases_Bool (slice_index line (length line - 1) == 13)) [
      | inl return ↦ rw return (omega (arith, length-take (length line - 1) line))
      | inr other ↦ rw other (omega arith)
    ]

long_line : (line rest : List ℕ) → HasNoFeed line → 4 ≤ length line → length line ≤ length (definition_of (line ++ rest))
unfolding divides
long_line line [] none long =
    let size = ap length (ap definition_of (append-nil line) ∙ definition_last line none ∙ ap (λ b. cond b [] line) (is_other line (omega arith))) in
    omega arith
long_line line (c ∷ cs) none long =
    elim (cases_Bool (c == 10)) [
      | inl feed ↦
          let here : c ≡ 10 = eqb-true c 10 feed in
          let strip = strip_length line in
          let size = ap length (ap (λ x. definition_of (line ++ x ∷ cs)) here ∙ (at_line line cs none (is_other (strip_carriage_return line) (omega arith))).0)
          in
          omega (arith, length-append (line ++ 10 ∷ []) (definition_of cs), length-append line (10 ∷ []))
      | inr other ↦
          let one : HasNoFeed (c ∷ []) = rw other refl in
          let more = long_line (line ++ c ∷ []) cs (no_feed_append line (c ∷ []) none one) (omega (arith, length-append line (c ∷ []))) in
          let size = ap (λ l. length (definition_of l)) (append_assoc line (c ∷ []) cs) in
          omega (arith, length-append line (c ∷ []))
    ]

-- ---- what a line that was taken does

taken_feed : (E : Type 0) (result : Result Growth E) (text text1 text2 old new : List ℕ) → TakesLine {E = E} (Ok part.Feed) text text1 old new →
    AddsLine 262144 result (length text) text1 text2 → DividesOn result text text2 old new
taken_feed E result text text1 text2 old new taken adds = feed_grows E result text text1 text2 taken.0 old new taken.1 taken.2.0 taken.2.1 adds

taken_full : (E : Type 0) (text text1 old new : List ℕ) → length text ≤ 262144 → length text1 ≡ 262148 → TakesLine {E = E} (Ok part.Full) text text1 old new →
    DividesOn {E = E} (Ok Longer) text text1 old new
taken_full E text text1 old new within full taken =
    let line = taken.0 in
    let size : length text1 ≡ length text + length line = ap length taken.1 ∙ length-append text line in
    let long = long_line line new taken.2.0 (omega arith) in
    let all = ap (λ l. length (definition_of l)) taken.2.1 in
    omega arith

taken_end : (E : Type 0) (growth : Growth) (text text1 text2 old new : List ℕ) → TakesLine {E = E} (Ok part.End) text text1 old new →
    AddsLast 262144 growth (length text) text1 text2 → DividesOn {E = E} (Ok growth) text text2 old new
taken_end E growth text text1 text2 old new taken adds = end_grows E growth text text1 text2 taken.0 old new taken.1 taken.2.0 taken.2.1 taken.2.2 adds

taken_err : (E : Type 0) (e : E) (text text1 old new : List ℕ) → TakesLine (Err e) text text1 old new → StopsDividing old new
taken_err E e text text1 old new taken = (taken.0, taken.2.1, behind_last taken.0 taken.2.0)

-- a line that was taken and ended by nothing else is at the end
is_end : (E : Type 0) (p : Part) → (p ≡ part.Feed → ⊥) → (p ≡ part.Full → ⊥) → ◌≢◌ {A = Result Part E} (Ok p) (Ok part.More) → p ≡ part.End
is_end E part.Feed feed full more = absurd (feed refl)
is_end E part.More feed full more = absurd (more refl)
is_end E part.Full feed full more = absurd (full refl)
is_end E part.End feed full more = refl

-- the same, where it is told

pub told_feed : (E : Type 0) (result : Result Growth E) (text text1 text2 : List ℕ) (start : ℕ) (a b : Option (List ℕ)) → start ≡ length text →
    WhereTold (TakesLine {E = E} (Ok part.Feed) text text1) a b → AddsLine 262144 result start text1 text2 → WhereTold (DividesOn result text text2) a b
told_feed E result text text1 text2 start a b from taken adds =
    let P : ℕ → Type 0 = λ n. AddsLine 262144 result n text1 text2 in
    told_map (TakesLine {E = E} (Ok part.Feed) text text1) (DividesOn result text text2) a b taken
    (λ old new line. taken_feed E result text text1 text2 old new line (subst P from adds))

pub told_full : (E : Type 0) (text text1 : List ℕ) (a b : Option (List ℕ)) → length text ≤ 262144 → length text1 ≡ 262148 →
    WhereTold (TakesLine {E = E} (Ok part.Full) text text1) a b → WhereTold (DividesOn {E = E} (Ok Longer) text text1) a b
told_full E text text1 a b within full taken =
    told_map (TakesLine {E = E} (Ok part.Full) text text1) (DividesOn {E = E} (Ok Longer) text text1) a b taken
    (λ old new line. taken_full E text text1 old new within full line)

pub told_end : (E : Type 0) (p : Part) (growth : Growth) (text text1 text2 : List ℕ) (start : ℕ) (a b : Option (List ℕ)) → (p ≡ part.Feed → ⊥) →
    (p ≡ part.Full → ⊥) → ◌≢◌ {A = Result Part E} (Ok p) (Ok part.More) → start ≡ length text
    → WhereTold (TakesLine {E = E} (Ok p) text text1) a b → AddsLast 262144 growth start text1 text2 → WhereTold (DividesOn {E = E} (Ok growth) text text2) a b
told_end E p growth text text1 text2 start a b feed full more from taken adds =
    let P : ℕ → Type 0 = λ n. AddsLast 262144 growth n text1 text2 in
    let Q : Part → Type 0 = λ x. WhereTold (TakesLine {E = E} (Ok x) text text1) a b in
    told_map (TakesLine {E = E} (Ok part.End) text text1) (DividesOn {E = E} (Ok growth) text text2) a b (subst Q (is_end E p feed full more) taken)
    (λ old new line. taken_end E growth text text1 text2 old new line (subst P from adds))

pub told_stop : (E F : Type 0) (e : E) (f : F) (text text1 : List ℕ) (a b : Option (List ℕ)) → WhereTold (TakesLine (Err e) text text1) a b →
    WhereTold (DividesOn (Err f) text text1) a b
told_stop E F e f text text1 a b taken =
    told_map (TakesLine (Err e) text text1) (DividesOn (Err f) text text1) a b taken (λ old new line. taken_err E e text text1 old new line)

-- ---- a whole definition

-- The text so far is all that was used, and what is left goes on from it.
abbrev pub IsDividing : List ℕ → List ℕ → List ℕ → Type 0
IsDividing text old now =
    (old ≡ text ++ now) × ((tail : List ℕ) → (definition_of (text ++ tail) ≡ text ++ definition_of tail) × (lines_behind (text ++ tail) ≡ lines_behind tail))

line_on : (E : Type 0) (text text' old mid new : List ℕ) → IsDividing text old mid → DividesOn {E = E} (Ok Line) text text' mid new → IsDividing text' old new
unfolding divides
line_on E text text' old mid new before on =
    let line = on.0 in
    let one = line ++ 10 ∷ [] in
    let grown = on.4 in (
      before.0 ∙ ap (λ l. text ++ l) (on.3 ∙ sym (append_assoc line (10 ∷ []) new)) ∙ sym (append_assoc text one new) ∙ ap (λ l. l ++ new) (sym grown),
      λ tail.
          let whole : text' ++ tail ≡ text ++ (line ++ 10 ∷ tail) = ap (λ l. l ++ tail) grown ∙ append_assoc text one tail
          ∙ ap (λ l. text ++ l) (append_assoc line (10 ∷ []) tail) in
          let so_far = before.1 (line ++ 10 ∷ tail) in
          let here = at_line line tail on.1 on.2 in (
            ap definition_of whole ∙ so_far.0 ∙ ap (λ l. text ++ l) here.0 ∙ sym (append_assoc text one (definition_of tail))
                ∙ ap (λ l. l ++ definition_of tail) (sym grown),
            ap lines_behind whole ∙ so_far.1 ∙ here.1,
          ),
    )

divided_on : (E : Type 0) (text text' old mid new : List ℕ) → IsDividing text old mid → DividesOn {E = E} (Ok Divided) text text' mid new →
    Divides text' old new
divided_on E text text' old mid new before on =
    let line = on.0 in
    let last = on.1 in (
      text ++ last.0,
      before.0 ∙ ap (λ l. text ++ l) last.1 ∙ sym (append_assoc text last.0 new),
      λ front back parts.
          let whole = append_assoc text last.0 front in
          let so_far = before.1 (last.0 ++ front) in
          let here = last.2 front back parts in
          (ap definition_of whole ∙ so_far.0 ∙ ap (λ l. text ++ l) here.0 ∙ sym on.2, ap lines_behind whole ∙ so_far.1 ∙ here.1),
    )

longer_on : (E : Type 0) (text text' old mid new : List ℕ) → IsDividing text old mid → DividesOn {E = E} (Ok Longer) text text' mid new → IsPastLongest old
longer_on E text text' old mid new before on =
    let size = ap length (ap definition_of before.0 ∙ (before.1 mid).0) in
    omega (arith, length-append text (definition_of mid))

stopped_on : (E : Type 0) (e : E) (text text' old mid new : List ℕ) → IsDividing text old mid → DividesOn (Err e) text text' mid new → StopsDividing old new
stopped_on E e text text' old mid new before on =
    (text ++ on.0, before.0 ∙ ap (λ l. text ++ l) on.1 ∙ sym (append_assoc text on.0 new), (before.1 on.0).1 ∙ on.2)

pub told_line_on : (E : Type 0) (text text' : List ℕ) (a b c : Option (List ℕ)) → WhereTold (IsDividing text) a b →
    WhereTold (DividesOn {E = E} (Ok Line) text text') b c → WhereTold (IsDividing text') a c
told_line_on E text text' a b c before on =
    told_then (IsDividing text) (DividesOn {E = E} (Ok Line) text text') (IsDividing text') a b c before on (line_on E text text')

pub told_divided_on : (E : Type 0) (text text' : List ℕ) (a b c : Option (List ℕ)) → WhereTold (IsDividing text) a b →
    WhereTold (DividesOn {E = E} (Ok Divided) text text') b c → WhereTold (Divides text') a c
told_divided_on E text text' a b c before on =
    told_then (IsDividing text) (DividesOn {E = E} (Ok Divided) text text') (Divides text') a b c before on (divided_on E text text')

pub told_longer_on : (E : Type 0) (text text' : List ℕ) (a b c : Option (List ℕ)) → WhereTold (IsDividing text) a b →
    WhereTold (DividesOn {E = E} (Ok Longer) text text') b c → WhereTold (λ old new. IsPastLongest old) a c
told_longer_on E text text' a b c before on =
    told_then (IsDividing text) (DividesOn {E = E} (Ok Longer) text text') (λ old new. IsPastLongest old) a b c before on (longer_on E text text')

pub told_stopped_on : (E : Type 0) (e : E) (text text' : List ℕ) (a b c : Option (List ℕ)) → WhereTold (IsDividing text) a b →
    WhereTold (DividesOn (Err e) text text') b c → WhereTold StopsDividing a c
told_stopped_on E e text text' a b c before on =
    told_then (IsDividing text) (DividesOn (Err e) text text') StopsDividing a b c before on (stopped_on E e text text')

-- nothing was used yet
pub told_start : (a : Option (List ℕ)) (text : List ℕ) → text ≡ [] → WhereTold (IsDividing text) a a
told_start a text none =
    let P : List ℕ → Type 0 = λ l. WhereTold (IsDividing l) a a in
    subst P (sym none) (told_refl (IsDividing []) a (λ x. (refl, λ tail. (refl, refl))))

pub line_is_short : (growth : Growth) → growth ≡ Line → growth ≢ Longer
line_is_short growth line = λ longer. cc
