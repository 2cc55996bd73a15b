-- One line of the loop over request lines, and several.
use Rattle.std.proofs.Common.{◌≡◌, ℕ, ◌<◌, ◌≤◌, ◌+◌, ◌-◌, List, [], ◌∷◌, ◌++◌, length, take, false, Some, None, Ok, Err, refl, inl, inr, sym, ap, ◌∙◌, subst}
use Rattle.std.proofs.Common.{append_assoc, append-nil, arith}
use Rattle.std.specs.Prelude.{Option, Result, ◌⊎◌, nat_lt, slice_index, ◌==◌, flat_map, OnOk, OnErr, IfErr}
use Rattle.std.specs.Str.Lines.{strip_carriage_return}
use Rattle.std.proofs.lemmas.Bool.{cases_Bool, ltb-true, ltb-false}
use Rattle.std.proofs.lemmas.List.{take_all, length-take-le}
use Rattle.sheet_outside.specs.Told.{WhereTold}
use Rattle.sheet_lines.specs.Lines.{lines, all_said, unless_empty, printed}
use Rattle.sheet_lines.specs.Reading.{HasNoFeed, ReadsLine}
use Rattle.sheet_lines.specs.Told.{Ends, both, GainsFront}
use Rattle.sheet_lines.specs.declared.reader.LineEnd.TheVariants.{Feed, Input, Nothing}
use Rattle.sheet_machine_laws.specs.Machine.{Holding}
use Rattle.objsheet.specs.Sessions.{IsAnswer, AreAnswers, Tells}
use Rattle.objsheet.specs.Sessions.IsAnswer.{is_too_long, holds_none, holds_request}
use Rattle.objsheet.specs.Serving.{IsCut, Replies, RepliesInPart, Serves, ServesLines, ServesAll, Stops, Breaks}
use Rattle.objsheet.proofs.Lines.{cut_none, cut_feed, cut_append, all_said_feed, all_said_last, all_said_append}
use Rattle.objsheet.proofs.Runs.{tells_append, tells_none, tells_one}

-- ---- a line of which only a front is kept

-- two lines that are too long have the same answers
long_answer : (m now : Holding) (l k answer : List ℕ) → 65536 < length l → 65536 < length k → IsAnswer m l answer now → IsAnswer m k answer now
long_answer m now l k answer wide long (is_too_long h) = is_too_long long
long_answer m now l k answer wide long (holds_none why short reads) = absurd (omega arith)
long_answer m now l k answer wide long (holds_request q r n short reads step) = absurd (omega arith)

long_run : (m now : Holding) (l k : List ℕ) (text : List ℕ) → 65536 < length l → 65536 < length k → (answers : List (List ℕ)) →
    AreAnswers m (l ∷ []) answers now → text ≡ flat_map printed answers → Tells m (k ∷ []) text now
long_run m now l k text wide long [] run text_is = absurd run
long_run m now l k text wide long (answer ∷ []) run text_is =
    record { answers = answer ∷ []; are = (run.0, long_answer m run.0 l k answer wide long run.1, run.2); text_is = text_is }
long_run m now l k text wide long (answer ∷ other ∷ more) run text_is = absurd run.2

long_tells : (m now : Holding) (l k : List ℕ) (text : List ℕ) → 65536 < length l → 65536 < length k → Tells m (l ∷ []) text now → Tells m (k ∷ []) text now
long_tells m now l k text wide long tells = long_run m now l k text wide long tells.answers tells.are tells.text_is

one : (l : List ℕ) → 0 < length l → unless_empty l ≡ l ∷ []
one [] h = absurd (omega arith)
one (c ∷ cs) h = refl

long_unless : (m now : Holding) (l k : List ℕ) (text : List ℕ) → 65536 < length l → 65536 < length k → Tells m (unless_empty l) text now →
    Tells m (unless_empty k) text now
long_unless m now l k text wide long tells =
    let P : List (List ℕ) → Type 0 = λ ls. Tells m ls text now in
    subst P (sym (one k (omega arith))) (long_tells m now l k text wide long (subst P (one l (omega arith)) tells))

-- at most one byte is stripped
strip_length : (l : List ℕ) → length l ≤ length (strip_carriage_return l) + 1
strip_length l =
    elim (cases_Bool (slice_index l (length l - 1) == 13)) [
      | inl here ↦ rw here (omega (arith, length-take-le (length l - 1) l (omega arith)))
      | inr other ↦ rw other (omega arith)
    ]

-- the replies to a line of which a front was kept are those to the line
cut_feed_tells : (m now : Holding) (bytes text : List ℕ) → Tells m (unless_empty (strip_carriage_return (take 65538 bytes))) text now →
    Tells m (unless_empty (strip_carriage_return bytes)) text now
cut_feed_tells m now bytes text tells =
    elim (cases_Bool (nat_lt 65538 (length bytes))) [
      | inl more ↦
          let past : 65538 < length bytes = ltb-true 65538 (length bytes) more in
          let front = length-take-le 65538 bytes (omega arith) in
          let first = strip_length (take 65538 bytes) in
          let second = strip_length bytes in
          long_unless m now (strip_carriage_return (take 65538 bytes)) (strip_carriage_return bytes) text (omega arith) (omega arith) tells
      | inr fits ↦
          let P : List ℕ → Type 0 = λ l. Tells m (unless_empty (strip_carriage_return l)) text now in
          subst P (take_all 65538 bytes (ltb-false 65538 (length bytes) fits)) tells
    ]

cut_last_tells : (m now : Holding) (bytes text : List ℕ) → Tells m (unless_empty (take 65538 bytes)) text now → Tells m (unless_empty bytes) text now
cut_last_tells m now bytes text tells =
    elim (cases_Bool (nat_lt 65538 (length bytes))) [
      | inl more ↦
          let past : 65538 < length bytes = ltb-true 65538 (length bytes) more in
          let front = length-take-le 65538 bytes (omega arith) in
          long_unless m now (take 65538 bytes) bytes text (omega arith) (omega arith) tells
      | inr fits ↦
          let P : List ℕ → Type 0 = λ l. Tells m (unless_empty l) text now in
          subst P (take_all 65538 bytes (ltb-false 65538 (length bytes) fits)) tells
    ]

-- ---- one line

feed_tells : (m now : Holding) (bytes line text : List ℕ) → HasNoFeed bytes → line ≡ take 65538 bytes →
    Tells m (unless_empty (strip_carriage_return line)) text now → Tells m (all_said (lines (bytes ++ 10 ∷ []))) text now
feed_tells m now bytes line text none kept tells =
    let P : List ℕ → Type 0 = λ l. Tells m (unless_empty (strip_carriage_return l)) text now in
    let Q : List (List ℕ) → Type 0 = λ ls. Tells m ls text now in
    subst Q (sym (all_said_feed bytes none)) (cut_feed_tells m now bytes text (subst P kept tells))

last_tells : (m now : Holding) (bytes line text : List ℕ) → HasNoFeed bytes → line ≡ take 65538 bytes → Tells m (unless_empty line) text now →
    Tells m (all_said (lines bytes)) text now
last_tells m now bytes line text none kept tells =
    let P : List ℕ → Type 0 = λ l. Tells m (unless_empty l) text now in
    let Q : List (List ℕ) → Type 0 = λ ls. Tells m ls text now in
    subst Q (sym (all_said_last bytes none)) (cut_last_tells m now bytes text (subst P kept tells))

-- a line that a line feed ends was answered
pub feed_served : (E : Type 0) (m now : Holding) (line asked : List ℕ) (l0 l1 w0 w1 : Option (List ℕ)) → asked ≡ strip_carriage_return line →
    WhereTold (ReadsLine {E = E} 65538 (Ok Feed) line) l0 l1 → WhereTold (Replies m now asked) w0 w1 → WhereTold (ServesLines m now) (both l0 w0) (both l1 w1)
feed_served E m now line asked l0 None w0 w1 same reads replies = tt
feed_served E m now line asked l0 (Some l1) w0 None same reads replies = tt
feed_served E m now line asked None (Some l1) w0 (Some w1) same reads replies = absurd reads
feed_served E m now line asked (Some l0) (Some l1) None (Some w1) same reads replies = absurd replies
feed_served E m now line asked (Some l0) (Some l1) (Some w0) (Some w1) same reads replies =
    let bytes = reads.0 in
    let P : List ℕ → Type 0 = λ l. Tells m (unless_empty l) replies.text now in
    record {
      taken = bytes ++ 10 ∷ [];
      cut = cut_feed bytes reads.2.0;
      served = record {
        left = reads.2.1 ∙ sym (append_assoc bytes (10 ∷ []) l1);
        text = replies.text;
        told = feed_tells m now bytes line replies.text reads.2.0 reads.1 (subst P same replies.told);
        written = replies.written;
      };
    }

-- a line that the input's end ends was answered
pub last_served : (E : Type 0) (m now : Holding) (line : List ℕ) (l0 l1 w0 w1 : Option (List ℕ)) → WhereTold (ReadsLine {E = E} 65538 (Ok Input) line) l0 l1 →
    WhereTold (Replies m now line) w0 w1 → WhereTold (ServesAll m now) (both l0 w0) (both l1 w1)
last_served E m now line l0 None w0 w1 reads replies = tt
last_served E m now line l0 (Some l1) w0 None reads replies = tt
last_served E m now line None (Some l1) w0 (Some w1) reads replies = absurd reads
last_served E m now line (Some l0) (Some l1) None (Some w1) reads replies = absurd replies
last_served E m now line (Some l0) (Some l1) (Some w0) (Some w1) reads replies =
    let bytes = reads.0 in
    record {
      taken = bytes;
      served = record {
        left = reads.2.1 ∙ sym (append-nil bytes) ∙ ap (λ l. bytes ++ l) (sym reads.2.2);
        text = replies.text;
        told = last_tells m now bytes line replies.text reads.2.0 reads.1.0 replies.told;
        written = replies.written;
      };
      end = reads.2.2;
    }

-- no line is left
pub none_served : (E : Type 0) (m : Holding) (line : List ℕ) (l0 l1 w : Option (List ℕ)) → WhereTold (ReadsLine {E = E} 65538 (Ok Nothing) line) l0 l1 →
    WhereTold (ServesAll m m) (both l0 w) (both l1 w)
none_served E m line l0 None w reads = tt
none_served E m line l0 (Some l1) None reads = tt
none_served E m line None (Some l1) (Some w) reads = absurd reads
none_served E m line (Some l0) (Some l1) (Some w) reads =
    record {
      taken = [];
      served = record { left = reads.2.1 ∙ sym reads.2.2; text = []; told = tells_none m; written = sym (append-nil w) };
      end = reads.2.2;
    }

-- nothing was answered yet
pub no_lines : (m : Holding) (e : Option Ends) → WhereTold (ServesLines m m) e e
no_lines m None = tt
no_lines m (Some e) =
    record {
      taken = [];
      cut = cut_none;
      served = record { left = refl; text = []; told = tells_none m; written = sym (append-nil e.written) };
    }

-- reading stopped
pub stopped_in_line : (E : Type 0) (m : Holding) (e : E) (line : List ℕ) (l0 l1 w : Option (List ℕ)) → WhereTold (ReadsLine {E = E} 65538 (Err e) line) l0 l1 →
    WhereTold (Stops m) (both l0 w) (both l1 w)
stopped_in_line E m e line l0 None w reads = tt
stopped_in_line E m e line l0 (Some l1) None reads = tt
stopped_in_line E m e line None (Some l1) (Some w) reads = absurd reads
stopped_in_line E m e line (Some l0) (Some l1) (Some w) reads =
    let here : Ends = record { left = l0; written = w } in
    record { now = m; middle = here; lines_served = no_lines m (Some here); part = reads.0; none = reads.2.0; left = reads.2.1; same = refl }

-- the sink failed in the reply to a line that a line feed ends
pub feed_breaks : (E : Type 0) (m : Holding) (line asked : List ℕ) (l0 l1 w0 w1 : Option (List ℕ)) → asked ≡ strip_carriage_return line →
    WhereTold (ReadsLine {E = E} 65538 (Ok Feed) line) l0 l1 → WhereTold (RepliesInPart m asked) w0 w1 → WhereTold (Breaks m) (both l0 w0) (both l1 w1)
feed_breaks E m line asked l0 None w0 w1 same reads replies = tt
feed_breaks E m line asked l0 (Some l1) w0 None same reads replies = tt
feed_breaks E m line asked None (Some l1) w0 (Some w1) same reads replies = absurd reads
feed_breaks E m line asked (Some l0) (Some l1) None (Some w1) same reads replies = absurd replies
feed_breaks E m line asked (Some l0) (Some l1) (Some w0) (Some w1) same reads replies =
    let bytes = reads.0 in
    let P : List ℕ → Type 0 = λ l. Tells m (unless_empty l) replies.text replies.last in
    record {
      taken = bytes ++ 10 ∷ [];
      left = reads.2.1 ∙ sym (append_assoc bytes (10 ∷ []) l1);
      cut = inl (cut_feed bytes reads.2.0);
      text = replies.text;
      last = replies.last;
      told = feed_tells m replies.last bytes line replies.text reads.2.0 reads.1 (subst P same replies.told);
      front = replies.front;
    }

-- the sink failed in the reply to a line that the input's end ends
pub last_breaks : (E : Type 0) (m : Holding) (line : List ℕ) (l0 l1 w0 w1 : Option (List ℕ)) → WhereTold (ReadsLine {E = E} 65538 (Ok Input) line) l0 l1 →
    WhereTold (RepliesInPart m line) w0 w1 → WhereTold (Breaks m) (both l0 w0) (both l1 w1)
last_breaks E m line l0 None w0 w1 reads replies = tt
last_breaks E m line l0 (Some l1) w0 None reads replies = tt
last_breaks E m line None (Some l1) w0 (Some w1) reads replies = absurd reads
last_breaks E m line (Some l0) (Some l1) None (Some w1) reads replies = absurd replies
last_breaks E m line (Some l0) (Some l1) (Some w0) (Some w1) reads replies =
    let bytes = reads.0 in
    record {
      taken = bytes;
      left = reads.2.1 ∙ sym (append-nil bytes) ∙ ap (λ l. bytes ++ l) (sym reads.2.2);
      cut = inr reads.2.2;
      text = replies.text;
      last = replies.last;
      told = last_tells m replies.last bytes line replies.text reads.2.0 reads.1.0 replies.told;
      front = replies.front;
    }

-- ---- a reply

pub some_bytes : (l : List ℕ) → (length l == 0) ≡ false → 0 < length l
some_bytes [] h = cc
some_bytes (c ∷ cs) h = omega arith

pub replied : (m now : Holding) (line answer text : List ℕ) (w0 w1 : Option (List ℕ)) → 0 < length line → IsAnswer m line answer now →
    text ≡ answer → WhereTold (λ old written. written ≡ old ++ printed text) w0 w1 → WhereTold (Replies m now line) w0 w1
replied m now line answer text w0 None some is same gains = tt
replied m now line answer text None (Some w1) some is same gains = absurd gains
replied m now line answer text (Some w0) (Some w1) some is same gains =
    let P : List (List ℕ) → Type 0 = λ ls. Tells m ls (printed text) now in
    let Q : List ℕ → Type 0 = λ t. Tells m (line ∷ []) (printed t) now in
    record { text = printed text; told = subst P (sym (one line some)) (subst Q (sym same) (tells_one m now line answer is)); written = gains }

pub replied_in_part : (m now : Holding) (line answer text : List ℕ) (w0 w1 : Option (List ℕ)) → 0 < length line → IsAnswer m line answer now →
    text ≡ answer → WhereTold (GainsFront (printed text)) w0 w1 → WhereTold (RepliesInPart m line) w0 w1
replied_in_part m now line answer text w0 None some is same gains = tt
replied_in_part m now line answer text None (Some w1) some is same gains = absurd gains
replied_in_part m now line answer text (Some w0) (Some w1) some is same gains =
    let P : List (List ℕ) → Type 0 = λ ls. Tells m ls (printed text) now in
    let Q : List ℕ → Type 0 = λ t. Tells m (line ∷ []) (printed t) now in
    record { text = printed text; last = now; told = subst P (sym (one line some)) (subst Q (sym same) (tells_one m now line answer is)); front = gains }

-- an empty line has no reply
pub no_reply : (m : Holding) (line : List ℕ) (w : Option (List ℕ)) → line ≡ [] → WhereTold (Replies m m line) w w
no_reply m line None empty = tt
no_reply m line (Some w) empty =
    let P : List ℕ → Type 0 = λ l. Tells m (unless_empty l) [] m in
    record { text = []; told = subst P (sym empty) (tells_none m); written = sym (append-nil w) }

-- ---- lines one after another

serves_on : (m mid now : Holding) (t u : List ℕ) (a b c : Ends) → IsCut t → Serves m mid t a b → Serves mid now u b c → Serves m now (t ++ u) a c
serves_on m mid now t u a b c cut first next =
    let P : List (List ℕ) → Type 0 = λ ls. Tells m ls (first.text ++ next.text) now in
    let both_said : all_said (lines (t ++ u)) ≡ all_said (lines t) ++ all_said (lines u) = ap all_said (cut.apart u) ∙ all_said_append (lines t) (lines u) in
    record {
      left = first.left ∙ ap (λ l. t ++ l) next.left ∙ sym (append_assoc t u c.left);
      text = first.text ++ next.text;
      told = subst P (sym both_said) (tells_append m mid now (all_said (lines t)) (all_said (lines u)) first.text next.text first.told next.told);
      written = next.written ∙ ap (λ l. l ++ next.text) first.written ∙ append_assoc a.written first.text next.text;
    }

lines_on : (m mid now : Holding) (a b c : Ends) → ServesLines m mid a b → ServesLines mid now b c → ServesLines m now a c
lines_on m mid now a b c first next =
    record {
      taken = first.taken ++ next.taken;
      cut = cut_append first.taken next.taken first.cut next.cut;
      served =
          serves_on m mid now first.taken next.taken a b c first.cut first.served next.served;
    }

all_on : (m mid now : Holding) (a b c : Ends) → ServesLines m mid a b → ServesAll mid now b c → ServesAll m now a c
all_on m mid now a b c first next =
    record { taken = first.taken ++ next.taken; served = serves_on m mid now first.taken next.taken a b c first.cut first.served next.served; end = next.end }

stops_on : (m mid : Holding) (a b c : Ends) → ServesLines m mid a b → Stops mid b c → Stops m a c
stops_on m mid a b c first next =
    record {
      now = next.now;
      middle = next.middle;
      lines_served = lines_on m mid next.now a b next.middle first next.lines_served;
      part = next.part;
      none =
          next.none;
      left = next.left;
      same = next.same;
    }

cut_on : (t u rest : List ℕ) → IsCut t → IsCut u ⊎ (rest ≡ []) → IsCut (t ++ u) ⊎ (rest ≡ [])
cut_on t u rest cut (inl more) = inl (cut_append t u cut more)
cut_on t u rest cut (inr end) = inr end

pub front_on : (a b c t u : List ℕ) → b ≡ a ++ t → GainsFront u b c → GainsFront (t ++ u) a c
front_on a b c t u first gains = (
  t ++ gains.0,
  gains.1 ∙ ap (λ l. l ++ gains.0) first ∙ append_assoc a t gains.0,
  (gains.2.0, ap (λ l. t ++ l) gains.2.1 ∙ sym (append_assoc t gains.0 gains.2.0)),
)

breaks_on : (m mid : Holding) (a b c : Ends) → ServesLines m mid a b → Breaks mid b c → Breaks m a c
breaks_on m mid a b c first next =
    let t = first.taken in
    let u = next.taken in
    let served = first.served in
    let P : List (List ℕ) → Type 0 = λ ls. Tells m ls (served.text ++ next.text) next.last in
    let both_said : all_said (lines (t ++ u)) ≡ all_said (lines t) ++ all_said (lines u) = ap all_said (first.cut.apart u)
    ∙ all_said_append (lines t) (lines u) in
    record {
      taken = t ++ u;
      left = served.left ∙ ap (λ l. t ++ l) next.left ∙ sym (append_assoc t u c.left);
      cut = cut_on t u c.left first.cut next.cut;
      text = served.text ++ next.text;
      last = next.last;
      told = subst P (sym both_said) (tells_append m mid next.last (all_said (lines t)) (all_said (lines u)) served.text next.text served.told
          next.told);
      front = front_on a.written b.written c.written served.text next.text served.written next.front;
    }

told_then : {A B C : Type 0} (P : A → B → Type 0) (Q : B → C → Type 0) (R : A → C → Type 0) (first : Option A) (next : Option B) (last : Option C) →
    WhereTold P first next → WhereTold Q next last
    → ((x : A) (y : B) (z : C) → P x y → Q y z → R x z) → WhereTold R first last
told_then P Q R first next None told more f = tt
told_then P Q R first None (Some last) told more f = absurd more
told_then P Q R None (Some next) (Some last) told more f = absurd told
told_then P Q R (Some first) (Some next) (Some last) told more f = f first next last told more

pub lines_then : (m mid now : Holding) (a b c : Option Ends) → WhereTold (ServesLines m mid) a b → WhereTold (ServesLines mid now) b c →
    WhereTold (ServesLines m now) a c
lines_then m mid now a b c first next = told_then (ServesLines m mid) (ServesLines mid now) (ServesLines m now) a b c first next (lines_on m mid now)

pub all_then : (m mid now : Holding) (a b c : Option Ends) → WhereTold (ServesLines m mid) a b → WhereTold (ServesAll mid now) b c →
    WhereTold (ServesAll m now) a c
all_then m mid now a b c first next = told_then (ServesLines m mid) (ServesAll mid now) (ServesAll m now) a b c first next (all_on m mid now)

pub stops_then : (m mid : Holding) (a b c : Option Ends) → WhereTold (ServesLines m mid) a b → WhereTold (Stops mid) b c → WhereTold (Stops m) a c
stops_then m mid a b c first next = told_then (ServesLines m mid) (Stops mid) (Stops m) a b c first next (stops_on m mid)

pub breaks_then : (m mid : Holding) (a b c : Option Ends) → WhereTold (ServesLines m mid) a b → WhereTold (Breaks mid) b c → WhereTold (Breaks m) a c
breaks_then m mid a b c first next = told_then (ServesLines m mid) (Breaks mid) (Breaks m) a b c first next (breaks_on m mid)

-- the counts of two reads add up
pub counts_then : (u v x : ℕ) (a b c : Option (List ℕ)) → WhereTold (λ old new. v + length new ≡ u + length old) a b →
    WhereTold (λ old new. x + length new ≡ v + length old) b c → WhereTold (λ old new. x + length new ≡ u + length old) a c
counts_then u v x a b c first next =
    told_then (λ old new. v + length new ≡ u + length old) (λ old new. x + length new ≡ v + length old) (λ old new. x + length new ≡ u + length old) a b c first
    next (λ p q r h k. k ∙ h)

-- the end of the input stays its end
pub end_then : (u v : ℕ) (a b c : Option (List ℕ)) → WhereTold (λ old new. v + length new ≡ u + length old) a b → WhereTold (λ old new. new ≡ []) b c →
    WhereTold (λ old new. new ≡ []) a c
end_then u v a b c first next =
    told_then (λ old new. v + length new ≡ u + length old) (λ old new. new ≡ []) (λ old new. new ≡ []) a b c first next (λ p q r h k. k)

-- what holds of what an answer tells
pub on_ok : {T E : Type 0} (r : Result T E) (P Q : Type 0) → OnOk r P → (P → Q) → OnOk r Q
on_ok (Ok x) P Q h f = f h
on_ok (Err e) P Q h f = tt

pub on_err : {T E : Type 0} (r : Result T E) (P Q : Type 0) → OnErr r P → (P → Q) → OnErr r Q
on_err (Ok x) P Q h f = tt
on_err (Err e) P Q h f = f h

pub if_err : {T E : Type 0} (r : Result T E) (C : E → Type 0) (P : Type 0) → P → IfErr r (λ e. C e → P)
if_err (Ok x) C P h = tt
if_err (Err e) C P h = λ _. h

-- an answer that is this error
pub stopped_by : {T E : Type 0} (r : Result T E) (e : E) (C : E → Type 0) (P Q : Type 0) → r ≡ Err e → (C e → P) → (P → Q) → IfErr r (λ x. C x → Q)
stopped_by {T = T} {E = E} r e C P Q same h f = let R : Result T E → Type 0 = λ x. IfErr x (λ y. C y → Q) in subst R (sym same) (λ k. f (h k))

-- what an error tells
pub stopped_at : {T E : Type 0} (r : Result T E) (e : E) (C : E → Type 0) (P : Type 0) → r ≡ Err e → IfErr r (λ x. C x → P) → C e → P
stopped_at {T = T} {E = E} r e C P is h k = let R : Result T E → Type 0 = λ x. IfErr x (λ y. C y → P) in (subst R is h) k

again : {T U E : Type 0} → E → Result T E → Result U E
again e (Ok x) = Err e
again e (Err f) = Err f

-- an error stays the same beside another kind of answer
pub same_error : {T U E : Type 0} (e f : E) → ◌≡◌ {A = Result T E} (Err e) (Err f) → ◌≡◌ {A = Result U E} (Err e) (Err f)
unfolding again
same_error {T = T} {U = U} {E = E} e f h = ap (again {T = T} {U = U} {E = E} e) h

-- ---- a line that is written in two parts: its text, and the line feed

-- a front of the text is a front of the line
pub line_front : (text : List ℕ) (w0 w1 : Option (List ℕ)) → WhereTold (GainsFront text) w0 w1 → WhereTold (GainsFront (printed text)) w0 w1
line_front text w0 None h = tt
line_front text None (Some w1) h = absurd h
line_front text (Some w0) (Some w1) h = (h.0, h.1, (h.2.0 ++ 10 ∷ [], ap (λ l. l ++ 10 ∷ []) h.2.1 ∙ append_assoc h.0 h.2.0 (10 ∷ [])))

-- both were written
pub line_whole : (text : List ℕ) (w0 w1 w2 : Option (List ℕ)) → WhereTold (λ old written. written ≡ old ++ text) w0 w1 →
    WhereTold (λ old written. written ≡ old ++ 10 ∷ []) w1 w2 → WhereTold (λ old written. written ≡ old ++ printed text) w0 w2
line_whole text w0 w1 w2 first next =
    told_then (λ old written. written ≡ old ++ text) (λ old written. written ≡ old ++ 10 ∷ []) (λ old written. written ≡ old ++ printed text) w0 w1 w2 first
    next (λ a b c h k. k ∙ ap (λ l. l ++ 10 ∷ []) h ∙ append_assoc a text (10 ∷ []))

-- the text was written, and a front of the line feed
pub line_end : (text : List ℕ) (w0 w1 w2 : Option (List ℕ)) → WhereTold (λ old written. written ≡ old ++ text) w0 w1 → WhereTold (GainsFront (10 ∷ [])) w1 w2 →
    WhereTold (GainsFront (printed text)) w0 w2
line_end text w0 w1 w2 first next =
    told_then (λ old written. written ≡ old ++ text) (GainsFront (10 ∷ [])) (GainsFront (printed text)) w0 w1 w2 first next
    (λ a b c h k. front_on a b c text (10 ∷ []) h k)

-- what holds beside any error
pub any_err : {T E : Type 0} (r : Result T E) (P : Type 0) → P → OnErr r P
any_err (Ok x) P h = tt
any_err (Err e) P h = h
