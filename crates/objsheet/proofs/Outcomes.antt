-- What `try` comes to, from its parts.
use Rattle.std.proofs.Common.{◌≡◌, ◌≢◌, ℕ, ◌<◌, ◌≤◌, ◌+◌, ◌-◌, ◌^◌, List, [], ◌∷◌, ◌++◌, length, take, drop, Some, None, refl, inl, inr, sym, ap, ◌∙◌, subst}
use Rattle.std.proofs.Common.{append_assoc, append-nil, arith}
use Rattle.std.specs.Prelude.{Option, ◌⊎◌, nat_lt, Result, Ok, Err}
use Rattle.std.proofs.lemmas.Bool.{cases_Bool, ltb-true, ltb-false}
use Rattle.std.proofs.lemmas.List.{length-append, take-append-drop}
use Rattle.sheet_outside.specs.Told.{WhereTold}
use Rattle.sheet_lines.specs.Lines.{lines, ended, all_said}
use Rattle.sheet_lines.specs.Division.{definition_of, requests_of, ended_requests_of}
use Rattle.sheet_lines.specs.Dividing.{Divides, IsPastLongest, StopsDividing}
use Rattle.sheet_lines.specs.Reading.{HasNoFeed}
use Rattle.sheet_lines.specs.Told.{Ends, both, GainsFront}
use Rattle.sheet_lines.specs.Unread.{Unread, rest}
use Rattle.sheet_lines.specs.declared.stop.ReadStop.{ReadStop}
use Rattle.sheet_lines.specs.declared.stop.ReadStop.TheVariants as read
use Rattle.sheet_define_reading.specs.Laws.{OneDefinition}
use Rattle.sheet_machine_laws.specs.Machine.{Holding}
use Rattle.objsheet_check.specs.Checking.{HasBook, HasNoBook, IsRefusedText}
use Rattle.objsheet_check.proofs.Texts.{no_book}
use Rattle.objsheet.specs.Sessions.{Tells, Answers}
use Rattle.sheet_define.specs.declared.read.DefinitionRefusal.TheVariants.{TooLong}
use Rattle.objsheet.specs.declared.opening.Opening.{Opening}
use Rattle.objsheet.specs.declared.opening.Opening.TheVariants.{Started, Refused}
use Rattle.objsheet.specs.declared.stop.Stop.{Stop}
use Rattle.objsheet.specs.declared.stop.Stop.TheVariants.{TooLong, Source, Sink, NoMemory}
use Rattle.objsheet.specs.Serving.{OpensText, Opens, IsRefusedLength, stop_of}
use Rattle.objsheet.specs.Serving.{IsCut, ServesAll, Stops, Breaks, Begins, IsLongerYet}
use Rattle.objsheet.specs.Trying.{IsDone, IsRead, IsStopped, IsBrokenOff, IsRefused, FullOutput, first_requests, too_long}
use Rattle.objsheet.specs.Trying.FullOutput.{unfit, done, longer}
use Rattle.std.proofs.Math.Seq.{take-append_seam, take-append-add}
use Rattle.objsheet.proofs.Lines.{none_ended, ended_append, all_said_append}
use Rattle.objsheet.proofs.Runs.{tells_append, starved}
use Rattle.objsheet.proofs.Serving.{front_on}

-- ---- the definition

-- the definition of the input is the text that was read
whole_text : (text old new : List ℕ) → Divides text old new → definition_of old ≡ text
whole_text text old new divides =
    let all : divides.0 ++ new ≡ old = sym divides.1 in
    ap definition_of (sym all) ∙ (divides.2 new [] (sym (append-nil new))).0

opened_plain : (text old new : List ℕ) (o : Opening) → Divides text old new → OpensText text o → Opens o old new
opened_plain text old new (Started h) divides opens = record { text = text; divides = divides; book = opens.0; has = opens.1; is_start = opens.2 }
opened_plain text old new (Refused line) divides refused =
    let P : List ℕ → Type 0 = λ t. IsRefusedText t line.items in
    subst P (sym (whole_text text old new divides)) refused

-- the definition was read, and it has a book or is refused
pub opened : (text read : List ℕ) (o : Opening) (l0 l1 : Option (List ℕ)) → read ≡ text → WhereTold (Divides text) l0 l1 → OpensText read o →
    WhereTold (Opens o) l0 l1
opened text read o l0 None same divides opens = tt
opened text read o None (Some l1) same divides opens = absurd divides
opened text read o (Some l0) (Some l1) same divides opens =
    let P : List ℕ → Type 0 = λ t. OpensText t o in
    opened_plain text l0 l1 o divides (subst P same opens)

too_long_plain : (old new : List ℕ) (o : Opening) → IsPastLongest old → IsRefusedLength o → Opens o old new
too_long_plain old new (Started h) past is = absurd is
too_long_plain old new (Refused line) past is =
    inl (record { why = TooLong (length (definition_of old)); refused = (λ d stands. omega (arith, stands.short, past), past, refl); says = ap Some (sym is) })

-- the definition is too long, and is refused
pub too_long_opened : (o : Opening) (l0 l1 : Option (List ℕ)) → WhereTold (λ old new. IsPastLongest old) l0 l1 → IsRefusedLength o → WhereTold (Opens o) l0 l1
too_long_opened o l0 None past is = tt
too_long_opened o None (Some l1) past is = absurd past
too_long_opened o (Some l0) (Some l1) past is = too_long_plain l0 l1 o past is

-- ---- the bytes that are left

rest_start : (u : Unread) (l : Option (List ℕ)) → u.ahead ≡ [] → rest u l ≡ l
rest_start u None none = refl
rest_start u (Some l) none = ap (λ a. Some (a ++ l)) none

nothing_left : (xs ys : List ℕ) → xs ++ ys ≡ [] → ys ≡ []
nothing_left [] ys h = h
nothing_left (x ∷ xs) ys h = cc

-- what was read up to the request lines, and what was counted
record Read (m : Holding) (u1 u2 : Unread) (input middle left : List ℕ) : Type 0 where
  opens : Begins m input (u1.ahead ++ middle)
  first : u1.used + length (u1.ahead ++ middle) ≡ length input
  next : u2.used + length (u2.ahead ++ left) ≡ u1.used + length (u1.ahead ++ middle)
  limit : u2.used ≤ 2 ^ 40

-- from what is told where the request lines begin to what is told of the whole input
transfer : (u0 u1 u2 : Unread) (m : Holding) (P Q : Ends → Ends → Type 0) (l0 l1 l2 w0 w2 : Option (List ℕ)) → u0.ahead ≡ [] → u0.used ≡ 0 → u2.used ≤ 2 ^ 40 →
    WhereTold (Begins m) (rest u0 l0) (rest u1 l1)
    → WhereTold (λ old new. u1.used + length new ≡ u0.used + length old) (rest u0 l0) (rest u1 l1) →
    WhereTold (λ old new. u2.used + length new ≡ u1.used + length old) (rest u1 l1) (rest u2 l2)
    → WhereTold P (both (rest u1 l1) w0) (both (rest u2 l2) w2)
    → ((input middle left before after : List ℕ) → Read m u1 u2 input middle left →
    P (record { left = u1.ahead ++ middle; written = before }) (record { left = u2.ahead ++ left; written = after }) →
    Q (record { left = input; written = before }) (record { left = left; written = after }))
    → WhereTold Q (both l0 w0) (both l2 w2)
transfer u0 u1 u2 m P Q l0 l1 None w0 w2 none zero limit opens first next h f = tt
transfer u0 u1 u2 m P Q l0 l1 (Some l2) w0 None none zero limit opens first next h f = tt
transfer u0 u1 u2 m P Q l0 None (Some l2) w0 (Some w2) none zero limit opens first next h f = absurd next
transfer u0 u1 u2 m P Q l0 (Some l1) (Some l2) None (Some w2) none zero limit opens first next h f = absurd h
transfer u0 u1 u2 m P Q None (Some l1) (Some l2) (Some w0) (Some w2) none zero limit opens first next h f = absurd opens
transfer u0 u1 u2 m P Q (Some l0) (Some l1) (Some l2) (Some w0) (Some w2) none zero limit opens first next h f =
    let same : u0.ahead ++ l0 ≡ l0 = ap (λ a. a ++ l0) none in
    let O : List ℕ → Type 0 = λ x. Begins m x (u1.ahead ++ l1) in
    let size = ap length same in
    f l0 l1 l2 w0 w2 (record { opens = subst O same opens; first = omega arith; next = next; limit = limit }) h

-- the same for the input alone
transfer_input : (u0 u1 u2 : Unread) (m : Holding) (P Q : List ℕ → List ℕ → Type 0) (l0 l1 l2 : Option (List ℕ)) → u0.ahead ≡ [] → u0.used ≡ 0 →
    u2.used ≤ 2 ^ 40 → WhereTold (Begins m) (rest u0 l0) (rest u1 l1)
    → WhereTold (λ old new. u1.used + length new ≡ u0.used + length old) (rest u0 l0) (rest u1 l1) →
    WhereTold (λ old new. u2.used + length new ≡ u1.used + length old) (rest u1 l1) (rest u2 l2)
    → WhereTold P (rest u1 l1) (rest u2 l2)
    → ((input middle left : List ℕ) → Read m u1 u2 input middle left → P (u1.ahead ++ middle) (u2.ahead ++ left) → Q input left)
    → WhereTold Q l0 l2
transfer_input u0 u1 u2 m P Q l0 l1 None none zero limit opens first next h f = tt
transfer_input u0 u1 u2 m P Q l0 None (Some l2) none zero limit opens first next h f = absurd next
transfer_input u0 u1 u2 m P Q None (Some l1) (Some l2) none zero limit opens first next h f = absurd opens
transfer_input u0 u1 u2 m P Q (Some l0) (Some l1) (Some l2) none zero limit opens first next h f =
    let same : u0.ahead ++ l0 ≡ l0 = ap (λ a. a ++ l0) none in
    let O : List ℕ → Type 0 = λ x. Begins m x (u1.ahead ++ l1) in
    let size = ap length same in
    f l0 l1 l2 (record { opens = subst O same opens; first = omega arith; next = next; limit = limit }) h

-- ---- answers from the definition that was read

answers_from : (m last : Holding) (input rest1 : List ℕ) (ls ks : List (List ℕ)) (text : List ℕ) (opens : Begins m input rest1) → ls ≡ ks →
    Tells m ls text last → Answers (definition_of input) ks text
answers_from m last input rest1 ls ks text opens same told =
    let F : List ℕ → Type 0 = λ t. HasBook t opens.book in
    let M : Holding → Type 0 = λ x. Tells x ks text last in
    let L : List (List ℕ) → Type 0 = λ x. Tells m x text last in
    record {
      book = opens.book;
      has = subst F (sym (whole_text opens.text input rest1 opens.divides)) opens.has;
      last = last;
      told = subst M opens.is_start (subst L same told);
    }

-- the request lines of a front of the input, which reaches past the definition
requests_front : (text input rest1 front back : List ℕ) (divides : Divides text input rest1) → rest1 ≡ front ++ back →
    requests_of (divides.0 ++ front) ≡ all_said (lines front)
requests_front text input rest1 front back divides same = ap all_said (divides.2 front back same).1

ended_front : (text input rest1 front back : List ℕ) (divides : Divides text input rest1) → rest1 ≡ front ++ back →
    ended_requests_of (divides.0 ++ front) ≡ all_said (ended (lines front))
ended_front text input rest1 front back divides same = ap (λ ls. all_said (ended ls)) (divides.2 front back same).1

requests_all : (text input rest1 : List ℕ) → Divides text input rest1 → requests_of input ≡ all_said (lines rest1)
requests_all text input rest1 divides = ap requests_of divides.1 ∙ requests_front text input rest1 rest1 [] divides (sym (append-nil rest1))

-- behind whole lines, a part of a line is none that a line feed ends
ended_cut : (taken part : List ℕ) → IsCut taken → HasNoFeed part → ended (lines (taken ++ part)) ≡ lines taken
ended_cut taken part cut none =
    ap ended (cut.apart part) ∙ ended_append (lines taken) (lines part) ∙ ap (λ l. l ++ ended (lines part)) cut.all_ended
    ∙ ap (λ l. lines taken ++ l) (none_ended part none) ∙ append-nil (lines taken)

-- ---- status 0

done_plain : (m now : Holding) (u1 u2 : Unread) (input middle left before after : List ℕ) → Read m u1 u2 input middle left
    → ServesAll m now (record { left = u1.ahead ++ middle; written = before }) (record { left = u2.ahead ++ left; written = after }) →
    IsDone (record { left = input; written = before }) (record { left = left; written = after })
done_plain m now u1 u2 input middle left before after read all =
    let served = all.served in
    let r1 = u1.ahead ++ middle in
    let size = ap length all.end in
    let whole : r1 ≡ all.taken = served.left ∙ ap (λ l. all.taken ++ l) all.end ∙ append-nil all.taken in
    let due : all_said (lines all.taken) ≡ requests_of input = ap (λ l. all_said (lines l)) (sym whole)
    ∙ sym (requests_all read.opens.text input r1 read.opens.divides) in
    record {
      end = nothing_left u2.ahead left all.end;
      short = omega (arith, read.first, read.next, read.limit);
      text = served.text;
      answers = answers_from m now input r1 _ _ served.text read.opens due served.told;
      written = served.written;
    }

pub tried_done : (u0 u1 u2 : Unread) (m now : Holding) (l0 l1 l2 w0 w2 : Option (List ℕ)) → u0.ahead ≡ [] → u0.used ≡ 0 → u2.used ≤ 2 ^ 40 →
    WhereTold (Begins m) (rest u0 l0) (rest u1 l1)
    → WhereTold (λ old new. u1.used + length new ≡ u0.used + length old) (rest u0 l0) (rest u1 l1) →
    WhereTold (λ old new. u2.used + length new ≡ u1.used + length old) (rest u1 l1) (rest u2 l2)
    → WhereTold (ServesAll m now) (both (rest u1 l1) w0) (both (rest u2 l2) w2) → WhereTold IsDone (both l0 w0) (both l2 w2)
tried_done u0 u1 u2 m now l0 l1 l2 w0 w2 none zero limit opens first next h =
    transfer u0 u1 u2 m (ServesAll m now) IsDone l0 l1 l2 w0 w2 none zero limit opens first next h (done_plain m now u1 u2)

read_plain : (m : Holding) (u1 u2 : Unread) (input middle left : List ℕ) → Read m u1 u2 input middle left → u2.ahead ++ left ≡ [] → IsRead input left
read_plain m u1 u2 input middle left read end =
    let F : List ℕ → Type 0 = λ t. HasBook t read.opens.book in
    let size = ap length end in
    record {
      end = nothing_left u2.ahead left end;
      short = omega (arith, read.first, read.next, read.limit);
      book = read.opens.book;
      has = subst F (sym (whole_text read.opens.text input (u1.ahead ++ middle) read.opens.divides)) read.opens.has;
    }

pub tried_read : (u0 u1 u2 : Unread) (m : Holding) (l0 l1 l2 : Option (List ℕ)) → u0.ahead ≡ [] → u0.used ≡ 0 → u2.used ≤ 2 ^ 40 →
    WhereTold (Begins m) (rest u0 l0) (rest u1 l1)
    → WhereTold (λ old new. u1.used + length new ≡ u0.used + length old) (rest u0 l0) (rest u1 l1) →
    WhereTold (λ old new. u2.used + length new ≡ u1.used + length old) (rest u1 l1) (rest u2 l2)
    → WhereTold (λ old new. new ≡ []) (rest u1 l1) (rest u2 l2) → WhereTold IsRead l0 l2
tried_read u0 u1 u2 m l0 l1 l2 none zero limit opens first next h =
    transfer_input u0 u1 u2 m (λ old new. new ≡ []) IsRead l0 l1 l2 none zero limit opens first next h (read_plain m u1 u2)

-- ---- reading stopped

-- the bytes that were taken of the input where reading stopped inside a line
record TakenFront (m : Holding) (u1 u2 : Unread) (input middle left : List ℕ) (text : List ℕ) : Type 0 where
  front : List ℕ
  input_is : input ≡ front ++ (u2.ahead ++ left)
  size : length front ≡ u2.used
  answers : Answers (definition_of input) (ended_requests_of front) text

taken_front : (m : Holding) (u1 u2 : Unread) (input middle left before after : List ℕ) (read : Read m u1 u2 input middle left)
    (stops : Stops m (record { left = u1.ahead ++ middle; written = before }) (record { left = u2.ahead ++ left; written = after })) →
    TakenFront m u1 u2 input middle left stops.lines_served.served.text
taken_front m u1 u2 input middle left before after read stops =
    let lines_taken = stops.lines_served.taken in
    let served = stops.lines_served.served in
    let divides = read.opens.divides in
    let r1 = u1.ahead ++ middle in
    let r2 = u2.ahead ++ left in
    let behind : r1 ≡ (lines_taken ++ stops.part) ++ r2 = served.left ∙ ap (λ l. lines_taken ++ l) stops.left ∙ sym (append_assoc lines_taken stops.part r2) in
    let front = divides.0 ++ (lines_taken ++ stops.part) in
    let input_is : input ≡ front ++ r2 = divides.1 ∙ ap (λ l. divides.0 ++ l) behind ∙ sym (append_assoc divides.0 (lines_taken ++ stops.part) r2) in
    let sizes = ap length input_is in
    let sum = length-append front r2 in
    let due : all_said (lines lines_taken) ≡ ended_requests_of front =
    sym (ended_front read.opens.text input r1 (lines_taken ++ stops.part) r2 divides behind
    ∙ ap all_said (ended_cut lines_taken stops.part stops.lines_served.cut stops.none)) in
    record {
      front = front;
      input_is = input_is;
      size = omega (arith, read.first, read.next, sizes, sum);
      answers = answers_from m stops.now input r1 _ _ served.text read.opens due served.told;
    }

some_ahead : (xs ys : List ℕ) → xs ≢ [] → 0 < length (xs ++ ys)
some_ahead [] ys h = absurd (h refl)
some_ahead (x ∷ xs) ys h = omega arith

-- reading stopped because the input is too long
longer_plain : (m : Holding) (u1 u2 : Unread) (input middle left before after : List ℕ) → u2.used ≡ 2 ^ 40 → u2.ahead ≢ [] → Read m u1 u2 input middle left
    → Stops m (record { left = u1.ahead ++ middle; written = before }) (record { left = u2.ahead ++ left; written = after }) →
    IsLongerYet (record { left = input; written = before }) (record { left = left; written = after })
longer_plain m u1 u2 input middle left before after full more read stops =
    let t = taken_front m u1 u2 input middle left before after read stops in
    let first : take (2 ^ 40) input ≡ t.front = ap (λ n. take n input) (sym full ∙ sym t.size) ∙ ap (take (length t.front)) t.input_is
    ∙ take-append_seam t.front (u2.ahead ++ left) in
    let A : List ℕ → Type 0 = λ f. Answers (definition_of input) (ended_requests_of f) stops.lines_served.served.text in
    let some = some_ahead u2.ahead left more in
    record {
      longer = omega (arith, read.first, read.next, full, some);
      text = stops.lines_served.served.text;
      answers = subst A (sym first) t.answers;
      written = stops.same ∙ stops.lines_served.served.written;
    }

pub tried_longer : (u0 u1 u2 : Unread) (m : Holding) (l0 l1 l2 w0 w2 : Option (List ℕ)) → u0.ahead ≡ [] → u0.used ≡ 0 → u2.used ≤ 2 ^ 40 →
    WhereTold (Begins m) (rest u0 l0) (rest u1 l1)
    → WhereTold (λ old new. u1.used + length new ≡ u0.used + length old) (rest u0 l0) (rest u1 l1) →
    WhereTold (λ old new. u2.used + length new ≡ u1.used + length old) (rest u1 l1) (rest u2 l2)
    → WhereTold (Stops m) (both (rest u1 l1) w0) (both (rest u2 l2) w2) → u2.used ≡ 2 ^ 40 → u2.ahead ≢ [] → WhereTold IsLongerYet (both l0 w0) (both l2 w2)
tried_longer u0 u1 u2 m l0 l1 l2 w0 w2 none zero limit opens first next h full more =
    transfer u0 u1 u2 m (Stops m) IsLongerYet l0 l1 l2 w0 w2 none zero limit opens first next h (λ input middle left before after read stops.
    longer_plain m u1 u2 input middle left before after full more read stops)

longer_size : (m : Holding) (u1 u2 : Unread) (input middle left : List ℕ) → u2.used ≡ 2 ^ 40 → u2.ahead ≢ [] → Read m u1 u2 input middle left →
    2 ^ 40 < length input
longer_size m u1 u2 input middle left full more read = let some = some_ahead u2.ahead left more in omega (arith, read.first, read.next, full, some)

pub tried_longer_input : (u0 u1 u2 : Unread) (m : Holding) (l0 l1 l2 : Option (List ℕ)) → u0.ahead ≡ [] → u0.used ≡ 0 → u2.used ≤ 2 ^ 40 →
    WhereTold (Begins m) (rest u0 l0) (rest u1 l1)
    → WhereTold (λ old new. u1.used + length new ≡ u0.used + length old) (rest u0 l0) (rest u1 l1) →
    WhereTold (λ old new. u2.used + length new ≡ u1.used + length old) (rest u1 l1) (rest u2 l2)
    → u2.used ≡ 2 ^ 40 → u2.ahead ≢ [] → WhereTold (λ input left. 2 ^ 40 < length input) l0 l2
tried_longer_input u0 u1 u2 m l0 l1 l2 none zero limit opens first next full more =
    transfer_input u0 u1 u2 m (λ old new. u2.used + length new ≡ u1.used + length old) (λ input left. 2 ^ 40 < length input) l0 l1 l2 none zero limit opens
    first next next
    (λ input middle left read same. longer_size m u1 u2 input middle left full more read)

-- the source failed between request lines
stopped_plain : (m : Holding) (u1 u2 : Unread) (input middle left before after : List ℕ) → u2.ahead ≡ [] → Read m u1 u2 input middle left
    → Stops m (record { left = u1.ahead ++ middle; written = before }) (record { left = u2.ahead ++ left; written = after }) →
    IsStopped (record { left = input; written = before }) (record { left = left; written = after })
stopped_plain m u1 u2 input middle left before after dry read stops =
    let t = taken_front m u1 u2 input middle left before after read stops in
    record {
      taken = t.front;
      left = t.input_is ∙ ap (λ a. t.front ++ (a ++ left)) dry;
      text = stops.lines_served.served.text;
      told = inl t.answers;
      written = stops.same ∙ stops.lines_served.served.written;
    }

pub tried_stopped : (u0 u1 u2 : Unread) (m : Holding) (l0 l1 l2 w0 w2 : Option (List ℕ)) → u0.ahead ≡ [] → u0.used ≡ 0 → u2.used ≤ 2 ^ 40 →
    WhereTold (Begins m) (rest u0 l0) (rest u1 l1)
    → WhereTold (λ old new. u1.used + length new ≡ u0.used + length old) (rest u0 l0) (rest u1 l1) →
    WhereTold (λ old new. u2.used + length new ≡ u1.used + length old) (rest u1 l1) (rest u2 l2)
    → WhereTold (Stops m) (both (rest u1 l1) w0) (both (rest u2 l2) w2) → u2.ahead ≡ [] → WhereTold IsStopped (both l0 w0) (both l2 w2)
tried_stopped u0 u1 u2 m l0 l1 l2 w0 w2 none zero limit opens first next h dry =
    transfer u0 u1 u2 m (Stops m) IsStopped l0 l1 l2 w0 w2 none zero limit opens first next h (λ input middle left before after read stops.
    stopped_plain m u1 u2 input middle left before after dry read stops)

-- the source failed before the definition was read
pub open_stopped : (u0 u1 : Unread) (l0 l1 w : Option (List ℕ)) → u0.ahead ≡ [] → u1.ahead ≡ [] → WhereTold StopsDividing (rest u0 l0) (rest u1 l1) →
    WhereTold IsStopped (both l0 w) (both l1 w)
open_stopped u0 u1 l0 None w none dry stops = tt
open_stopped u0 u1 l0 (Some l1) None none dry stops = tt
open_stopped u0 u1 None (Some l1) (Some w) none dry stops = absurd stops
open_stopped u0 u1 (Some l0) (Some l1) (Some w) none dry stops =
    let here : l0 ≡ u0.ahead ++ l0 = sym (ap (λ a. a ++ l0) none) in
    record {
      taken = stops.0;
      left = here ∙ stops.1 ∙ ap (λ a. stops.0 ++ (a ++ l1)) dry;
      text = [];
      told = inr (stops.2, refl);
      written = sym (append-nil w);
    }

-- the definition is refused, and nothing was written
pub open_refused : (u0 u1 : Unread) (line : List ℕ) (l0 l1 w : Option (List ℕ)) → u0.ahead ≡ [] →
    WhereTold (λ old new. IsRefusedText (definition_of old) line) (rest u0 l0) (rest u1 l1) →
    WhereTold (λ old new. IsRefusedText (definition_of old.left) line × (new.written ≡ old.written)) (both l0 w) (both l1 w)
open_refused u0 u1 line l0 None w none h = tt
open_refused u0 u1 line l0 (Some l1) None none h = tt
open_refused u0 u1 line None (Some l1) (Some w) none h = absurd h
open_refused u0 u1 line (Some l0) (Some l1) (Some w) none h =
    let R : List ℕ → Type 0 = λ t. IsRefusedText (definition_of t) line in
    (subst R (ap (λ a. a ++ l0) none) h, refl)

-- it has no book
pub open_without_book : OneDefinition → (u0 u1 : Unread) (line : List ℕ) (l0 l1 : Option (List ℕ)) → u0.ahead ≡ [] →
    WhereTold (λ old new. IsRefusedText (definition_of old) line) (rest u0 l0) (rest u1 l1) →
    WhereTold (λ input left. HasNoBook (definition_of input)) l0 l1
open_without_book only u0 u1 line l0 None none h = tt
open_without_book only u0 u1 line None (Some l1) none h = absurd h
open_without_book only u0 u1 line (Some l0) (Some l1) none h =
    let R : List ℕ → Type 0 = λ t. IsRefusedText (definition_of t) line in
    no_book only (definition_of l0) line (subst R (ap (λ a. a ++ l0) none) h)

-- ---- a front of all that is due

-- this text is a front of all that a run over the input writes
record IsDue (input text : List ℕ) : Type 0 where
  full : List ℕ
  is_full : FullOutput input full
  back : List ℕ
  parts : full ≡ text ++ back

due_short : (m last : Holding) (input r1 taken left text : List ℕ) (opens : Begins m input r1) → r1 ≡ taken ++ left → IsCut taken ⊎ (left ≡ []) →
    length input ≤ 2 ^ 40 → Tells m (all_said (lines taken)) text last → IsDue input text
due_short m last input r1 taken left text opens parts (inl cut) short told =
    let more = starved last (all_said (lines left)) in
    let all = tells_append m last last (all_said (lines taken)) (all_said (lines left)) text more.text told more.told in
    let due : all_said (lines taken) ++ all_said (lines left) ≡ requests_of input =
    sym (requests_all opens.text input r1 opens.divides ∙ ap (λ l. all_said (lines l)) parts ∙ ap all_said (cut.apart left)
    ∙ all_said_append (lines taken) (lines left)) in
    record {
      full = text ++ more.text;
      is_full = done (text ++ more.text) short (answers_from m last input r1 _ _ (text ++ more.text) opens due all);
      back =
          more.text;
      parts = refl;
    }
due_short m last input r1 taken left text opens parts (inr end) short told =
    let full : r1 ≡ taken = parts ∙ ap (λ l. taken ++ l) end ∙ append-nil taken in
    let due : all_said (lines taken) ≡ requests_of input = sym (requests_all opens.text input r1 opens.divides ∙ ap (λ l. all_said (lines l)) full) in
    record { full = text; is_full = done text short (answers_from m last input r1 _ _ text opens due told); back = []; parts = sym (append-nil text) }

due_long : (m last : Holding) (input r1 taken left text : List ℕ) (opens : Begins m input r1) (room : ℕ) → r1 ≡ taken ++ left → IsCut taken →
    2 ^ 40 < length input → length (opens.divides.0 ++ taken) + room ≡ 2 ^ 40 → Tells m (all_said (lines taken)) text last →
    IsDue input text
due_long m last input r1 taken left text opens room parts cut long size told =
    let divides = opens.divides in
    let near = take room left in
    let far = drop room left in
    let more = starved last (all_said (ended (lines near))) in
    let all = tells_append m last last (all_said (lines taken)) (all_said (ended (lines near))) text more.text told more.told in
    let behind : r1 ≡ (taken ++ near) ++ far = parts ∙ ap (λ l. taken ++ l) (sym (take-append-drop room left)) ∙ sym (append_assoc taken near far) in
    let input_is : input ≡ (divides.0 ++ taken) ++ left = divides.1 ∙ ap (λ l. divides.0 ++ l) parts ∙ sym (append_assoc divides.0 taken left) in
    let first : take (2 ^ 40) input ≡ divides.0 ++ (taken ++ near) = ap (λ n. take n input) (sym size) ∙ ap (take (length (divides.0 ++ taken) + room)) input_is
    ∙ take-append-add (divides.0 ++ taken) left room ∙ append_assoc divides.0 taken near in
    let ended_lines : ended (lines (taken ++ near)) ≡ lines taken ++ ended (lines near) = ap ended (cut.apart near) ∙ ended_append (lines taken) (lines near)
    ∙ ap (λ l. l ++ ended (lines near)) cut.all_ended in
    let due : all_said (lines taken) ++ all_said (ended (lines near)) ≡ first_requests input =
    sym (ap ended_requests_of first ∙ ended_front opens.text input r1 (taken ++ near) far divides behind ∙ ap all_said ended_lines
    ∙ all_said_append (lines taken) (ended (lines near))) in
    record {
      full = (text ++ more.text) ++ too_long;
      is_full = longer (text ++ more.text) long (answers_from m last input r1 _ _ (text ++ more.text) opens due all);
      back = more.text ++ too_long;
      parts = append_assoc text more.text too_long;
    }

due_past : (m last : Holding) (input r1 taken left text : List ℕ) (opens : Begins m input r1) → r1 ≡ taken ++ left → IsCut taken ⊎ (left ≡ []) →
    2 ^ 40 < length input → length (opens.divides.0 ++ taken) ≤ 2 ^ 40 → Tells m (all_said (lines taken)) text last → IsDue input text
due_past m last input r1 taken left text opens parts (inl cut) long within told =
    let room = 2 ^ 40 - length (opens.divides.0 ++ taken) in
    due_long m last input r1 taken left text opens room parts cut long (omega arith) told
due_past m last input r1 taken left text opens parts (inr end) long within told =
    let input_is : input ≡ (opens.divides.0 ++ taken) ++ left = opens.divides.1 ∙ ap (λ l. opens.divides.0 ++ l) parts
    ∙ sym (append_assoc opens.divides.0 taken left) in
    let sizes = ap length input_is in
    let sum = length-append (opens.divides.0 ++ taken) left in
    let none = ap length end in
    absurd (omega arith)

-- the text of the replies to some lines of the input, within its greatest length, is a front of all that is due
due_front : (m last : Holding) (input r1 taken left text : List ℕ) (opens : Begins m input r1) → r1 ≡ taken ++ left → IsCut taken ⊎ (left ≡ []) →
    length (opens.divides.0 ++ taken) ≤ 2 ^ 40 → Tells m (all_said (lines taken)) text last → IsDue input text
due_front m last input r1 taken left text opens parts cut within told =
    elim (cases_Bool (nat_lt (2 ^ 40) (length input))) [
      | inl more ↦ due_past m last input r1 taken left text opens parts cut (ltb-true (2 ^ 40) (length input) more) within told
      | inr fits ↦ due_short m last input r1 taken left text opens parts cut (ltb-false (2 ^ 40) (length input) fits) told
    ]

-- a front of the text of some replies is a front of all that is due
due_gains : (input text before after : List ℕ) → IsDue input text → GainsFront text before after →
    (full : List ℕ) × FullOutput input full × GainsFront full before after
due_gains input text before after due gains = (
  due.full,
  due.is_full,
  (gains.0, gains.1, (gains.2.0 ++ due.back, due.parts ∙ ap (λ l. l ++ due.back) gains.2.1 ∙ append_assoc gains.0 gains.2.0 due.back)),
)

-- the sink failed
broken_plain : (m : Holding) (u1 u2 : Unread) (input middle left before after : List ℕ) → Read m u1 u2 input middle left
    → Breaks m (record { left = u1.ahead ++ middle; written = before }) (record { left = u2.ahead ++ left; written = after }) →
    IsBrokenOff (record { left = input; written = before }) (record { left = left; written = after })
broken_plain m u1 u2 input middle left before after read breaks =
    let divides = read.opens.divides in
    let r1 = u1.ahead ++ middle in
    let r2 = u2.ahead ++ left in
    let input_is : input ≡ (divides.0 ++ breaks.taken) ++ r2 = divides.1 ∙ ap (λ l. divides.0 ++ l) breaks.left
    ∙ sym (append_assoc divides.0 breaks.taken r2) in
    let sizes = ap length input_is in
    let sum = length-append (divides.0 ++ breaks.taken) r2 in
    inr (due_gains input breaks.text before after
    (due_front m breaks.last input r1 breaks.taken r2 breaks.text read.opens breaks.left breaks.cut (omega (arith, read.first, read.next, read.limit))
    breaks.told) breaks.front)

pub tried_broken : (u0 u1 u2 : Unread) (m : Holding) (l0 l1 l2 w0 w2 : Option (List ℕ)) → u0.ahead ≡ [] → u0.used ≡ 0 → u2.used ≤ 2 ^ 40 →
    WhereTold (Begins m) (rest u0 l0) (rest u1 l1)
    → WhereTold (λ old new. u1.used + length new ≡ u0.used + length old) (rest u0 l0) (rest u1 l1) →
    WhereTold (λ old new. u2.used + length new ≡ u1.used + length old) (rest u1 l1) (rest u2 l2)
    → WhereTold (Breaks m) (both (rest u1 l1) w0) (both (rest u2 l2) w2) → WhereTold IsBrokenOff (both l0 w0) (both l2 w2)
tried_broken u0 u1 u2 m l0 l1 l2 w0 w2 none zero limit opens first next h =
    transfer u0 u1 u2 m (Breaks m) IsBrokenOff l0 l1 l2 w0 w2 none zero limit opens first next h (broken_plain m u1 u2)

-- there was no memory between request lines
starved_plain : (m : Holding) (u1 u2 : Unread) (input middle left before after : List ℕ) → Read m u1 u2 input middle left
    → Stops m (record { left = u1.ahead ++ middle; written = before }) (record { left = u2.ahead ++ left; written = after }) →
    IsBrokenOff (record { left = input; written = before }) (record { left = left; written = after })
starved_plain m u1 u2 input middle left before after read stops =
    let t = taken_front m u1 u2 input middle left before after read stops in
    let divides = read.opens.divides in
    let served = stops.lines_served.served in
    let r1 = u1.ahead ++ middle in
    let input_is : input ≡ (divides.0 ++ stops.lines_served.taken) ++ stops.middle.left = divides.1 ∙ ap (λ l. divides.0 ++ l) served.left
    ∙ sym (append_assoc divides.0 stops.lines_served.taken stops.middle.left) in
    let sizes = ap length input_is in
    let sum = length-append (divides.0 ++ stops.lines_served.taken) stops.middle.left in
    let later = ap length stops.left in
    let parts = length-append stops.part (u2.ahead ++ left) in
    let gains : GainsFront served.text before after = (served.text, stops.same ∙ served.written, ([], sym (append-nil served.text))) in
    inr (due_gains input served.text before after (due_front m stops.now input r1 stops.lines_served.taken stops.middle.left served.text read.opens served.left
    (inl stops.lines_served.cut) (omega (arith, read.first, read.next, read.limit, sizes, sum, later, parts)) served.told) gains)

pub tried_starved : (u0 u1 u2 : Unread) (m : Holding) (l0 l1 l2 w0 w2 : Option (List ℕ)) → u0.ahead ≡ [] → u0.used ≡ 0 → u2.used ≤ 2 ^ 40 →
    WhereTold (Begins m) (rest u0 l0) (rest u1 l1)
    → WhereTold (λ old new. u1.used + length new ≡ u0.used + length old) (rest u0 l0) (rest u1 l1) →
    WhereTold (λ old new. u2.used + length new ≡ u1.used + length old) (rest u1 l1) (rest u2 l2)
    → WhereTold (Stops m) (both (rest u1 l1) w0) (both (rest u2 l2) w2) → WhereTold IsBrokenOff (both l0 w0) (both l2 w2)
tried_starved u0 u1 u2 m l0 l1 l2 w0 w2 none zero limit opens first next h =
    transfer u0 u1 u2 m (Stops m) IsBrokenOff l0 l1 l2 w0 w2 none zero limit opens first next h (starved_plain m u1 u2)

-- nothing was written yet
pub open_broken : (u0 u1 : Unread) (l0 l1 w : Option (List ℕ)) → WhereTold (λ old new. u1.used + length new ≡ u0.used + length old) (rest u0 l0) (rest u1 l1) →
    WhereTold IsBrokenOff (both l0 w) (both l1 w)
open_broken u0 u1 l0 None w counts = tt
open_broken u0 u1 l0 (Some l1) None counts = tt
open_broken u0 u1 None (Some l1) (Some w) counts = absurd counts
open_broken u0 u1 (Some l0) (Some l1) (Some w) counts = inl refl

-- ---- a last line

-- the definition is refused, and that was written
pub unfit_refused : (line said : List ℕ) (l0 l1 w0 w1 w2 : Option (List ℕ)) → said ≡ line →
    WhereTold (λ old new. IsRefusedText (definition_of old.left) line × (new.written ≡ old.written)) (both l0 w0) (both l1 w1) →
    WhereTold (λ old new. new ≡ old ++ said) w1 w2 → WhereTold IsRefused (both l0 w0) (both l1 w2)
unfit_refused line said l0 None w0 w1 w2 same h gains = tt
unfit_refused line said l0 (Some l1) w0 w1 None same h gains = tt
unfit_refused line said l0 (Some l1) w0 None (Some w2) same h gains = absurd gains
unfit_refused line said None (Some l1) w0 (Some w1) (Some w2) same h gains = absurd h
unfit_refused line said (Some l0) (Some l1) None (Some w1) (Some w2) same h gains = absurd h
unfit_refused line said (Some l0) (Some l1) (Some w0) (Some w1) (Some w2) same h gains =
    inl (record { line = line; refused = h.0; written = gains ∙ ap (λ w. w ++ said) h.1 ∙ ap (λ t. w0 ++ t) same })

-- the definition is refused, and a front of that was written
pub unfit_broken : (line said : List ℕ) (l0 l1 w0 w1 w2 : Option (List ℕ)) → said ≡ line →
    WhereTold (λ old new. IsRefusedText (definition_of old.left) line × (new.written ≡ old.written)) (both l0 w0) (both l1 w1) →
    WhereTold (GainsFront said) w1 w2 → WhereTold IsBrokenOff (both l0 w0) (both l1 w2)
unfit_broken line said l0 None w0 w1 w2 same h gains = tt
unfit_broken line said l0 (Some l1) w0 w1 None same h gains = tt
unfit_broken line said l0 (Some l1) w0 None (Some w2) same h gains = absurd gains
unfit_broken line said None (Some l1) w0 (Some w1) (Some w2) same h gains = absurd h
unfit_broken line said (Some l0) (Some l1) None (Some w1) (Some w2) same h gains = absurd h
unfit_broken line said (Some l0) (Some l1) (Some w0) (Some w1) (Some w2) same h gains =
    let G : List ℕ → Type 0 = λ w. GainsFront line w w2 in
    let S : List ℕ → Type 0 = λ t. GainsFront t w1 w2 in
    inr (line, unfit line h.0, subst G h.1 (subst S same gains))

-- the input is too long, and that was written
pub longer_refused : (l0 l1 w0 w1 w2 : Option (List ℕ)) → WhereTold IsLongerYet (both l0 w0) (both l1 w1) → WhereTold (λ old new. new ≡ old ++ too_long) w1 w2 →
    WhereTold IsRefused (both l0 w0) (both l1 w2)
longer_refused l0 None w0 w1 w2 h gains = tt
longer_refused l0 (Some l1) w0 w1 None h gains = tt
longer_refused l0 (Some l1) w0 None (Some w2) h gains = absurd gains
longer_refused None (Some l1) w0 (Some w1) (Some w2) h gains = absurd h
longer_refused (Some l0) (Some l1) None (Some w1) (Some w2) h gains = absurd h
longer_refused (Some l0) (Some l1) (Some w0) (Some w1) (Some w2) h gains =
    inr (record {
      longer = h.longer;
      text = h.text;
      answers = h.answers;
      written = gains ∙ ap (λ l. l ++ too_long) h.written
          ∙ append_assoc w0 h.text too_long;
    })

-- the input is too long, and a front of that was written
pub longer_broken : (l0 l1 w0 w1 w2 : Option (List ℕ)) → WhereTold IsLongerYet (both l0 w0) (both l1 w1) → WhereTold (GainsFront too_long) w1 w2 →
    WhereTold IsBrokenOff (both l0 w0) (both l1 w2)
longer_broken l0 None w0 w1 w2 h gains = tt
longer_broken l0 (Some l1) w0 w1 None h gains = tt
longer_broken l0 (Some l1) w0 None (Some w2) h gains = absurd gains
longer_broken None (Some l1) w0 (Some w1) (Some w2) h gains = absurd h
longer_broken (Some l0) (Some l1) None (Some w1) (Some w2) h gains = absurd h
longer_broken (Some l0) (Some l1) (Some w0) (Some w1) (Some w2) h gains =
    inr (h.text ++ too_long, longer h.text h.longer h.answers, front_on w0 w1 w2 h.text too_long h.written gains)

-- a run stops for the source only where reading stopped for it
pub source_stop : (T : Type 0) (e : ReadStop) → ◌≡◌ {A = Result T Stop} (Err (stop_of e)) (Err Source) → e ≡ read.Source
source_stop T read.Source is = refl
source_stop T read.TooLong is = cc
source_stop T read.NoMemory is = cc

error_at : {T : Type 0} → Stop → Result T Stop → Stop
error_at e (Ok x) = e
error_at e (Err f) = f

-- none of the other stops is that for the sink
pub too_long_apart : TooLong ≢ Sink
too_long_apart e = cc

pub source_apart : Source ≢ Sink
source_apart e = cc

pub memory_apart : NoMemory ≢ Sink
memory_apart e = cc

-- what is told of a run that stopped, but not for the sink
pub at_stop : (T : Type 0) (e f : Stop) (P : Type 0) → ◌≡◌ {A = Result T Stop} (Err e) (Err f) → f ≢ Sink → (e ≢ Sink → P) → P
unfolding error_at
at_stop T e f P is other told = let same : e ≡ f = ap (error_at {T = T} e) is in told (λ wrong. other (sym same ∙ wrong))
