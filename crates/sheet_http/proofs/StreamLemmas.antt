-- The steps of bytes stay where more bytes come, and there is one list of them.
use Rattle.std.proofs.Common.{◌≡◌, ℕ, suc, ◌+◌, ◌-◌, ◌≤◌, Bool, true, false, List, [], ◌∷◌, ◌++◌, length, take, drop, refl, sym, ap, ◌∙◌, subst}
use Rattle.std.proofs.Common.{arith, is_ok, append_assoc, inl, inr, Result, Ok, Err, length-append}
use Rattle.std.proofs.lemmas.List.{take-append-drop, take-append-le}
use Rattle.std.proofs.lemmas.Bool.{cases_lt, true≢false}
use Rattle.std.proofs.Math.Seq.{take-append_seam, drop-append_seam, take-append-add}
use Rattle.httparse.specs.Grammar.{RequestHead, print_request, ReadsRequest, HasNoRequest}
use Rattle.httparse.proofs.GrammarLemmas.{request_unique, ReadsRequest-append}
use Rattle.sheet_requests.specs.declared.request.Route.{Route}
use Rattle.sheet_http.specs.declared.refusal.HttpRefusal.{HttpRefusal}
use Rattle.sheet_http.specs.declared.refusal.HttpRefusal.TheVariants.{NotHttp}
use Rattle.sheet_http.specs.Heads.{Asked, judged_head, is_for_head}
use Rattle.sheet_http.specs.Stream.{longest_head, Event, Asks, Refuses, Heads, IsHopeless, AsksFirst, RefusesFirst, head as by_head}
use Rattle.sheet_http.specs.Stream.{hopeless as by_line, long as by_length, StepsOf, full, waits, refused, closes, goes_on, Passes, none as no_pass}
use Rattle.sheet_http.specs.Stream.{one_more}
use Rattle.sheet_http.specs.Steps.{StreamIsOne, PassedSteps}

-- ---- more bytes

pub heads-append : (bytes more : List ℕ) (h : RequestHead) (behind : List ℕ) → Heads bytes h behind → Heads (bytes ++ more) h (behind ++ more)
heads-append bytes more h behind x = record { reads = ReadsRequest-append bytes h behind more x.reads; short = x.short }

hopeless-append : (bytes more : List ℕ) (n : ℕ) → IsHopeless bytes n → IsHopeless (bytes ++ more) n
hopeless-append bytes more n x = record {
  front = x.front;
  behind = x.behind ++ more;
  feed = ap (λ (t : List ℕ). t ++ more) x.feed ∙ append_assoc (x.front ++ 10 ∷ []) x.behind more;
  place = x.place;
  short = x.short;
  never = x.never;
}

-- the front of joined lists, where it is no longer than the first of them
front_of : (a b f r : List ℕ) → a ++ b ≡ f ++ r → length f ≤ length a → a ≡ f ++ drop (length f) a
front_of a b f r same short =
    let t : take (length f) a ≡ f = sym (take-append-le (length f) a b short) ∙ ap (take (length f)) same ∙ take-append_seam f r in
    sym (take-append-drop (length f) a) ∙ ap (λ (x : List ℕ). x ++ drop (length f) a) t

pub length_of_front : (f : List ℕ) (n : ℕ) → n ≡ length f + 1 → length (f ++ 10 ∷ []) ≡ n
length_of_front f n place = omega (arith, length-append f (10 ∷ []))

pub hopeless_within : (bytes : List ℕ) (n : ℕ) → IsHopeless bytes n → n ≤ length bytes
hopeless_within bytes n x = omega (arith, length_of_front x.front n x.place, ap length x.feed, length-append (x.front ++ 10 ∷ []) x.behind)

-- what is without hope in more bytes is without hope in those that it stands in
pub hopeless_cut : (bytes more : List ℕ) (n : ℕ) → IsHopeless (bytes ++ more) n → n ≤ length bytes → IsHopeless bytes n
hopeless_cut bytes more n x within = record {
  front = x.front;
  behind = drop (length (x.front ++ 10 ∷ [])) bytes;
  feed = front_of bytes more (x.front ++ 10 ∷ []) x.behind x.feed (omega (arith, length_of_front x.front n x.place));
  place = x.place;
  short = x.short;
  never = x.never;
}

pub asks-append : (bytes more : List ℕ) (route : Route) (body rest : List ℕ) (close : Bool)
    → AsksFirst bytes route body close rest → AsksFirst (bytes ++ more) route body close (rest ++ more)
asks-append bytes more route body rest close x = record {
  head = x.head;
  heads = subst (Heads (bytes ++ more) x.head) (append_assoc body rest more) (heads-append bytes more x.head (body ++ rest) x.heads);
  asked = x.asked;
}

least-append : (bytes more : List ℕ) (n : ℕ) → IsHopeless bytes n → ((m : ℕ) → IsHopeless bytes m → n ≤ m) → (m : ℕ) → IsHopeless (bytes ++ more) m → n ≤ m
least-append bytes more n x least m y = elim (cases_lt (length bytes) m) [
  | inl outside ↦ omega (arith, hopeless_within bytes n x)
  | inr inside ↦ least m (hopeless_cut bytes more m y inside)
]

pub refuses-append : (bytes more : List ℕ) (e : HttpRefusal) (b : Bool) → RefusesFirst bytes e b → RefusesFirst (bytes ++ more) e b
refuses-append bytes more e _ (by_head h behind _ x bad) = by_head h (behind ++ more) e (heads-append bytes more h behind x) bad
refuses-append bytes more _ _ (by_line n x least) = by_line n (hopeless-append bytes more n x) (least-append bytes more n x least)
refuses-append bytes more _ _ (by_length enough no_head nor) =
    by_length (omega (arith, enough, length-append bytes more)) (subst HasNoRequest (sym (take-append-le longest_head bytes more enough)) no_head)
    (λ n x. nor n (hopeless_cut bytes more n x (omega (arith, enough, x.short))))

-- ---- one step

-- a head, and what stands behind it, is one
pub one_head : (bytes : List ℕ) (h k : RequestHead) (r q : List ℕ) → Heads bytes h r → Heads bytes k q → (h ≡ k) × (r ≡ q)
one_head bytes h k r q x y = request_unique bytes h k r q x.reads y.reads

pub not_hopeless : (bytes : List ℕ) (n : ℕ) (h : RequestHead) (r : List ℕ) → Heads bytes h r → IsHopeless bytes n → ⊥
not_hopeless bytes n h r x y = y.never y.behind h r (subst (λ t. ReadsRequest t h r) y.feed x.reads)

-- a head of at most 8,192 bytes is in the first 8,192
pub not_long : (bytes : List ℕ) (h : RequestHead) (r : List ℕ) → Heads bytes h r → HasNoRequest (take longest_head bytes) → ⊥
not_long bytes h r x nor =
    let fits : length (print_request h) + (longest_head - length (print_request h)) ≡ longest_head = omega (arith, x.short) in
    let cut : take longest_head bytes ≡ print_request h ++ take (longest_head - length (print_request h)) r =
    ap (take longest_head) x.reads.1 ∙ ap (λ n. take n (print_request h ++ r)) (sym fits)
    ∙ take-append-add (print_request h) r (longest_head - length (print_request h)) in
    nor h (take (longest_head - length (print_request h)) r) (x.reads.0, cut)

pub ok_or_err : (a : Asked) (e : HttpRefusal) (r : Result Asked HttpRefusal) → r ≡ Ok a → r ≡ Err e → ⊥
ok_or_err a e r p q = true≢false (ap is_ok (sym p ∙ q))

ok_or : Asked → Result Asked HttpRefusal → Asked
ok_or d (Ok a) = a
ok_or d (Err e) = d

err_or : HttpRefusal → Result Asked HttpRefusal → HttpRefusal
err_or d (Ok a) = d
err_or d (Err e) = e

asks_or_refuses : (bytes : List ℕ) (route : Route) (body rest : List ℕ) (close : Bool) (e : HttpRefusal) (b : Bool)
    → AsksFirst bytes route body close rest → RefusesFirst bytes e b → ⊥
asks_or_refuses bytes route body rest close e _ x (by_head h behind _ y bad) =
    let same = one_head bytes x.head h (body ++ rest) behind x.heads y in
    ok_or_err _ e (judged_head h) (subst (λ k. judged_head k ≡ Ok (record { route = route; length = length body; close = close })) same.0 x.asked) bad
asks_or_refuses bytes route body rest close _ _ x (by_line n y least) = not_hopeless bytes n x.head (body ++ rest) x.heads y
asks_or_refuses bytes route body rest close _ _ x (by_length enough no_head nor) = not_long bytes x.head (body ++ rest) x.heads no_head

-- lists of one length in front of joined lists
pub same_front : (a b r q : List ℕ) → a ++ r ≡ b ++ q → length a ≡ length b → a ≡ b
same_front a b r q same sized = sym (take-append_seam a r) ∙ (λ i. take (sized i) (same i)) ∙ take-append_seam b q

pub same_back : (a b r q : List ℕ) → a ++ r ≡ b ++ q → length a ≡ length b → r ≡ q
same_back a b r q same sized = sym (drop-append_seam a r) ∙ (λ i. drop (sized i) (same i)) ∙ drop-append_seam b q

-- bytes ask first for one request
record OneAsked (route route' : Route) (body body' : List ℕ) (close close' : Bool) (rest rest' : List ℕ) : Type 0 where
  routes : route ≡ route'
  bodies : body ≡ body'
  ends : close ≡ close'
  rests : rest ≡ rest'

one_asked : (bytes : List ℕ) (route route' : Route) (body body' rest rest' : List ℕ) (close close' : Bool)
    → AsksFirst bytes route body close rest → AsksFirst bytes route' body' close' rest' → OneAsked route route' body body' close close' rest rest'
unfolding ok_or
one_asked bytes route route' body body' rest rest' close close' x y =
    let same = one_head bytes x.head y.head (body ++ rest) (body' ++ rest') x.heads y.heads in
    let first : Asked = record { route = route; length = length body; close = close } in
    let asked : first ≡ record { route = route'; length = length body'; close = close' } =
    ap (ok_or first) (sym x.asked ∙ ap judged_head same.0 ∙ y.asked) in
    let sized : length body ≡ length body' = ap (λ (a : Asked). a.length) asked in
    record {
      routes = ap (λ (a : Asked). a.route) asked;
      bodies = same_front body body' rest rest' same.1 sized;
      ends = ap (λ (a : Asked). a.close) asked;
      rests = same_back body body' rest rest' same.1 sized;
    }

-- bytes are refused first in one way
one_refused : (bytes : List ℕ) (e f : HttpRefusal) (b c : Bool) → RefusesFirst bytes e b → RefusesFirst bytes f c → (e ≡ f) × (b ≡ c)
unfolding err_or
one_refused bytes e f _ _ (by_head h behind _ x bad) (by_head k rest _ y worse) =
    let same = one_head bytes h k behind rest x y in
    (ap (err_or e) (sym bad ∙ ap judged_head same.0 ∙ worse), ap is_for_head same.0)
one_refused bytes _ _ _ _ (by_head h behind _ x bad) (by_line m y least) = absurd (not_hopeless bytes m h behind x y)
one_refused bytes _ _ _ _ (by_head h behind _ x bad) (by_length enough no_head nor) = absurd (not_long bytes h behind x no_head)
one_refused bytes _ _ _ _ (by_line m y least) (by_head h behind _ x bad) = absurd (not_hopeless bytes m h behind x y)
one_refused bytes _ _ _ _ (by_line n x least) (by_line m y other) = (ap NotHttp (omega (arith, least m y, other n x)), refl)
one_refused bytes _ _ _ _ (by_line n x least) (by_length enough no_head nor) = absurd (nor n x)
one_refused bytes _ _ _ _ (by_length enough no_head nor) (by_head h behind _ x bad) = absurd (not_long bytes h behind x no_head)
one_refused bytes _ _ _ _ (by_length enough no_head nor) (by_line n x least) = absurd (nor n x)
one_refused bytes _ _ _ _ (by_length enough no_head nor) (by_length again no_other neither) = (refl, refl)

-- ---- all steps

pub stream_is_one : StreamIsOne
stream_is_one _ _ _ _ (full _) (full _) = refl
stream_is_one _ bytes _ _ (waits _ _ idle) (waits _ _ nor) = refl
stream_is_one _ bytes _ _ (waits _ _ idle) (refused _ _ e b x) = absurd (idle.none_refused e b x)
stream_is_one _ bytes _ _ (waits _ _ idle) (closes _ _ route body rest x) = absurd (idle.none_asked route body true rest x)
stream_is_one _ bytes _ _ (waits _ _ idle) (goes_on _ _ route body rest more x then_more) = absurd (idle.none_asked route body false rest x)
stream_is_one _ bytes _ _ (refused _ _ e b x) (waits _ _ idle) = absurd (idle.none_refused e b x)
stream_is_one _ bytes _ _ (refused _ _ e b x) (refused _ _ f c y) =
    let same = one_refused bytes e f b c x y in (λ i. Refuses (same.0 i) (same.1 i) ∷ [])
stream_is_one _ bytes _ _ (refused _ _ e b x) (closes _ _ route body rest y) = absurd (asks_or_refuses bytes route body rest true e b y x)
stream_is_one _ bytes _ _ (refused _ _ e b x) (goes_on _ _ route body rest more y then_more) = absurd (asks_or_refuses bytes route body rest false e b y x)
stream_is_one _ bytes _ _ (closes _ _ route body rest x) (waits _ _ idle) = absurd (idle.none_asked route body true rest x)
stream_is_one _ bytes _ _ (closes _ _ route body rest x) (refused _ _ e b y) = absurd (asks_or_refuses bytes route body rest true e b x y)
stream_is_one _ bytes _ _ (closes _ _ route body rest x) (closes _ _ route' body' rest' y) =
    let same = one_asked bytes route route' body body' rest rest' true true x y in (λ i. Asks (same.routes i) (same.bodies i) true ∷ [])
stream_is_one _ bytes _ _ (closes _ _ route body rest x) (goes_on _ _ route' body' rest' more y then_more) =
    absurd (true≢false (one_asked bytes route route' body body' rest rest' true false x y).ends)
stream_is_one _ bytes _ _ (goes_on _ _ route body rest more x then_more) (waits _ _ idle) = absurd (idle.none_asked route body false rest x)
stream_is_one _ bytes _ _ (goes_on _ _ route body rest more x then_more) (refused _ _ e b y) = absurd (asks_or_refuses bytes route body rest false e b x y)
stream_is_one _ bytes _ _ (goes_on _ _ route body rest more x then_more) (closes _ _ route' body' rest' y) =
    absurd (true≢false (sym (one_asked bytes route route' body body' rest rest' false true x y).ends))
stream_is_one _ bytes _ _ (goes_on k _ route body rest more x then_more) (goes_on _ _ route' body' rest' others y then_others) =
    let same = one_asked bytes route route' body body' rest rest' false false x y in
    let later = stream_is_one k rest' more others (subst (λ r. StepsOf k r more) same.rests then_more) then_others in
    (λ i. Asks (same.routes i) (same.bodies i) false ∷ later i)

pub passes-append : (bytes more rest : List ℕ) (steps : List Event) → Passes bytes steps rest → Passes (bytes ++ more) steps (rest ++ more)
passes-append bytes more _ _ (no_pass _) = no_pass (bytes ++ more)
passes-append bytes more _ _ (one_more _ middle rest steps route body before x) =
    one_more (bytes ++ more) (middle ++ more) (rest ++ more) steps route body (passes-append bytes more middle steps before)
    (asks-append middle more route body rest false x)

pub passed_steps : PassedSteps
passed_steps k bytes _ _ ys (no_pass _) steps = let count : k ≡ 0 + k = omega arith in subst (λ n. StepsOf n bytes ys) count steps
passed_steps k bytes _ _ ys (one_more _ middle rest xs route body before x) steps =
    let whole = passed_steps (suc k) bytes middle xs (Asks route body false ∷ ys) before (goes_on k middle route body rest ys x steps) in
    let count : length xs + suc k ≡ length (xs ++ Asks route body false ∷ []) + k = omega (arith, length-append xs (Asks route body false ∷ [])) in
    subst (λ n. StepsOf n bytes ((xs ++ Asks route body false ∷ []) ++ ys)) count
    (subst (λ s. StepsOf (length xs + suc k) bytes s) (sym (append_assoc xs (Asks route body false ∷ []) ys)) whole)
