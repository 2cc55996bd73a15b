-- What a feed tells of the bytes that it holds.
use Rattle.std.proofs.Common.{◌≡◌, ◌≢◌, ℕ, zero, suc, refl, ◌+◌, ◌-◌, ◌<◌, ◌≤◌, Bool, true, false, List, [], ◌∷◌, ◌++◌, length, take, drop, map, sym, ap}
use Rattle.std.proofs.Common.{◌∙◌, subst, arith, append_assoc, append-nil, inl, inr, Result, Ok, Err, length-append, get_or}
use Rattle.std.specs.Prelude.{slice_range, bytes_eq, codes, IsUtf8, ◌&&◌, ◌==◌, nat_lt, nat_le, if◌then◌else◌}
use Rattle.std.specs.List.{position_or_len}
use Rattle.std.specs.Str.{is_utf8}
use Rattle.std.proofs.lemmas.Str.{IsUtf8-from_is_utf8}
use Rattle.std.proofs.lemmas.List.{take-append-drop, length-take, length-drop, take-append-le, take-take, drop-take, drop-drop, drop-append-le}
use Rattle.std.proofs.lemmas.List.Folds.{drop_split}
use Rattle.std.proofs.lemmas.Bool.{cases_lt, true≢false}
use Rattle.std.proofs.Math.Seq.{drop-append_seam, get_or-append_seam, take-length}
use Rattle.httparse.specs.Grammar.{RequestHead, print_request, HasNoRequest}
use Rattle.httparse.specs.Spans.{IsRequestAt, span_bytes, header_bytes}
use Rattle.httparse.specs.declared.spans.HeaderSpan.{HeaderSpan}
use Rattle.httparse.specs.declared.spans.RequestSpans.{RequestSpans}
use Rattle.sheet_http.specs.declared.refusal.HttpRefusal.{HttpRefusal}
use Rattle.sheet_http.specs.declared.refusal.HttpRefusal.TheVariants.{HeadTooLong, NotHttp}
use Rattle.httparse.specs.declared.spans.Span.{Span}
use Rattle.sheet_requests.specs.declared.request.Route.{Route}
use Rattle.sheet_http.specs.declared.head.Demand.{Demand}
use Rattle.sheet_http.specs.declared.routes.Kind.{Kind}
use Rattle.sheet_http.specs.declared.routes.Kind.TheVariants as kind
use Rattle.sheet_requests.specs.declared.request.Route.TheVariants as route
use Rattle.sheet_http.specs.declared.feed.Known.{Known}
use Rattle.sheet_http.specs.declared.feed.Known.TheVariants as known
use Rattle.sheet_http.specs.Heads.{Asked, judged, judged_head, asked_in, shifted, route_from, has_name, is_route_name, path_of, route_of, route_at}
use Rattle.sheet_http.specs.Heads.{IsNamePlace, FindsRoute, Judges}
use Rattle.sheet_http.specs.Fields.{NameAndValue}
use Rattle.sheet_http.specs.Paths.{routed}
use Rattle.sheet_http.specs.Knowing.{IsDemanded, Knows, KnowsUpTo}
use Rattle.sheet_http.specs.Waiting.{bytes_wanted}
use Rattle.sheet_http.specs.Stream.{longest_head, Heads, IsHopeless, AsksFirst, RefusesFirst, head as by_head, hopeless as by_line, long as by_length}
use Rattle.sheet_http.specs.Stream.{HasNoStep}
use Rattle.std.specs.Prelude.{Option, Some, None}
use Rattle.sheet_http.specs.Searching.{IsOpen}
use Rattle.sheet_http.specs.Steps.{AreWithin, room}
use Rattle.sheet_http.specs.Lacking.{Lacks}
use Rattle.sheet_http.specs.Lacking as lacking
use Rattle.sheet_http.proofs.SearchLemmas.{head_ends, open_more, open_all}
use Rattle.sheet_http.proofs.StreamLemmas.{heads-append, refuses-append, hopeless_cut, hopeless_within, one_head, not_hopeless, not_long, ok_or_err}

-- no head yet, and none is ruled out
pub open_step : (b : List ℕ) → length b < longest_head → HasNoRequest b → ((m : ℕ) → IsHopeless b m → length b < m) → HasNoStep b × (length b < room)
open_step b short headless hope = (
  record {
    none_asked = λ route body close rest x. headless x.head (body ++ rest) x.heads.reads;
    none_refused = none;
  },
  omega (arith, short),
)
  where
    none : (e : HttpRefusal) (c : Bool) → RefusesFirst b e c → ⊥
    none e _ (by_head h behind _ x bad) = headless h behind x.reads
    none _ _ (by_line n x least) = omega (arith, hope n x, hopeless_within b n x)
    none _ _ (by_length enough no_head nor) = omega (arith, enough, short)

pub long_step : (b : List ℕ) → longest_head ≤ length b → HasNoRequest (take longest_head b) → ((m : ℕ) → IsHopeless b m → longest_head < m)
    → RefusesFirst b HeadTooLong false
long_step b enough headless hope = by_length enough headless (λ n x. omega (arith, hope n x, x.short))

pub hopeless_step : (b : List ℕ) (n : ℕ) → IsHopeless b n × ((m : ℕ) → IsHopeless b m → n ≤ m) → RefusesFirst b (NotHttp n) false
hopeless_step b n x = by_line n x.0 x.1

-- the whole head of a line is the head of all
whole_heads : (b : List ℕ) (n : ℕ) (fields : List HeaderSpan) (s : RequestSpans) (h : RequestHead) → n ≤ length b → n ≤ longest_head
    → IsRequestAt (take n b) fields s h
    → Heads b h (drop s.len b)
whole_heads b n fields s h inside short x =
    let line = take n b in
    let print = print_request h in
    let split : b ≡ print ++ (drop s.len line ++ drop n b) =
    sym (take-append-drop n b) ∙ ap (λ (t : List ℕ). t ++ drop n b) x.reads.1 ∙ append_assoc print (drop s.len line) (drop n b) in
    let behind : drop s.len line ++ drop n b ≡ drop s.len b =
    sym (drop-append_seam print (drop s.len line ++ drop n b)) ∙ (λ i. drop (sym x.len i) (sym split i)) in
    let long : length print ≤ length line = omega (arith, ap length x.reads.1, length-append print (drop s.len line)) in
    record {
      reads = (x.reads.0, split ∙ ap (λ (t : List ℕ). print ++ t) behind);
      short = omega (arith, long, length-take n b, short);
    }

-- what is judged by spans is what the head asks for
judged_by_spans : (line : List ℕ) (fields : List HeaderSpan) (s : RequestSpans) (h : RequestHead) → IsRequestAt line fields s h
    → judged (span_bytes line s.method) (span_bytes line s.path) s.version (map (header_bytes line) (take s.headers fields)) ≡ judged_head h
judged_by_spans line fields s h x = λ i. judged (x.method i) (x.path i) (x.version i) (x.fields i)

-- what is answered is answered of equal parts
pub judges_same : (r : Result Demand HttpRefusal) (m m' t t' : List ℕ) (v : ℕ) (fs fs' : List NameAndValue) → m ≡ m' → t ≡ t' → fs ≡ fs'
    → Judges t r (judged m t v fs) → Judges t' r (judged m' t' v fs')
judges_same r m m' t t' v fs fs' methods targets fields x =
    subst (λ k. Judges t' r (judged k t' v fs')) methods
    (subst (λ k. Judges t' r (judged m t' v k)) fields (subst (λ k. Judges k r (judged m k v fs)) targets x))

pub refused_step : (b : List ℕ) (n : ℕ) (fields : List HeaderSpan) (s : RequestSpans) (h : RequestHead) (e : HttpRefusal) → n ≤ length b → n ≤ longest_head
    → IsRequestAt (take n b) fields s h
    → judged (span_bytes (take n b) s.method) (span_bytes (take n b) s.path) s.version (map (header_bytes (take n b)) (take s.headers fields)) ≡ Err e
    → RefusesFirst b e (bytes_eq (span_bytes (take n b) s.method) (codes "HEAD"))
refused_step b n fields s h e inside short x bad =
    let same = judged_by_spans (take n b) fields s h x in
    subst (λ m. RefusesFirst b e (bytes_eq m (codes "HEAD"))) (sym x.method)
    (by_head h (drop s.len b) e (whole_heads b n fields s h inside short x) (sym same ∙ bad))

-- ---- places in parts of bytes

inner_range : (xs : List ℕ) (s e a b : ℕ) → a ≤ b → s + b ≤ e → slice_range (slice_range xs s e) a b ≡ slice_range xs (s + a) (s + b)
inner_range xs s e a b ordered within =
    let split : e - s ≡ a + (e - s - a) = omega (arith, ordered, within) in
    let width : b - a ≡ s + b - (s + a) = omega (arith, ordered) in
    ap (λ k. take (b - a) (drop a (take k (drop s xs)))) split
    ∙ ap (take (b - a)) (drop-take a (e - s - a) (drop s xs))
    ∙ take-take (b - a) (e - s - a) (drop a (drop s xs)) (omega (arith, ordered, within))
    ∙ (λ i. take (width i) (drop-drop a s xs i))

front_range : (xs : List ℕ) (n a b : ℕ) → a ≤ b → b ≤ n → slice_range (take n xs) a b ≡ slice_range xs a b
front_range xs n a b ordered within =
    let split : n ≡ a + (n - a) = omega (arith, ordered, within) in
    ap (λ k. take (b - a) (drop a (take k xs))) split ∙ ap (take (b - a)) (drop-take a (n - a) xs)
    ∙ take-take (b - a) (n - a) (drop a xs) (omega (arith, ordered, within))

name_range : (xs : List ℕ) (n s e a b : ℕ) → a ≤ b → s + b ≤ e → e ≤ n → slice_range (slice_range (take n xs) s e) a b ≡ slice_range xs (s + a) (s + b)
name_range xs n s e a b ordered within short =
    inner_range (take n xs) s e a b ordered within ∙ front_range xs n (s + a) (s + b) (omega (arith, ordered)) (omega (arith, within, short))

range-append : (xs more : List ℕ) (a b : ℕ) → a ≤ b → b ≤ length xs → slice_range (xs ++ more) a b ≡ slice_range xs a b
range-append xs more a b ordered within =
    ap (take (b - a)) (drop-append-le a xs more (omega (arith, ordered, within)))
    ∙ take-append-le (b - a) (drop a xs) more (omega (arith, ordered, within, length-drop a xs))

range_length : (xs : List ℕ) (a b : ℕ) → a ≤ b → b ≤ length xs → length (slice_range xs a b) ≡ b - a
range_length xs a b ordered within = omega (arith, ordered, within, length-take (b - a) (drop a xs), length-drop a xs)

split_range : (b : List ℕ) (from n : ℕ) → from + n ≤ length b → drop from b ≡ slice_range b from (from + n) ++ drop (from + n) b
split_range b from n inside = drop_split b from (from + n) (omega arith)

-- ---- the route of a target

prefix_take : (n : ℕ) (xs : List ℕ) → take n xs ≡ take (length (take n xs)) xs
prefix_take zero xs = refl
prefix_take (suc n) [] = refl
prefix_take (suc n) (x ∷ xs) = ap (λ t. x ∷ t) (prefix_take n xs)

-- what stands behind a place of a path, as a place in the target
path_range : (target path : List ℕ) (n start : ℕ) → path ≡ take n target → start ≤ length path → drop start path ≡ slice_range target start (length path)
path_range target path n start is within =
    let long : length (take n target) ≡ length path = sym (ap length is) in
    let whole : path ≡ take (length path) target = is ∙ prefix_take n target ∙ ap (λ k. take k target) long in
    let split : length path ≡ start + (length path - start) = omega (arith, within) in
    ap (drop start) (whole ∙ ap (λ k. take k target) split) ∙ drop-take start (length path - start) target

found_route : (k : Kind) (name : List ℕ) → (has_name k ≡ true → is_route_name name ≡ true) → route_of (Some (k, name)) ≡ Some (route_from k name)
found_route kind.Do name is = ap (λ b. if b then Some (route.Do name) else None) (is refl)
found_route kind.See name is = ap (λ b. if b then Some (route.See name) else None) (is refl)
found_route kind.Reads name is = ap (λ b. if b then Some (route.Reads name) else None) (is refl)
found_route kind.Admit name is = refl
found_route kind.Stats name is = refl

pub route_step : (target path : List ℕ) (k : Kind) (start : ℕ) → path ≡ path_of target → start ≤ length path → routed path ≡ Some (k, drop start path)
    → (has_name k ≡ true → is_route_name (drop start path) ≡ true)
    → FindsRoute target (Some (k, record { start = start; end = length path })) (route_at target)
route_step target path k start is within found name =
    let same : drop start path ≡ slice_range target start (length path) = path_range target path (position_or_len (λ b. b == 63) target) start is within in (
      ap (λ p. route_of (routed p)) (sym is) ∙ ap route_of found ∙ found_route k (drop start path) name ∙ ap (λ t. Some (route_from k t)) same,
      record {
        ordered = within;
        within = omega (arith, ap length is, length-take (position_or_len (λ b. b == 63) target) target);
        name = λ has. subst (λ t. is_route_name t ≡ true) same (name has);
      },
    )

-- a name that was found is UTF-8
and_right : (a b : Bool) → (a && b) ≡ true → b ≡ true
and_right true b is = is
and_right false b is = absurd (true≢false (sym is))

pub name_text : (bytes : List ℕ) → is_route_name bytes ≡ true → IsUtf8 bytes
name_text bytes is = IsUtf8-from_is_utf8 bytes (and_right (nat_lt 0 (length bytes) && nat_le (length bytes) 63) (is_utf8 bytes) is)

pub no_text : (bytes : List ℕ) → (IsUtf8 bytes → ⊥) → false ≡ is_utf8 bytes
no_text bytes none = by (is_utf8 bytes) refl
  where
    by : (b : Bool) → is_utf8 bytes ≡ b → false ≡ b
    by true is = absurd (none (IsUtf8-from_is_utf8 bytes is))
    by false is = refl

-- ---- what a whole head asks for

pub head_length : (b : List ℕ) (n : ℕ) (fields : List HeaderSpan) (s : RequestSpans) (h : RequestHead) → n ≤ length b
    → IsRequestAt (take n b) fields s h → s.len ≤ n
head_length b n fields s h inside x =
    omega (arith, ap length x.reads.1, length-append (print_request h) (drop s.len (take n b)), x.len, length-take n b, inside)

-- the end of the name, from the beginning of the bytes on
pub name_end : (line : List ℕ) (p : Span) (len count : ℕ) (k : Kind) (name : Span) → p.start ≤ p.end → p.end ≤ len → len ≤ length line
    → IsNamePlace (span_bytes line p) k name
    → p.start + name.end ≤ p.end
name_end line p len count k name ordered short within place =
    omega (arith, ordered, short, within, place.within, range_length line p.start p.end ordered (omega (arith, short, within)))

pub demanded_step : (b : List ℕ) (n : ℕ) (fields : List HeaderSpan) (s : RequestSpans) (h : RequestHead) (d : Demand) → n ≤ length b → n ≤ longest_head
    → IsRequestAt (take n b) fields s h → s.path.start ≤ s.path.end → s.path.end ≤ s.len
    → Judges (span_bytes (take n b) s.path) (Ok d)
    (judged (span_bytes (take n b) s.method) (span_bytes (take n b) s.path) s.version (map (header_bytes (take n b)) (take s.headers fields)))
    → IsDemanded b (shifted d s.path.start) s.len
demanded_step b n fields s h d inside short x ordered last answer =
    let target = span_bytes (take n b) s.path in
    let long = head_length b n fields s h inside x in
    let place = answer.1 in
    let line_long : length (take n b) ≡ n = omega (arith, length-take n b, inside) in
    let end : s.path.start + d.name.end ≤ s.path.end = name_end (take n b) s.path s.len n d.kind d.name ordered last (omega (arith, long, line_long)) place in
    let same : span_bytes target d.name ≡ slice_range b (s.path.start + d.name.start) (s.path.start + d.name.end) =
    name_range b n s.path.start s.path.end d.name.start d.name.end place.ordered end (omega (arith, last, long)) in
    record {
      head = h;
      heads = whole_heads b n fields s h inside short x;
      within = omega (arith, long, inside);
      short = omega (arith, long, short);
      asked = sym (judged_by_spans (take n b) fields s h x) ∙ answer.0
          ∙ (λ i. Ok (record { route = route_from d.kind (same i); length = d.length; close = d.close }));
      place = record {
        ordered = omega (arith, place.ordered);
        within = omega (arith, end, last, long, inside);
        name = λ has. subst (λ t. is_route_name t ≡ true) same (place.name has);
      };
      few = answer.2;
    }

ok_of : Asked → Result Asked HttpRefusal → Asked
ok_of d (Ok k) = k
ok_of d (Err e) = d

-- a head asks for one thing
pub asks_one : (h : RequestHead) (a c : Asked) → judged_head h ≡ Ok a → judged_head h ≡ Ok c → a ≡ c
unfolding ok_of
asks_one h a c asks wants = ap (ok_of a) (sym asks ∙ wants)

-- who asks for something is not refused
pub asked_stays : (b : List ℕ) (h : RequestHead) (behind : List ℕ) (a : Asked) → Heads b h behind → judged_head h ≡ Ok a
    → (e : HttpRefusal) (c : Bool) → RefusesFirst b e c → ⊥
asked_stays b h behind a x asked e _ (by_head k after _ y bad) =
    ok_or_err a e (judged_head h) asked (ap judged_head (one_head b h k behind after x y).0 ∙ bad)
asked_stays b h behind a x asked _ _ (by_line m y least) = not_hopeless b m h behind x y
asked_stays b h behind a x asked _ _ (by_length enough no_head nor) = not_long b h behind x no_head

-- its body isn't there yet
pub none_yet : (b : List ℕ) (h : RequestHead) (behind : List ℕ) (a : Asked) → Heads b h behind → judged_head h ≡ Ok a → length behind < a.length
    → HasNoStep b
none_yet b h behind a x asked less = record {
  none_asked = λ route body close rest y.
      let same = one_head b h y.head behind (body ++ rest) x y.heads in
      let size : a.length ≡ length body = ap (λ (k : Asked). k.length) (asks_one h a _ asked (ap judged_head same.0 ∙ y.asked)) in
      omega (arith, less, size, ap length same.1, length-append body rest);
  none_refused = asked_stays b h behind a x asked;
}

pub more_step : (b : List ℕ) (d : Demand) (n : ℕ) → IsDemanded b d n → length b - n < d.length → HasNoStep b × (length b < room)
more_step b d n x less = (
  none_yet b x.head (drop n b) (asked_in b d) x.heads x.asked (omega (arith, less, length-drop n b)),
  omega (arith, less, x.few, x.short, x.within),
)

-- its body is there
pub whole_step : (b : List ℕ) (d : Demand) (n : ℕ) (route : Route) → IsDemanded b d n → n + d.length ≤ length b
    → route ≡ route_from d.kind (span_bytes b d.name)
    → AsksFirst b route (slice_range b n (n + d.length)) d.close (drop (n + d.length) b)
whole_step b d n route x fits same =
    let split : drop n b ≡ slice_range b n (n + d.length) ++ drop (n + d.length) b = split_range b n d.length fits in
    let size : length (slice_range b n (n + d.length)) ≡ d.length = omega (arith, range_length b n (n + d.length) (omega arith) fits) in
    record {
      head = x.head;
      heads = subst (Heads b x.head) split x.heads;
      asked = x.asked ∙ (λ i. Ok (record { route = sym same i; length = sym size i; close = d.close }));
    }

-- nothing was judged yet
pub open_start : (b : List ℕ) → IsOpen b 0
open_start b = record {
  within = omega arith;
  short = omega arith;
  none = λ h rest x. let end = head_ends h in omega
      (arith, ap length x.1, length-append (print_request h) rest, ap length end.1, length-append end.0 (10 ∷ []));
  hope = λ m y. omega (arith, y.place);
}

-- no byte came
pub knows_start : (b : List ℕ) → b ≡ [] → Knows b known.Open
knows_start b none = subst (λ t. Knows t known.Open) (sym none) (open_start [], omega arith)

-- more bytes came
pub open-append : (b more : List ℕ) (n : ℕ) → IsOpen b n → IsOpen (b ++ more) n
open-append b more n x = record {
  within = omega (arith, x.within, length-append b more);
  short = x.short;
  none = subst HasNoRequest (sym (take-append-le n b more x.within)) x.none;
  hope = λ m y. elim (cases_lt (length b) m) [
    | inl outside ↦ omega (arith, x.within, outside)
    | inr inside ↦ x.hope m (hopeless_cut b more m y inside)
  ];
}

pub within_more : (told : Option (ℕ × ℕ)) (n m : ℕ) → n ≤ m → AreWithin told n → AreWithin told m
within_more None n m more within = tt
within_more (Some (from, until)) n m more within = (within.0, omega (arith, within.1, more))

-- what is known stays known where more bytes come
pub knows-append : (b more : List ℕ) (k : Known) → Knows b k → KnowsUpTo (b ++ more) (length b) k
knows-append b more known.Open x = open-append b more (length b) x.0
knows-append b more (known.Refused e c) x = refuses-append b more e c x
knows-append b more (known.Asked d n) x =
    let same : slice_range (b ++ more) d.name.start d.name.end ≡ span_bytes b d.name =
    range-append b more d.name.start d.name.end x.place.ordered x.place.within in
    record {
      head = x.head;
      heads = subst (Heads (b ++ more) x.head) (sym (drop-append-le n b more x.within)) (heads-append b more x.head (drop n b) x.heads);
      within = omega (arith, x.within, length-append b more);
      short = x.short;
      asked = x.asked ∙ (λ i. Ok (record { route = route_from d.kind (sym same i); length = d.length; close = d.close }));
      place = record {
        ordered = x.place.ordered;
        within = omega (arith, x.place.within, length-append b more);
        name = λ has. subst (λ t. is_route_name t ≡ true) (sym same) (x.place.name has);
      };
      few = x.few;
    }

-- one byte came, which is no line feed
pub line_goes_on : (b : List ℕ) (x : ℕ) → Knows b known.Open → length b + 1 < longest_head → x ≢ 10 → Knows (b ++ x ∷ []) known.Open
line_goes_on b x old short other =
    let end : length b + 1 ≡ length (b ++ x ∷ []) = omega (arith, length-append b (x ∷ [])) in
    let inside : length b < length (b ++ x ∷ []) = omega (arith, end) in
    let here : x ≡ get_or (b ++ x ∷ []) (length b) 0 = sym (get_or-append_seam b x [] 0) in
    let more = open_more (b ++ x ∷ []) (length b) x (open-append b (x ∷ []) (length b) old.0) inside (omega (arith, short)) here other in
    (subst (IsOpen (b ++ x ∷ [])) end more, omega (arith, end, short))

-- all lines were judged, and none is without hope
pub open_known : (b : List ℕ) → length b < longest_head → HasNoRequest b → ((m : ℕ) → IsHopeless b m → length b < m) → Knows b known.Open
open_known b short headless hope = (
  record { within = omega arith; short = omega (arith, short); none = subst HasNoRequest (sym (take-length b)) headless; hope = hope },
  short,
)

pub open_none : (b : List ℕ) → Knows b known.Open → HasNoStep b × (length b < room)
open_none b x = open_step b x.1 (open_all b (length b) x.0 refl) x.0.hope

-- ---- what a feed waits for

-- there is room for what is wanted
pub wanted_fits : (b : List ℕ) (k : Known) → Knows b k → bytes_wanted k (length b) ≤ room
wanted_fits b known.Open x = omega (arith, x.1)
wanted_fits b (known.Refused _ _) x = omega arith
wanted_fits b (known.Asked d m) x = omega (arith, x.short, x.few)

-- where less than what is lacking comes, nothing is to be judged
pub knows_short : (b more : List ℕ) (k : Known) → Knows b k → length more < bytes_wanted k (length b) - length b
    → Knows (b ++ more) k × (bytes_wanted k (length b) ≡ bytes_wanted k (length (b ++ more)))
knows_short b [] k x less = subst (λ t. Knows t k × (bytes_wanted k (length b) ≡ bytes_wanted k (length t))) (sym (append-nil b)) (x, refl)
knows_short b (y ∷ ys) known.Open x less = absurd (omega (arith, less))
knows_short b (y ∷ ys) (known.Refused _ _) x less = absurd (omega (arith, less))
knows_short b (y ∷ ys) (known.Asked d m) x less = (knows-append b (y ∷ ys) (known.Asked d m) x, refl)

-- what is lacking
pub lacks : (b : List ℕ) (k : Known) → Knows b k → Lacks b (bytes_wanted k (length b) - length b)
lacks b known.Open x =
    let one : 1 ≡ length b + 1 - length b = omega arith in
    let headless = open_all b (length b) x.0 refl in
    subst (Lacks b) one (lacking.head (open_none b x).0 (λ h behind y. headless h behind y.reads))
lacks b (known.Refused e c) x =
    let none : 0 ≡ 0 - length b = omega arith in
    subst (Lacks b) none (lacking.refused e c x)
lacks b (known.Asked d n) x =
    let left : d.length - length (drop n b) ≡ n + d.length - length b = omega (arith, x.within, length-drop n b) in
    subst (Lacks b) left (lacking.body x.head (drop n b) (asked_in b d) x.heads x.asked)
