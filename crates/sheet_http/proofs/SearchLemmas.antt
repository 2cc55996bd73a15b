-- The search for the end of a head, one byte after another.
use Rattle.std.proofs.Common.{◌≡◌, ◌≢◌, ◌⊎◌, ℕ, zero, suc, ◌+◌, ◌-◌, ◌<◌, ◌≤◌, List, [], ◌∷◌, ◌++◌, length, take, drop, flat_map, get_or, refl, sym, ap}
use Rattle.std.proofs.Common.{◌∙◌, subst, arith, append_assoc, append-nil, inl, inr, length-append}
use Rattle.std.proofs.lemmas.List.{take-append-drop, length-take, length-drop, take-take, get_or-take, get_or-drop}
use Rattle.std.proofs.lemmas.Bool.{cases_lt, eq-eqb, eqb-true}
use Rattle.std.proofs.Math.Seq.{take-append_seam, take-length}
use Rattle.httparse.specs.Grammar.{LineEnd, crlf, lf, print_end, print_blank, print_version, print_field, print_section, RequestHead, print_request}
use Rattle.httparse.specs.Grammar.{ReadsRequest, HasNoRequest, NeverHasRequest}
use Rattle.memchr.specs.Find.{IsLastByte, Passes, is_byte}
use Rattle.std.specs.Prelude.{slice_range, Option, Some, None, option_map}
use Rattle.sheet_http.specs.Lines.{MayBecomeHead}
use Rattle.sheet_http.specs.Stream.{longest_head, IsHopeless}
use Rattle.sheet_http.specs.Searching.{IsOpen, IsLastFeed}
use Rattle.sheet_http.proofs.StreamLemmas.{same_front, same_back, length_of_front}

-- what ends a list
snoc_cases : (r : List ℕ) → (r ≡ []) ⊎ ((q : List ℕ) × (y : ℕ) × (r ≡ q ++ y ∷ []))
snoc_cases [] = inl refl
snoc_cases (y ∷ ys) = elim (snoc_cases ys) [
  | inl e ↦ inr ([], y, ap (λ t. y ∷ t) e)
  | inr s ↦ inr (y ∷ s.0, s.1, ap (λ t. y ∷ t) s.2)
]

head_or : List ℕ → ℕ
head_or [] = 0
head_or (x ∷ xs) = x

pub snoc_same : (a b : List ℕ) (x y : ℕ) → a ++ x ∷ [] ≡ b ++ y ∷ [] → (a ≡ b) × (x ≡ y)
unfolding head_or
snoc_same a b x y same =
    let long : length a ≡ length b = omega (arith, ap length same, length-append a (x ∷ []), length-append b (y ∷ [])) in
    (same_front a b (x ∷ []) (y ∷ []) same long, ap head_or (same_back a b (x ∷ []) (y ∷ []) same long))

-- a head ends in a line feed
end_ends : (e : LineEnd) → (front : List ℕ) × (print_end e ≡ front ++ 10 ∷ [])
end_ends crlf = (13 ∷ [], refl)
end_ends lf = ([], refl)

ends_behind : (a b : List ℕ) → ((front : List ℕ) × (b ≡ front ++ 10 ∷ [])) → (front : List ℕ) × (a ++ b ≡ front ++ 10 ∷ [])
ends_behind a b x = (a ++ x.0, ap (λ (t : List ℕ). a ++ t) x.1 ∙ sym (append_assoc a x.0 (10 ∷ [])))

pub head_ends : (h : RequestHead) → (front : List ℕ) × (print_request h ≡ front ++ 10 ∷ [])
unfolding print_request
head_ends h =
    let section = ends_behind (flat_map print_field h.fields) (print_end h.last) (end_ends h.last) in
    ends_behind (print_blank h.blank ++ h.method ++ 32 ∷ h.target ++ 32 ∷ print_version h.minor ++ print_end h.line_end) (print_section h.fields h.last) section

-- a byte that is no line feed makes no head
no_head_more : (t : List ℕ) (x : ℕ) → HasNoRequest t → x ≢ 10 → HasNoRequest (t ++ x ∷ [])
no_head_more t x before other h r reads = elim (snoc_cases r) [
  | inl e ↦
      let end = head_ends h in
      let same : t ++ x ∷ [] ≡ end.0 ++ 10 ∷ [] = reads.1 ∙ ap (λ (q : List ℕ). print_request h ++ q) e ∙ append-nil (print_request h) ∙ end.1 in
      other (snoc_same t end.0 x 10 same).1
  | inr s ↦
      let same : t ++ x ∷ [] ≡ (print_request h ++ s.0) ++ s.1 ∷ [] =
      reads.1 ∙ ap (λ (q : List ℕ). print_request h ++ q) s.2 ∙ sym (append_assoc (print_request h) s.0 (s.1 ∷ [])) in
      before h s.0 (reads.0, (snoc_same t (print_request h ++ s.0) x s.1 same).0)
]

-- the bytes up to one more
pub take_one : (b : List ℕ) (p : ℕ) (x : ℕ) → p < length b → x ≡ get_or b p 0 → take (p + 1) b ≡ take p b ++ x ∷ []
take_one [] p x inside same = absurd (omega (arith, inside))
take_one (y ∷ b) zero x inside same = ap (λ z. z ∷ []) (sym same)
take_one (y ∷ b) (suc p) x inside same =
    let e : suc p + 1 ≡ suc (p + 1) = omega arith in
    rw e (ap (λ t. y ∷ t) (take_one b p x (omega (arith, inside)) same))

hopeless_line : (b : List ℕ) (n : ℕ) (x : IsHopeless b n) → take n b ≡ x.front ++ 10 ∷ []
hopeless_line b n x =
    let long = length_of_front x.front n x.place in
    sym (ap (λ k. take k b) long) ∙ ap (take (length (x.front ++ 10 ∷ []))) x.feed ∙ take-append_seam (x.front ++ 10 ∷ []) x.behind

pub open_more : (b : List ℕ) (p x : ℕ) → IsOpen b p → p < length b → p < longest_head → x ≡ get_or b p 0 → x ≢ 10 → IsOpen b (p + 1)
open_more b p x old inside room same other =
    let front = take_one b p x inside same in
    record {
      within = omega (arith, inside);
      short = omega (arith, room);
      none = subst HasNoRequest (sym front) (no_head_more (take p b) x old.none other);
      hope = λ m y. elim (cases_lt (p + 1) m) [
        | inl above ↦ above
        | inr below ↦
            let here : m ≡ p + 1 = omega (arith, below, old.hope m y) in
            let line : take p b ++ x ∷ [] ≡ y.front ++ 10 ∷ [] = sym front ∙ ap (λ k. take k b) (sym here) ∙ hopeless_line b m y in
            absurd (other (snoc_same (take p b) y.front x 10 line).1)
      ];
    }

pub open_line : (b : List ℕ) (p : ℕ) → IsOpen b p → p < length b → p < longest_head → HasNoRequest (take (p + 1) b) → MayBecomeHead (take (p + 1) b)
    → IsOpen b (p + 1)
open_line b p old inside room headless may = record {
  within = omega (arith, inside);
  short = omega (arith, room);
  none = headless;
  hope = λ m y. elim (cases_lt (p + 1) m) [
    | inl above ↦ above
    | inr below ↦
        let here : m ≡ p + 1 = omega (arith, below, old.hope m y) in
        let line : y.front ++ 10 ∷ [] ≡ take (p + 1) b = sym (hopeless_line b m y) ∙ ap (λ k. take k b) here in
        absurd (subst NeverHasRequest line y.never may.0 may.1 [] may.2)
  ];
}

pub hopeless_here : (b : List ℕ) (p x : ℕ) → IsOpen b p → p < length b → p < longest_head → x ≡ get_or b p 0 → x ≡ 10 → NeverHasRequest (take (p + 1) b)
    → IsHopeless b (p + 1) × ((m : ℕ) → IsHopeless b m → p + 1 ≤ m)
hopeless_here b p x old inside room same feed never =
    let front : take (p + 1) b ≡ take p b ++ 10 ∷ [] = take_one b p x inside same ∙ ap (λ z. take p b ++ z ∷ []) feed in (
      record {
        front = take p b;
        behind = drop (p + 1) b;
        feed = sym (take-append-drop (p + 1) b) ∙ ap (λ (t : List ℕ). t ++ drop (p + 1) b) front;
        place = omega (arith, inside, length-take p b);
        short = omega (arith, room);
        never = subst NeverHasRequest front never;
      },
      λ m y. omega (arith, old.hope m y),
    )

-- the bytes that were judged are all of them
pub open_all : (b : List ℕ) (n : ℕ) → IsOpen b n → n ≡ length b → HasNoRequest b
open_all b n old all = subst HasNoRequest (ap (λ k. take k b) all ∙ take-length b) old.none

-- ---- many lines at once

-- bytes among which there is no line feed make no head
pub open_skip : (b : List ℕ) (n d : ℕ) → IsOpen b n → n + d ≤ length b → n + d ≤ longest_head
    → ((k : ℕ) → n ≤ k → k < n + d → get_or b k 0 ≢ 10) → IsOpen b (n + d)
open_skip b n zero old inside short none = subst (IsOpen b) (omega arith) old
open_skip b n (suc d) old inside short none =
    let before = open_skip b n d old (omega (arith, inside)) (omega (arith, short)) (λ k low high. none k low (omega (arith, high))) in
    subst (IsOpen b) (omega arith)
    (open_more b (n + d) (get_or b (n + d) 0) before (omega (arith, inside)) (omega (arith, short)) refl (none (n + d) (omega arith) (omega arith)))

pub open_until : (b : List ℕ) (n e : ℕ) → IsOpen b n → n ≤ e → e ≤ length b → e ≤ longest_head
    → ((k : ℕ) → n ≤ k → k < e → get_or b k 0 ≢ 10) → IsOpen b e
open_until b n e old ordered inside short none =
    let same : n + (e - n) ≡ e = omega (arith, ordered) in
    subst (IsOpen b) same
    (open_skip b n (e - n) old (omega (arith, same, inside)) (omega (arith, same, short)) (λ k low high. none k low (omega (arith, same, high))))

-- where the bytes up to a line feed begin a head, no line feed before it is without hope
pub open_jump : (b : List ℕ) (p : ℕ) → p < length b → p < longest_head → HasNoRequest (take (p + 1) b) → MayBecomeHead (take (p + 1) b)
    → IsOpen b (p + 1)
open_jump b p inside room headless may = record {
  within = omega (arith, inside);
  short = omega (arith, room);
  none = headless;
  hope = λ m y. elim (cases_lt (p + 1) m) [
    | inl above ↦ above
    | inr below ↦
        let line : take m b ≡ y.front ++ 10 ∷ [] = hopeless_line b m y in
        let rest = drop m (take (p + 1) b) in
        let whole : take (p + 1) b ≡ (y.front ++ 10 ∷ []) ++ rest =
        sym (take-append-drop m (take (p + 1) b)) ∙ ap (λ (t : List ℕ). t ++ rest) (take-take m (p + 1) b below ∙ line) in
        let longer : take (p + 1) b ++ may.0 ≡ (y.front ++ 10 ∷ []) ++ (rest ++ may.0) =
        ap (λ (t : List ℕ). t ++ may.0) whole ∙ append_assoc (y.front ++ 10 ∷ []) rest may.0 in
        absurd (y.never (rest ++ may.0) may.1 [] (subst (λ t. ReadsRequest t may.1 []) longer may.2))
  ];
}

-- a byte of a part of bytes
pub part_byte : (b : List ℕ) (s e k : ℕ) → s ≤ k → k < e → get_or (take (e - s) (drop s b)) (k - s) 0 ≡ get_or b k 0
part_byte b s e k low high =
    let place : s + (k - s) ≡ k = omega (arith, low) in
    get_or-take (e - s) (drop s b) (k - s) 0 (omega (arith, low, high)) ∙ get_or-drop s b (k - s) 0 ∙ ap (λ i. get_or b i 0) place

feed_passes : (b : List ℕ) (s e k : ℕ) → s ≤ k → k < e → get_or b k 0 ≡ 10 → Passes (is_byte 10) (slice_range b s e) (k - s)
feed_passes b s e k low high is = eq-eqb (get_or (slice_range b s e) (k - s) 0) 10 (part_byte b s e k low high ∙ is)

part_length : (b : List ℕ) (s e : ℕ) → s ≤ e → e ≤ length b → length (slice_range b s e) ≡ e - s
part_length b s e ordered inside = omega (arith, ordered, inside, length-take (e - s) (drop s b), length-drop s b)

-- the last line feed of a part, as a place in the whole
pub last_is : (b : List ℕ) (s e : ℕ) (r : Option ℕ) → s ≤ e → e ≤ length b → IsLastByte (is_byte 10) (slice_range b s e) r
    → IsLastFeed b s e (option_map (λ j. s + j) r)
last_is b s e None ordered inside none =
    λ k low high is. none (k - s) (omega arith) (omega (arith, low, high, part_length b s e ordered inside)) (feed_passes b s e k low high is)
last_is b s e (Some j) ordered inside x =
    let fits : j < e - s = omega (arith, x.0.high, part_length b s e ordered inside) in
    let place : s + j - s ≡ j = omega arith in
    let byte : get_or (slice_range b s e) j 0 ≡ get_or b (s + j) 0 =
    ap (λ i. get_or (slice_range b s e) i 0) (sym place) ∙ part_byte b s e (s + j) (omega arith) (omega (arith, fits, ordered)) in (
      omega arith,
      omega (arith, fits, ordered),
      sym byte ∙ eqb-true (get_or (slice_range b s e) j 0) 10 x.1,
      λ k low high is.
          x.0.after (k - s) (omega (arith, low)) (omega (arith, low, high, part_length b s e ordered inside))
          (feed_passes b s e k (omega (arith, low)) high is),
    )
