-- Lines up to a line feed that begin a head are a start line and whole fields.
use Rattle.std.proofs.Common.{◌≡◌, ◌≢◌, ◌⊎◌, ℕ, zero, suc, ◌+◌, ◌<◌, ◌≤◌, Bool, true, false, List, [], ◌∷◌, ◌++◌, length, take, drop, flat_map, get_or}
use Rattle.std.proofs.Common.{refl, sym, ap, ◌∙◌, subst, arith, append_assoc, append-nil, inl, inr, length-append, All}
use Rattle.std.specs.Prelude.{IsTrue, codes, nat_lt, slice_range}
use Rattle.std.proofs.lemmas.List.{take-append-drop, length-take, length-drop, take-append-le, take-take}
use Rattle.std.proofs.lemmas.List.Elements.{All-head, All-tail, All-cons, All-nil, All-append}
use Rattle.std.proofs.lemmas.List.Sums.{AllPass-from_list_all}
use Rattle.std.proofs.lemmas.Grind.{flat_map-append}
use Rattle.std.proofs.lemmas.Bool.{true≢false}
use Rattle.std.proofs.Math.Seq.{take-length}
use Rattle.httparse.specs.Grammar.{LineEnd, crlf, lf, print_end, print_blank, print_version, Field, IsField, print_field, print_section, AllPass}
use Rattle.httparse.specs.Grammar.{is_token_byte, is_uri_byte, is_value_byte, RequestHead, IsRequestHead, ReadsRequest}
use Rattle.httparse.specs.Grammar.{HasNoRequest, HasNoSection, MayBecomeSection}
use Rattle.httparse.proofs.GrammarLemmas.{cons-append, print_request-append, request_prefix_free}
use Rattle.sheet_http.specs.Lines.{MayBecomeHead}
use Rattle.sheet_http.specs.Fronts.{AreFields, begin, IsFront, IsKnownFront}

-- ---- texts without a line feed

-- none of the bytes is a line feed
abbrev HasNoFeed : List ℕ → Type 0
HasNoFeed xs = All (λ b. b ≢ 10) xs

pass_no_feed : (test : ℕ → Bool) → test 10 ≡ false → (xs : List ℕ) → AllPass test xs → HasNoFeed xs
pass_no_feed test feed [] all = All-nil (λ b. b ≢ 10)
pass_no_feed test feed (x ∷ xs) all =
    let here : test x ≡ true = All-head (λ b. IsTrue (test b)) x xs all in
    All-cons (λ b. b ≢ 10) x xs (λ is. true≢false (sym here ∙ ap test is ∙ feed))
    (pass_no_feed test feed xs (All-tail (λ b. IsTrue (test b)) x xs all))

one_no_feed : (x : ℕ) → x ≢ 10 → HasNoFeed (x ∷ [])
one_no_feed x other = All-cons (λ b. b ≢ 10) x [] other (All-nil (λ b. b ≢ 10))

-- what stands before the line feed of a line's end
before_end : LineEnd → List ℕ
before_end crlf = 13 ∷ []
before_end lf = []

end_is : (e : LineEnd) → print_end e ≡ before_end e ++ 10 ∷ []
unfolding before_end
end_is crlf = refl
end_is lf = refl

end_no_feed : (e : LineEnd) → HasNoFeed (before_end e)
unfolding before_end
end_no_feed crlf = one_no_feed 13 (λ is. omega (arith, is))
end_no_feed lf = All-nil (λ b. b ≢ 10)

joined_no_feed : (xs ys : List ℕ) → HasNoFeed xs → HasNoFeed ys → HasNoFeed (xs ++ ys)
joined_no_feed xs ys a b = All-append (λ b. b ≢ 10) xs ys a b

behind_no_feed : (xs : List ℕ) (y : ℕ) (ys : List ℕ) → HasNoFeed xs → y ≢ 10 → HasNoFeed ys → HasNoFeed (xs ++ y ∷ ys)
behind_no_feed xs y ys a other b = joined_no_feed xs (y ∷ ys) a (All-cons (λ b. b ≢ 10) y ys other b)

-- ---- the first line of a text

head_or : ℕ → List ℕ → ℕ
head_or d [] = d
head_or d (x ∷ xs) = x

tail_of : List ℕ → List ℕ
tail_of [] = []
tail_of (x ∷ xs) = xs

same_first : (x y : ℕ) (xs ys : List ℕ) → x ∷ xs ≡ y ∷ ys → (x ≡ y) × (xs ≡ ys)
unfolding head_or tail_of
same_first x y xs ys same = (ap (head_or 0) same, ap tail_of same)

-- a text that ends in a line feed holds the first line, or is it
pub cut : (front more u rest : List ℕ) → HasNoFeed u → front ++ 10 ∷ more ≡ u ++ 10 ∷ rest
    → ((front ≡ u) × (more ≡ rest)) ⊎ ((g : List ℕ) × (front ≡ u ++ 10 ∷ g) × (g ++ 10 ∷ more ≡ rest))
cut [] more [] rest none same = inl (refl, (same_first 10 10 more rest same).1)
cut (x ∷ front) more [] rest none same =
    let s = same_first x 10 (front ++ 10 ∷ more) rest same in
    inr (front, ap (λ y. y ∷ front) s.0, s.1)
cut [] more (y ∷ u) rest none same =
    absurd (All-head (λ b. b ≢ 10) y u none (sym (same_first 10 y more (u ++ 10 ∷ rest) same).0))
cut (x ∷ front) more (y ∷ u) rest none same =
    let s = same_first x y (front ++ 10 ∷ more) (u ++ 10 ∷ rest) same in
    elim (cut front more u rest (All-tail (λ b. b ≢ 10) y u none) s.1) [
      | inl e ↦ inl ((λ i. s.0 i ∷ e.0 i), e.1)
      | inr g ↦ inr (g.0, (λ i. s.0 i ∷ g.1 i), g.2)
    ]

nothing_less : (g more : List ℕ) → g ++ 10 ∷ more ≡ [] → ⊥
nothing_less g more same = omega (arith, ap length same, length-append g (10 ∷ more))

-- ---- fields

before_field : Field → List ℕ
before_field f = f.name ++ 58 ∷ (f.raw ++ before_end f.end)

field_is : (f : Field) (rest : List ℕ) → print_field f ++ rest ≡ before_field f ++ 10 ∷ rest
unfolding before_field
field_is f rest = ap (λ e. (f.name ++ 58 ∷ f.raw ++ e) ++ rest) (end_is f.end) ∙ regroup f.name f.raw (before_end f.end) rest
  where
    regroup : (n r e x : List ℕ) → (n ++ 58 ∷ r ++ (e ++ 10 ∷ [])) ++ x ≡ (n ++ 58 ∷ (r ++ e)) ++ 10 ∷ x
    regroup n r e x = simp (append_assoc, cons-append)

field_no_feed : (f : Field) → IsField f → HasNoFeed (before_field f)
unfolding before_field is_token_byte
field_no_feed f is =
    behind_no_feed f.name 58 (f.raw ++ before_end f.end) (pass_no_feed is_token_byte refl f.name is.name.1) (λ e. omega (arith, e))
    (joined_no_feed f.raw (before_end f.end) (pass_no_feed is_value_byte refl f.raw is.raw) (end_no_feed f.end))

-- fields, and maybe the empty line behind them
data Walk (bytes : List ℕ) : Type 0 where
  whole : (fs : List Field) (last : LineEnd) → All IsField fs → bytes ≡ print_section fs last → Walk bytes
  some : (fs : List Field) → All IsField fs → bytes ≡ flat_map print_field fs → Walk bytes

-- one field more in front
longer : (f : Field) → IsField f → (front g : List ℕ) → front ≡ before_field f ++ 10 ∷ g → Walk (g ++ 10 ∷ []) → Walk (front ++ 10 ∷ [])
longer f is front g split walk =
    let line : front ++ 10 ∷ [] ≡ print_field f ++ (g ++ 10 ∷ []) =
    ap (λ (t : List ℕ). t ++ 10 ∷ []) (split ∙ sym (field_is f g)) ∙ append_assoc (print_field f) g (10 ∷ []) in
    by walk line
  where
    by : Walk (g ++ 10 ∷ []) → front ++ 10 ∷ [] ≡ print_field f ++ (g ++ 10 ∷ []) → Walk (front ++ 10 ∷ [])
    by (whole fs last all same) line =
        whole (f ∷ fs) last (All-cons IsField f fs is all)
        (line ∙ ap (λ (t : List ℕ). print_field f ++ t) same ∙ sym (append_assoc (print_field f) (flat_map print_field fs) (print_end last)))
    by (some fs all same) line = some (f ∷ fs) (All-cons IsField f fs is all) (line ∙ ap (λ (t : List ℕ). print_field f ++ t) same)

walk_end : (last : LineEnd) (front more : List ℕ) → front ++ 10 ∷ more ≡ print_end last → Walk (front ++ 10 ∷ [])
walk_end last front more same = elim (cut front more (before_end last) [] (end_no_feed last) (same ∙ end_is last)) [
  | inl e ↦ whole [] last (All-nil IsField) (ap (λ (t : List ℕ). t ++ 10 ∷ []) e.0 ∙ sym (end_is last))
  | inr g ↦ absurd (nothing_less g.0 more g.2)
]

walk : (fs : List Field) (last : LineEnd) (front more : List ℕ) → All IsField fs → front ++ 10 ∷ more ≡ print_section fs last → Walk (front ++ 10 ∷ [])
walk [] last front more all same = walk_end last front more same
walk (f ∷ fs) last front more all same =
    let is = All-head IsField f fs all in
    let rest = print_section fs last in
    let split : front ++ 10 ∷ more ≡ before_field f ++ 10 ∷ rest =
    same ∙ append_assoc (print_field f) (flat_map print_field fs) (print_end last) ∙ field_is f rest in
    elim (cut front more (before_field f) rest (field_no_feed f is) split) [
      | inl e ↦
          some (f ∷ []) (All-cons IsField f [] is (All-nil IsField))
          (ap (λ (t : List ℕ). t ++ 10 ∷ []) e.0 ∙ sym (field_is f []))
      | inr g ↦ longer f is front g.0 g.1 (walk fs last g.0 more (All-tail IsField f fs all) g.2)
    ]

-- lines that may become a section and are none are fields
pub are_fields : (front : List ℕ) → HasNoSection (front ++ 10 ∷ []) → MayBecomeSection (front ++ 10 ∷ []) → AreFields (front ++ 10 ∷ [])
are_fields front none may =
    by (walk may.1 may.2 front may.0 may.3.0 (sym (append_assoc front (10 ∷ []) may.0) ∙ may.3.1 ∙ append-nil (print_section may.1 may.2)))
  where
    by : Walk (front ++ 10 ∷ []) → AreFields (front ++ 10 ∷ [])
    by (whole fs last all same) = absurd (none fs last [] (all, same ∙ sym (append-nil (print_section fs last))))
    by (some fs all same) = record { fields = fs; each = all; print = same }

-- ---- heads

with_fields : RequestHead → List Field → LineEnd → RequestHead
with_fields h fs last = record h { fields = fs; last = last }

is_with : (h : RequestHead) (fs : List Field) (last : LineEnd) → IsRequestHead h → All IsField fs → IsRequestHead (with_fields h fs last)
unfolding with_fields
is_with h fs last is all = record { method = is.method; target = is.target; target_text = is.target_text; minor = is.minor; fields = all }

begin-append : (h : RequestHead) (xs ys : List ℕ) → begin h xs ++ ys ≡ begin h (xs ++ ys)
begin-append h xs ys = regroup (print_blank h.blank) h.method h.target (print_version h.minor) (print_end h.line_end)
  where
    regroup : (a b c d e : List ℕ) → (a ++ (b ++ 32 ∷ (c ++ 32 ∷ (d ++ (e ++ xs))))) ++ ys ≡ a ++ (b ++ 32 ∷ (c ++ 32 ∷ (d ++ (e ++ (xs ++ ys)))))
    regroup a b c d e = simp (append_assoc, cons-append)

before_start : RequestHead → List ℕ
before_start h = h.method ++ 32 ∷ (h.target ++ 32 ∷ (print_version h.minor ++ before_end h.line_end))

start_is : (h : RequestHead) (rest : List ℕ) → h.blank ≡ [] → begin h rest ≡ before_start h ++ 10 ∷ rest
unfolding before_start
start_is h rest none =
    ap (λ b. print_blank b ++ (h.method ++ 32 ∷ (h.target ++ 32 ∷ (print_version h.minor ++ (print_end h.line_end ++ rest))))) none
    ∙ ap (λ e. h.method ++ 32 ∷ (h.target ++ 32 ∷ (print_version h.minor ++ (e ++ rest)))) (end_is h.line_end)
    ∙ regroup h.method h.target (print_version h.minor) (before_end h.line_end)
  where
    regroup : (b c d e : List ℕ) → b ++ 32 ∷ (c ++ 32 ∷ (d ++ ((e ++ 10 ∷ []) ++ rest))) ≡ (b ++ 32 ∷ (c ++ 32 ∷ (d ++ e))) ++ 10 ∷ rest
    regroup b c d e = simp (append_assoc, cons-append)

letters_no_feed : HasNoFeed (codes "HTTP/1.")
letters_no_feed =
    pass_no_feed (λ b. nat_lt 13 b) refl (codes "HTTP/1.") (AllPass-from_list_all (λ b. nat_lt 13 b) (codes "HTTP/1.") refl)

version_no_feed : (minor : ℕ) → HasNoFeed (print_version minor)
version_no_feed minor =
    joined_no_feed (codes "HTTP/1.") ((48 + minor) ∷ []) letters_no_feed (one_no_feed (48 + minor) (λ e. omega (arith, e)))

start_no_feed : (h : RequestHead) → IsRequestHead h → HasNoFeed (before_start h)
unfolding before_start is_token_byte
start_no_feed h is =
    behind_no_feed h.method 32 _ (pass_no_feed is_token_byte refl h.method is.method.1) (λ e. omega (arith, e))
    (behind_no_feed h.target 32 _ (pass_no_feed is_uri_byte refl h.target is.target.1) (λ e. omega (arith, e))
    (joined_no_feed (print_version h.minor) (before_end h.line_end) (version_no_feed h.minor) (end_no_feed h.line_end)))

-- a head that begins with neither byte of a line's end has no empty line in front
no_blank : (blank : List LineEnd) (rest : List ℕ) (x : ℕ) (xs : List ℕ) → print_blank blank ++ rest ≡ x ∷ xs → x ≢ 13 → x ≢ 10 → blank ≡ []
no_blank [] rest x xs same cr feed = refl
no_blank (crlf ∷ es) rest x xs same cr feed = absurd (cr (sym (same_first 13 x _ xs same).0))
no_blank (lf ∷ es) rest x xs same cr feed = absurd (feed (sym (same_first 10 x _ xs same).0))

-- ---- fronts

-- what isn't a head, and may become one, is a front
pub front_start : (front : List ℕ) → HasNoRequest (front ++ 10 ∷ []) → MayBecomeHead (front ++ 10 ∷ [])
    → get_or (front ++ 10 ∷ []) 0 0 ≢ 13 → get_or (front ++ 10 ∷ []) 0 0 ≢ 10 → IsFront (front ++ 10 ∷ []) (length (front ++ 10 ∷ []))
unfolding with_fields
front_start [] none may cr feed = absurd (feed refl)
front_start (x ∷ xs) none may cr feed =
    let front = x ∷ xs in
    let line = front ++ 10 ∷ [] in
    let more = may.0 in
    let h = may.1 in
    let is = may.2.0 in
    let section = print_section h.fields h.last in
    let text : front ++ 10 ∷ more ≡ begin h section =
    sym (append_assoc front (10 ∷ []) more) ∙ may.2.1 ∙ print_request-append h [] ∙ ap (begin h) (append-nil section) in
    let blank : h.blank ≡ [] = no_blank h.blank _ x (xs ++ 10 ∷ more) (sym text) cr feed in
    let begins : (rest : List ℕ) → begin h rest ≡ before_start h ++ 10 ∷ rest = λ rest. start_is h rest blank in
    let made : (fs : List Field) → All IsField fs → line ≡ begin h (flat_map print_field fs) → IsFront line (length line) =
    λ fs all same. record {
      within = omega arith;
      head = with_fields h fs h.last;
      is = is_with h fs h.last is all;
      print = take-length line ∙ same;
    } in
    let after : (g : List ℕ) → front ≡ before_start h ++ 10 ∷ g → line ≡ begin h (g ++ 10 ∷ []) = λ g split.
    ap (λ (t : List ℕ). t ++ 10 ∷ []) (split ∙ sym (begins g)) ∙ begin-append h g (10 ∷ []) in
    let walked : (g : List ℕ) → front ≡ before_start h ++ 10 ∷ g → Walk (g ++ 10 ∷ []) → IsFront line (length line) =
    λ g split w. elim w [
      | whole fs last all same ↦ absurd (none (with_fields h fs last) [] (
        is_with h fs last is all,
        after g split ∙ ap (begin h) (same ∙ sym (append-nil (print_section fs last)))
            ∙ sym (print_request-append (with_fields h fs last) []),
      ))
      | some fs all same ↦ made fs all (after g split ∙ ap (begin h) same)
    ] in
    elim (cut front more (before_start h) section (start_no_feed h is) (text ∙ begins section)) [
      | inl e ↦ made [] (All-nil IsField) (ap (λ (t : List ℕ). t ++ 10 ∷ []) e.0 ∙ sym (begins []))
      | inr g ↦ walked g.0 g.1 (walk h.fields h.last g.0 more is.fields g.2)
    ]

-- a front is no head, and may become one
pub front_judged : (b : List ℕ) → IsFront b (length b) → HasNoRequest b × MayBecomeHead b
front_judged b x =
    let h = x.head in
    let end = print_end h.last in
    let fields = flat_map print_field h.fields in
    let text : b ≡ begin h fields = sym (take-length b) ∙ x.print in
    let reads : ReadsRequest (b ++ end) h [] = (
      x.is,
      ap (λ (t : List ℕ). t ++ end) text ∙ begin-append h fields end ∙ ap (begin h) (sym (append-nil (fields ++ end))) ∙ sym (print_request-append h []),
    ) in (
      λ k r y.
          let less : r ++ end ≡ [] = (request_prefix_free b end k h r [] y reads).1 in
          omega (arith, ap length less, length-append r end, ap length (end_is h.last), length-append (before_end h.last) (10 ∷ [])),
      (end, h, reads),
    )

behind_is : (b : List ℕ) (n : ℕ) → drop n b ≡ slice_range b n (length b)
behind_is b n = sym (take-length (drop n b)) ∙ ap (λ k. take k (drop n b)) (length-drop n b)

-- fields behind a front
pub front_more : (b : List ℕ) (n : ℕ) → IsFront b n → AreFields (slice_range b n (length b)) → IsFront b (length b)
unfolding with_fields
front_more b n x more =
    let h = x.head in
    let fields = flat_map print_field h.fields in
    let gs = more.fields in
    record {
      within = omega arith;
      head = with_fields h (h.fields ++ gs) h.last;
      is = is_with h (h.fields ++ gs) h.last x.is (All-append IsField h.fields gs x.is.fields more.each);
      print = take-length b ∙ sym (take-append-drop n b) ∙ (λ i. x.print i ++ (behind_is b n ∙ more.print) i) ∙ begin-append h fields (flat_map print_field gs)
          ∙ ap (begin h) (sym (flat_map-append print_field h.fields gs));
    }

-- ---- where a front is known

pub known_front : (b : List ℕ) (n : ℕ) → IsFront b n → IsKnownFront b n
known_front b zero x = tt
known_front b (suc n) x = x

pub front_there : (b : List ℕ) (n : ℕ) → 0 < n → IsKnownFront b n → IsFront b n
front_there b zero above x = absurd (omega (arith, above))
front_there b (suc n) above x = x

pub front_within : (b : List ℕ) (n : ℕ) → IsKnownFront b n → n ≤ length b
front_within b zero x = omega arith
front_within b (suc n) x = x.within

-- in more bytes
pub front_widened : (b : List ℕ) (m k n : ℕ) → m ≤ k → IsKnownFront (take m b) n → IsKnownFront (take k b) n
front_widened b m k zero more x = tt
front_widened b m k (suc n) more x = record {
  within = omega (arith, x.within, length-take m b, length-take k b, more);
  head = x.head;
  is = x.is;
  print = take-take (suc n) k b (omega (arith, x.within, length-take m b, more)) ∙ sym (take-take (suc n) m b (omega (arith, x.within, length-take m b)))
      ∙ x.print;
}

pub front-append : (b more : List ℕ) (n : ℕ) → IsKnownFront b n → IsKnownFront (b ++ more) n
front-append b more zero x = tt
front-append b more (suc n) x = record {
  within = omega (arith, x.within, length-append b more);
  head = x.head;
  is = x.is;
  print = take-append-le (suc n) b more x.within ∙ x.print;
}

pub front_whole : (b : List ℕ) (m n : ℕ) → IsKnownFront (take m b) n → IsKnownFront b n
front_whole b m n x = subst (λ t. IsKnownFront t n) (take-append-drop m b) (front-append (take m b) (drop m b) n x)

pub front_all : (b : List ℕ) (m n : ℕ) → length b ≡ m → IsKnownFront b n → IsKnownFront (take m b) n
front_all b m n all x = subst (λ t. IsKnownFront t n) (sym (take-length b) ∙ ap (λ k. take k b) all) x
