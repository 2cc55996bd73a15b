-- The numbers of kept requests.
use Rattle.std.proofs.Common.{◌≡◌, ◌≤◌, ◌<◌, ◌⊎◌, inl, inr, ℕ, zero, suc, ◌+◌, ◌-◌, ◌==◌, ◌||◌, Bool, true, false}
use Rattle.std.proofs.Common.{cond, List, [], ◌∷◌, ◌++◌, length, drop, Option, Some, None, is_some, refl, sym, ap, ◌∙◌, arith}
use Rattle.std.specs.Prelude.{nat_le}
use Rattle.std.specs.List.{range_with_len, list_any}
use Rattle.std.proofs.lemmas.Bool.{true≢false, eq-eqb, ne_eqb, le-leb}
use Rattle.std.proofs.lemmas.Bool.Decides.{leb_tells}
use Rattle.std.proofs.lemmas.List.{length-map, map-append, drop-map}
use Rattle.std.proofs.lemmas.List.FromFn.{length-range_with_len}
use Rattle.sheet_requests.specs.declared.reply.Answer.{Answer}
use Rattle.sheet_callers.specs.Callers.{Caller, KeptRequest}
use Rattle.sheet_callers.specs.Keeping.{KeepsLast, numbers_of, last_of, most_kept, with_kept}
use Rattle.sheet_callers.specs.Judging.{kept_at, judged, judged_again, Past}

drop-range : (i a n : ℕ) → drop i (range_with_len a n) ≡ range_with_len (a + i) (n - i)
drop-range zero a n =
    let start : a ≡ a + 0 = omega arith in
    let count : n ≡ n - 0 = omega arith in
    ap (λ b. range_with_len b n) start ∙ ap (range_with_len (a + 0)) count
drop-range (suc i) a zero =
    let count : 0 ≡ 0 - suc i = omega arith in
    ap (range_with_len (a + suc i)) count
drop-range (suc i) a (suc n) =
    let start : a + 1 + i ≡ a + suc i = omega arith in
    let count : n - i ≡ suc n - suc i = omega arith in
    drop-range i (a + 1) n ∙ ap (λ b. range_with_len b (n - i)) start ∙ ap (range_with_len (a + suc i)) count

range-more : (a n : ℕ) → range_with_len a (suc n) ≡ range_with_len a n ++ (a + n) ∷ []
range-more a zero =
    let same : a ≡ a + 0 = omega arith in
    ap (λ b. b ∷ []) same
range-more a (suc n) =
    let same : a + 1 + n ≡ a + suc n = omega arith in
    ap (λ t. a ∷ t) (range-more (a + 1) n ∙ ap (λ b. range_with_len (a + 1) n ++ b ∷ []) same)

-- the last of so many numbers
last_of-range : (a n : ℕ) → last_of most_kept (range_with_len a n) ≡ range_with_len (a + (n - most_kept)) (n - (n - most_kept))
last_of-range a n = ap (λ l. drop (l - most_kept) (range_with_len a n)) (length-range_with_len a n) ∙ drop-range (n - most_kept) a n

-- where the last ones of a list and one more are numbers in a row
one_more : (last : ℕ)
    → last_of most_kept (last_of most_kept (range_with_len 1 last) ++ (last + 1) ∷ []) ≡ last_of most_kept (range_with_len 1 (last + 1))
one_more last =
    let b = 1 + (last - most_kept) in
    let l = last - (last - most_kept) in
    let here : b + l ≡ last + 1 = omega arith in
    let row : last_of most_kept (range_with_len 1 last) ++ (last + 1) ∷ [] ≡ range_with_len b (suc l) =
    ap (λ xs. xs ++ (last + 1) ∷ []) (last_of-range 1 last) ∙ ap (λ n. range_with_len b l ++ n ∷ []) (sym here) ∙ sym (range-more b l) in
    let start : b + (suc l - most_kept) ≡ 1 + ((last + 1) - most_kept) = omega arith in
    let count : suc l - (suc l - most_kept) ≡ (last + 1) - ((last + 1) - most_kept) = omega arith in
    ap (last_of most_kept) row ∙ last_of-range b (suc l) ∙ ap (λ s. range_with_len s (suc l - (suc l - most_kept))) start
    ∙ ap (range_with_len (1 + ((last + 1) - most_kept))) count ∙ sym (last_of-range 1 (last + 1))

numbers-last_of : (ks : List KeptRequest) → numbers_of (last_of most_kept ks) ≡ last_of most_kept (numbers_of ks)
numbers-last_of ks =
    sym (drop-map (λ (k : KeptRequest). k.number) (length ks - most_kept) ks)
    ∙ ap (λ l. drop (l - most_kept) (numbers_of ks)) (sym (length-map ks (λ (k : KeptRequest). k.number)))

-- the next number is kept behind the last ones
pub keeps_last : (c : Caller) (n : ℕ) (line : List ℕ) (answer : Answer) → KeepsLast c → n ≡ c.last + 1 → KeepsLast (with_kept c n line answer)
keeps_last c n line answer kept next =
    let k : KeptRequest = record { number = n; line = line; answer = answer } in
    numbers-last_of (c.kept ++ k ∷ []) ∙ ap (last_of most_kept) (map-append (λ (r : KeptRequest). r.number) c.kept (k ∷ []))
    ∙ ap (λ ns. last_of most_kept (ns ++ n ∷ [])) kept
    ∙ ap (λ m. last_of most_kept (last_of most_kept (range_with_len 1 c.last) ++ m ∷ [])) next
    ∙ one_more c.last ∙ ap (λ m. last_of most_kept (range_with_len 1 m)) (sym next)

some-cond : (b : Bool) (k : KeptRequest) (o : Option KeptRequest) → is_some (cond b (Some k) o) ≡ (b || is_some o)
some-cond true k o = refl
some-cond false k o = refl

found : (ks : List KeptRequest) (n : ℕ) → is_some (kept_at ks n) ≡ list_any (λ m. m == n) (numbers_of ks)
found [] n = refl
found (k ∷ ks) n = some-cond (k.number == n) k (kept_at ks n) ∙ ap (λ b. (k.number == n) || b) (found ks n)

outside : (n a l : ℕ) → (n < a) ⊎ (a + l ≤ n) → list_any (λ m. m == n) (range_with_len a l) ≡ false
outside n a zero out = refl
outside n a (suc l) (inl below) =
    rw (ne_eqb a n (λ same. absurd (omega (arith, below, same))), outside n (a + 1) l (inl (omega (arith, below)))) refl
outside n a (suc l) (inr above) =
    rw (ne_eqb a n (λ same. absurd (omega (arith, above, same))), outside n (a + 1) l (inr (omega (arith, above)))) refl

or-true : (b : Bool) → (b || true) ≡ true
or-true true = refl
or-true false = refl

-- the first number, or one of the others
inside_from : (n a l : ℕ) → (a ≡ n) ⊎ (a + 1 ≤ n) → n < a + suc l → ((b : ℕ) → b ≤ n → n < b + l → list_any (λ m. m == n) (range_with_len b l) ≡ true)
    → list_any (λ m. m == n) (range_with_len a (suc l)) ≡ true
inside_from n a l (inl same) less more = ap (λ b. b || list_any (λ m. m == n) (range_with_len (a + 1) l)) (eq-eqb a n same)
inside_from n a l (inr above) less more = ap (λ b. (a == n) || b) (more (a + 1) above (omega (arith, less))) ∙ or-true (a == n)

first_or_later : (a n : ℕ) → a ≤ n → (a ≡ n) ⊎ (a + 1 ≤ n)
first_or_later zero zero le = inl refl
first_or_later zero (suc n) le = inr (omega arith)
first_or_later (suc a) zero le = absurd (omega (arith, le))
first_or_later (suc a) (suc n) le = later (first_or_later a n (omega (arith, le)))
  where
    later : (a ≡ n) ⊎ (a + 1 ≤ n) → (suc a ≡ suc n) ⊎ (suc a + 1 ≤ suc n)
    later (inl same) = inl (ap suc same)
    later (inr less) = inr (omega (arith, less))

inside : (n a l : ℕ) → a ≤ n → n < a + l → list_any (λ m. m == n) (range_with_len a l) ≡ true
inside n a zero le less = absurd (omega (arith, le, less))
inside n a (suc l) le less = inside_from n a l (first_or_later a n le) less (λ b. inside n b l)

in_kept : (c : Caller) (n : ℕ) → KeepsLast c
    → is_some (kept_at c.kept n) ≡ list_any (λ m. m == n) (range_with_len (1 + (c.last - most_kept)) (c.last - (c.last - most_kept)))
in_kept c n kept = found c.kept n ∙ ap (list_any (λ m. m == n)) (kept ∙ last_of-range 1 c.last)

none_is : {A : Type 0} (o : Option A) → is_some o ≡ false → o ≡ None
none_is None none = refl
none_is (Some x) none = absurd (true≢false none)

-- a number that is past isn't kept
pub past_is_gone : (c : Caller) (n : ℕ) → KeepsLast c → n ≤ c.last - most_kept → kept_at c.kept n ≡ None
past_is_gone c n kept past =
    none_is (kept_at c.kept n) (in_kept c n kept ∙ outside n (1 + (c.last - most_kept)) (c.last - (c.last - most_kept)) (inl (omega (arith, past))))

-- one of the last 16 is kept
pub recent_is_kept : (c : Caller) (n : ℕ) → KeepsLast c → c.last - most_kept < n → n ≤ c.last → is_some (kept_at c.kept n) ≡ true
recent_is_kept c n kept recent last =
    in_kept c n kept ∙ inside n (1 + (c.last - most_kept)) (c.last - (c.last - most_kept)) (omega (arith, recent)) (omega (arith, recent, last))

-- a number up to the last one that isn't kept is past
pub gone_is_past : (c : Caller) (n : ℕ) (line : List ℕ) → KeepsLast c → n ≤ c.last → kept_at c.kept n ≡ None → judged c n line ≡ Past c.last
gone_is_past c n line kept last gone = by_place (leb_tells n (c.last - most_kept))
  where
    by_place : ((nat_le n (c.last - most_kept) ≡ true) × (n ≤ c.last - most_kept)) ⊎ ((nat_le n (c.last - most_kept) ≡ false) × (c.last - most_kept < n))
        → judged c n line ≡ Past c.last
    by_place (inl past) = rw past.0 refl
    by_place (inr recent) = absurd (true≢false (sym (recent_is_kept c n kept recent.1 last) ∙ ap is_some gone))

-- a number that is kept is judged by what is kept
pub kept_is_judged : (c : Caller) (n : ℕ) (line : List ℕ) (k : KeptRequest)
    → KeepsLast c → n ≤ c.last → kept_at c.kept n ≡ Some k → judged c n line ≡ judged_again line (Some k)
kept_is_judged c n line k kept last is = by_place (leb_tells n (c.last - most_kept))
  where
    by_place : ((nat_le n (c.last - most_kept) ≡ true) × (n ≤ c.last - most_kept)) ⊎ ((nat_le n (c.last - most_kept) ≡ false) × (c.last - most_kept < n))
        → judged c n line ≡ judged_again line (Some k)
    by_place (inl past) = absurd (true≢false (ap is_some (sym is ∙ past_is_gone c n kept past.1)))
    by_place (inr recent) = rw (recent.0, le-leb n c.last last, is) refl
