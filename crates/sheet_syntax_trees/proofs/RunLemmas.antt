-- Runs of bytes, and bytes without a line feed.
use Rattle.std.proofs.Common.{◌≡◌, ℕ, ◌<◌, ◌≤◌, ◌+◌, zero, suc, List, [], ◌∷◌, ◌++◌, length, take, Bool, true, false, refl, sym, ap, inl, inr, arith, add-one}
use Rattle.std.specs.Prelude.{slice_index, ◌==◌, Option, Some, None, option_and_then, if◌then◌else◌, ◌⊎◌}
use Rattle.std.proofs.lemmas.Bool.{cases_Bool}
use Rattle.std.proofs.lemmas.Grind.{common_steps}
use Rattle.sheet_syntax_trees.specs.Bytes.{is_digit, is_plain, is_in_word, is_in_comment, run_length}
use Rattle.sheet_syntax_trees.specs.Tokens.{escaped, text_from, with_content}

pub in_word_ascii : (c : ℕ) → is_in_word c ≡ true → c < 128
in_word_ascii c h = grind (arith, common_steps)

at_front : (c : ℕ) (cs : List ℕ) → c < 128 → ((i : ℕ) → slice_index cs i < 128) → (i : ℕ) → slice_index (c ∷ cs) i < 128
at_front c cs small rest zero = small
at_front c cs small rest (suc i) = rest i

pub run_ascii : (p : ℕ → Bool) → ((c : ℕ) → p c ≡ true → c < 128) → (cs : List ℕ) (i : ℕ) → slice_index (take (run_length p cs) cs) i < 128
run_ascii p small [] i = omega arith
run_ascii p small (c ∷ cs) i =
    elim (cases_Bool (p c)) [
      | inl h ↦ rw (h, add-one) (at_front c (take (run_length p cs) cs) (small c h) (run_ascii p small cs) i)
      | inr h ↦ rw h (omega arith)
    ]

-- the first bytes are there, and none of them is a line feed
abbrev pub NoFeed : ℕ → List ℕ → Type 0
NoFeed zero cs = Unit {0}
NoFeed (suc n) [] = ⊥
NoFeed (suc n) (c ∷ cs) = ((c == 10) ≡ false) × NoFeed n cs

pub no_feed_length : (n : ℕ) (cs : List ℕ) → NoFeed n cs → n ≤ length cs
no_feed_length zero cs h = omega arith
no_feed_length (suc n) [] h = absurd h
no_feed_length (suc n) (c ∷ cs) h = let more = no_feed_length n cs h.1 in omega arith

pub run_no_feed : (p : ℕ → Bool) → ((c : ℕ) → p c ≡ true → (c == 10) ≡ false) → (cs : List ℕ) → NoFeed (run_length p cs) cs
run_no_feed p other [] = tt
run_no_feed p other (c ∷ cs) =
    elim (cases_Bool (p c)) [
      | inl h ↦ rw (h, add-one) (other c h, run_no_feed p other cs)
      | inr h ↦ rw h tt
    ]

pub in_word_no_feed : (c : ℕ) → is_in_word c ≡ true → (c == 10) ≡ false
in_word_no_feed c h = grind (arith, common_steps)

pub digit_no_feed : (c : ℕ) → is_digit c ≡ true → (c == 10) ≡ false
digit_no_feed c h = grind (arith, common_steps)

pub comment_no_feed : (c : ℕ) → is_in_comment c ≡ true → (c == 10) ≡ false
comment_no_feed c h = grind (arith, common_steps)

-- which branch was taken
pub chosen : {A : Type 0} (b : Bool) (x y z : A) → (if b then x else y) ≡ z → ((b ≡ true) × (x ≡ z)) ⊎ ((b ≡ false) × (y ≡ z))
chosen true x y z e = inl (refl, e)
chosen false x y z e = inr (refl, e)

content_some : (content : List ℕ) (taken : ℕ) (more : Option (List ℕ × ℕ)) (p : List ℕ × ℕ) → with_content content taken more ≡ Some p →
    (q : List ℕ × ℕ) × (more ≡ Some q) × (p.1 ≡ taken + q.1)
content_some content taken None p e = let wrong : ⊥ = cc in absurd wrong
content_some content taken (Some q) p e =
    let same : (content ++ q.0, taken + q.1) ≡ p = cc in
    (q, refl, ap (λ (x : List ℕ × ℕ). x.1) (sym same))

escaped_no_feed : (c b : ℕ) → escaped c ≡ Some b → (c == 10) ≡ false
escaped_no_feed c b e = grind (arith, common_steps)

then_some : {A B : Type 0} (f : A → Option B) (o : Option A) (y : B) → option_and_then f o ≡ Some y → (x : A) × (o ≡ Some x) × (f x ≡ Some y)
then_some f None y e = let wrong : ⊥ = cc in absurd wrong
then_some f (Some x) y e = (x, refl, e)

one_more : (n m : ℕ) (c : ℕ) (cs : List ℕ) → m ≡ 1 + n → (c == 10) ≡ false → NoFeed n cs → NoFeed m (c ∷ cs)
one_more n m c cs e here more = let s : m ≡ suc n = omega arith in rw s (here, more)

pub quote_no_feed : (c : ℕ) → (c == 34) ≡ true → (c == 10) ≡ false
quote_no_feed c h = grind (arith, common_steps)

backslash_no_feed : (c : ℕ) → (c == 92) ≡ true → (c == 10) ≡ false
backslash_no_feed c h = grind (arith, common_steps)

plain_no_feed : (c : ℕ) → is_plain c ≡ true → (c == 10) ≡ false
plain_no_feed c h = grind (arith, common_steps)

pub text_no_feed : (behind : Bool) (cs : List ℕ) (p : List ℕ × ℕ) → text_from behind cs ≡ Some p → NoFeed p.1 cs
text_no_feed behind [] p e = let wrong : ⊥ = cc in absurd wrong
text_no_feed true (c ∷ cs) p e =
    let (b, is, after) = then_some (λ byte. with_content (byte ∷ []) 1 (text_from false cs)) (escaped c) p e in
    let (q, more, count) = content_some (b ∷ []) 1 (text_from false cs) p after in
    one_more q.1 p.1 c cs count (escaped_no_feed c b is) (text_no_feed false cs q more)
text_no_feed false (c ∷ cs) p e =
    elim (chosen (c == 34) (Some ([], 1)) (if c == 92 then with_content [] 1 (text_from true cs)
    else (if is_plain c then with_content (c ∷ []) 1 (text_from false cs) else None)) (Some p) e) [
      | inl (quote, end) ↦ let same : ([], 1) ≡ p = cc in one_more 0 p.1 c cs (sym (ap (λ (x : List ℕ × ℕ). x.1) same)) (quote_no_feed c quote) tt
      | inr (h, more) ↦
          elim (chosen (c == 92) (with_content [] 1 (text_from true cs)) (if is_plain c then with_content (c ∷ []) 1 (text_from false cs) else None) (Some p)
          more) [
            | inl (slash, after) ↦
                let (q, rest, count) = content_some [] 1 (text_from true cs) p after in
                one_more q.1 p.1 c cs count (backslash_no_feed c slash) (text_no_feed true cs q rest)
            | inr (h, more) ↦
                elim (chosen (is_plain c) (with_content (c ∷ []) 1 (text_from false cs)) None (Some p) more) [
                  | inl (plain, after) ↦
                      let (q, rest, count) = content_some (c ∷ []) 1 (text_from false cs) p after in
                      one_more q.1 p.1 c cs count (plain_no_feed c plain) (text_no_feed false cs q rest)
                  | inr (h, none) ↦ let wrong : ⊥ = cc in absurd wrong
                ]
          ]
    ]
