-- The loops of the readers.
use Rattle.std.proofs.Common.{◌≡◌, ℕ, length, zero, suc, ◌+◌, take, drop, arith, List, [], ◌∷◌, ◌++◌, Some, None, Ok, Err, true, false, refl, sym, ap, ◌∙◌}
use Rattle.std.specs.Prelude.{Bool, if◌then◌else◌}
use Rattle.sheet_syntax_trees.specs.declared.token.Token.{Token}
use Rattle.sheet_syntax_trees.specs.declared.token.SyntaxRefusal.{SyntaxRefusal}
use Rattle.sheet_syntax_trees.specs.declared.token.SyntaxRefusal.TheVariants.{BadToken, NumberTooWide, Expected, TooNested, NoMemory}
use Rattle.sheet_syntax_trees.specs.Tokens.{Reads}
use Rattle.sheet_syntax_trees.specs.declared.sign.Sign.{Sign}
use Rattle.sheet_syntax_trees.specs.declared.sign.Sign.TheVariants as sign
use Rattle.sheet_syntax_trees.specs.declared.operators.Prefix.{Prefix}
use Rattle.sheet_syntax_trees.specs.declared.tree.Formed.{Formed}
use Rattle.sheet_syntax_trees.specs.Signs.{sign_of, same_sign}
use Rattle.sheet_syntax_trees.specs.Operators.{prefix_sign, prefixed}
use Rattle.sheet_syntax_trees.specs.Reading.{Answer, ◌>>=◌, after, or_expected, step_of, made, steps, prefixes, behind_prefixes, under_prefixes}

cond_none : (b : Bool) (ts : List Token) → (if b then Some ts else None) ≡ None → b ≡ false
cond_none true ts e = let wrong : ⊥ = cc in absurd wrong
cond_none false ts e = refl

cond_some : (b : Bool) (ts us : List Token) → (if b then Some ts else None) ≡ Some us → (b ≡ true) × (ts ≡ us)
cond_some true ts us e = (refl, cc)
cond_some false ts us e = let wrong : ⊥ = cc in absurd wrong

pub after_none : (s : Sign) (t : Token) (ts : List Token) → after s (t ∷ ts) ≡ None → same_sign (sign_of t.kind) s ≡ false
after_none s t ts e = cond_none (same_sign (sign_of t.kind) s) ts e

pub after_some : (s : Sign) (t : Token) (ts us : List Token) → after s (t ∷ ts) ≡ Some us → (same_sign (sign_of t.kind) s ≡ true) × (ts ≡ us)
after_some s t ts us e = cond_some (same_sign (sign_of t.kind) s) ts us e

pub after_is : (s : Sign) (rest us : List Token) → after s rest ≡ Some us → (t : Token) × (rest ≡ t ∷ us) × (same_sign (sign_of t.kind) s ≡ true)
after_is s [] us e = let wrong : ⊥ = cc in absurd wrong
after_is s (t ∷ ts) us e = let (test, same) = after_some s t ts us e in (t, ap (λ l. t ∷ l) same, test)

-- ---- steps

pub steps_end : (limit end at line : ℕ) (f : Formed) (rest : List Token) → after sign.Dot rest ≡ None → steps limit end at line f rest ≡ Ok (f, rest)
unfolding steps
steps_end limit end at line f [] e = refl
steps_end limit end at line f (d ∷ []) e = let no = after_none sign.Dot d [] e in rw no refl
steps_end limit end at line f (d ∷ t ∷ ts) e = let no = after_none sign.Dot d (t ∷ ts) e in rw no refl

pub steps_cut : (limit end at line : ℕ) (f : Formed) (rest : List Token) → after sign.Dot rest ≡ Some [] → steps limit end at line f rest ≡ Err (Expected end)
unfolding steps
steps_cut limit end at line f rest e = let (d, is, test) = after_is sign.Dot rest [] e in rw (is, test) refl

pub steps_more : (limit end at line : ℕ) (f : Formed) (rest us : List Token) (t : Token) → after sign.Dot rest ≡ Some (t ∷ us)
    → steps limit end at line f
    rest ≡ (or_expected t.start (step_of line f.tree t.kind) >>= (λ form. made limit at form f.depth >>= (λ g. steps limit end at line g us)))
unfolding steps
steps_more limit end at line f rest us t e = let (d, is, test) = after_is sign.Dot rest (t ∷ us) e in rw (is, test) refl

-- ---- prefixes

pub prefixes_end : (p : Prefix) (rest : List Token) → after (prefix_sign p) rest ≡ None → (prefixes p rest ≡ []) × (behind_prefixes p rest ≡ rest)
unfolding prefixes behind_prefixes
prefixes_end p [] e = (refl, refl)
prefixes_end p (t ∷ ts) e = let no = after_none (prefix_sign p) t ts e in (rw no refl, rw no refl)

pub prefixes_more : (p : Prefix) (rest us : List Token) → after (prefix_sign p) rest ≡ Some us →
    (t : Token) × (rest ≡ t ∷ us) × (prefixes p rest ≡ t ∷ prefixes p us) × (behind_prefixes p rest ≡ behind_prefixes p us)
unfolding prefixes behind_prefixes
prefixes_more p [] us e = let wrong : ⊥ = cc in absurd wrong
prefixes_more p (t ∷ ts) us e =
    let (test, same) = after_some (prefix_sign p) t ts us e in
    (t, ap (λ l. t ∷ l) same, rw test (ap (λ l. t ∷ prefixes p l) same), rw test (ap (behind_prefixes p) same))

under_error : (limit : ℕ) (p : Prefix) (ts : List Token) (e : SyntaxRefusal) → under_prefixes limit p ts (Err e) ≡ Err e
unfolding under_prefixes
under_error limit p [] e = refl
under_error limit p (t ∷ ts) e = rw (under_error limit p ts e) refl

pub under_last : (limit : ℕ) (p : Prefix) (ts : List Token) (t : Token) (r : Answer Formed)
    → under_prefixes limit p (ts ++ t ∷ []) r ≡ under_prefixes limit p ts (r >>= (λ f. made limit t.start (prefixed p t.line f.tree) f.depth))
unfolding under_prefixes
under_last limit p [] t r = refl
under_last limit p (u ∷ ts) t r = rw (under_last limit p ts t r) refl

pub under_refused : (limit : ℕ) (p : Prefix) (ts : List Token) (t : Token) (f : Formed) (e : SyntaxRefusal) →
    made limit t.start (prefixed p t.line f.tree) f.depth ≡ Err e
    → under_prefixes limit p (ts ++ t ∷ []) (Ok f) ≡ Err e
under_refused limit p ts t f e m = under_last limit p ts t (Ok f) ∙ ap (under_prefixes limit p ts) m ∙ under_error limit p ts e

-- ---- refusals

-- a refusal is passed on
pub passed : {X Y Z W : Type 0} (view : X → Y) (other : Z → W) (e : SyntaxRefusal) (told : Answer Y) (whole : Answer W) → Reads view (Err e) told →
    ((d : SyntaxRefusal) → told ≡ Err d → whole ≡ Err d) → Reads other (Err e) whole
passed view other (BadToken k) told whole h more = more (BadToken k) h
passed view other (NumberTooWide k) told whole h more = more (NumberTooWide k) h
passed view other (Expected k) told whole h more = more (Expected k) h
passed view other (TooNested k) told whole h more = more (TooNested k) h
passed view other NoMemory told whole h more = tt

same_parts : (t x : Token) (rest xs : List Token) → t ∷ rest ≡ x ∷ xs → (t ≡ x) × (rest ≡ xs)
same_parts t x rest xs e = (cc, cc)

-- the first tokens, and one more
pub take_next : (n : ℕ) (xs rest : List Token) (t : Token) → t ∷ rest ≡ drop n xs → (take (n + 1) xs ≡ take n xs ++ t ∷ []) × (rest ≡ drop (n + 1) xs)
take_next zero [] rest t e = let wrong : ⊥ = cc in absurd wrong
take_next zero (x ∷ xs) rest t e = let (first, others) = same_parts t x rest xs e in (ap (λ y. y ∷ []) (sym first), others)
take_next (suc n) [] rest t e = let wrong : ⊥ = cc in absurd wrong
take_next (suc n) (x ∷ xs) rest t e =
    let (taken, dropped) = take_next n xs rest t e in
    let more : suc n + 1 ≡ suc (n + 1) = omega arith in
    (rw more (ap (λ l. x ∷ l) taken), rw more dropped)

pub no_tokens : (ts : List Token) → length ts ≡ 0 → ts ≡ []
no_tokens [] e = refl
no_tokens (t ∷ ts) e = absurd (omega arith)

abbrev ok_or : {A : Type 0} → A → Answer A → A
ok_or d (Ok x) = x
ok_or d (Err e) = d

pub same_ok : {A : Type 0} {x y : A} → ◌≡◌ {A = Answer A} (Ok x) (Ok y) → x ≡ y
same_ok {A} {x} {y} e = ap (ok_or x) e
