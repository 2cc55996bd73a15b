-- What the small readers tell where they answer, for whatever follows them.
use Rattle.std.proofs.Common.{◌≡◌, ℕ, zero, suc, ◌<◌, List, [], ◌∷◌, ◌++◌, true, false, Some, None, Ok, Err, refl, sym, ap, ◌∙◌, subst, arith, inl, inr}
use Rattle.std.specs.Prelude.{Bool, Option, option_map, if◌then◌else◌}
use Rattle.sheet_syntax_trees.specs.declared.token.Token.{Token}
use Rattle.sheet_syntax_trees.specs.declared.token.TokenKind.{TokenKind}
use Rattle.sheet_syntax_trees.specs.declared.token.TokenKind.TheVariants as kind
use Rattle.sheet_syntax_trees.specs.Reading.{Answer, ◌>>=◌, offset, or_expected, with_rest, name_of, name_at}
use Rattle.sheet_syntax_trees.proofs.Answering.{ok_then, expected_ok, name_some}
use Rattle.sheet_define_reading.specs.declared.mark.Mark.{Mark}
use Rattle.sheet_define_reading.specs.declared.mark.Mark.TheVariants as mark
use Rattle.sheet_define_reading.specs.Marks.{mark_of, mark_rank, same_mark}
use Rattle.sheet_define_reading.specs.Reading.{Reader, after, expect, with_front, optional, alone, mark_at}
use Rattle.sheet_define_reading.proofs.MarkLemmas.{spelling, spelled, same_is}

-- a reader's answer is a thing of that kind at the front
abbrev pub Sound : {A : Type 0} → (List Token → A → List Token → Type 0) → Reader A → Type 0
Sound {A} P p = (ts : List Token) (y : A × List Token) → ◌≡◌ {A = Answer (A × List Token)} (p ts) (Ok y) → P ts y.0 y.1

pub given : {A : Type 0} (P : A → Type 0) (x y : A) → ◌≡◌ {A = Answer A} (Ok x) (Ok y) → P x → P y
given P x y e p = let same : x ≡ y = cc in subst P same p

pub after_read : {A B : Type 0} (P : List Token → A → List Token → Type 0) (p : Reader A) → Sound P p →
    (ts : List Token) (k : A × List Token → Answer B) (y : B) (R : Type 0)
    → ◌≡◌ {A = Answer B} (p ts >>= k) (Ok y) → ((x : A) (us : List Token) → P ts x us → ◌≡◌ {A = Answer B} (k (x, us)) (Ok y) → R) → R
after_read P p sound ts k y R e more = let (x, ex, e1) = ok_then (p ts) k y e in more x.0 x.1 (sound ts x ex) e1

after_test : {B : Type 0} (P : List Token → Type 0) (m : Mark) (t : Token) (ts : List Token) (o : ℕ) (k : List Token → Answer B) (y : B) → 0 < mark_rank m →
    (b : Bool) → same_mark (mark_of t.kind) m ≡ b
    → ◌≡◌ {A = Answer B} (or_expected o (if b then Some ts else None) >>= k) (Ok y) →
    ((t : Token) (us : List Token) → t.kind ≡ spelling m → ◌≡◌ {A = Answer B} (k us) (Ok y) → P (t ∷ us)) → P (t ∷ ts)
after_test P m t ts o k y some true test e more = more t ts (spelled t.kind m (same_is (mark_of t.kind) m test) some) e
after_test P m t ts o k y some false test e more = let wrong : ⊥ = cc in absurd wrong

pub after_mark : {B : Type 0} (m : Mark) (end : ℕ) (ts : List Token) (k : List Token → Answer B) (y : B) (P : List Token → Type 0) → 0 < mark_rank m
    → ◌≡◌ {A = Answer B} (expect end m ts >>= k) (Ok y) →
    ((t : Token) (us : List Token) → t.kind ≡ spelling m → ◌≡◌ {A = Answer B} (k us) (Ok y) → P (t ∷ us)) → P ts
after_mark m end [] k y P some e more = let wrong : ⊥ = cc in absurd wrong
after_mark m end (t ∷ ts) k y P some e more = after_test P m t ts t.start k y some (same_mark (mark_of t.kind) m) refl e more

pub after_name : {B : Type 0} (end : ℕ) (ts : List Token) (k : List ℕ × List Token → Answer B) (y : B) (P : List Token → Type 0)
    → ◌≡◌ {A = Answer B} (name_at end ts >>= k) (Ok y) →
    ((t : Token) (name : List ℕ) (us : List Token) → t.kind ≡ kind.Name name → ◌≡◌ {A = Answer B} (k (name, us)) (Ok y) → P (t ∷ us)) → P ts
after_name end [] k y P e more = let wrong : ⊥ = cc in absurd wrong
after_name {B} end (t ∷ ts) k y P e more = by (name_of t.kind) refl e where
  by : (o : Option (List ℕ)) → name_of t.kind ≡ o → ◌≡◌ {A = Answer B} (with_rest ts (or_expected t.start o) >>= k) (Ok y) → P (t ∷ ts)
  by (Some name) is h = more t name ts (name_some t.kind name is) h
  by None is h = let wrong : ⊥ = cc in absurd wrong

-- what an optional part tells
pub after_optional : {A B : Type 0} (P : List Token → A → List Token → Type 0) (p : Reader A) → Sound P p → (m : Mark) → 0 < mark_rank m →
    (ts : List Token) (k : Option A × List Token → Answer B) (y : B) (R : Type 0)
    → ◌≡◌ {A = Answer B} (optional p ts (after m ts) >>= k) (Ok y) → (◌≡◌ {A = Answer B} (k (None, ts)) (Ok y) → R)
    → ((t : Token) (us : List Token) (x : A) (vs : List Token) → ts ≡ t ∷ us → t.kind ≡ spelling m → P us x vs → ◌≡◌ {A = Answer B} (k (Some x, vs)) (Ok y) →
    R) → R
after_optional P p sound m some [] k y R e none more = none e
after_optional {A} {B} P p sound m some (t ∷ ts) k y R e none more = by (same_mark (mark_of t.kind) m) refl e where
  by : (b : Bool) → same_mark (mark_of t.kind) m ≡ b → ◌≡◌ {A = Answer B} (optional p (t ∷ ts) (if b then Some ts else None) >>= k) (Ok y) → R
  by true test h =
      let (x, ex, h1) = ok_then (optional p (t ∷ ts) (Some ts)) k y h in
      let (z, ez, h2) = ok_then (p ts) (λ x. Ok (Some x.0, x.1)) x ex in
      let Q : Option A × List Token → Type 0 = λ w. ◌≡◌ {A = Answer B} (k w) (Ok y) in
      let same : x ≡ (Some z.0, z.1) = given (λ w. w ≡ (Some z.0, z.1)) (Some z.0, z.1) x h2 refl in
      more t ts z.0 z.1 refl (spelled t.kind m (same_is (mark_of t.kind) m test) some) (sound ts z ez) (subst Q same h1)
  by false test h = none h

pub front_ok : {A : Type 0} (front : List A) (r : Answer (List A × List Token)) (y : List A × List Token) → with_front front r ≡ Ok y
    → (x : List A × List Token) × (◌≡◌ {A = Answer (List A × List Token)} r (Ok x)) × (y ≡ (front ++ x.0, x.1))
front_ok front (Ok x) y e = (x, refl, cc)
front_ok front (Err d) y e = let wrong : ⊥ = cc in absurd wrong

alone_test : (b : Bool) (o : Option (List ℕ × List Token)) (x : List ℕ × List Token) → (if b then None else o) ≡ Some x → o ≡ Some x
alone_test true o x e = let wrong : ⊥ = cc in absurd wrong
alone_test false o x e = e

alone_name : (ts : List Token) (o : Option (List ℕ)) (x : List ℕ × List Token) → option_map (λ name. (name, ts)) o ≡ Some x → (o ≡ Some x.0) × (ts ≡ x.1)
alone_name ts (Some name) x e = let same : (name, ts) ≡ x = cc in (ap (λ (p : List ℕ × List Token). Some p.0) same, ap (λ (p : List ℕ × List Token). p.1) same)
alone_name ts None x e = let wrong : ⊥ = cc in absurd wrong

pub alone_ok : (ts : List Token) (x : List ℕ × List Token) → alone ts ≡ Some x → (t : Token) × (ts ≡ t ∷ x.1) × (t.kind ≡ kind.Name x.0)
alone_ok [] x e = let wrong : ⊥ = cc in absurd wrong
alone_ok (t ∷ ts) x e =
    let (named, rest) =
    alone_name ts (name_of t.kind) x (alone_test (same_mark (mark_at ts) mark.Dot) (option_map (λ name. (name, ts)) (name_of t.kind)) x e) in
    (t, ap (λ l. t ∷ l) rest, name_some t.kind x.0 named)

after_cond : (b : Bool) (ts rest : List Token) → (if b then Some ts else None) ≡ Some rest → (b ≡ true) × (ts ≡ rest)
after_cond true ts rest e = (refl, cc)
after_cond false ts rest e = let wrong : ⊥ = cc in absurd wrong

pub after_told : (m : Mark) → 0 < mark_rank m → (ts rest : List Token) → after m ts ≡ Some rest → (t : Token) × (ts ≡ t ∷ rest) × (t.kind ≡ spelling m)
after_told m some [] rest e = let wrong : ⊥ = cc in absurd wrong
after_told m some (t ∷ ts) rest e =
    let (test, same) = after_cond (same_mark (mark_of t.kind) m) ts rest e in
    (t, ap (λ l. t ∷ l) same, spelled t.kind m (same_is (mark_of t.kind) m test) some)
