-- What the small readers tell where they answer.
use Rattle.std.proofs.Common.{◌≡◌, ℕ, ◌+◌, ◌<◌, List, [], ◌∷◌, ◌++◌, true, false, Some, None, Ok, Err, refl, sym, ap, ◌∙◌, arith, append_assoc, inl, inr}
use Rattle.std.specs.Prelude.{Bool, Option, nat_lt, if◌then◌else◌, ◌==◌, ◌⊎◌}
use Rattle.std.proofs.lemmas.Bool.{ltb-true}
use Rattle.sheet_syntax_trees.specs.declared.token.Token.{Token}
use Rattle.sheet_syntax_trees.specs.declared.token.TokenKind.{TokenKind}
use Rattle.sheet_syntax_trees.specs.declared.token.TokenKind.TheVariants as kind
use Rattle.sheet_syntax_trees.specs.declared.token.SyntaxRefusal.{SyntaxRefusal}
use Rattle.sheet_syntax_trees.specs.declared.token.SyntaxRefusal.TheVariants.{TooNested}
use Rattle.sheet_syntax_trees.specs.declared.sign.Sign.{Sign}
use Rattle.sheet_syntax_trees.specs.declared.tree.Tree.{Tree}
use Rattle.sheet_syntax_trees.specs.declared.tree.Formed.{Formed}
use Rattle.sheet_syntax_trees.specs.Signs.{sign_of, same_sign}
use Rattle.sheet_syntax_trees.specs.Reading.{Answer, ◌>>=◌, Setting, offset, after, or_expected, expect, name_of, name_at, with_rest, made, opened}
use Rattle.sheet_syntax_trees.proofs.SignLemmas.{same_is}

pub ok_then : {A B : Type 0} (r : Answer A) (f : A → Answer B) (y : B) → ◌≡◌ {A = Answer B} (r >>= f) (Ok y) →
    (x : A) × (◌≡◌ {A = Answer A} r (Ok x)) × (◌≡◌ {A = Answer B} (f x) (Ok y))
ok_then (Ok x) f y e = (x, refl, e)
ok_then (Err d) f y e = let wrong : ⊥ = cc in absurd wrong

pub err_then : {A B : Type 0} (r : Answer A) (f : A → Answer B) (e : SyntaxRefusal) → ◌≡◌ {A = Answer B} (r >>= f) (Err e) →
    (◌≡◌ {A = Answer A} r (Err e)) ⊎ ((x : A) × (◌≡◌ {A = Answer A} r (Ok x)) × (◌≡◌ {A = Answer B} (f x) (Err e)))
err_then (Ok x) f e h = inr (x, refl, h)
err_then (Err d) f e h = inl (let same : d ≡ e = cc in ap Err same)

pub rest_ok : {A : Type 0} (rest : List Token) (r : Answer A) (y : A × List Token) → with_rest rest r ≡ Ok y →
    (x : A) × (◌≡◌ {A = Answer A} r (Ok x)) × (y ≡ (x, rest))
rest_ok rest (Ok x) y e = (x, refl, cc)
rest_ok rest (Err d) y e = let wrong : ⊥ = cc in absurd wrong

after_test : (b : Bool) (ts rest : List Token) → (if b then Some ts else None) ≡ Some rest → (b ≡ true) × (ts ≡ rest)
after_test true ts rest e = (refl, cc)
after_test false ts rest e = let wrong : ⊥ = cc in absurd wrong

pub after_ok : (s : Sign) (ts rest : List Token) → after s ts ≡ Some rest → (t : Token) × (ts ≡ t ∷ rest) × (sign_of t.kind ≡ s)
after_ok s [] rest e = let wrong : ⊥ = cc in absurd wrong
after_ok s (t ∷ ts) rest e = let (test, same) = after_test (same_sign (sign_of t.kind) s) ts rest e in
    (t, ap (λ l. t ∷ l) same, same_is (sign_of t.kind) s test)

pub expected_ok : {A : Type 0} (at : ℕ) (o : Option A) (x : A) → ◌≡◌ {A = Answer A} (or_expected at o) (Ok x) → o ≡ Some x
expected_ok at (Some y) x e = cc
expected_ok at None x e = let wrong : ⊥ = cc in absurd wrong

pub expect_ok : (end : ℕ) (s : Sign) (ts rest : List Token) → ◌≡◌ {A = Answer (List Token)} (expect end s ts) (Ok rest) →
    (t : Token) × (ts ≡ t ∷ rest) × (sign_of t.kind ≡ s)
expect_ok end s ts rest e = after_ok s ts rest (expected_ok (offset end ts) (after s ts) rest e)

pub name_some : (k : TokenKind) (name : List ℕ) → name_of k ≡ Some name → k ≡ kind.Name name
name_some (kind.Name n) name e = cc
name_some (kind.Reserved w) name e = let wrong : ⊥ = cc in absurd wrong
name_some (kind.Number n) name e = let wrong : ⊥ = cc in absurd wrong
name_some (kind.Text x) name e = let wrong : ⊥ = cc in absurd wrong
name_some (kind.Symbol x) name e = let wrong : ⊥ = cc in absurd wrong

pub name_ok : (end : ℕ) (ts : List Token) (y : List ℕ × List Token) → name_at end ts ≡ Ok y → (t : Token) × (ts ≡ t ∷ y.1) × (t.kind ≡ kind.Name y.0)
name_ok end [] y e = let wrong : ⊥ = cc in absurd wrong
name_ok end (t ∷ ts) y e =
    let (n, found, is) = rest_ok ts (or_expected t.start (name_of t.kind)) y e in
    let name = name_some t.kind n (expected_ok t.start (name_of t.kind) n found) in
    (t, ap (λ (p : List ℕ × List Token). t ∷ p.1) (sym is), name ∙ ap (λ (p : List ℕ × List Token). kind.Name p.0) (sym is))

made_test : (b : Bool) (x : Formed) (at : ℕ) (f : Formed) → ◌≡◌ {A = Answer Formed} (if b then Ok x else Err (TooNested at)) (Ok f) → (b ≡ true) × (f ≡ x)
made_test true x at f e = (refl, cc)
made_test false x at f e = let wrong : ⊥ = cc in absurd wrong

pub made_ok : (limit at : ℕ) (e : Tree) (deepest : ℕ) (f : Formed) → ◌≡◌ {A = Answer Formed} (made limit at e deepest) (Ok f) →
    (deepest < limit) × (f ≡ record { tree = e; depth = deepest + 1 })
made_ok limit at e deepest f h =
    let (test, is) = made_test (nat_lt deepest limit) (record { tree = e; depth = deepest + 1 }) at f h in
    (ltb-true deepest limit test, is)

room_test : (b : Bool) (at : ℕ) (ts rest : List Token) → ◌≡◌ {A = Answer (List Token)} (if b then Err (TooNested at) else Ok ts) (Ok rest) →
    (b ≡ false) × (ts ≡ rest)
room_test true at ts rest e = let wrong : ⊥ = cc in absurd wrong
room_test false at ts rest e = (refl, cc)

pub some_room : (n : ℕ) → (n == 0) ≡ false → 0 < n
some_room n e = grind arith

pub opened_ok : (s : Setting) (bracket : Sign) (ts rest : List Token) → ◌≡◌ {A = Answer (List Token)} (opened s bracket ts) (Ok rest) →
    (t : Token) × (ts ≡ t ∷ rest) × (sign_of t.kind ≡ bracket) × (0 < s.room)
opened_ok s bracket ts rest e =
    let (more, found, room) = ok_then (expect s.end bracket ts) (λ rest. if s.room == 0 then Err (TooNested (offset s.end ts)) else Ok rest) rest e in
    let (t, is, here) = expect_ok s.end bracket ts more found in
    let (some, same) = room_test (s.room == 0) (offset s.end ts) more rest room in
    (t, is ∙ ap (λ l. t ∷ l) same, here, some_room s.room some)

-- ---- parts of a list

pub joined : {A : Type 0} (ts mid rest xs ys : List A) → ts ≡ xs ++ mid → mid ≡ ys ++ rest → ts ≡ (xs ++ ys) ++ rest
joined ts mid rest xs ys a b = a ∙ ap (λ l. xs ++ l) b ∙ sym (append_assoc xs ys rest)

pub behind : {A : Type 0} (ts mid rest ys : List A) (t : A) → ts ≡ t ∷ mid → mid ≡ ys ++ rest → ts ≡ (t ∷ ys) ++ rest
behind ts mid rest ys t a b = a ∙ ap (λ l. t ∷ l) b
