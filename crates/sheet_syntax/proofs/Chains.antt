-- The loops over operators, and over the parts of a set.
use Rattle.std.proofs.Common.{◌≡◌, ℕ, zero, suc, ◌+◌, ◌-◌, ◌<◌, max, List, [], ◌∷◌, ◌++◌, length, Some, None, Ok, Err, true, false, refl, sym, ap, ◌∙◌, arith}
use Rattle.std.specs.Prelude.{Bool, if◌then◌else◌}
use Rattle.sheet_syntax_trees.specs.declared.token.Token.{Token}
use Rattle.sheet_syntax_trees.specs.declared.token.SyntaxRefusal.{SyntaxRefusal}
use Rattle.sheet_syntax_trees.specs.declared.token.SyntaxRefusal.TheVariants.{Expected}
use Rattle.sheet_syntax_trees.specs.declared.sign.Sign.{Sign}
use Rattle.sheet_syntax_trees.specs.declared.sign.Sign.TheVariants as sign
use Rattle.sheet_syntax_trees.specs.declared.operators.Operator.{Operator}
use Rattle.sheet_syntax_trees.specs.declared.operators.Level.{Level}
use Rattle.sheet_syntax_trees.specs.declared.operators.Level.TheVariants as level
use Rattle.sheet_syntax_trees.specs.declared.tree.Tree.{Tree}
use Rattle.sheet_syntax_trees.specs.declared.tree.Tree.TheVariants as tree
use Rattle.sheet_syntax_trees.specs.declared.tree.Formed.{Formed}
use Rattle.sheet_syntax_trees.specs.Signs.{sign_of, same_sign}
use Rattle.sheet_syntax_trees.specs.Operators.{operator_among, repeats}
use Rattle.sheet_syntax_trees.specs.Reading.{Answer, Reader, ◌>>=◌, Setting, offset, line_of, after, expect, or_expected, with_rest, made, operation}
use Rattle.sheet_syntax_trees.specs.Reading.{operand_behind, go_on, more, chain, chain_at, operand_at, products, sums, sets, comparison, conjunction}
use Rattle.sheet_syntax_trees.specs.Reading.{disjunction, parts, parts_by}
use Rattle.sheet_syntax_trees.proofs.SignLemmas.{same_is}
use Rattle.sheet_syntax.proofs.Loops.{after_none, after_some}

chain_at_is : (s : Setting) (l : Level) (ts : List Token) → chain_at s l ts ≡ chain s l (operand_at s l) ts
unfolding products sums sets comparison conjunction disjunction
chain_at_is s level.Or ts = refl
chain_at_is s level.And ts = refl
chain_at_is s level.Comparison ts = refl
chain_at_is s level.Sets ts = refl
chain_at_is s level.Sums ts = refl
chain_at_is s level.Products ts = refl

pub chain_refused : (s : Setting) (l : Level) (ts : List Token) (d : SyntaxRefusal) → operand_at s l ts ≡ Err d → chain_at s l ts ≡ Err d
unfolding chain
chain_refused s l ts d e = chain_at_is s l ts ∙ ap (λ r. r >>= (λ x. more s l (operand_at s l) (length x.1) (offset s.end ts) (line_of ts) x.0 x.1)) e

pub chain_begun : (s : Setting) (l : Level) (ts : List Token) (x : Formed × List Token) → operand_at s l ts ≡ Ok x →
    more s l (operand_at s l) (length x.1) (offset s.end ts) (line_of ts) x.0 x.1 ≡ chain_at s l ts
unfolding chain
chain_begun s l ts x e = sym (chain_at_is s l ts ∙ ap (λ r. r >>= (λ x. more s l (operand_at s l) (length x.1) (offset s.end ts) (line_of ts) x.0 x.1)) e)

pub more_out : (s : Setting) (l : Level) (p : Reader) (n at line : ℕ) (f : Formed) (ts : List Token) → n ≡ 0 → more s l p n at line f ts ≡ Ok (f, ts)
unfolding more
more_out s l p zero at line f ts e = refl
more_out s l p (suc n) at line f ts e = absurd (omega arith)

pub more_end : (s : Setting) (l : Level) (p : Reader) (n at line : ℕ) (f : Formed) (rest : List Token) → rest ≡ [] → more s l p n at line f rest ≡ Ok (f, rest)
unfolding more
more_end s l p zero at line f rest e = refl
more_end s l p (suc n) at line f rest e = rw e refl

pub more_other : (s : Setting) (l : Level) (p : Reader) (n at line : ℕ) (f : Formed) (rest ts : List Token) (t : Token) → rest ≡ t ∷ ts →
    operator_among l (sign_of t.kind) ≡ None → more s l p n at line f rest ≡ Ok (f, rest)
unfolding more
more_other s l p zero at line f rest ts t e none = refl
more_other s l p (suc n) at line f rest ts t e none = rw (e, none) refl

go_refused : (b : Bool) (r : Answer (Formed × List Token)) (go : Formed → List Token → Answer (Formed × List Token)) (d : SyntaxRefusal) →
    ◌≡◌ {A = Answer (Formed × List Token)} r (Err d) → ◌≡◌ {A = Answer (Formed × List Token)} (go_on b r go) (Err d)
go_refused true r go d e = rw e refl
go_refused false r go d e = e

pub more_refused : (s : Setting) (l : Level) (p : Reader) (n m at line : ℕ) (f : Formed) (rest ts : List Token) (t : Token) (op : Operator)
    (d : SyntaxRefusal) → n ≡ suc m → rest ≡ t ∷ ts → operator_among l (sign_of t.kind) ≡ Some op
    → p ts ≡ Err d → more s l p n at line f rest ≡ Err d
unfolding more
more_refused s l p n m at line f rest ts t op d n-is e some h =
    rw (n-is, e, some) (go_refused (repeats l) (operand_behind s p at line op f ts) (λ g rest. more s l p m at line g rest) d (rw h refl))

pub more_too_deep : (s : Setting) (l : Level) (p : Reader) (n m at line : ℕ) (f : Formed) (rest ts : List Token) (t : Token) (op : Operator)
    (x : Formed × List Token) (d : SyntaxRefusal) → n ≡ suc m → rest ≡ t ∷ ts
    → operator_among l (sign_of t.kind) ≡ Some op → p ts ≡ Ok x → operation s.limit at line op f x.0 ≡ Err d → more s l p n at line f rest ≡ Err d
unfolding more
more_too_deep s l p n m at line f rest ts t op x d n-is e some h deep =
    rw (n-is, e, some) (go_refused (repeats l) (operand_behind s p at line op f ts) (λ g rest. more s l p m at line g rest) d
    (ap (λ r. r >>= (λ x. with_rest x.1 (operation s.limit at line op f x.0))) h ∙ ap (with_rest x.1) deep))

pub more_on : (s : Setting) (l : Level) (p : Reader) (n m at line : ℕ) (f g : Formed) (rest ts : List Token) (t : Token) (op : Operator)
    (x : Formed × List Token) → n ≡ suc m → rest ≡ t ∷ ts
    → operator_among l (sign_of t.kind) ≡ Some op → p ts ≡ Ok x → operation s.limit at line op f x.0 ≡ Ok g → repeats l ≡ true →
    more s l p n at line f rest ≡ more s l p m at line g x.1
unfolding more
more_on s l p n m at line f g rest ts t op x n-is e some h made again =
    rw (n-is, e, some, again)
    (ap (λ r. r >>= (λ x. more s l p m at line x.0 x.1)) (ap (λ r. r >>= (λ x. with_rest x.1 (operation s.limit at line op f x.0))) h
    ∙ ap (with_rest x.1) made))

pub more_once : (s : Setting) (l : Level) (p : Reader) (n m at line : ℕ) (f g : Formed) (rest ts : List Token) (t : Token) (op : Operator)
    (x : Formed × List Token) → n ≡ suc m → rest ≡ t ∷ ts
    → operator_among l (sign_of t.kind) ≡ Some op → p ts ≡ Ok x → operation s.limit at line op f x.0 ≡ Ok g → repeats l ≡ false →
    more s l p n at line f rest ≡ Ok (g, x.1)
unfolding more
more_once s l p n m at line f g rest ts t op x n-is e some h made again =
    rw (n-is, e, some, again) (ap (λ r. r >>= (λ x. with_rest x.1 (operation s.limit at line op f x.0))) h ∙ ap (with_rest x.1) made)

-- ---- parts

other_sign : (s : Setting) (t u : Token) (trees : List Tree) (deepest : ℕ) (ts : List Token) (go : List Tree → ℕ → List Token →
    Answer (Formed × List Token)) (sg : Sign)
    → same_sign sg sign.CloseBrace ≡ false → same_sign sg sign.Comma ≡ false → parts_by s t trees deepest u ts sg go ≡ Err (Expected u.start)
other_sign s t u trees deepest ts go sign.CloseBrace a b = let wrong : ⊥ = cc in absurd wrong
other_sign s t u trees deepest ts go sign.Comma a b = let wrong : ⊥ = cc in absurd wrong
other_sign s t u trees deepest ts go _ a b = refl

pub parts_out : (s : Setting) (n : ℕ) (t : Token) (trees : List Tree) (deepest : ℕ) (rest : List Token) → n ≡ 0 →
    parts s n t trees deepest rest ≡ Err (Expected (offset s.end rest))
unfolding parts
parts_out s zero t trees deepest rest e = refl
parts_out s (suc n) t trees deepest rest e = absurd (omega arith)

pub parts_closed : (s : Setting) (n m : ℕ) (t : Token) (trees : List Tree) (deepest : ℕ) (rest us : List Token) → n ≡ suc m →
    after sign.CloseBrace rest ≡ Some us
    → parts s n t trees deepest rest ≡ with_rest us (made s.limit t.start (tree.Set t.line trees) deepest)
unfolding parts
parts_closed s n m t trees deepest [] us e some = let wrong : ⊥ = cc in absurd wrong
parts_closed s n m t trees deepest (u ∷ ts) us e some =
    let (test, same) = after_some sign.CloseBrace u ts us some in
    let is = same_is (sign_of u.kind) sign.CloseBrace test in
    rw (e, is) (ap (λ l. with_rest l (made s.limit t.start (tree.Set t.line trees) deepest)) same)

expect_refused : (end : ℕ) (s : Sign) (u : Token) (ts : List Token) (d : SyntaxRefusal) → ◌≡◌ {A = Answer (List Token)} (expect end s (u ∷ ts)) (Err d) →
    (same_sign (sign_of u.kind) s ≡ false) × (Expected u.start ≡ d)
expect_refused end s u ts d e = refused_test (same_sign (sign_of u.kind) s) u ts d e where
  refused_test : (b : Bool) (u : Token) (ts : List Token) (d : SyntaxRefusal) →
      ◌≡◌ {A = Answer (List Token)} (or_expected u.start (if b then Some ts else None)) (Err d) → (b ≡ false) × (Expected u.start ≡ d)
  refused_test true u ts d e = let wrong : ⊥ = cc in absurd wrong
  refused_test false u ts d e = (refl, cc)

expect_given : (end : ℕ) (s : Sign) (u : Token) (ts us : List Token) → ◌≡◌ {A = Answer (List Token)} (expect end s (u ∷ ts)) (Ok us) →
    (same_sign (sign_of u.kind) s ≡ true) × (ts ≡ us)
expect_given end s u ts us e = given_test (same_sign (sign_of u.kind) s) u ts us e where
  given_test : (b : Bool) (u : Token) (ts us : List Token) → ◌≡◌ {A = Answer (List Token)} (or_expected u.start (if b then Some ts else None)) (Ok us) →
      (b ≡ true) × (ts ≡ us)
  given_test true u ts us e = (refl, cc)
  given_test false u ts us e = let wrong : ⊥ = cc in absurd wrong

pub parts_refused : (s : Setting) (n m : ℕ) (t : Token) (trees : List Tree) (deepest : ℕ) (rest : List Token) (d : SyntaxRefusal) → n ≡ suc m →
    after sign.CloseBrace rest ≡ None
    → ◌≡◌ {A = Answer (List Token)} (expect s.end sign.Comma rest) (Err d) → parts s n t trees deepest rest ≡ Err d
unfolding parts
parts_refused s n m t trees deepest [] d e none h = rw e (ap Err (let same : Expected s.end ≡ d = cc in same))
parts_refused s n m t trees deepest (u ∷ ts) d e none h =
    let no = after_none sign.CloseBrace u ts none in
    let (other, same) = expect_refused s.end sign.Comma u ts d h in
    rw e (other_sign s t u trees deepest ts (λ trees deepest rest. parts s m t trees deepest rest) (sign_of u.kind) no other ∙ ap Err same)

comma : (s : Setting) (m : ℕ) (t : Token) (trees : List Tree) (deepest : ℕ) (rest us : List Token) →
    ◌≡◌ {A = Answer (List Token)} (expect s.end sign.Comma rest) (Ok us)
    → parts s (suc m) t trees deepest rest ≡ (s.inner us >>= (λ x. parts s m t (trees ++ x.0.tree ∷ []) (max deepest x.0.depth) x.1))
unfolding parts
comma s m t trees deepest [] us h = let wrong : ⊥ = cc in absurd wrong
comma s m t trees deepest (u ∷ ts) us h =
    let (test, same) = expect_given s.end sign.Comma u ts us h in
    let is = same_is (sign_of u.kind) sign.Comma test in
    rw is (ap (λ l. s.inner l >>= (λ x. parts s m t (trees ++ x.0.tree ∷ []) (max deepest x.0.depth) x.1)) same)

pub parts_stopped : (s : Setting) (n m : ℕ) (t : Token) (trees : List Tree) (deepest : ℕ) (rest us : List Token) (d : SyntaxRefusal) → n ≡ suc m →
    ◌≡◌ {A = Answer (List Token)} (expect s.end sign.Comma rest) (Ok us)
    → s.inner us ≡ Err d → parts s n t trees deepest rest ≡ Err d
parts_stopped s n m t trees deepest rest us d e h inner =
    ap (λ k. parts s k t trees deepest rest) e ∙ comma s m t trees deepest rest us h
    ∙ ap (λ r. r >>= (λ x. parts s m t (trees ++ x.0.tree ∷ []) (max deepest x.0.depth) x.1)) inner

pub parts_on : (s : Setting) (n m : ℕ) (t : Token) (trees : List Tree) (deepest : ℕ) (rest us : List Token) (x : Formed × List Token) → n ≡ suc m →
    ◌≡◌ {A = Answer (List Token)} (expect s.end sign.Comma rest) (Ok us)
    → s.inner us ≡ Ok x → parts s n t trees deepest rest ≡ parts s m t (trees ++ x.0.tree ∷ []) (max deepest x.0.depth) x.1
parts_on s n m t trees deepest rest us x e h inner =
    ap (λ k. parts s k t trees deepest rest) e ∙ comma s m t trees deepest rest us h
    ∙ ap (λ r. r >>= (λ x. parts s m t (trees ++ x.0.tree ∷ []) (max deepest x.0.depth) x.1)) inner

pub one_less : (a i : ℕ) → i < a → a - i ≡ suc (a - (i + 1))
one_less a i h = omega arith
