-- What is read, and where it is refused, rests on the tokens up to there and on the one behind them alone; greater
-- limits change nothing but a refusal for depth.
use Rattle.std.proofs.Common.{append-nil, ◌≡◌, ℕ, zero, suc, ◌+◌, ◌-◌, ◌<◌, ◌≤◌, max, List, [], ◌∷◌, ◌++◌, length, true, false, Some, None, Ok, Err, refl, sym}
use Rattle.std.proofs.Common.{ap, ◌∙◌, subst, arith, append_assoc, length-append, inl, inr}
use Rattle.std.specs.Prelude.{Bool, Option, nat_lt, if◌then◌else◌, ◌==◌, ◌⊎◌}
use Rattle.std.proofs.lemmas.Bool.{cases_Bool, lt-ltb}
use Rattle.sheet_syntax_trees.specs.declared.token.Token.{Token}
use Rattle.sheet_syntax_trees.specs.declared.token.TokenKind.{TokenKind}
use Rattle.sheet_syntax_trees.specs.declared.token.TokenKind.TheVariants as kind
use Rattle.sheet_syntax_trees.specs.declared.token.SyntaxRefusal.{SyntaxRefusal}
use Rattle.sheet_syntax_trees.specs.declared.token.SyntaxRefusal.TheVariants.{Expected, TooNested}
use Rattle.sheet_syntax_trees.specs.declared.sign.Sign.{Sign}
use Rattle.sheet_syntax_trees.specs.declared.sign.Sign.TheVariants as sign
use Rattle.sheet_syntax_trees.specs.declared.operators.Function.{Function}
use Rattle.sheet_syntax_trees.specs.declared.operators.Gathering.{Gathering}
use Rattle.sheet_syntax_trees.specs.declared.operators.Gathering.TheVariants as gathering
use Rattle.sheet_syntax_trees.specs.declared.operators.Quantifier.{Quantifier}
use Rattle.sheet_syntax_trees.specs.declared.tree.Tree.{Tree}
use Rattle.sheet_syntax_trees.specs.declared.tree.Tree.TheVariants as tree
use Rattle.sheet_syntax_trees.specs.declared.tree.Formed.{Formed}
use Rattle.sheet_syntax_trees.specs.declared.operators.Operator.{Operator}
use Rattle.sheet_syntax_trees.specs.declared.operators.Level.{Level}
use Rattle.sheet_syntax_trees.specs.declared.operators.Level.TheVariants as level
use Rattle.sheet_syntax_trees.specs.declared.operators.Prefix.{Prefix}
use Rattle.sheet_syntax_trees.specs.declared.operators.Prefix.TheVariants as prefix
use Rattle.sheet_syntax_trees.specs.Operators.{operator_among, repeats, prefix_sign, prefixed}
use Rattle.sheet_syntax_trees.specs.Signs.{sign_of, same_sign}
use Rattle.sheet_syntax_trees.specs.Reading as reading
use Rattle.sheet_syntax_trees.specs.Reading.{Answer, Reader, ◌>>=◌, Setting, setting, offset, line_of, sign_at, after, expect, name_at, with_rest, made, opened}
use Rattle.sheet_syntax_trees.proofs.Answering.{err_then, ok_then, rest_ok, made_ok}
use Rattle.sheet_syntax_trees.proofs.Binding.{same_self, leafless}
use Rattle.sheet_syntax_trees.specs.declared.operators.Function.TheVariants as function
use Rattle.sheet_syntax_trees.specs.declared.operators.Quantifier.TheVariants as quantifier
use Rattle.sheet_syntax_trees.specs.Reading.{leaf}
use Rattle.sheet_syntax_trees.proofs.SignLemmas.{same_is}
use Rattle.sheet_syntax_trees.proofs.Completeness.{formed, read_whole}
use Rattle.sheet_syntax_trees.specs.Grammar.{Form, Produces, expression}
use Rattle.sheet_syntax_trees.specs.Refusals.{NoneBegins, IsBlocked}

abbrev head : List Token → Option Token
head [] = None
head (t ∷ ts) = Some t

abbrev Same : List Token → List Token → Type 0
Same xs ys = head xs ≡ head ys

same_behind : (front rest rest' : List Token) → Same rest rest' → Same (front ++ rest) (front ++ rest')
same_behind [] rest rest' h = h
same_behind (t ∷ ts) rest rest' h = refl

abbrev offset_of : ℕ → Option Token → ℕ
offset_of end None = end
offset_of end (Some t) = t.start

offset_head : (end : ℕ) (ts : List Token) → offset end ts ≡ offset_of end (head ts)
offset_head end [] = refl
offset_head end (t ∷ ts) = refl

same_offset : (end : ℕ) (xs ys : List Token) → Same xs ys → offset end xs ≡ offset end ys
same_offset end xs ys h = offset_head end xs ∙ ap (offset_of end) h ∙ sym (offset_head end ys)

-- a reader for each greatest depth, count of turns and count of brackets
abbrev Family : Type 0 → Type 0
Family A = ℕ → ℕ → ℕ → List Token → Answer (A × List Token)

record GivenHere (k limit room : ℕ) (A : Type 0) (p : Family A) (ts : List Token) (a : A) (rest : List Token) : Type 0 where
  front : List Token
  split : ts ≡ front ++ rest
  again : (limit' turns' room' : ℕ) (rest' : List Token) → limit ≤ limit' → room ≤ room' → k + length front < turns' → Same rest rest' →
      p limit' turns' room' (front ++ rest') ≡ Ok (a, rest')

record RefusedHere (k end limit room : ℕ) (A : Type 0) (p : Family A) (ts : List Token) (o : ℕ) : Type 0 where
  front : List Token
  rest : List Token
  split : ts ≡ front ++ rest
  here : o ≡ offset end rest
  again : (limit' turns' room' : ℕ) (rest' : List Token) → limit ≤ limit' → room ≤ room' → k + length front < turns' → Same rest rest' →
      p limit' turns' room' (front ++ rest') ≡ Err (Expected (offset end rest'))

record Local (k end limit turns room : ℕ) (A : Type 0) (p : Family A) (ts : List Token) : Type 0 where
  given : (a : A) (rest : List Token) → p limit turns room ts ≡ Ok (a, rest) → GivenHere k limit room A p ts a rest
  refused : (o : ℕ) → p limit turns room ts ≡ Err (Expected o) → RefusedHere k end limit room A p ts o

abbrev IsLocal : (k end turns : ℕ) (A : Type 0) → Family A → Type 0
IsLocal k end turns A p = (limit room : ℕ) (ts : List Token) → k + length ts < turns → Local k end limit turns room A p ts

abbrev then_family : (A B : Type 0) → Family A → (A → Family B) → Family B
then_family A B p q = λ limit turns room ts. p limit turns room ts >>= (λ x. q x.0 limit turns room x.1)

then_local : (k end turns : ℕ) (A B : Type 0) (p : Family A) (q : A → Family B) → IsLocal k end turns A p → ((a : A) → IsLocal k end turns B (q a)) →
    IsLocal k end turns B (then_family A B p q)
then_local k end turns A B p q lp lq limit room ts short =
    record {
      given = λ b rest e.
          let (x, ex, e1) = ok_then (p limit turns room ts) (λ x. q x.0 limit turns room x.1) (b, rest) e in
          let g = (lp limit room ts short).given x.0 x.1 ex in
          let long : length ts ≡ length g.front + length x.1 = ap length g.split ∙ length-append g.front x.1 in
          let h = (lq x.0 limit room x.1 (omega arith)).given b rest e1 in
          record {
            front = g.front ++ h.front;
            split = g.split ∙ ap (λ l. g.front ++ l) h.split ∙ sym (append_assoc g.front h.front rest);
            again = λ limit' turns' room' rest' a1 a2 a3 same.
                let both : length (g.front ++ h.front) ≡ length g.front + length h.front = length-append g.front h.front in
                let mid : Same x.1 (h.front ++ rest') = ap head h.split ∙ same_behind h.front rest rest' same in
                ap (λ l. p limit' turns' room' l >>= (λ x. q x.0 limit' turns' room' x.1)) (append_assoc g.front h.front rest')
                ∙ ap (λ r. r >>= (λ x. q x.0 limit' turns' room' x.1)) (g.again limit' turns' room' (h.front ++ rest') a1 a2 (omega arith) mid)
                ∙ h.again limit' turns' room' rest' a1 a2 (omega arith) same;
          };
      refused = λ o e.
          elim (err_then (p limit turns room ts) (λ x. q x.0 limit turns room x.1) (Expected o) e) [
            | inl e1 ↦
                let r = (lp limit room ts short).refused o e1 in
                record {
                  front = r.front;
                  rest = r.rest;
                  split = r.split;
                  here = r.here;
                  again = λ limit' turns' room' rest' a1 a2 a3 same.
                      ap (λ r. r >>= (λ x. q x.0 limit' turns' room' x.1)) (r.again limit' turns' room' rest' a1 a2 a3 same);
                }
            | inr (x, ex, e1) ↦
                let g = (lp limit room ts short).given x.0 x.1 ex in
                let long : length ts ≡ length g.front + length x.1 = ap length g.split ∙ length-append g.front x.1 in
                let h = (lq x.0 limit room x.1 (omega arith)).refused o e1 in
                record {
                  front = g.front ++ h.front;
                  rest = h.rest;
                  split = g.split ∙ ap (λ l. g.front ++ l) h.split ∙ sym (append_assoc g.front h.front h.rest);
                  here = h.here;
                  again = λ limit' turns' room' rest' a1 a2 a3 same.
                      let both : length (g.front ++ h.front) ≡ length g.front + length h.front = length-append g.front h.front in
                      let mid : Same x.1 (h.front ++ rest') = ap head h.split ∙ same_behind h.front h.rest rest' same in
                      ap (λ l. p limit' turns' room' l >>= (λ x. q x.0 limit' turns' room' x.1)) (append_assoc g.front h.front rest')
                      ∙ ap (λ r. r >>= (λ x. q x.0 limit' turns' room' x.1)) (g.again limit' turns' room' (h.front ++ rest') a1 a2 (omega arith) mid)
                      ∙ h.again limit' turns' room' rest' a1 a2 (omega arith) same;
                }
          ];
    }

-- ---- small readers

abbrev nothing : Type 0
nothing = Unit {0}

-- a reader of tokens alone, and what follows it
abbrev skip_family : (B : Type 0) → (ℕ → ℕ → ℕ → List Token → Answer (List Token)) → Family B → Family B
skip_family B p q = λ limit turns room ts. p limit turns room ts >>= (λ rest. q limit turns room rest)

abbrev Skips : Type 0
Skips = ℕ → ℕ → ℕ → List Token → Answer (List Token)

record SkipLocal (end : ℕ) (p : Skips) : Type 0 where
  given : (limit turns room : ℕ) (ts rest : List Token) → p limit turns room ts ≡ Ok rest →
      (t : Token) × (ts ≡ t ∷ rest) × ((limit' turns' room' : ℕ) (rest' : List Token) → limit ≤ limit' → room ≤ room' →
      p limit' turns' room' (t ∷ rest') ≡ Ok rest')
  refused : (limit turns room o : ℕ) (ts : List Token) → p limit turns room ts ≡ Err (Expected o)
      → (o ≡ offset end ts) × ((limit' turns' room' : ℕ) (rest' : List Token) → limit ≤ limit' → room ≤ room' → Same ts rest' →
      p limit' turns' room' rest' ≡ Err (Expected (offset end rest')))

skip_local : (k end turns : ℕ) (B : Type 0) (p : Skips) (q : Family B) → SkipLocal end p → IsLocal k end turns B q → IsLocal k end turns B (skip_family B p q)
skip_local k end turns B p q lp lq limit room ts short =
    record {
      given = λ b rest e.
          let (mid, em, e1) = ok_then (p limit turns room ts) (λ rest. q limit turns room rest) (b, rest) e in
          let (t, is, again) = lp.given limit turns room ts mid em in
          let long : length ts ≡ length mid + 1 = ap length is ∙ (let l : length (t ∷ mid) ≡ length mid + 1 = omega arith in l) in
          let h = (lq limit room mid (omega arith)).given b rest e1 in
          record {
            front = t ∷ h.front;
            split = is ∙ ap (λ l. t ∷ l) h.split;
            again = λ limit' turns' room' rest' a1 a2 a3 same.
                ap (λ r. r >>= (λ rest. q limit' turns' room' rest)) (again limit' turns' room' (h.front ++ rest') a1 a2)
                ∙ h.again limit' turns' room' rest' a1 a2 (omega arith) same;
          };
      refused = λ o e.
          elim (err_then (p limit turns room ts) (λ rest. q limit turns room rest) (Expected o) e) [
            | inl e1 ↦
                let (here, again) = lp.refused limit turns room o ts e1 in
                record {
                  front = [];
                  rest = ts;
                  split = refl;
                  here = here;
                  again = λ limit' turns' room' rest' a1 a2 a3 same.
                      ap (λ r. r >>= (λ rest. q limit' turns' room' rest)) (again limit' turns' room' rest' a1 a2 same);
                }
            | inr (mid, em, e1) ↦
                let (t, is, again) = lp.given limit turns room ts mid em in
                let long : length ts ≡ length mid + 1 = ap length is ∙ (let l : length (t ∷ mid) ≡ length mid + 1 = omega arith in l) in
                let h = (lq limit room mid (omega arith)).refused o e1 in
                record {
                  front = t ∷ h.front;
                  rest = h.rest;
                  split = is ∙ ap (λ l. t ∷ l) h.split;
                  here = h.here;
                  again = λ limit' turns' room' rest' a1 a2 a3 same.
                      ap (λ r. r >>= (λ rest. q limit' turns' room' rest)) (again limit' turns' room' (h.front ++ rest') a1 a2)
                      ∙ h.again limit' turns' room' rest' a1 a2 (omega arith) same;
                }
          ];
    }

-- expecting a sign, by the test of the first token
expect_test : (b : Bool) (at : ℕ) (ts : List Token) →
    ◌≡◌ {A = Answer (List Token)} (reading.or_expected at (if b then Some ts else None)) (if b then Ok ts else Err (Expected at))
expect_test true at ts = refl
expect_test false at ts = refl

tested : {A : Type 0} (b : Bool) (x : A) (at o : ℕ) → ◌≡◌ {A = Answer A} (if b then Ok x else Err (Expected at)) (Err (Expected o)) → (b ≡ false) × (o ≡ at)
tested true x at o e = let wrong : ⊥ = cc in absurd wrong
tested false x at o e = (refl, cc)

tested_ok : {A : Type 0} (b : Bool) (x y : A) (at : ℕ) → ◌≡◌ {A = Answer A} (if b then Ok x else Err (Expected at)) (Ok y) → (b ≡ true) × (x ≡ y)
tested_ok true x y at e = (refl, cc)
tested_ok false x y at e = let wrong : ⊥ = cc in absurd wrong

expect_refused : (end : ℕ) (s : Sign) (ts us : List Token) (o : ℕ) → expect end s ts ≡ Err (Expected o) → Same ts us →
    (o ≡ offset end ts) × (expect end s us ≡ Err (Expected (offset end us)))
expect_refused end s [] [] o e h = (cc, refl)
expect_refused end s [] (u ∷ us) o e h = let wrong : ⊥ = cc in absurd wrong
expect_refused end s (t ∷ ts) [] o e h = let wrong : ⊥ = cc in absurd wrong
expect_refused end s (t ∷ ts) (u ∷ us) o e h =
    let (test, at) = tested (same_sign (sign_of t.kind) s) ts t.start o (sym (expect_test (same_sign (sign_of t.kind) s) t.start ts) ∙ e) in
    let same : t ≡ u = cc in
    let test' : same_sign (sign_of u.kind) s ≡ false = sym (ap (λ (v : Token). same_sign (sign_of v.kind) s) same) ∙ test in
    (at, rw test' refl)

expect_given' : (end : ℕ) (s : Sign) (ts rest : List Token) → expect end s ts ≡ Ok rest →
    (t : Token) × (ts ≡ t ∷ rest) × ((rest' : List Token) → expect end s (t ∷ rest') ≡ Ok rest')
expect_given' end s [] rest e = let wrong : ⊥ = cc in absurd wrong
expect_given' end s (t ∷ ts) rest e =
    let (test, same) = tested_ok (same_sign (sign_of t.kind) s) ts rest t.start (sym (expect_test (same_sign (sign_of t.kind) s) t.start ts) ∙ e) in
    (t, ap (λ l. t ∷ l) same, λ rest'. rw test refl)

expect_local : (end : ℕ) (s : Sign) → SkipLocal end (λ limit turns room ts. expect end s ts)
expect_local end s =
    record {
      given = λ limit turns room ts rest e. let (t, is, again) = expect_given' end s ts rest e in (t, is, λ limit' turns' room' rest' a1 a2. again rest');
      refused = λ limit turns room o ts e. let (at, none) = expect_refused end s ts ts o e refl in
          (at, λ limit' turns' room' rest' a1 a2 same. let (at', none') = expect_refused end s ts rest' o e same in none');
    }

room_refused : (b : Bool) (at o : ℕ) (ts : List Token) → ◌≡◌ {A = Answer (List Token)} (if b then Err (TooNested at) else Ok ts) (Err (Expected o)) → ⊥
room_refused true at o ts e = cc
room_refused false at o ts e = cc

room_given : (b : Bool) (at : ℕ) (ts rest : List Token) → ◌≡◌ {A = Answer (List Token)} (if b then Err (TooNested at) else Ok ts) (Ok rest) →
    (b ≡ false) × (ts ≡ rest)
room_given true at ts rest e = let wrong : ⊥ = cc in absurd wrong
room_given false at ts rest e = (refl, cc)

no_zero : (n : ℕ) → (n == 0) ≡ false → 0 < n
no_zero n e = grind arith

zero_test : (n : ℕ) → 0 < n → (n == 0) ≡ false
zero_test n h = grind arith

abbrev opens : ℕ → Sign → Skips
opens end b = λ limit turns room ts. opened (setting limit end (turns - 1) room) b ts

opened_local : (end : ℕ) (b : Sign) → SkipLocal end (opens end b)
opened_local end b =
    record {
      given = λ limit turns room ts rest e.
          let (mid, em, e1) = ok_then (expect end b ts) (λ rest. if room == 0 then Err (TooNested (offset end ts)) else Ok rest) rest e in
          let (t, is, again) = expect_given' end b ts mid em in
          let (some, same) = room_given (room == 0) (offset end ts) mid rest e1 in (
            t,
            is ∙ ap (λ l. t ∷ l) same,
            λ limit' turns' room' rest' a1 a2.
                let n = no_zero room some in
                let test : (room' == 0) ≡ false = zero_test room' (omega arith) in
                ap (λ r. r >>= (λ rest. if room' == 0 then Err (TooNested (offset end (t ∷ rest'))) else Ok rest)) (again rest') ∙ rw test refl,
          );
      refused = λ limit turns room o ts e.
          elim (err_then (expect end b ts) (λ rest. if room == 0 then Err (TooNested (offset end ts)) else Ok rest) (Expected o) e) [
            | inl e1 ↦
                let (at, none) = expect_refused end b ts ts o e1 refl in (
                  at,
                  λ limit' turns' room' rest' a1 a2 same. let (at', none') = expect_refused end b ts rest' o e1 same in
                      ap (λ r. r >>= (λ rest. if room' == 0 then Err (TooNested (offset end rest')) else Ok rest)) none',
                )
            | inr (mid, em, e1) ↦ absurd (room_refused (room == 0) (offset end ts) o mid e1)
          ];
    }

name_test : (k : TokenKind) (at o : ℕ) (ts : List Token) → with_rest ts (reading.or_expected at (reading.name_of k)) ≡ Err (Expected o) →
    (reading.name_of k ≡ None) × (o ≡ at)
name_test (kind.Name n) at o ts e = let wrong : ⊥ = cc in absurd wrong
name_test (kind.Reserved w) at o ts e = (refl, cc)
name_test (kind.Number n) at o ts e = (refl, cc)
name_test (kind.Text x) at o ts e = (refl, cc)
name_test (kind.Symbol x) at o ts e = (refl, cc)

name_refused : (end : ℕ) (ts us : List Token) (o : ℕ) → name_at end ts ≡ Err (Expected o) → Same ts us →
    (o ≡ offset end ts) × (name_at end us ≡ Err (Expected (offset end us)))
name_refused end [] [] o e h = (cc, refl)
name_refused end [] (u ∷ us) o e h = let wrong : ⊥ = cc in absurd wrong
name_refused end (t ∷ ts) [] o e h = let wrong : ⊥ = cc in absurd wrong
name_refused end (t ∷ ts) (u ∷ us) o e h =
    let (none, at) = name_test t.kind t.start o ts e in
    let same : t ≡ u = cc in
    let none' : reading.name_of u.kind ≡ None = sym (ap (λ (v : Token). reading.name_of v.kind) same) ∙ none in
    (at, rw none' refl)

name_given' : (end : ℕ) (ts : List Token) (n : List ℕ) (rest : List Token) → name_at end ts ≡ Ok (n, rest) →
    (t : Token) × (ts ≡ t ∷ rest) × ((rest' : List Token) → name_at end (t ∷ rest') ≡ Ok (n, rest'))
name_given' end [] n rest e = let wrong : ⊥ = cc in absurd wrong
name_given' end (t ∷ ts) n rest e =
    let (m, found, is) = rest_ok ts (reading.or_expected t.start (reading.name_of t.kind)) (n, rest) e in
    let first : n ≡ m = ap (λ (p : List ℕ × List Token). p.0) is in
    let second : rest ≡ ts = ap (λ (p : List ℕ × List Token). p.1) is in
    (t, ap (λ l. t ∷ l) (sym second), λ rest'. ap (with_rest rest') (found ∙ ap Ok (sym first)))

name_local : (k end turns : ℕ) → IsLocal k end turns (List ℕ) (λ limit turns room ts. name_at end ts)
name_local k end turns limit room ts short =
    record {
      given = λ n rest e. let (t, is, again) = name_given' end ts n rest e in
          record { front = t ∷ []; split = is; again = λ limit' turns' room' rest' a1 a2 a3 same. again rest' };
      refused = λ o e. let (at, none) = name_refused end ts ts o e refl in
          record {
            front = [];
            rest = ts;
            split = refl;
            here = at;
            again = λ limit' turns' room' rest' a1 a2 a3 same. let (at', none') =
                name_refused end ts rest' o e same in none';
          };
    }

made_never : (b : Bool) (f : Formed) (at o : ℕ) (ts : List Token) → with_rest ts (if b then Ok f else Err (TooNested at)) ≡ Err (Expected o) → ⊥
made_never true f at o ts e = cc
made_never false f at o ts e = cc

made_local : (k end turns at : ℕ) (e : Tree) (deepest : ℕ) → IsLocal k end turns Formed (λ limit turns room ts. with_rest ts (made limit at e deepest))
made_local k end turns at e deepest limit room ts short =
    record {
      given = λ f rest h.
          let (g, found, is) = rest_ok ts (made limit at e deepest) (f, rest) h in
          let (fits, same) = made_ok limit at e deepest g found in
          let first : f ≡ g = ap (λ (p : Formed × List Token). p.0) is in
          let second : rest ≡ ts = ap (λ (p : Formed × List Token). p.1) is in
          record {
            front = [];
            split = sym second;
            again = λ limit' turns' room' rest' a1 a2 a3 b.
                let test : nat_lt deepest limit' ≡ true = lt-ltb deepest limit' (omega arith) in
                rw test (ap (λ z. Ok (z, rest')) (sym (first ∙ same)));
          };
      refused = λ o h. absurd (made_never (nat_lt deepest limit) (record { tree = e; depth = deepest + 1 }) at o ts h);
    }

-- ---- brackets

abbrev Inner : ℕ → Family Formed
Inner end = λ limit turns room ts. reading.within limit end turns room ts

abbrev InBracket : ℕ → Family Formed
InBracket end = λ limit turns room ts. reading.within limit end (turns - 1) (room - 1) ts

abbrev InChoice : ℕ → Family Formed
InChoice end = λ limit turns room ts. reading.within limit end (turns - 1) room ts

called_local : (end turns : ℕ) → IsLocal 1 end turns Formed (InBracket end) → (h : Function) (t : Token) →
    IsLocal 1 end turns Formed (λ limit turns room ts. reading.called (setting limit end (turns - 1) room) h t ts)
unfolding reading.called
called_local end turns inner h t =
    skip_local 1 end turns Formed (opens end sign.Open) _ (opened_local end sign.Open)
    (then_local 1 end turns Formed Formed (InBracket end) (λ x limit turns room ts.
    expect end sign.Close ts >>= (λ rest. with_rest rest (reading.call limit t h x))) inner
    (λ x. skip_local 1 end turns Formed (λ limit turns room ts. expect end sign.Close ts) (λ limit turns room ts. with_rest ts (reading.call limit t h x))
    (expect_local end sign.Close) (made_local 1 end turns t.start (tree.Call t.line h x.tree) x.depth)))

tested_local : (end turns : ℕ) → IsLocal 1 end turns Formed (InBracket end) → (q : Quantifier) (t : Token) →
    IsLocal 1 end turns Formed (λ limit turns room ts. reading.tested (setting limit end (turns - 1) room) q t ts)
unfolding reading.tested
tested_local end turns inner q t =
    skip_local 1 end turns Formed (opens end sign.Open) _ (opened_local end sign.Open)
    (then_local 1 end turns (List ℕ) Formed (λ limit turns room ts. name_at end ts)
    (λ name limit turns room ts.
    expect end sign.In
    ts >>= (λ b. reading.within limit end (turns - 1) (room - 1)
    b >>= (λ source. expect end sign.Bar source.1 >>= (λ c. reading.within limit end (turns - 1) (room - 1) c >>= (λ p.
    expect end sign.Close p.1 >>= (λ rest. with_rest rest (reading.test limit t q name source.0 p.0))))))) (name_local 1 end turns)
    (λ name. skip_local 1 end turns Formed (λ limit turns room ts. expect end sign.In ts) _ (expect_local end sign.In)
    (then_local 1 end turns Formed Formed (InBracket end)
    (λ source limit turns room ts.
    expect end sign.Bar
    ts >>= (λ c. reading.within limit end (turns - 1) (room - 1)
    c >>= (λ p. expect end sign.Close p.1 >>= (λ rest. with_rest rest (reading.test limit t q name source p.0))))) inner
    (λ source. skip_local 1 end turns Formed (λ limit turns room ts. expect end sign.Bar ts) _ (expect_local end sign.Bar)
    (then_local 1 end turns Formed Formed (InBracket end) (λ p limit turns room ts.
    expect end sign.Close ts >>= (λ rest. with_rest rest (reading.test limit t q name source p))) inner
    (λ p. skip_local 1 end turns Formed (λ limit turns room ts. expect end sign.Close ts) (λ limit turns room ts.
    with_rest ts (reading.test limit t q name source p)) (expect_local end sign.Close)
    (made_local 1 end turns t.start (tree.Test t.line q name source.tree p.tree) (max source.depth p.depth))))))))

chosen_local : (end turns : ℕ) → IsLocal 1 end turns Formed (InChoice end) → (t : Token) →
    IsLocal 1 end turns Formed (λ limit turns room ts. reading.chosen (setting limit end (turns - 1) room) t ts)
unfolding reading.chosen
chosen_local end turns inner t =
    then_local 1 end turns Formed Formed (InChoice end)
    (λ c limit turns room ts.
    expect end sign.Then
    ts >>= (λ a. reading.within limit end (turns - 1) room
    a >>= (λ x. expect end sign.Else
    x.1 >>= (λ b. reading.within limit end (turns - 1) room b >>= (λ y. with_rest y.1 (reading.choice limit t c x.0 y.0)))))) inner
    (λ c. skip_local 1 end turns Formed (λ limit turns room ts. expect end sign.Then ts) _ (expect_local end sign.Then)
    (then_local 1 end turns Formed Formed (InChoice end)
    (λ x limit turns room ts.
    expect end sign.Else ts >>= (λ b. reading.within limit end (turns - 1) room b >>= (λ y. with_rest y.1 (reading.choice limit t c x y.0)))) inner
    (λ x. skip_local 1 end turns Formed (λ limit turns room ts. expect end sign.Else ts) _ (expect_local end sign.Else)
    (then_local 1 end turns Formed Formed (InChoice end) (λ y limit turns room ts. with_rest ts (reading.choice limit t c x y)) inner
    (λ y. made_local 1 end turns t.start (tree.If t.line c.tree x.tree y.tree) (max c.depth (max x.depth y.depth)))))))

closed_local : (end turns : ℕ) (g : Gathering) (close : Sign) (t : Token) (f : Formed) (name : List ℕ) (source : Formed) →
    IsLocal 1 end turns Formed (λ limit turns room ts. reading.closed (setting limit end (turns - 1) room) g close t f name source ts)
unfolding reading.closed
closed_local end turns g close t f name source =
    skip_local 1 end turns Formed (λ limit turns room ts. expect end close ts) (λ limit turns room ts. with_rest ts (reading.gather limit t g f name source))
    (expect_local end close)
    (made_local 1 end turns t.start (tree.Gather t.line g f.tree name source.tree) (max f.depth source.depth))

closed_where_local : (end turns : ℕ) → IsLocal 1 end turns Formed (InBracket end) →
    (g : Gathering) (close : Sign) (t : Token) (f : Formed) (name : List ℕ) (source : Formed)
    → IsLocal 1 end turns Formed (λ limit turns room ts. reading.closed_where (setting limit end (turns - 1) room) g close t f name source ts)
unfolding reading.closed_where
closed_where_local end turns inner g close t f name source =
    then_local 1 end turns Formed Formed (InBracket end) (λ p limit turns room ts.
    expect end close ts >>= (λ rest. with_rest rest (reading.gather_where limit t g f name source p))) inner
    (λ p. skip_local 1 end turns Formed (λ limit turns room ts. expect end close ts) (λ limit turns room ts.
    with_rest ts (reading.gather_where limit t g f name source p)) (expect_local end close)
    (made_local 1 end turns t.start (tree.GatherWhere t.line g f.tree name source.tree p.tree) (max f.depth (max source.depth p.depth))))

-- ---- choices by the first token

after_same_none : (s : Sign) (ts us : List Token) → Same ts us → after s ts ≡ None → after s us ≡ None
after_same_none s [] [] h e = e
after_same_none s [] (u ∷ us) h e = let wrong : ⊥ = cc in absurd wrong
after_same_none s (t ∷ ts) [] h e = let wrong : ⊥ = cc in absurd wrong
after_same_none s (t ∷ ts) (u ∷ us) h e =
    let same : t ≡ u = cc in
    let test = none_test (same_sign (sign_of t.kind) s) ts e in
    let test' : same_sign (sign_of u.kind) s ≡ false = sym (ap (λ (v : Token). same_sign (sign_of v.kind) s) same) ∙ test in
    rw test' refl where
      none_test : (b : Bool) (ts : List Token) → (if b then Some ts else None) ≡ None → b ≡ false
      none_test true ts e = let wrong : ⊥ = cc in absurd wrong
      none_test false ts e = refl

after_some' : (s : Sign) (ts rest : List Token) → after s ts ≡ Some rest →
    (t : Token) × (ts ≡ t ∷ rest) × ((rest' : List Token) → after s (t ∷ rest') ≡ Some rest')
after_some' s [] rest e = let wrong : ⊥ = cc in absurd wrong
after_some' s (t ∷ ts) rest e =
    let (test, same) = some_test (same_sign (sign_of t.kind) s) ts rest e in
    (t, ap (λ l. t ∷ l) same, λ rest'. rw test refl) where
      some_test : (b : Bool) (ts rest : List Token) → (if b then Some ts else None) ≡ Some rest → (b ≡ true) × (ts ≡ rest)
      some_test true ts rest e = (refl, cc)
      some_test false ts rest e = let wrong : ⊥ = cc in absurd wrong

-- a reader that goes by whether a sign stands first
branch_local : (k end turns : ℕ) (A : Type 0) (s : Sign) (f : ℕ → ℕ → ℕ → List Token → Option (List Token) → Answer (A × List Token)) (p q : Family A)
    → ((limit turns room : ℕ) (ts rest : List Token) → f limit turns room ts (Some rest) ≡ p limit turns room rest) →
    ((limit turns room : ℕ) (ts : List Token) → f limit turns room ts None ≡ q limit turns room ts)
    → IsLocal k end turns A p → IsLocal k end turns A q → IsLocal k end turns A (λ limit turns room ts. f limit turns room ts (after s ts))
branch_local k end turns A s f p q fp fq lp lq limit room ts short = by_case (after s ts) refl where
  by_case : (o : Option (List Token)) → after s ts ≡ o → Local k end limit turns room A (λ limit turns room ts. f limit turns room ts (after s ts)) ts
  by_case None e =
      let l = lq limit room ts short in
      record {
        given = λ a rest h.
            let g = l.given a rest (sym (fq limit turns room ts) ∙ ap (f limit turns room ts) (sym e) ∙ h) in
            record {
              front = g.front;
              split = g.split;
              again = λ limit' turns' room' rest' a1 a2 a3 same.
                  ap (f limit' turns' room' (g.front ++ rest'))
                  (after_same_none s ts (g.front ++ rest') (ap head g.split ∙ same_behind g.front rest rest' same) e)
                  ∙ fq limit' turns' room' (g.front ++ rest') ∙ g.again limit' turns' room' rest' a1 a2 a3 same;
            };
        refused = λ o h.
            let g = l.refused o (sym (fq limit turns room ts) ∙ ap (f limit turns room ts) (sym e) ∙ h) in
            record {
              front = g.front;
              rest = g.rest;
              split = g.split;
              here = g.here;
              again = λ limit' turns' room' rest' a1 a2 a3 same.
                  ap (f limit' turns' room' (g.front ++ rest'))
                  (after_same_none s ts (g.front ++ rest') (ap head g.split ∙ same_behind g.front g.rest rest' same) e)
                  ∙ fq limit' turns' room' (g.front ++ rest') ∙ g.again limit' turns' room' rest' a1 a2 a3 same;
            };
      }
  by_case (Some mid) e =
      let (t, is, again) = after_some' s ts mid e in
      let long : length ts ≡ length mid + 1 = ap length is ∙ (let l : length (t ∷ mid) ≡ length mid + 1 = omega arith in l) in
      let l = lp limit room mid (omega arith) in
      record {
        given = λ a rest h.
            let g = l.given a rest (sym (fp limit turns room ts mid) ∙ ap (f limit turns room ts) (sym e) ∙ h) in
            record {
              front = t ∷ g.front;
              split = is ∙ ap (λ l. t ∷ l) g.split;
              again = λ limit' turns' room' rest' a1 a2 a3 same.
                  ap (f limit' turns' room' (t ∷ (g.front ++ rest'))) (again (g.front ++ rest'))
                  ∙ fp limit' turns' room' (t ∷ (g.front ++ rest')) (g.front ++ rest') ∙ g.again limit' turns' room' rest' a1 a2 (omega arith) same;
            };
        refused = λ o h.
            let g = l.refused o (sym (fp limit turns room ts mid) ∙ ap (f limit turns room ts) (sym e) ∙ h) in
            record {
              front = t ∷ g.front;
              rest = g.rest;
              split = is ∙ ap (λ l. t ∷ l) g.split;
              here = g.here;
              again = λ limit' turns' room' rest' a1 a2 a3 same.
                  ap (f limit' turns' room' (t ∷ (g.front ++ rest'))) (again (g.front ++ rest'))
                  ∙ fp limit' turns' room' (t ∷ (g.front ++ rest')) (g.front ++ rest') ∙ g.again limit' turns' room' rest' a1 a2 (omega arith) same;
            };
      }

conditioned_local : (end turns : ℕ) → IsLocal 1 end turns Formed (InBracket end) →
    (g : Gathering) (close : Sign) (t : Token) (f : Formed) (name : List ℕ) (source : Formed)
    → IsLocal 1 end turns Formed (λ limit turns room ts. reading.conditioned (setting limit end (turns - 1) room) g close t f name source ts
    (after sign.Bar ts))
conditioned_local end turns inner g close t f name source =
    branch_local 1 end turns Formed sign.Bar (λ limit turns room ts o. reading.conditioned (setting limit end (turns - 1) room) g close t f name source ts o)
    (λ limit turns room ts. reading.closed_where (setting limit end (turns - 1) room) g close t f name source ts) (λ limit turns room ts.
    reading.closed (setting limit end (turns - 1) room) g close t f name source ts)
    (λ limit turns room ts rest. refl) (λ limit turns room ts. refl) (closed_where_local end turns inner g close t f name source)
    (closed_local end turns g close t f name source)

gathered_local : (end turns : ℕ) → IsLocal 1 end turns Formed (InBracket end) → (g : Gathering) (close : Sign) (t : Token) (f : Formed) →
    IsLocal 1 end turns Formed (λ limit turns room ts. reading.gathered (setting limit end (turns - 1) room) g close t f ts)
unfolding reading.gathered
gathered_local end turns inner g close t f =
    skip_local 1 end turns Formed (λ limit turns room ts. expect end sign.Colon ts) _ (expect_local end sign.Colon)
    (then_local 1 end turns (List ℕ) Formed (λ limit turns room ts. name_at end ts)
    (λ name limit turns room ts.
    expect end sign.In
    ts >>= (λ b. reading.within limit end (turns - 1) (room - 1)
    b >>= (λ source. reading.conditioned (setting limit end (turns - 1) room) g close t f name source.0 source.1 (after sign.Bar source.1))))
    (name_local 1 end turns)
    (λ name. skip_local 1 end turns Formed (λ limit turns room ts. expect end sign.In ts) _ (expect_local end sign.In)
    (then_local 1 end turns Formed Formed (InBracket end) (λ source limit turns room ts.
    reading.conditioned (setting limit end (turns - 1) room) g close t f name source ts (after sign.Bar ts)) inner
    (λ source. conditioned_local end turns inner g close t f name source))))

summed_local : (end turns : ℕ) → IsLocal 1 end turns Formed (InBracket end) → (t : Token) →
    IsLocal 1 end turns Formed (λ limit turns room ts. reading.summed (setting limit end (turns - 1) room) t ts)
unfolding reading.summed
summed_local end turns inner t =
    skip_local 1 end turns Formed (opens end sign.Open) _ (opened_local end sign.Open)
    (then_local 1 end turns Formed Formed (InBracket end) (λ f limit turns room ts.
    reading.gathered (setting limit end (turns - 1) room) gathering.Sum sign.Close t f ts) inner
    (λ f. gathered_local end turns inner gathering.Sum sign.Close t f))

done_local : (k end turns : ℕ) (f : Formed) → IsLocal k end turns Formed (λ limit turns room ts. Ok (f, ts))
done_local k end turns f limit room ts short =
    record {
      given = λ g rest e.
          let same : (f, ts) ≡ (g, rest) = cc in
          let first : f ≡ g = ap (λ (p : Formed × List Token). p.0) same in
          let second : ts ≡ rest = ap (λ (p : Formed × List Token). p.1) same in
          record { front = []; split = second; again = λ limit' turns' room' rest' a1 a2 a3 b. ap (λ z. Ok (z, rest')) first };
      refused = λ o e. let wrong : ⊥ = cc in absurd wrong;
    }

parenthesised_local : (end turns : ℕ) → IsLocal 1 end turns Formed (InBracket end) →
    IsLocal 1 end turns Formed (λ limit turns room ts. reading.parenthesised (setting limit end (turns - 1) room) ts)
unfolding reading.parenthesised
parenthesised_local end turns inner =
    then_local 1 end turns Formed Formed (InBracket end) (λ x limit turns room ts. expect end sign.Close ts >>= (λ rest. Ok (x, rest))) inner
    (λ x. skip_local 1 end turns Formed (λ limit turns room ts. expect end sign.Close ts) (λ limit turns room ts. Ok (x, ts)) (expect_local end sign.Close)
    (done_local 1 end turns x))

-- ---- loops, with a count of turns of their own

abbrev Counted : Type 0
Counted = ℕ → Family Formed

record LoopGiven (k limit room : ℕ) (p : Counted) (ts : List Token) (a : Formed) (rest : List Token) : Type 0 where
  front : List Token
  split : ts ≡ front ++ rest
  again : (limit' turns' room' n' : ℕ) (rest' : List Token) → limit ≤ limit' → room ≤ room' → k + length front < turns' → length (front ++ rest') ≤ n' →
      Same rest rest' → p n' limit' turns' room' (front ++ rest') ≡ Ok (a, rest')

record LoopRefused (k end limit room : ℕ) (p : Counted) (ts : List Token) (o : ℕ) : Type 0 where
  front : List Token
  rest : List Token
  split : ts ≡ front ++ rest
  here : o ≡ offset end rest
  again : (limit' turns' room' n' : ℕ) (rest' : List Token) → limit ≤ limit' → room ≤ room' → k + length front < turns' → length (front ++ rest') ≤ n' →
      Same rest rest' → p n' limit' turns' room' (front ++ rest') ≡ Err (Expected (offset end rest'))

record LoopLocal (k end n limit turns room : ℕ) (p : Counted) (ts : List Token) : Type 0 where
  given : (a : Formed) (rest : List Token) → p n limit turns room ts ≡ Ok (a, rest) → LoopGiven k limit room p ts a rest
  refused : (o : ℕ) → p n limit turns room ts ≡ Err (Expected o) → LoopRefused k end limit room p ts o

abbrev IsLoop : (k end turns n : ℕ) → Counted → Type 0
IsLoop k end turns n p = (limit room : ℕ) (ts : List Token) → length ts ≤ n → k + length ts < turns → LoopLocal k end n limit turns room p ts

abbrev PartsLoop : ℕ → Token → List Tree → ℕ → Counted
PartsLoop end t trees deepest = λ n limit turns room ts. reading.parts (setting limit end (turns - 1) room) n t trees deepest ts

parts_next : (end n limit turns room : ℕ) (t u : Token) (trees : List Tree) (deepest : ℕ) (ts : List Token) (sg : Sign) → sign_of u.kind ≡ sg →
    length (u ∷ ts) ≤ n
    → (m : ℕ) × (length ts ≤ m) × (PartsLoop end t trees deepest n limit turns room (u ∷ ts) ≡ reading.parts_by (setting limit end (turns - 1) room) t trees
    deepest u ts sg (λ trees deepest rest. PartsLoop end t trees deepest m limit turns room rest))
unfolding reading.parts
parts_next end zero limit turns room t u trees deepest ts sg is enough = absurd (omega arith)
parts_next end (suc n) limit turns room t u trees deepest ts sg is enough = (n, omega arith, rw is refl)

parts_empty : (end n limit turns room : ℕ) (t : Token) (trees : List Tree) (deepest : ℕ) →
    PartsLoop end t trees deepest n limit turns room [] ≡ Err (Expected end)
unfolding reading.parts
parts_empty end zero limit turns room t trees deepest = refl
parts_empty end (suc n) limit turns room t trees deepest = refl

same_nil : (us : List Token) → Same [] us → us ≡ []
same_nil [] h = refl
same_nil (u ∷ us) h = let wrong : ⊥ = cc in absurd wrong

same_cons : (t : Token) (ts us : List Token) → Same (t ∷ ts) us → (vs : List Token) × (us ≡ t ∷ vs)
same_cons t ts [] h = let wrong : ⊥ = cc in absurd wrong
same_cons t ts (u ∷ us) h = (us, let same : t ≡ u = cc in ap (λ v. v ∷ us) (sym same))

-- a loop that is refused at its first token
refused_first : (k end n limit turns room : ℕ) (p : Counted) (u : Token) (ts : List Token) → p n limit turns room (u ∷ ts) ≡ Err (Expected u.start)
    → ((limit' turns' room' n' : ℕ) (vs : List Token) → limit ≤ limit' → room ≤ room' → length (u ∷ vs) ≤ n' →
    p n' limit' turns' room' (u ∷ vs) ≡ Err (Expected u.start)) → LoopLocal k end n limit turns room p (u ∷ ts)
refused_first k end n limit turns room p u ts e more =
    record {
      given = λ a rest h. let wrong : ◌≡◌ {A = Answer (Formed × List Token)} (Err (Expected u.start)) (Ok (a, rest)) = sym e ∙ h in let no_way : ⊥ = cc in
          absurd no_way;
      refused = λ o h.
          let same : ◌≡◌ {A = Answer (Formed × List Token)} (Err (Expected u.start)) (Err (Expected o)) = sym e ∙ h in
          let at : o ≡ u.start = cc in
          record {
            front = [];
            rest = u ∷ ts;
            split = refl;
            here = at;
            again = λ limit' turns' room' n' rest' a1 a2 a3 enough b.
                let (vs, is) = same_cons u ts rest' b in
                let P : List Token → Type 0 = λ l. length l ≤ n' → p n' limit' turns' room' l ≡ Err (Expected (offset end l)) in
                subst P (sym is) (λ enough. more limit' turns' room' n' vs a1 a2 enough) enough;
          };
    }

parts_other : (s : Setting) (t u : Token) (trees : List Tree) (deepest : ℕ) (ts : List Token) (go : List Tree → ℕ → List Token →
    Answer (Formed × List Token)) (sg : Sign) → (sg ≡ sign.CloseBrace → ⊥) → (sg ≡ sign.Comma → ⊥)
    → reading.parts_by s t trees deepest u ts sg go ≡ Err (Expected u.start)
parts_other s t u trees deepest ts go sign.CloseBrace a b = absurd (a refl)
parts_other s t u trees deepest ts go sign.Comma a b = absurd (b refl)
parts_other s t u trees deepest ts go _ a b = refl

-- which of two signs, or another
which : (sg a b : Sign) → (sg ≡ a) ⊎ ((sg ≡ b) ⊎ ((sg ≡ a → ⊥) × (sg ≡ b → ⊥)))
which sg a b =
    elim (cases_Bool (same_sign sg a)) [
      | inl h ↦ inl (same_is sg a h)
      | inr h ↦
          elim (cases_Bool (same_sign sg b)) [
            | inl k ↦ inr (inl (same_is sg b k))
            | inr k ↦ inr (inr (λ e. (let t = same_self sg a e in let wrong : ⊥ = cc in wrong), λ e. (let t = same_self sg b e in let wrong : ⊥ = cc in wrong)))
          ]
    ]

parts_step : (end n limit turns room : ℕ) (t u : Token) (trees : List Tree) (deepest : ℕ) (ts : List Token) (sg : Sign) → sign_of u.kind ≡ sg
    → PartsLoop end t trees deepest (suc n) limit turns room (u ∷ ts) ≡ reading.parts_by (setting limit end (turns - 1) room) t trees deepest u ts sg
    (λ trees deepest rest. PartsLoop end t trees deepest n limit turns room rest)
unfolding reading.parts
parts_step end n limit turns room t u trees deepest ts sg is = rw is refl

parts_closed : (end turns : ℕ) (n : ℕ) (t : Token) (trees : List Tree) (deepest limit room : ℕ) (u : Token) (ts : List Token) →
    sign_of u.kind ≡ sign.CloseBrace → 1 + length ts < turns → LoopLocal 1 end (suc n) limit turns room (PartsLoop end t trees deepest) (u ∷ ts)
parts_closed end turns n t trees deepest limit room u ts is short =
    let l = made_local 1 end turns t.start (tree.Set t.line trees) deepest limit room ts short in
    record {
      given = λ a rest h.
          let g = l.given a rest (sym (parts_step end n limit turns room t u trees deepest ts sign.CloseBrace is) ∙ h) in
          record {
            front = u ∷ g.front;
            split = ap (λ l. u ∷ l) g.split;
            again = λ limit' turns' room' n' rest' a1 a2 a3 enough same.
                let (m, less, e) = parts_next end n' limit' turns' room' t u trees deepest (g.front ++ rest') sign.CloseBrace is enough in
                e ∙ g.again limit' turns' room' rest' a1 a2 (omega arith) same;
          };
      refused = λ o h.
          absurd (made_never (nat_lt deepest limit) (record { tree = tree.Set t.line trees; depth = deepest + 1 }) t.start o ts
          (sym (parts_step end n limit turns room t u trees deepest ts sign.CloseBrace is) ∙ h));
    }

abbrev parts_go : ℕ → ℕ → ℕ → ℕ → ℕ → Token → List Tree → ℕ → Formed × List Token → Answer (Formed × List Token)
parts_go end m limit turns room t trees deepest x = PartsLoop end t (trees ++ x.0.tree ∷ []) (max deepest x.0.depth) m limit turns room x.1

parts_comma : (end turns : ℕ) → IsLocal 1 end turns Formed (InBracket end) → (n : ℕ) (t : Token) (trees : List Tree) (deepest : ℕ) →
    ((x : Formed) → IsLoop 1 end turns n (PartsLoop end t (trees ++ x.tree ∷ []) (max deepest x.depth)))
    → (limit room : ℕ) (u : Token) (ts : List Token) → sign_of u.kind ≡ sign.Comma → length ts ≤ n → 2 + length ts < turns →
    LoopLocal 1 end (suc n) limit turns room (PartsLoop end t trees deepest) (u ∷ ts)
parts_comma end turns inner n t trees deepest go limit room u ts is enough short =
    let li = inner limit room ts (omega arith) in
    let step = parts_step end n limit turns room t u trees deepest ts sign.Comma is in
    record {
      given = λ a rest h.
          let (x, ex, e1) = ok_then (reading.within limit end (turns - 1) (room - 1) ts) (parts_go end n limit turns room t trees deepest) (a, rest)
          (sym step ∙ h) in
          let gi = li.given x.0 x.1 ex in
          let long : length ts ≡ length gi.front + length x.1 = ap length gi.split ∙ length-append gi.front x.1 in
          let gl = (go x.0 limit room x.1 (omega arith) (omega arith)).given a rest e1 in
          record {
            front = u ∷ (gi.front ++ gl.front);
            split = ap (λ l. u ∷ l) (gi.split ∙ ap (λ l. gi.front ++ l) gl.split ∙ sym (append_assoc gi.front gl.front rest));
            again = λ limit' turns' room' n' rest' a1 a2 a3 enough' same.
                let both : length (gi.front ++ gl.front) ≡ length gi.front + length gl.front = length-append gi.front gl.front in
                let whole : (gi.front ++ gl.front) ++ rest' ≡ gi.front ++ (gl.front ++ rest') = append_assoc gi.front gl.front rest' in
                let total : length ((gi.front ++ gl.front) ++ rest') ≡ length gi.front + length (gl.front ++ rest') =
                ap length whole ∙ length-append gi.front (gl.front ++ rest') in
                let mid : Same x.1 (gl.front ++ rest') = ap head gl.split ∙ same_behind gl.front rest rest' same in
                let (m, less, e) = parts_next end n' limit' turns' room' t u trees deepest ((gi.front ++ gl.front) ++ rest') sign.Comma is enough' in
                e ∙ ap (λ l. reading.within limit' end (turns' - 1) (room' - 1) l >>= parts_go end m limit' turns' room' t trees deepest) whole
                ∙ ap (λ r. r >>= parts_go end m limit' turns' room' t trees deepest) (gi.again limit' turns' room' (gl.front ++ rest') a1 a2 (omega arith) mid)
                ∙ gl.again limit' turns' room' m rest' a1 a2 (omega arith) (omega arith) same;
          };
      refused = λ o h.
          elim (err_then (reading.within limit end (turns - 1) (room - 1) ts) (parts_go end n limit turns room t trees deepest) (Expected o) (sym step ∙ h)) [
            | inl e1 ↦
                let gi = li.refused o e1 in
                record {
                  front = u ∷ gi.front;
                  rest = gi.rest;
                  split = ap (λ l. u ∷ l) gi.split;
                  here = gi.here;
                  again = λ limit' turns' room' n' rest' a1 a2 a3 enough' same.
                      let (m, less, e) = parts_next end n' limit' turns' room' t u trees deepest (gi.front ++ rest') sign.Comma is enough' in
                      e ∙ ap (λ r. r >>= parts_go end m limit' turns' room' t trees deepest) (gi.again limit' turns' room' rest' a1 a2 (omega arith) same);
                }
            | inr (x, ex, e1) ↦
                let gi = li.given x.0 x.1 ex in
                let long : length ts ≡ length gi.front + length x.1 = ap length gi.split ∙ length-append gi.front x.1 in
                let gl = (go x.0 limit room x.1 (omega arith) (omega arith)).refused o e1 in
                record {
                  front = u ∷ (gi.front ++ gl.front);
                  rest = gl.rest;
                  split = ap (λ l. u ∷ l) (gi.split ∙ ap (λ l. gi.front ++ l) gl.split ∙ sym (append_assoc gi.front gl.front gl.rest));
                  here = gl.here;
                  again = λ limit' turns' room' n' rest' a1 a2 a3 enough' same.
                      let both : length (gi.front ++ gl.front) ≡ length gi.front + length gl.front = length-append gi.front gl.front in
                      let whole : (gi.front ++ gl.front) ++ rest' ≡ gi.front ++ (gl.front ++ rest') = append_assoc gi.front gl.front rest' in
                      let total : length ((gi.front ++ gl.front) ++ rest') ≡ length gi.front + length (gl.front ++ rest') =
                      ap length whole ∙ length-append gi.front (gl.front ++ rest') in
                      let mid : Same x.1 (gl.front ++ rest') = ap head gl.split ∙ same_behind gl.front gl.rest rest' same in
                      let (m, less, e) = parts_next end n' limit' turns' room' t u trees deepest ((gi.front ++ gl.front) ++ rest') sign.Comma is enough' in
                      e ∙ ap (λ l. reading.within limit' end (turns' - 1) (room' - 1) l >>= parts_go end m limit' turns' room' t trees deepest) whole
                      ∙ ap (λ r. r >>= parts_go end m limit' turns' room' t trees deepest)
                      (gi.again limit' turns' room' (gl.front ++ rest') a1 a2 (omega arith) mid)
                      ∙ gl.again limit' turns' room' m rest' a1 a2 (omega arith) (omega arith) same;
                }
          ];
    }

parts_nothing : (end turns n : ℕ) (t : Token) (trees : List Tree) (deepest limit room : ℕ) →
    LoopLocal 1 end n limit turns room (PartsLoop end t trees deepest) []
parts_nothing end turns n t trees deepest limit room =
    record {
      given = λ a rest h. let wrong : ◌≡◌ {A = Answer (Formed × List Token)} (Err (Expected end)) (Ok (a, rest)) =
          sym (parts_empty end n limit turns room t trees deepest) ∙ h in let no_way : ⊥ = cc in absurd no_way;
      refused = λ o h.
          let same : ◌≡◌ {A = Answer (Formed × List Token)} (Err (Expected end)) (Err (Expected o)) = sym (parts_empty end n limit turns room t trees deepest)
          ∙ h in
          let at : o ≡ end = cc in
          record {
            front = [];
            rest = [];
            split = refl;
            here = at;
            again = λ limit' turns' room' n' rest' a1 a2 a3 enough b.
                let P : List Token → Type 0 = λ l. PartsLoop end t trees deepest n' limit' turns' room' l ≡ Err (Expected (offset end l)) in
                subst P (sym (same_nil rest' b)) (parts_empty end n' limit' turns' room' t trees deepest);
          };
    }

parts_local : (end turns : ℕ) → IsLocal 1 end turns Formed (InBracket end) → (n : ℕ) (t : Token) (trees : List Tree) (deepest : ℕ) →
    IsLoop 1 end turns n (PartsLoop end t trees deepest)
parts_local end turns inner zero t trees deepest limit room [] enough short = parts_nothing end turns 0 t trees deepest limit room
parts_local end turns inner zero t trees deepest limit room (u ∷ ts) enough short = absurd (omega arith)
parts_local end turns inner (suc n) t trees deepest limit room [] enough short = parts_nothing end turns (suc n) t trees deepest limit room
parts_local end turns inner (suc n) t trees deepest limit room (u ∷ ts) enough short =
    elim (which (sign_of u.kind) sign.CloseBrace sign.Comma) [
      | inl is ↦ parts_closed end turns n t trees deepest limit room u ts is (omega arith)
      | inr (inl is) ↦ parts_comma end turns inner n t trees deepest (λ x. parts_local end turns inner n t (trees ++ x.tree ∷ []) (max deepest x.depth)) limit
          room u ts is (omega arith) (omega arith)
      | inr (inr (a, b)) ↦
          refused_first 1 end (suc n) limit turns room (PartsLoop end t trees deepest) u ts
          (parts_step end n limit turns room t u trees deepest ts (sign_of u.kind) refl
          ∙ parts_other (setting limit end (turns - 1) room) t u trees deepest ts _ (sign_of u.kind) a b)
          (λ limit' turns' room' n' vs a1 a2 more.
          let (m, less, e) = parts_next end n' limit' turns' room' t u trees deepest vs (sign_of u.kind) refl more in
          e ∙ parts_other (setting limit' end (turns' - 1) room') t u trees deepest vs
          (λ trees deepest rest. PartsLoop end t trees deepest m limit' turns' room' rest) (sign_of u.kind) a b)
    ]

-- a loop whose count is the number of tokens left
loop_local : (k end turns : ℕ) (p : Counted) → ((n : ℕ) → IsLoop k end turns n p) →
    IsLocal k end turns Formed (λ limit turns room ts. p (length ts) limit turns room ts)
loop_local k end turns p lp limit room ts short =
    let l = lp (length ts) limit room ts (omega arith) short in
    record {
      given = λ a rest h.
          let g = l.given a rest h in
          record {
            front = g.front;
            split = g.split;
            again = λ limit' turns' room' rest' a1 a2 a3 same.
                g.again limit' turns' room' (length (g.front ++ rest')) rest' a1 a2 a3 (omega arith) same;
          };
      refused = λ o h.
          let g = l.refused o h in
          record {
            front = g.front;
            rest = g.rest;
            split = g.split;
            here = g.here;
            again = λ limit' turns' room' rest' a1 a2 a3 same.
                g.again limit' turns' room' (length (g.front ++ rest')) rest' a1 a2 a3 (omega arith) same;
          };
    }

sign_at_head : (ts us : List Token) → Same ts us → sign_at ts ≡ sign_at us
sign_at_head [] [] h = refl
sign_at_head [] (u ∷ us) h = let wrong : ⊥ = cc in absurd wrong
sign_at_head (t ∷ ts) [] h = let wrong : ⊥ = cc in absurd wrong
sign_at_head (t ∷ ts) (u ∷ us) h = let same : t ≡ u = cc in ap (λ (v : Token). sign_of v.kind) same

-- a reader that goes by the sign of the first token
by_sign_local : (k end turns : ℕ) (A : Type 0) (f : Sign → Family A) → ((sg : Sign) → IsLocal k end turns A (f sg)) →
    IsLocal k end turns A (λ limit turns room ts. f (sign_at ts) limit turns room ts)
by_sign_local k end turns A f lf limit room ts short =
    let l = lf (sign_at ts) limit room ts short in
    record {
      given = λ a rest h.
          let g = l.given a rest h in
          record {
            front = g.front;
            split = g.split;
            again = λ limit' turns' room' rest' a1 a2 a3 same.
                ap (λ sg. f sg limit' turns' room' (g.front ++ rest'))
                (sym (sign_at_head ts (g.front ++ rest') (ap head g.split ∙ same_behind g.front rest rest' same)))
                ∙ g.again limit' turns' room' rest' a1 a2 a3 same;
          };
      refused = λ o h.
          let g = l.refused o h in
          record {
            front = g.front;
            rest = g.rest;
            split = g.split;
            here = g.here;
            again = λ limit' turns' room' rest' a1 a2 a3 same.
                ap (λ sg. f sg limit' turns' room' (g.front ++ rest'))
                (sym (sign_at_head ts (g.front ++ rest') (ap head g.split ∙ same_behind g.front g.rest rest' same)))
                ∙ g.again limit' turns' room' rest' a1 a2 a3 same;
          };
    }

behind_part_local : (end turns : ℕ) → IsLocal 1 end turns Formed (InBracket end) → (t : Token) (f : Formed) (sg : Sign) →
    IsLocal 1 end turns Formed (λ limit turns room ts. reading.behind_part (setting limit end (turns - 1) room) t f ts sg)
unfolding reading.behind_part
behind_part_local end turns inner t f sign.Colon = gathered_local end turns inner gathering.Union sign.CloseBrace t f
behind_part_local end turns inner t f _ =
    loop_local 1 end turns (PartsLoop end t (f.tree ∷ []) f.depth) (λ n. parts_local end turns inner n t (f.tree ∷ []) f.depth)

braced_some_local : (end turns : ℕ) → IsLocal 1 end turns Formed (InBracket end) → (t : Token) →
    IsLocal 1 end turns Formed (λ limit turns room ts.
    reading.within limit end (turns - 1) (room - 1) ts >>= (λ f. reading.behind_part (setting limit end (turns - 1) room) t f.0 f.1 (sign_at f.1)))
braced_some_local end turns inner t =
    then_local 1 end turns Formed Formed (InBracket end) (λ f limit turns room ts. reading.behind_part (setting limit end (turns - 1) room) t f ts (sign_at ts))
    inner
    (λ f. by_sign_local 1 end turns Formed (λ sg limit turns room ts. reading.behind_part (setting limit end (turns - 1) room) t f ts sg)
    (behind_part_local end turns inner t f))

braced_local : (end turns : ℕ) → IsLocal 1 end turns Formed (InBracket end) → (t : Token) →
    IsLocal 1 end turns Formed (λ limit turns room ts. reading.braced (setting limit end (turns - 1) room) t ts (after sign.CloseBrace ts))
unfolding reading.braced
braced_local end turns inner t =
    branch_local 1 end turns Formed sign.CloseBrace (λ limit turns room ts o. reading.braced (setting limit end (turns - 1) room) t ts o)
    (λ limit turns room ts. with_rest ts (made limit t.start (tree.Set t.line []) 0)) (λ limit turns room ts.
    reading.within limit end (turns - 1) (room - 1) ts >>= (λ f. reading.behind_part (setting limit end (turns - 1) room) t f.0 f.1 (sign_at f.1)))
    (λ limit turns room ts rest. refl) (λ limit turns room ts. refl) (made_local 1 end turns t.start (tree.Set t.line []) 0)
    (braced_some_local end turns inner t)

-- where a bracket may be opened
room_local : (k end turns at : ℕ) (p : Family Formed) → IsLocal k end turns Formed p →
    IsLocal k end turns Formed (λ limit turns room ts. if room == 0 then Err (TooNested at) else p limit turns room ts)
room_local k end turns at p lp limit room ts short =
    let l = lp limit room ts short in
    record {
      given = λ a rest h.
          let (some, h') = unless (room == 0) (p limit turns room ts) (Ok (a, rest)) h (λ e. let wrong : ⊥ = cc in wrong) in
          let g = l.given a rest h' in
          record {
            front = g.front;
            split = g.split;
            again = λ limit' turns' room' rest' a1 a2 a3 same.
                let n = no_zero room some in
                let test : (room' == 0) ≡ false = zero_test room' (omega arith) in
                rw test (g.again limit' turns' room' rest' a1 a2 a3 same);
          };
      refused = λ o h.
          let (some, h') = unless (room == 0) (p limit turns room ts) (Err (Expected o)) h (λ e. let wrong : ⊥ = cc in wrong) in
          let g = l.refused o h' in
          record {
            front = g.front;
            rest = g.rest;
            split = g.split;
            here = g.here;
            again = λ limit' turns' room' rest' a1 a2 a3 same.
                let n = no_zero room some in
                let test : (room' == 0) ≡ false = zero_test room' (omega arith) in
                rw test (g.again limit' turns' room' rest' a1 a2 a3 same);
          };
    } where
      unless : (b : Bool) (r s : Answer (Formed × List Token)) → (if b then Err (TooNested at) else r) ≡ s →
          (◌≡◌ {A = Answer (Formed × List Token)} (Err (TooNested at)) s → ⊥) → (b ≡ false) × (r ≡ s)
      unless true r s e not_it = absurd (not_it e)
      unless false r s e not_it = (refl, e)

refuse_local : (k end turns : ℕ) (t : Token) → (at : ℕ) → IsLocal k end turns Formed (λ limit turns room ts. Err (TooNested at))
refuse_local k end turns t at limit room ts short =
    record { given = λ a rest h. let wrong : ⊥ = cc in absurd wrong; refused = λ o h. let wrong : ⊥ = cc in absurd wrong }

bracketed_local : (end turns : ℕ) → IsLocal 1 end turns Formed (InBracket end) → (t : Token) (sg : Sign) → leafless sg ≡ true →
    IsLocal 1 end turns Formed (λ limit turns room ts. reading.bracketed (setting limit end (turns - 1) room) sg t ts)
unfolding reading.bracketed
bracketed_local end turns inner t sign.Open h =
    room_local 1 end turns t.start (λ limit turns room ts. reading.parenthesised (setting limit end (turns - 1) room) ts) (parenthesised_local end turns inner)
bracketed_local end turns inner t sign.OpenBrace h =
    room_local 1 end turns t.start (λ limit turns room ts. reading.braced (setting limit end (turns - 1) room) t ts (after sign.CloseBrace ts))
    (braced_local end turns inner t)
bracketed_local end turns inner t sign.Count h = called_local end turns inner function.Count t
bracketed_local end turns inner t sign.Only h = called_local end turns inner function.Only t
bracketed_local end turns inner t sign.Min h = called_local end turns inner function.Min t
bracketed_local end turns inner t sign.Max h = called_local end turns inner function.Max t
bracketed_local end turns inner t sign.Sum h = summed_local end turns inner t
bracketed_local end turns inner t sign.Any h = tested_local end turns inner quantifier.Any t
bracketed_local end turns inner t sign.All h = tested_local end turns inner quantifier.All t
bracketed_local end turns inner t _ h = let wrong : ⊥ = cc in absurd wrong

other_bracket : (s : Setting) (t : Token) (ts : List Token) (sg : Sign) → leafless sg ≡ false → reading.bracketed s sg t ts ≡ Err (Expected t.start)
unfolding reading.bracketed
other_bracket s t ts sign.Open h = let wrong : ⊥ = cc in absurd wrong
other_bracket s t ts sign.OpenBrace h = let wrong : ⊥ = cc in absurd wrong
other_bracket s t ts sign.Count h = let wrong : ⊥ = cc in absurd wrong
other_bracket s t ts sign.Only h = let wrong : ⊥ = cc in absurd wrong
other_bracket s t ts sign.Min h = let wrong : ⊥ = cc in absurd wrong
other_bracket s t ts sign.Max h = let wrong : ⊥ = cc in absurd wrong
other_bracket s t ts sign.Sum h = let wrong : ⊥ = cc in absurd wrong
other_bracket s t ts sign.Any h = let wrong : ⊥ = cc in absurd wrong
other_bracket s t ts sign.All h = let wrong : ⊥ = cc in absurd wrong
other_bracket s t ts _ h = refl

-- behind a first token
cons_local : (end limit turns room : ℕ) (p q : Family Formed) (t : Token) (ts : List Token) →
    ((limit turns room : ℕ) (us : List Token) → p limit turns room (t ∷ us) ≡ q limit turns room us) → Local 1 end limit turns room Formed q ts →
    Local 0 end limit turns room Formed p (t ∷ ts)
cons_local end limit turns room p q t ts same l =
    record {
      given = λ a rest h.
          let g = l.given a rest (sym (same limit turns room ts) ∙ h) in
          record {
            front = t ∷ g.front;
            split = ap (λ l. t ∷ l) g.split;
            again = λ limit' turns' room' rest' a1 a2 a3 b.
                same limit' turns' room' (g.front ++ rest') ∙ g.again limit' turns' room' rest' a1 a2 (omega arith) b;
          };
      refused = λ o h.
          let g = l.refused o (sym (same limit turns room ts) ∙ h) in
          record {
            front = t ∷ g.front;
            rest = g.rest;
            split = ap (λ l. t ∷ l) g.split;
            here = g.here;
            again = λ limit' turns' room' rest' a1 a2 a3 b.
                same limit' turns' room' (g.front ++ rest') ∙ g.again limit' turns' room' rest' a1 a2 (omega arith) b;
          };
    }

-- refused at the first token, or at the end
here_local : (end limit turns room : ℕ) (p : Family Formed) (ts : List Token) →
    ((limit turns room : ℕ) (us : List Token) → Same ts us → p limit turns room us ≡ Err (Expected (offset end us))) → Local 0 end limit turns room Formed p ts
here_local end limit turns room p ts e =
    record {
      given = λ a rest h. let wrong : ◌≡◌ {A = Answer (Formed × List Token)} (Err (Expected (offset end ts))) (Ok (a, rest)) = sym (e limit turns room ts refl)
          ∙ h in let no_way : ⊥ = cc in absurd no_way;
      refused = λ o h.
          let same : ◌≡◌ {A = Answer (Formed × List Token)} (Err (Expected (offset end ts))) (Err (Expected o)) = sym (e limit turns room ts refl) ∙ h in
          let at : o ≡ offset end ts = cc in
          record { front = []; rest = ts; split = refl; here = at; again = λ limit' turns' room' rest' a1 a2 a3 b. e limit' turns' room' rest' b };
    }

-- what is read without the tokens behind
at_once_local : (end limit turns room : ℕ) (p : Family Formed) (f : Formed) (ts : List Token) →
    ((limit turns room : ℕ) (us : List Token) → Same ts us → p limit turns room us ≡ Ok (f, us)) → Local 0 end limit turns room Formed p ts
at_once_local end limit turns room p f ts e =
    record {
      given = λ a rest h.
          let same : ◌≡◌ {A = Answer (Formed × List Token)} (Ok (f, ts)) (Ok (a, rest)) = sym (e limit turns room ts refl) ∙ h in
          let pair : (f, ts) ≡ (a, rest) = cc in
          let first : f ≡ a = ap (λ (p : Formed × List Token). p.0) pair in
          let second : ts ≡ rest = ap (λ (p : Formed × List Token). p.1) pair in
          record {
            front = [];
            split = second;
            again = λ limit' turns' room' rest' a1 a2 a3 b. e limit' turns' room' rest' (ap head second ∙ b)
                ∙ ap (λ z. Ok (z, rest')) first;
          };
      refused = λ o h. let wrong : ◌≡◌ {A = Answer (Formed × List Token)} (Ok (f, ts)) (Err (Expected o)) = sym (e limit turns room ts refl) ∙ h in
          let no_way : ⊥ = cc in absurd no_way;
    }

abbrev Atoms : ℕ → Family Formed
Atoms end = λ limit turns room ts. reading.atom (setting limit end (turns - 1) room) ts

atom_none : (end limit turns room : ℕ) → Atoms end limit turns room [] ≡ Err (Expected end)
unfolding reading.atom
atom_none end limit turns room = refl

atom_leaf : (end limit turns room : ℕ) (t : Token) (us : List Token) (e : Tree) → leaf t.line t.kind ≡ Some e →
    Atoms end limit turns room (t ∷ us) ≡ Ok (record { tree = e; depth = 1 }, us)
unfolding reading.atom
atom_leaf end limit turns room t us e is = rw is refl

atom_bracket : (end limit turns room : ℕ) (t : Token) (us : List Token) → leaf t.line t.kind ≡ None →
    Atoms end limit turns room (t ∷ us) ≡ reading.bracketed (setting limit end (turns - 1) room) (sign_of t.kind) t us
unfolding reading.atom
atom_bracket end limit turns room t us is = rw is refl

atom_by_leaf : (end turns limit room : ℕ) → IsLocal 1 end turns Formed (InBracket end) → (t : Token) (ts : List Token) → 1 + length ts < turns →
    (o : Option Tree) → leaf t.line t.kind ≡ o → Local 0 end limit turns room Formed (Atoms end) (t ∷ ts)
atom_by_leaf end turns limit room inner t ts short (Some e) is =
    cons_local end limit turns room (Atoms end) (λ limit turns room us. Ok (record { tree = e; depth = 1 }, us)) t ts (λ limit turns room us.
    atom_leaf end limit turns room t us e is) (done_local 1 end turns (record { tree = e; depth = 1 }) limit room ts short)
atom_by_leaf end turns limit room inner t ts short None is =
    elim (cases_Bool (leafless (sign_of t.kind))) [
      | inl h ↦
          cons_local end limit turns room (Atoms end) (λ limit turns room us. reading.bracketed (setting limit end (turns - 1) room) (sign_of t.kind) t us) t ts
          (λ limit turns room us. atom_bracket end limit turns room t us is)
          (bracketed_local end turns inner t (sign_of t.kind) h limit room ts short)
      | inr h ↦
          here_local end limit turns room (Atoms end) (t ∷ ts)
          (λ limit turns room us b.
          let (vs, e) = same_cons t ts us b in
          let P : List Token → Type 0 = λ l. Atoms end limit turns room l ≡ Err (Expected (offset end l)) in
          subst P (sym e) (atom_bracket end limit turns room t vs is ∙ other_bracket (setting limit end (turns - 1) room) t vs (sign_of t.kind) h))
    ]

atom_local : (end turns : ℕ) → IsLocal 1 end turns Formed (InBracket end) → IsLocal 0 end turns Formed (Atoms end)
atom_local end turns inner limit room [] short =
    here_local end limit turns room (Atoms end) []
    (λ limit turns room us b. let P : List Token → Type 0 = λ l. Atoms end limit turns room l ≡ Err (Expected (offset end l)) in
    subst P (sym (same_nil us b)) (atom_none end limit turns room))
atom_local end turns inner limit room (t ∷ ts) short = atom_by_leaf end turns limit room inner t ts (omega arith) (leaf t.line t.kind) refl

-- ---- steps

abbrev Steps : ℕ → ℕ → ℕ → Formed → Family Formed
Steps end at line f = λ limit turns room ts. reading.steps limit end at line f ts

steps_none : (end at line limit turns room : ℕ) (f : Formed) → Steps end at line f limit turns room [] ≡ Ok (f, [])
unfolding reading.steps
steps_none end at line limit turns room f = refl

steps_other : (end at line limit turns room : ℕ) (f : Formed) (d : Token) (us : List Token) → same_sign (sign_of d.kind) sign.Dot ≡ false →
    Steps end at line f limit turns room (d ∷ us) ≡ Ok (f, d ∷ us)
unfolding reading.steps
steps_other end at line limit turns room f d [] h = rw h refl
steps_other end at line limit turns room f d (t ∷ us) h = rw h refl

steps_cut : (end at line limit turns room : ℕ) (f : Formed) (d : Token) → same_sign (sign_of d.kind) sign.Dot ≡ true →
    Steps end at line f limit turns room (d ∷ []) ≡ Err (Expected end)
unfolding reading.steps
steps_cut end at line limit turns room f d h = rw h refl

steps_wrong : (end at line limit turns room : ℕ) (f : Formed) (d t : Token) (us : List Token) → same_sign (sign_of d.kind) sign.Dot ≡ true →
    reading.step_of line f.tree t.kind ≡ None → Steps end at line f limit turns room (d ∷ t ∷ us) ≡ Err (Expected t.start)
unfolding reading.steps
steps_wrong end at line limit turns room f d t us h none = rw (h, none) refl

steps_on : (end at line limit turns room : ℕ) (f : Formed) (d t : Token) (us : List Token) (e : Tree) → same_sign (sign_of d.kind) sign.Dot ≡ true →
    reading.step_of line f.tree t.kind ≡ Some e
    → Steps end at line f limit turns room (d ∷ t ∷ us) ≡ (made limit at e f.depth >>= (λ g. Steps end at line g limit turns room us))
unfolding reading.steps
steps_on end at line limit turns room f d t us e h some = rw (h, some) refl

-- behind two tokens
cons_two_local : (end limit turns room : ℕ) (p q : Family Formed) (d t : Token) (ts : List Token) →
    ((limit turns room : ℕ) (us : List Token) → p limit turns room (d ∷ t ∷ us) ≡ q limit turns room us) → Local 0 end limit turns room Formed q ts →
    Local 0 end limit turns room Formed p (d ∷ t ∷ ts)
cons_two_local end limit turns room p q d t ts same l =
    record {
      given = λ a rest h.
          let g = l.given a rest (sym (same limit turns room ts) ∙ h) in
          record {
            front = d ∷ t ∷ g.front;
            split = ap (λ l. d ∷ t ∷ l) g.split;
            again = λ limit' turns' room' rest' a1 a2 a3 b.
                same limit' turns' room' (g.front ++ rest') ∙ g.again limit' turns' room' rest' a1 a2 (omega arith) b;
          };
      refused = λ o h.
          let g = l.refused o (sym (same limit turns room ts) ∙ h) in
          record {
            front = d ∷ t ∷ g.front;
            rest = g.rest;
            split = ap (λ l. d ∷ t ∷ l) g.split;
            here = g.here;
            again = λ limit' turns' room' rest' a1 a2 a3 b.
                same limit' turns' room' (g.front ++ rest') ∙ g.again limit' turns' room' rest' a1 a2 (omega arith) b;
          };
    }

-- refused at the second token, or at the end behind the first
second_local : (end limit turns room : ℕ) (p : Family Formed) (d : Token) (ts : List Token) →
    ((limit turns room : ℕ) (us : List Token) → Same ts us → p limit turns room (d ∷ us) ≡ Err (Expected (offset end us))) →
    Local 0 end limit turns room Formed p (d ∷ ts)
second_local end limit turns room p d ts e =
    record {
      given = λ a rest h. let wrong : ◌≡◌ {A = Answer (Formed × List Token)} (Err (Expected (offset end ts))) (Ok (a, rest)) = sym (e limit turns room ts refl)
          ∙ h in let no_way : ⊥ = cc in absurd no_way;
      refused = λ o h.
          let same : ◌≡◌ {A = Answer (Formed × List Token)} (Err (Expected (offset end ts))) (Err (Expected o)) = sym (e limit turns room ts refl) ∙ h in
          let at : o ≡ offset end ts = cc in
          record { front = d ∷ []; rest = ts; split = refl; here = at; again = λ limit' turns' room' rest' a1 a2 a3 b. e limit' turns' room' rest' b };
    }

made_then_local : (k end limit turns room at : ℕ) (e : Tree) (deepest : ℕ) (q : Formed → Family Formed) (ts : List Token) →
    ((g : Formed) → Local k end limit turns room Formed (q g) ts) →
    Local k end limit turns room Formed (λ limit turns room ts. made limit at e deepest >>= (λ g. q g limit turns room ts)) ts
made_then_local k end limit turns room at e deepest q ts lq =
    record {
      given = λ a rest h.
          let (g, found, h1) = ok_then (made limit at e deepest) (λ g. q g limit turns room ts) (a, rest) h in
          let (fits, same) = made_ok limit at e deepest g found in
          let l = (lq g).given a rest h1 in
          record {
            front = l.front;
            split = l.split;
            again = λ limit' turns' room' rest' a1 a2 a3 b.
                ap (λ r. r >>= (λ g. q g limit' turns' room' (l.front ++ rest'))) (still limit' g (omega arith) same)
                ∙ l.again limit' turns' room' rest' a1 a2 a3 b;
          };
      refused = λ o h.
          elim (err_then (made limit at e deepest) (λ g. q g limit turns room ts) (Expected o) h) [
            | inl h1 ↦ absurd (never (nat_lt deepest limit) o h1)
            | inr (g, found, h1) ↦
                let (fits, same) = made_ok limit at e deepest g found in
                let l = (lq g).refused o h1 in
                record {
                  front = l.front;
                  rest = l.rest;
                  split = l.split;
                  here = l.here;
                  again = λ limit' turns' room' rest' a1 a2 a3 b.
                      ap (λ r. r >>= (λ g. q g limit' turns' room' (l.front ++ rest'))) (still limit' g (omega arith) same)
                      ∙ l.again limit' turns' room' rest' a1 a2 a3 b;
                }
          ];
    } where
      still : (limit' : ℕ) (g : Formed) → deepest < limit' → g ≡ record { tree = e; depth = deepest + 1 } →
          ◌≡◌ {A = Answer Formed} (made limit' at e deepest) (Ok g)
      still limit' g fits same = let test : nat_lt deepest limit' ≡ true = lt-ltb deepest limit' fits in rw test (ap Ok (sym same))

      never : (b : Bool) (o : ℕ) →
          ◌≡◌ {A = Answer Formed} (if b then Ok (record { tree = e; depth = deepest + 1 }) else Err (TooNested at)) (Err (Expected o)) → ⊥
      never true o h = cc
      never false o h = cc

steps_by : (end at line turns limit room : ℕ) (f : Formed) (d t : Token) (ts : List Token) → same_sign (sign_of d.kind) sign.Dot ≡ true →
    ((e : Tree) → Local 0 end limit turns room Formed (λ limit turns room us. made limit at e f.depth >>= (λ g. Steps end at line g limit turns room us)) ts)
    → (o : Option Tree) → reading.step_of line f.tree t.kind ≡ o → Local 0 end limit turns room Formed (Steps end at line f) (d ∷ t ∷ ts)
steps_by end at line turns limit room f d t ts dot go None is =
    second_local end limit turns room (Steps end at line f) d (t ∷ ts)
    (λ limit turns room us b.
    let (vs, e) = same_cons t ts us b in
    let P : List Token → Type 0 = λ l. Steps end at line f limit turns room (d ∷ l) ≡ Err (Expected (offset end l)) in
    subst P (sym e) (steps_wrong end at line limit turns room f d t vs dot is))
steps_by end at line turns limit room f d t ts dot go (Some e) is =
    cons_two_local end limit turns room (Steps end at line f) (λ limit turns room us.
    made limit at e f.depth >>= (λ g. Steps end at line g limit turns room us)) d t ts
    (λ limit turns room us. steps_on end at line limit turns room f d t us e dot is) (go e)

steps_local_at : (end at line turns : ℕ) (n : ℕ) (f : Formed) (limit room : ℕ) (ts : List Token) → length ts ≤ n → length ts < turns →
    Local 0 end limit turns room Formed (Steps end at line f) ts
steps_local_at end at line turns n f limit room [] enough short =
    at_once_local end limit turns room (Steps end at line f) f []
    (λ limit turns room us b. let P : List Token → Type 0 = λ l. Steps end at line f limit turns room l ≡ Ok (f, l) in
    subst P (sym (same_nil us b)) (steps_none end at line limit turns room f))
steps_local_at end at line turns n f limit room (d ∷ []) enough short =
    elim (cases_Bool (same_sign (sign_of d.kind) sign.Dot)) [
      | inl dot ↦
          second_local end limit turns room (Steps end at line f) d []
          (λ limit turns room us b. let P : List Token → Type 0 = λ l. Steps end at line f limit turns room (d ∷ l) ≡ Err (Expected (offset end l)) in
          subst P (sym (same_nil us b)) (steps_cut end at line limit turns room f d dot))
      | inr dot ↦
          at_once_local end limit turns room (Steps end at line f) f (d ∷ [])
          (λ limit turns room us b. let (vs, e) = same_cons d [] us b in let P : List Token →
          Type 0 = λ l. Steps end at line f limit turns room l ≡ Ok (f, l) in subst P (sym e) (steps_other end at line limit turns room f d vs dot))
    ]
steps_local_at end at line turns zero f limit room (d ∷ t ∷ ts) enough short = absurd (omega arith)
steps_local_at end at line turns (suc n) f limit room (d ∷ t ∷ ts) enough short =
    elim (cases_Bool (same_sign (sign_of d.kind) sign.Dot)) [
      | inl dot ↦
          steps_by end at line turns limit room f d t ts dot
          (λ e. made_then_local 0 end limit turns room at e f.depth (λ g. Steps end at line g) ts
          (λ g. steps_local_at end at line turns n g limit room ts (omega arith) (omega arith)))
          (reading.step_of line f.tree t.kind) refl
      | inr dot ↦
          at_once_local end limit turns room (Steps end at line f) f (d ∷ t ∷ ts)
          (λ limit turns room us b. let (vs, e) = same_cons d (t ∷ ts) us b in let P : List Token →
          Type 0 = λ l. Steps end at line f limit turns room l ≡ Ok (f, l) in subst P (sym e) (steps_other end at line limit turns room f d vs dot))
    ]

steps_local : (end at line turns : ℕ) (f : Formed) → IsLocal 0 end turns Formed (Steps end at line f)
steps_local end at line turns f limit room ts short = steps_local_at end at line turns (length ts) f limit room ts (omega arith) (omega arith)

-- a reader that goes by where its first token stands
by_first_local : (k end turns : ℕ) (f : ℕ → ℕ → Family Formed) → ((at line : ℕ) → IsLocal k end turns Formed (f at line)) →
    IsLocal k end turns Formed (λ limit turns room ts. f (offset end ts) (line_of ts) limit turns room ts)
by_first_local k end turns f lf limit room ts short =
    let l = lf (offset end ts) (line_of ts) limit room ts short in
    record {
      given = λ a rest h.
          let g = l.given a rest h in
          record {
            front = g.front;
            split = g.split;
            again = λ limit' turns' room' rest' a1 a2 a3 same.
                let b : Same ts (g.front ++ rest') = ap head g.split ∙ same_behind g.front rest rest' same in
                ap (λ n. f n (line_of (g.front ++ rest')) limit' turns' room' (g.front ++ rest')) (sym (same_offset end ts (g.front ++ rest') b))
                ∙ ap (λ n. f (offset end ts) n limit' turns' room' (g.front ++ rest')) (sym (same_line ts (g.front ++ rest') b))
                ∙ g.again limit' turns' room' rest' a1 a2 a3 same;
          };
      refused = λ o h.
          let g = l.refused o h in
          record {
            front = g.front;
            rest = g.rest;
            split = g.split;
            here = g.here;
            again = λ limit' turns' room' rest' a1 a2 a3 same.
                let b : Same ts (g.front ++ rest') = ap head g.split ∙ same_behind g.front g.rest rest' same in
                ap (λ n. f n (line_of (g.front ++ rest')) limit' turns' room' (g.front ++ rest')) (sym (same_offset end ts (g.front ++ rest') b))
                ∙ ap (λ n. f (offset end ts) n limit' turns' room' (g.front ++ rest')) (sym (same_line ts (g.front ++ rest') b))
                ∙ g.again limit' turns' room' rest' a1 a2 a3 same;
          };
    } where
      same_line : (xs ys : List Token) → Same xs ys → line_of xs ≡ line_of ys
      same_line [] [] h = refl
      same_line [] (u ∷ us) h = let wrong : ⊥ = cc in absurd wrong
      same_line (t ∷ ts) [] h = let wrong : ⊥ = cc in absurd wrong
      same_line (t ∷ ts) (u ∷ us) h = let same : t ≡ u = cc in ap (λ (v : Token). v.line) same

abbrev Postfixes : ℕ → Family Formed
Postfixes end = λ limit turns room ts. reading.postfix (setting limit end (turns - 1) room) ts

postfix_local : (end turns : ℕ) → IsLocal 1 end turns Formed (InBracket end) → IsLocal 0 end turns Formed (Postfixes end)
unfolding reading.postfix
postfix_local end turns inner =
    by_first_local 0 end turns (λ at line limit turns room ts. Atoms end limit turns room ts >>= (λ x. Steps end at line x.0 limit turns room x.1))
    (λ at line. then_local 0 end turns Formed Formed (Atoms end) (λ f. Steps end at line f) (atom_local end turns inner) (λ f. steps_local end at line turns f))

-- ---- prefixes

abbrev Prefixed : ℕ → Prefix → Family Formed → Family Formed
Prefixed end p operand = λ limit turns room ts. reading.with_prefixes (setting limit end (turns - 1) room) p (operand limit turns room) ts

prefixed_none : (end limit turns room : ℕ) (p : Prefix) (operand : Family Formed) → Prefixed end p operand limit turns room [] ≡ operand limit turns room []
unfolding reading.with_prefixes reading.under_prefixes reading.prefixes reading.behind_prefixes
prefixed_none end limit turns room p operand = same_again (operand limit turns room []) where
  same_again : (r : Answer (Formed × List Token)) → (r >>= (λ x. with_rest x.1 (Ok x.0))) ≡ r
  same_again (Ok x) = refl
  same_again (Err e) = refl

prefixed_other : (end limit turns room : ℕ) (p : Prefix) (operand : Family Formed) (t : Token) (us : List Token) →
    same_sign (sign_of t.kind) (prefix_sign p) ≡ false → Prefixed end p operand limit turns room (t ∷ us) ≡ operand limit turns room (t ∷ us)
unfolding reading.with_prefixes reading.under_prefixes reading.prefixes reading.behind_prefixes
prefixed_other end limit turns room p operand t us h = rw h (same_again (operand limit turns room (t ∷ us))) where
  same_again : (r : Answer (Formed × List Token)) → (r >>= (λ x. with_rest x.1 (Ok x.0))) ≡ r
  same_again (Ok x) = refl
  same_again (Err e) = refl

prefixed_on : (end limit turns room : ℕ) (p : Prefix) (operand : Family Formed) (t : Token) (us : List Token) →
    same_sign (sign_of t.kind) (prefix_sign p) ≡ true
    → Prefixed end p operand limit turns room
    (t ∷ us) ≡ (Prefixed end p operand limit turns room us >>= (λ x. with_rest x.1 (made limit t.start (prefixed p t.line x.0.tree) x.0.depth)))
unfolding reading.with_prefixes reading.under_prefixes reading.prefixes reading.behind_prefixes
prefixed_on end limit turns room p operand t us h =
    rw h (move (operand limit turns room (reading.behind_prefixes p us)) (λ f. reading.under_prefixes limit p (reading.prefixes p us) (Ok f))) where
      move_rest : (rest : List Token) (r : Answer Formed) →
          with_rest rest (r >>= (λ f. made limit t.start (prefixed p t.line f.tree) f.depth)) ≡
          (with_rest rest r >>= (λ x. with_rest x.1 (made limit t.start (prefixed p t.line x.0.tree) x.0.depth)))
      move_rest rest (Ok f) = refl
      move_rest rest (Err e) = refl

      move : (r : Answer (Formed × List Token)) (u : Formed → Answer Formed) →
          (r >>= (λ x. with_rest x.1 (u x.0 >>= (λ f. made limit t.start (prefixed p t.line f.tree) f.depth)))) ≡
          ((r >>= (λ x. with_rest x.1 (u x.0))) >>= (λ x.
          with_rest x.1 (made limit t.start (prefixed p t.line x.0.tree) x.0.depth)))
      move (Ok x) u = move_rest x.1 (u x.0)
      move (Err e) u = refl

-- the same answers on all lists that begin so
alike_local : (end limit turns room : ℕ) (p q : Family Formed) (ts : List Token) →
    ((limit turns room : ℕ) (us : List Token) → Same ts us → p limit turns room us ≡ q limit turns room us) → Local 0 end limit turns room Formed q ts →
    Local 0 end limit turns room Formed p ts
alike_local end limit turns room p q ts e l =
    record {
      given = λ a rest h.
          let g = l.given a rest (sym (e limit turns room ts refl) ∙ h) in
          record {
            front = g.front;
            split = g.split;
            again = λ limit' turns' room' rest' a1 a2 a3 b.
                e limit' turns' room' (g.front ++ rest') (ap head g.split ∙ same_behind g.front rest rest' b) ∙ g.again limit' turns' room' rest' a1 a2 a3 b;
          };
      refused = λ o h.
          let g = l.refused o (sym (e limit turns room ts refl) ∙ h) in
          record {
            front = g.front;
            rest = g.rest;
            split = g.split;
            here = g.here;
            again = λ limit' turns' room' rest' a1 a2 a3 b.
                e limit' turns' room' (g.front ++ rest') (ap head g.split ∙ same_behind g.front g.rest rest' b) ∙ g.again limit' turns' room' rest' a1 a2 a3 b;
          };
    }

more_prefix : (end turns : ℕ) (p : Prefix) (operand : Family Formed) (limit room : ℕ) (t : Token) (ts : List Token) →
    same_sign (sign_of t.kind) (prefix_sign p) ≡ true → Local 0 end limit turns room Formed (Prefixed end p operand) ts
    → Local 0 end limit turns room Formed (Prefixed end p operand) (t ∷ ts)
more_prefix end turns p operand limit room t ts h l =
    record {
      given = λ a rest e.
          let (x, ex, e1) =
          ok_then (Prefixed end p operand limit turns room ts) (λ x. with_rest x.1 (made limit t.start (prefixed p t.line x.0.tree) x.0.depth)) (a, rest)
          (sym (prefixed_on end limit turns room p operand t ts h) ∙ e) in
          let (g, found, is) = rest_ok x.1 (made limit t.start (prefixed p t.line x.0.tree) x.0.depth) (a, rest) e1 in
          let (fits, same) = made_ok limit t.start (prefixed p t.line x.0.tree) x.0.depth g found in
          let first : a ≡ g = ap (λ (p : Formed × List Token). p.0) is in
          let second : rest ≡ x.1 = ap (λ (p : Formed × List Token). p.1) is in
          let gl = l.given x.0 x.1 ex in
          record {
            front = t ∷ gl.front;
            split = ap (λ l. t ∷ l) (gl.split ∙ ap (λ l. gl.front ++ l) (sym second));
            again = λ limit' turns' room' rest' a1 a2 a3 b.
                let test : nat_lt x.0.depth limit' ≡ true = lt-ltb x.0.depth limit' (omega arith) in
                let remade : ◌≡◌ {A = Answer Formed} (made limit' t.start (prefixed p t.line x.0.tree) x.0.depth) (Ok a) =
                rw test (ap Ok (sym (first ∙ same))) in
                prefixed_on end limit' turns' room' p operand t (gl.front ++ rest') h
                ∙ ap (λ r. r >>= (λ x. with_rest x.1 (made limit' t.start (prefixed p t.line x.0.tree) x.0.depth)))
                (gl.again limit' turns' room' rest' a1 a2 (omega arith) (ap head (sym second) ∙ b))
                ∙ ap (with_rest rest') remade;
          };
      refused = λ o e.
          elim (err_then (Prefixed end p operand limit turns room ts) (λ x. with_rest x.1 (made limit t.start (prefixed p t.line x.0.tree) x.0.depth))
          (Expected o) (sym (prefixed_on end limit turns room p operand t ts h) ∙ e)) [
            | inl e1 ↦
                let gl = l.refused o e1 in
                record {
                  front = t ∷ gl.front;
                  rest = gl.rest;
                  split = ap (λ l. t ∷ l) gl.split;
                  here = gl.here;
                  again = λ limit' turns' room' rest' a1 a2 a3 b.
                      prefixed_on end limit' turns' room' p operand t (gl.front ++ rest') h
                      ∙ ap (λ r. r >>= (λ x. with_rest x.1 (made limit' t.start (prefixed p t.line x.0.tree) x.0.depth)))
                      (gl.again limit' turns' room' rest' a1 a2 (omega arith) b);
                }
            | inr (x, ex, e1) ↦
                absurd (made_never (nat_lt x.0.depth limit) (record { tree = prefixed p t.line x.0.tree; depth = x.0.depth + 1 }) t.start o x.1 e1)
          ];
    }

prefixes_local : (end turns : ℕ) (p : Prefix) (operand : Family Formed) → IsLocal 0 end turns Formed operand →
    IsLocal 0 end turns Formed (Prefixed end p operand)
prefixes_local end turns p operand lo limit room [] short =
    alike_local end limit turns room (Prefixed end p operand) operand []
    (λ limit turns room us b. let P : List Token → Type 0 = λ l. Prefixed end p operand limit turns room l ≡ operand limit turns room l in
    subst P (sym (same_nil us b)) (prefixed_none end limit turns room p operand)) (lo limit room [] short)
prefixes_local end turns p operand lo limit room (t ∷ ts) short =
    elim (cases_Bool (same_sign (sign_of t.kind) (prefix_sign p))) [
      | inl h ↦ more_prefix end turns p operand limit room t ts h (prefixes_local end turns p operand lo limit room ts (omega arith))
      | inr h ↦
          alike_local end limit turns room (Prefixed end p operand) operand (t ∷ ts)
          (λ limit turns room us b. let (vs, e) = same_cons t ts us b in let P : List Token →
          Type 0 = λ l. Prefixed end p operand limit turns room l ≡ operand limit turns room l in
          subst P (sym e) (prefixed_other end limit turns room p operand t vs h)) (lo limit room (t ∷ ts) short)
    ]

-- ---- operators of a level

abbrev MoreLoop : ℕ → Level → Family Formed → ℕ → ℕ → Formed → Counted
MoreLoop end l operand at line f = λ n limit turns room ts. reading.more (setting limit end (turns - 1) room) l (operand limit turns room) n at line f ts

more_ends : (end n : ℕ) (l : Level) (operand : Family Formed) (at line limit turns room : ℕ) (f : Formed) →
    MoreLoop end l operand at line f n limit turns room [] ≡ Ok (f, [])
unfolding reading.more
more_ends end zero l operand at line limit turns room f = refl
more_ends end (suc n) l operand at line limit turns room f = refl

more_other : (end n : ℕ) (l : Level) (operand : Family Formed) (at line limit turns room : ℕ) (f : Formed) (o : Token) (us : List Token) →
    operator_among l (sign_of o.kind) ≡ None → MoreLoop end l operand at line f n limit turns room (o ∷ us) ≡ Ok (f, o ∷ us)
unfolding reading.more
more_other end zero l operand at line limit turns room f o us none = refl
more_other end (suc n) l operand at line limit turns room f o us none = rw none refl

-- the operation of what was read and the operand behind an operator, then more where the level repeats
abbrev went : ℕ → Level → Family Formed → ℕ → ℕ → Operator → Formed → ℕ → ℕ → ℕ → ℕ → Formed × List Token → Answer (Formed × List Token)
went end l operand at line op f m limit turns room x =
    reading.go_on (repeats l) (with_rest x.1 (reading.operation limit at line op f x.0)) (λ g rest. MoreLoop end l operand at line g m limit turns room rest)

pull_operand : (b : Bool) (r : Answer (Formed × List Token)) (k : Formed × List Token → Answer (Formed × List Token)) (go : Formed → List Token →
    Answer (Formed × List Token)) → reading.go_on b (r >>= k) go ≡ (r >>= (λ x. reading.go_on b (k x) go))
pull_operand true (Ok x) k go = refl
pull_operand true (Err e) k go = refl
pull_operand false (Ok x) k go = refl
pull_operand false (Err e) k go = refl

more_step : (end n : ℕ) (l : Level) (operand : Family Formed) (at line limit turns room : ℕ) (f : Formed) (o : Token) (us : List Token) (op : Operator) →
    operator_among l (sign_of o.kind) ≡ Some op
    → MoreLoop end l operand at line f (suc n) limit turns room (o ∷ us) ≡ (operand limit turns room us >>= went end l operand at line op f n limit turns room)
unfolding reading.more
more_step end n l operand at line limit turns room f o us op some =
    rw some (pull_operand (repeats l) (operand limit turns room us) (λ x. with_rest x.1 (reading.operation limit at line op f x.0))
    (λ g rest. MoreLoop end l operand at line g n limit turns room rest))

more_next : (end n : ℕ) (l : Level) (operand : Family Formed) (at line limit turns room : ℕ) (f : Formed) (o : Token) (us : List Token) (op : Operator) →
    operator_among l (sign_of o.kind) ≡ Some op → length (o ∷ us) ≤ n
    → (m : ℕ) × (length us ≤ m) × (MoreLoop end l operand at line f n limit turns room
    (o ∷ us) ≡ (operand limit turns room us >>= went end l operand at line op f m limit turns room))
more_next end zero l operand at line limit turns room f o us op some enough = absurd (omega arith)
more_next end (suc n) l operand at line limit turns room f o us op some enough =
    (n, omega arith, more_step end n l operand at line limit turns room f o us op some)

-- what follows the operand, at its rest
abbrev Went : ℕ → Level → Family Formed → ℕ → ℕ → Operator → Formed → Formed → Counted
Went end l operand at line op f y = λ m limit turns room ts. went end l operand at line op f m limit turns room (y, ts)

went_local : (end turns n : ℕ) (l : Level) (operand : Family Formed) (at line : ℕ) (op : Operator) (f y : Formed) (limit room : ℕ) (ts : List Token)
    (b : Bool) → repeats l ≡ b → ((g : Formed) → LoopLocal 0 end n limit turns room (MoreLoop end l operand at line g) ts)
    → LoopLocal 0 end n limit turns room (λ m limit turns room ts.
    reading.go_on b (with_rest ts (reading.operation limit at line op f y)) (λ g rest. MoreLoop end l operand at line g m limit turns room rest)) ts
went_local end turns n l operand at line op f y limit room ts true again go =
    record {
      given = λ a rest h.
          let (x, ex, e1) = ok_then (with_rest ts (reading.operation limit at line op f y)) (λ x. MoreLoop end l operand at line x.0 n limit turns room x.1)
          (a, rest) h in
          let (g, found, is) = rest_ok ts (reading.operation limit at line op f y) x ex in
          let (fits, same) = made_ok limit at (tree.Binary line op f.tree y.tree) (max f.depth y.depth) g found in
          let second : x.1 ≡ ts = ap (λ (p : Formed × List Token). p.1) is in
          let e2 : MoreLoop end l operand at line x.0 n limit turns room ts ≡ Ok (a, rest) =
          ap (λ k. MoreLoop end l operand at line x.0 n limit turns room k) (sym second) ∙ e1 in
          let gl = (go x.0).given a rest e2 in
          record {
            front = gl.front;
            split = gl.split;
            again = λ limit' turns' room' n' rest' a1 a2 a3 enough b.
                let test : nat_lt (max f.depth y.depth) limit' ≡ true = lt-ltb (max f.depth y.depth) limit' (omega arith) in
                let first : x.0 ≡ g = ap (λ (p : Formed × List Token). p.0) is in
                let remade : ◌≡◌ {A = Answer Formed} (reading.operation limit' at line op f y) (Ok x.0) = rw test (ap Ok (sym (first ∙ same))) in
                ap (λ r. with_rest (gl.front ++ rest') r >>= (λ x. MoreLoop end l operand at line x.0 n' limit' turns' room' x.1)) remade
                ∙ gl.again limit' turns' room' n' rest' a1 a2 a3 enough b;
          };
      refused = λ o h.
          elim (err_then (with_rest ts (reading.operation limit at line op f y)) (λ x. MoreLoop end l operand at line x.0 n limit turns room x.1) (Expected o)
          h) [
            | inl e1 ↦ absurd
                (made_never (nat_lt (max f.depth y.depth) limit) (record { tree = tree.Binary line op f.tree y.tree; depth = max f.depth y.depth + 1 }) at o ts
                e1)
            | inr (x, ex, e1) ↦
                let (g, found, is) = rest_ok ts (reading.operation limit at line op f y) x ex in
                let (fits, same) = made_ok limit at (tree.Binary line op f.tree y.tree) (max f.depth y.depth) g found in
                let second : x.1 ≡ ts = ap (λ (p : Formed × List Token). p.1) is in
                let e2 : MoreLoop end l operand at line x.0 n limit turns room ts ≡ Err (Expected o) =
                ap (λ k. MoreLoop end l operand at line x.0 n limit turns room k) (sym second) ∙ e1 in
                let gl = (go x.0).refused o e2 in
                record {
                  front = gl.front;
                  rest = gl.rest;
                  split = gl.split;
                  here = gl.here;
                  again = λ limit' turns' room' n' rest' a1 a2 a3 enough b.
                      let test : nat_lt (max f.depth y.depth) limit' ≡ true = lt-ltb (max f.depth y.depth) limit' (omega arith) in
                      let first : x.0 ≡ g = ap (λ (p : Formed × List Token). p.0) is in
                      let remade : ◌≡◌ {A = Answer Formed} (reading.operation limit' at line op f y) (Ok x.0) = rw test (ap Ok (sym (first ∙ same))) in
                      ap (λ r. with_rest (gl.front ++ rest') r >>= (λ x. MoreLoop end l operand at line x.0 n' limit' turns' room' x.1)) remade
                      ∙ gl.again limit' turns' room' n' rest' a1 a2 a3 enough b;
                }
          ];
    }
went_local end turns n l operand at line op f y limit room ts false again go =
    record {
      given = λ a rest h.
          let (g, found, is) = rest_ok ts (reading.operation limit at line op f y) (a, rest) h in
          let (fits, same) = made_ok limit at (tree.Binary line op f.tree y.tree) (max f.depth y.depth) g found in
          let first : a ≡ g = ap (λ (p : Formed × List Token). p.0) is in
          let second : rest ≡ ts = ap (λ (p : Formed × List Token). p.1) is in
          record {
            front = [];
            split = sym second;
            again = λ limit' turns' room' n' rest' a1 a2 a3 enough b.
                let test : nat_lt (max f.depth y.depth) limit' ≡ true = lt-ltb (max f.depth y.depth) limit' (omega arith) in
                rw test (ap (λ z. Ok (z, rest')) (sym (first ∙ same)));
          };
      refused = λ o h.
          absurd (made_never (nat_lt (max f.depth y.depth) limit) (record { tree = tree.Binary line op f.tree y.tree; depth = max f.depth y.depth + 1 }) at o ts
          h);
    }

more_turn : (end turns n : ℕ) (l : Level) (operand : Family Formed) → IsLocal 0 end turns Formed operand →
    (at line : ℕ) (f : Formed) (limit room : ℕ) (o : Token) (ts : List Token) (op : Operator) → operator_among l (sign_of o.kind) ≡ Some op → length ts ≤ n →
    length (o ∷ ts) < turns
    → ((g : Formed) (us : List Token) → length us ≤ n → length us < turns → LoopLocal 0 end n limit turns room (MoreLoop end l operand at line g) us) →
    LoopLocal 0 end (suc n) limit turns room (MoreLoop end l operand at line f) (o ∷ ts)
more_turn end turns n l operand lo at line f limit room o ts op some enough short go =
    let li = lo limit room ts (omega arith) in
    let step = more_step end n l operand at line limit turns room f o ts op some in
    record {
      given = λ a rest h.
          let (x, ex, e1) = ok_then (operand limit turns room ts) (went end l operand at line op f n limit turns room) (a, rest) (sym step ∙ h) in
          let gi = li.given x.0 x.1 ex in
          let long : length ts ≡ length gi.front + length x.1 = ap length gi.split ∙ length-append gi.front x.1 in
          let gl = (went_local end turns n l operand at line op f x.0 limit room x.1 (repeats l) refl (λ g. go g x.1 (omega arith) (omega arith))).given a rest
          e1 in
          record {
            front = o ∷ (gi.front ++ gl.front);
            split = ap (λ l. o ∷ l) (gi.split ∙ ap (λ l. gi.front ++ l) gl.split ∙ sym (append_assoc gi.front gl.front rest));
            again = λ limit' turns' room' n' rest' a1 a2 a3 enough' same.
                let both : length (gi.front ++ gl.front) ≡ length gi.front + length gl.front = length-append gi.front gl.front in
                let whole : (gi.front ++ gl.front) ++ rest' ≡ gi.front ++ (gl.front ++ rest') = append_assoc gi.front gl.front rest' in
                let total : length ((gi.front ++ gl.front) ++ rest') ≡ length gi.front + length (gl.front ++ rest') =
                ap length whole ∙ length-append gi.front (gl.front ++ rest') in
                let mid : Same x.1 (gl.front ++ rest') = ap head gl.split ∙ same_behind gl.front rest rest' same in
                let (m, less, e) = more_next end n' l operand at line limit' turns' room' f o ((gi.front ++ gl.front) ++ rest') op some enough' in
                e ∙ ap (λ k. operand limit' turns' room' k >>= went end l operand at line op f m limit' turns' room') whole
                ∙ ap (λ r. r >>= went end l operand at line op f m limit' turns' room')
                (gi.again limit' turns' room' (gl.front ++ rest') a1 a2 (omega arith) mid)
                ∙ gl.again limit' turns' room' m rest' a1 a2 (omega arith) (omega arith) same;
          };
      refused = λ o' h.
          elim (err_then (operand limit turns room ts) (went end l operand at line op f n limit turns room) (Expected o') (sym step ∙ h)) [
            | inl e1 ↦
                let gi = li.refused o' e1 in
                record {
                  front = o ∷ gi.front;
                  rest = gi.rest;
                  split = ap (λ l. o ∷ l) gi.split;
                  here = gi.here;
                  again = λ limit' turns' room' n' rest' a1 a2 a3 enough' same.
                      let (m, less, e) = more_next end n' l operand at line limit' turns' room' f o (gi.front ++ rest') op some enough' in
                      e ∙ ap (λ r. r >>= went end l operand at line op f m limit' turns' room') (gi.again limit' turns' room' rest' a1 a2 (omega arith) same);
                }
            | inr (x, ex, e1) ↦
                let gi = li.given x.0 x.1 ex in
                let long : length ts ≡ length gi.front + length x.1 = ap length gi.split ∙ length-append gi.front x.1 in
                let gl = (went_local end turns n l operand at line op f x.0 limit room x.1 (repeats l) refl (λ g. go g x.1 (omega arith) (omega arith))).refused
                o' e1 in
                record {
                  front = o ∷ (gi.front ++ gl.front);
                  rest = gl.rest;
                  split = ap (λ l. o ∷ l) (gi.split ∙ ap (λ l. gi.front ++ l) gl.split ∙ sym (append_assoc gi.front gl.front gl.rest));
                  here = gl.here;
                  again = λ limit' turns' room' n' rest' a1 a2 a3 enough' same.
                      let both : length (gi.front ++ gl.front) ≡ length gi.front + length gl.front = length-append gi.front gl.front in
                      let whole : (gi.front ++ gl.front) ++ rest' ≡ gi.front ++ (gl.front ++ rest') = append_assoc gi.front gl.front rest' in
                      let total : length ((gi.front ++ gl.front) ++ rest') ≡ length gi.front + length (gl.front ++ rest') =
                      ap length whole ∙ length-append gi.front (gl.front ++ rest') in
                      let mid : Same x.1 (gl.front ++ rest') = ap head gl.split ∙ same_behind gl.front gl.rest rest' same in
                      let (m, less, e) = more_next end n' l operand at line limit' turns' room' f o ((gi.front ++ gl.front) ++ rest') op some enough' in
                      e ∙ ap (λ k. operand limit' turns' room' k >>= went end l operand at line op f m limit' turns' room') whole
                      ∙ ap (λ r. r >>= went end l operand at line op f m limit' turns' room')
                      (gi.again limit' turns' room' (gl.front ++ rest') a1 a2 (omega arith) mid)
                      ∙ gl.again limit' turns' room' m rest' a1 a2 (omega arith) (omega arith) same;
                }
          ];
    }

-- a loop that ends at its first token, or at the end
ended_local : (end n limit turns room : ℕ) (p : Counted) (f : Formed) (ts : List Token) →
    ((n limit turns room : ℕ) (us : List Token) → Same ts us → p n limit turns room us ≡ Ok (f, us)) → LoopLocal 0 end n limit turns room p ts
ended_local end n limit turns room p f ts e =
    record {
      given = λ a rest h.
          let same : ◌≡◌ {A = Answer (Formed × List Token)} (Ok (f, ts)) (Ok (a, rest)) = sym (e n limit turns room ts refl) ∙ h in
          let pair : (f, ts) ≡ (a, rest) = cc in
          let first : f ≡ a = ap (λ (p : Formed × List Token). p.0) pair in
          let second : ts ≡ rest = ap (λ (p : Formed × List Token). p.1) pair in
          record {
            front = [];
            split = second;
            again = λ limit' turns' room' n' rest' a1 a2 a3 enough b. e n' limit' turns' room' rest' (ap head second ∙ b)
                ∙ ap (λ z. Ok (z, rest')) first;
          };
      refused = λ o h. let wrong : ◌≡◌ {A = Answer (Formed × List Token)} (Ok (f, ts)) (Err (Expected o)) = sym (e n limit turns room ts refl) ∙ h in
          let no_way : ⊥ = cc in absurd no_way;
    }

more_at_end : (end n limit turns room : ℕ) (l : Level) (operand : Family Formed) (at line : ℕ) (f : Formed) →
    LoopLocal 0 end n limit turns room (MoreLoop end l operand at line f) []
more_at_end end n limit turns room l operand at line f =
    ended_local end n limit turns room (MoreLoop end l operand at line f) f []
    (λ n limit turns room us b. let P : List Token → Type 0 = λ k. MoreLoop end l operand at line f n limit turns room k ≡ Ok (f, k) in
    subst P (sym (same_nil us b)) (more_ends end n l operand at line limit turns room f))

more_by_operator : (end turns n : ℕ) (l : Level) (operand : Family Formed) → IsLocal 0 end turns Formed operand →
    (at line : ℕ) (f : Formed) (limit room : ℕ) (o : Token) (ts : List Token) → length ts ≤ n → length (o ∷ ts) < turns
    → ((g : Formed) (us : List Token) → length us ≤ n → length us < turns → LoopLocal 0 end n limit turns room (MoreLoop end l operand at line g) us) →
    (found : Option Operator) → operator_among l (sign_of o.kind) ≡ found
    → LoopLocal 0 end (suc n) limit turns room (MoreLoop end l operand at line f) (o ∷ ts)
more_by_operator end turns n l operand lo at line f limit room o ts enough short go None is =
    ended_local end (suc n) limit turns room (MoreLoop end l operand at line f) f (o ∷ ts)
    (λ n limit turns room us b. let (vs, e) = same_cons o ts us b in let P : List Token →
    Type 0 = λ k. MoreLoop end l operand at line f n limit turns room k ≡ Ok (f, k) in
    subst P (sym e) (more_other end n l operand at line limit turns room f o vs is))
more_by_operator end turns n l operand lo at line f limit room o ts enough short go (Some op) is =
    more_turn end turns n l operand lo at line f limit room o ts op is enough short go

more_local : (end turns : ℕ) (l : Level) (operand : Family Formed) → IsLocal 0 end turns Formed operand → (at line : ℕ) (n : ℕ) (f : Formed) →
    IsLoop 0 end turns n (MoreLoop end l operand at line f)
more_local end turns l operand lo at line zero f limit room [] enough short = more_at_end end 0 limit turns room l operand at line f
more_local end turns l operand lo at line zero f limit room (o ∷ ts) enough short = absurd (omega arith)
more_local end turns l operand lo at line (suc n) f limit room [] enough short = more_at_end end (suc n) limit turns room l operand at line f
more_local end turns l operand lo at line (suc n) f limit room (o ∷ ts) enough short =
    more_by_operator end turns n l operand lo at line f limit room o ts (omega arith) (omega arith)
    (λ g us a b. more_local end turns l operand lo at line n g limit room us a (omega arith)) (operator_among l (sign_of o.kind)) refl

abbrev Chains : ℕ → Level → Family Formed → Family Formed
Chains end l operand = λ limit turns room ts. reading.chain (setting limit end (turns - 1) room) l (operand limit turns room) ts

chain_local : (end turns : ℕ) (l : Level) (operand : Family Formed) → IsLocal 0 end turns Formed operand → IsLocal 0 end turns Formed (Chains end l operand)
unfolding reading.chain
chain_local end turns l operand lo =
    by_first_local 0 end turns (λ at line limit turns room ts.
    operand limit turns room ts >>= (λ x. MoreLoop end l operand at line x.0 (length x.1) limit turns room x.1))
    (λ at line. then_local 0 end turns Formed Formed operand (λ f limit turns room ts. MoreLoop end l operand at line f (length ts) limit turns room ts) lo
    (λ f. loop_local 0 end turns (MoreLoop end l operand at line f) (λ n. more_local end turns l operand lo at line n f)))

disjunction_local : (end turns : ℕ) → IsLocal 1 end turns Formed (InBracket end) →
    IsLocal 0 end turns Formed (λ limit turns room ts. reading.disjunction (setting limit end (turns - 1) room) ts)
unfolding reading.disjunction reading.conjunction reading.negation reading.comparison reading.sets reading.sums reading.products reading.unary
disjunction_local end turns inner =
    let unary : Family Formed = Prefixed end prefix.Minus (Postfixes end) in
    let products : Family Formed = Chains end level.Products unary in
    let sums : Family Formed = Chains end level.Sums products in
    let sets : Family Formed = Chains end level.Sets sums in
    let comparison : Family Formed = Chains end level.Comparison sets in
    let negation : Family Formed = Prefixed end prefix.Not comparison in
    let conjunction : Family Formed = Chains end level.And negation in
    chain_local end turns level.Or conjunction
    (chain_local end turns level.And negation
    (prefixes_local end turns prefix.Not comparison (chain_local end turns level.Comparison sets (chain_local end turns level.Sets sums
    (chain_local end turns level.Sums products
    (chain_local end turns level.Products unary (prefixes_local end turns prefix.Minus (Postfixes end) (postfix_local end turns inner))))))))

-- ---- expressions

abbrev Expressions : ℕ → Family Formed
Expressions end = λ limit turns room ts. reading.expression (setting limit end (turns - 1) room) ts

expression_none : (end limit turns room : ℕ) → Expressions end limit turns room [] ≡ reading.disjunction (setting limit end (turns - 1) room) []
unfolding reading.expression
expression_none end limit turns room = refl

expression_if : (end limit turns room : ℕ) (t : Token) (us : List Token) → same_sign (sign_of t.kind) sign.If ≡ true →
    Expressions end limit turns room (t ∷ us) ≡ reading.chosen (setting limit end (turns - 1) room) t us
unfolding reading.expression
expression_if end limit turns room t us h = rw h refl

expression_or : (end limit turns room : ℕ) (t : Token) (us : List Token) → same_sign (sign_of t.kind) sign.If ≡ false →
    Expressions end limit turns room (t ∷ us) ≡ reading.disjunction (setting limit end (turns - 1) room) (t ∷ us)
unfolding reading.expression
expression_or end limit turns room t us h = rw h refl

expression_local : (end turns : ℕ) → IsLocal 1 end turns Formed (InBracket end) → IsLocal 1 end turns Formed (InChoice end) →
    IsLocal 0 end turns Formed (Expressions end)
expression_local end turns inner nested limit room [] short =
    alike_local end limit turns room (Expressions end) (λ limit turns room ts. reading.disjunction (setting limit end (turns - 1) room) ts) []
    (λ limit turns room us b. let P : List Token →
    Type 0 = λ k. Expressions end limit turns room k ≡ reading.disjunction (setting limit end (turns - 1) room) k in
    subst P (sym (same_nil us b)) (expression_none end limit turns room)) (disjunction_local end turns inner limit room [] short)
expression_local end turns inner nested limit room (t ∷ ts) short =
    elim (cases_Bool (same_sign (sign_of t.kind) sign.If)) [
      | inl h ↦
          cons_local end limit turns room (Expressions end) (λ limit turns room us. reading.chosen (setting limit end (turns - 1) room) t us) t ts
          (λ limit turns room us. expression_if end limit turns room t us h) (chosen_local end turns nested t limit room ts (omega arith))
      | inr h ↦
          alike_local end limit turns room (Expressions end) (λ limit turns room ts. reading.disjunction (setting limit end (turns - 1) room) ts) (t ∷ ts)
          (λ limit turns room us b. let (vs, e) = same_cons t ts us b in let P : List Token →
          Type 0 = λ k. Expressions end limit turns room k ≡ reading.disjunction (setting limit end (turns - 1) room) k in
          subst P (sym e) (expression_or end limit turns room t vs h))
          (disjunction_local end turns inner limit room (t ∷ ts) short)
    ]

within_is : (limit end turns room : ℕ) (ts : List Token) → 0 < turns → Inner end limit turns room ts ≡ Expressions end limit turns room ts
unfolding reading.within
within_is limit end zero room ts some = absurd (omega arith)
within_is limit end (suc n) room ts some = let e : suc n - 1 ≡ n = omega arith in rw e refl

bracket_lift : (end turns : ℕ) → IsLocal 0 end (turns - 1) Formed (Inner end) → IsLocal 1 end turns Formed (InBracket end)
bracket_lift end turns lo limit room ts short =
    let l = lo limit (room - 1) ts (omega arith) in
    record {
      given = λ a rest h. let g = l.given a rest h in
          record {
            front = g.front;
            split = g.split;
            again = λ limit' turns' room' rest' a1 a2 a3 b.
                g.again limit' (turns' - 1) (room' - 1) rest' a1 (omega arith) (omega arith) b;
          };
      refused = λ o h. let g = l.refused o h in
          record {
            front = g.front;
            rest = g.rest;
            split = g.split;
            here = g.here;
            again = λ limit' turns' room' rest' a1 a2 a3 b.
                g.again limit' (turns' - 1) (room' - 1) rest' a1 (omega arith) (omega arith) b;
          };
    }

choice_lift : (end turns : ℕ) → IsLocal 0 end (turns - 1) Formed (Inner end) → IsLocal 1 end turns Formed (InChoice end)
choice_lift end turns lo limit room ts short =
    let l = lo limit room ts (omega arith) in
    record {
      given = λ a rest h. let g = l.given a rest h in
          record {
            front = g.front;
            split = g.split;
            again = λ limit' turns' room' rest' a1 a2 a3 b.
                g.again limit' (turns' - 1) room' rest' a1 a2 (omega arith) b;
          };
      refused = λ o h. let g = l.refused o h in
          record {
            front = g.front;
            rest = g.rest;
            split = g.split;
            here = g.here;
            again = λ limit' turns' room' rest' a1 a2 a3 b.
                g.again limit' (turns' - 1) room' rest' a1 a2 (omega arith) b;
          };
    }

turn_local : (end turns : ℕ) → 0 < turns → IsLocal 0 end turns Formed (Expressions end) → IsLocal 0 end turns Formed (Inner end)
turn_local end turns some lo limit room ts short =
    let l = lo limit room ts short in
    record {
      given = λ a rest h.
          let g = l.given a rest (sym (within_is limit end turns room ts some) ∙ h) in
          record {
            front = g.front;
            split = g.split;
            again = λ limit' turns' room' rest' a1 a2 a3 b.
                within_is limit' end turns' room' (g.front ++ rest') (omega arith) ∙ g.again limit' turns' room' rest' a1 a2 a3 b;
          };
      refused = λ o h.
          let g = l.refused o (sym (within_is limit end turns room ts some) ∙ h) in
          record {
            front = g.front;
            rest = g.rest;
            split = g.split;
            here = g.here;
            again = λ limit' turns' room' rest' a1 a2 a3 b.
                within_is limit' end turns' room' (g.front ++ rest') (omega arith) ∙ g.again limit' turns' room' rest' a1 a2 a3 b;
          };
    }

within_local : (end turns : ℕ) → IsLocal 0 end turns Formed (Inner end)
within_local end zero = λ limit room ts short. absurd (omega arith)
within_local end (suc n) =
    let P : ℕ → Type 0 = λ m. IsLocal 0 end m Formed (Inner end) in
    let e : n ≡ suc n - 1 = omega arith in
    let less : IsLocal 0 end (suc n - 1) Formed (Inner end) = subst P e (within_local end n) in
    turn_local end (suc n) (omega arith) (expression_local end (suc n) (bracket_lift end (suc n) less) (choice_lift end (suc n) less))

-- ---- whole formulas

ok_or_err : {A : Type 0} (x : A) (e : SyntaxRefusal) → ◌≡◌ {A = Answer A} (Ok x) (Err e) → ⊥
ok_or_err x e h = cc

none_whole : (end limit room : ℕ) (front rest ts : List Token) (o : ℕ) → ts ≡ front ++ rest
    → ((limit' turns' room' : ℕ) (rest' : List Token) → limit ≤ limit' → room ≤ room' → 0 + length front < turns' → Same rest rest' →
    Inner end limit' turns' room' (front ++ rest') ≡ Err (Expected (offset end rest')))
    → (rest' : List Token) → Same rest rest' → (f : Form) → Produces expression (front ++ rest') f → ⊥
unfolding reading.formula_at
none_whole end limit room front rest ts o split again rest' same f p =
    let long : length (front ++ rest') ≡ length front + length rest' = length-append front rest' in
    let whole = read_whole (front ++ rest') f p (max limit f.depth) end (max room f.nest) (omega arith) (omega arith) in
    ok_or_err (formed f, []) (Expected (offset end rest'))
    (sym whole ∙ again (max limit f.depth) (length (front ++ rest') + 1) (max room f.nest) rest' (omega arith) (omega arith) (omega arith) same)

none_longer : (end limit room : ℕ) (front rest : List Token) (t : Token) (x : Formed)
    → ((limit' turns' room' : ℕ) (rest' : List Token) → limit ≤ limit' → room ≤ room' → 0 + length front < turns' → Same (t ∷ rest) rest' →
    Inner end limit' turns' room' (front ++ rest') ≡ Ok (x, rest'))
    → (behind : List Token) (f : Form) → Produces expression (front ++ t ∷ behind) f → ⊥
unfolding reading.formula_at
none_longer end limit room front rest t x again behind f p =
    let long : length (front ++ t ∷ behind) ≡ length front + length (t ∷ behind) = length-append front (t ∷ behind) in
    let whole = read_whole (front ++ t ∷ behind) f p (max limit f.depth) end (max room f.nest) (omega arith) (omega arith) in
    let both : ◌≡◌ {A = Answer (Formed × List Token)} (Ok (formed f, [])) (Ok (x, t ∷ behind)) =
    sym whole ∙ again (max limit f.depth) (length (front ++ t ∷ behind) + 1) (max room f.nest) (t ∷ behind) (omega arith) (omega arith) (omega arith)
    refl in
    let pair : (formed f, []) ≡ (x, t ∷ behind) = cc in
    let lists : [] ≡ t ∷ behind = ap (λ (p : Formed × List Token). p.1) pair in
    let wrong : ⊥ = cc in
    wrong

none_begins : (front rest : List Token) → ((rest' : List Token) → Same rest rest' → (f : Form) → Produces expression (front ++ rest') f → ⊥) →
    NoneBegins front rest
none_begins front [] h = λ f p. let P : List Token → Type 0 = λ l. Produces expression l f in h [] refl f (subst P (sym (append-nil front)) p)
none_begins front (t ∷ rest) h = λ behind f p. h (t ∷ behind) refl f p

pub blocked_at : (end : ℕ) (ts : List Token) (o : ℕ) → reading.formula_at 32 32 end ts ≡ Err (Expected o) → IsBlocked end ts o
unfolding reading.formula_at
blocked_at end ts o h =
    let r = (within_local end (length ts + 1) 32 32 ts (omega arith)).refused o h in
    record {
      front = r.front;
      rest = r.rest;
      split = r.split;
      here = r.here;
      none =
          none_begins r.front r.rest (none_whole end 32 32 r.front r.rest ts o r.split r.again);
    }

pub blocked_behind : (end : ℕ) (ts : List Token) (o : ℕ) (x : Formed) (t : Token) (rest : List Token) → o ≡ t.start →
    reading.formula_at 32 32 end ts ≡ Ok (x, t ∷ rest) → IsBlocked end ts o
unfolding reading.formula_at
blocked_behind end ts o x t rest at h =
    let g = (within_local end (length ts + 1) 32 32 ts (omega arith)).given x (t ∷ rest) h in
    record { front = g.front; rest = t ∷ rest; split = g.split; here = at; none = none_longer end 32 32 g.front rest t x g.again }

blocked_by : (end : ℕ) (ts : List Token) (o : ℕ) (r : Answer (Formed × List Token)) → reading.formula_at 32 32 end ts ≡ r →
    (r >>= reading.nothing_behind end) ≡ Err (Expected o) → IsBlocked end ts o
blocked_by end ts o (Ok (x, [])) e h = let wrong : ⊥ = cc in absurd wrong
blocked_by end ts o (Ok (x, t ∷ rest)) e h = let at : o ≡ t.start = cc in blocked_behind end ts o x t rest at e
blocked_by end ts o (Err d) e h = let same : d ≡ Expected o = cc in blocked_at end ts o (e ∙ ap Err same)

-- the token where a formula is refused begins none, with those before it
pub blocked : (end : ℕ) (ts : List Token) (o : ℕ) → reading.whole_formula end ts ≡ Err (Expected o) → IsBlocked end ts o
blocked end ts o h = blocked_by end ts o (reading.formula_at 32 32 end ts) refl h

-- the token behind a formula goes on with none
pub taken : (end : ℕ) (ts : List Token) (x : Formed) (t : Token) (rest : List Token) → reading.formula_at 32 32 end ts ≡ Ok (x, t ∷ rest) →
    IsBlocked end ts t.start
taken end ts x t rest h = blocked_behind end ts t.start x t rest refl h
