-- Texts that are read as tokens which stand for a thing, before any rest of a sort, and how they are joined.
use Rattle.std.proofs.Common.{◌≡◌, ℕ, ◌+◌, List, [], ◌∷◌, ◌++◌, map, IsUtf8, refl, sym, ap, ◌∙◌, subst, arith, append_assoc, append-nil, Ok, Err}
use Rattle.std.specs.Prelude.{codes, Result}
use Rattle.std.proofs.lemmas.Str.{IsUtf8-append, IsUtf8-nil}
use Rattle.sheet_syntax_trees.specs.declared.token.Token.{Token}
use Rattle.sheet_syntax_trees.specs.declared.token.TokenKind.{TokenKind}
use Rattle.sheet_syntax_trees.specs.declared.token.SyntaxRefusal.{SyntaxRefusal}
use Rattle.sheet_syntax_trees.specs.Tokens.{tokens_from, with_tokens}
use Rattle.sheet_syntax_trees.proofs.Seeing.{Ends, Seen}
use Rattle.sheet_define_data.specs.Printing.{line_at, inside}
use Rattle.sheet_define_readback.proofs.Encoded.{plain}
use Rattle.sheet_define_readback.proofs.Moved.{down, moved, moved_with, tokens_moved}

abbrev Told : Type 0
Told = Result (List Token) SyntaxRefusal

-- a text at this offset, behind so many lines, before that rest, is read as these tokens
pub record Lies (text rest : List ℕ) (at above : ℕ) (ts : List Token) : Type 0 where
  pub to : ℕ
  pub below : ℕ
  pub told : tokens_from (text ++ rest) at (above + 1) 0 ≡ with_tokens ts (tokens_from rest to (below + 1) 0)

with_none : (r : Told) → with_tokens [] r ≡ r
with_none (Ok ts) = refl
with_none (Err e) = refl

with_both : (xs ys : List Token) (r : Told) → with_tokens (xs ++ ys) r ≡ with_tokens xs (with_tokens ys r)
with_both xs ys (Ok more) = ap Ok (append_assoc xs ys more)
with_both xs ys (Err e) = refl

both_lie : (a b rest : List ℕ) (at above : ℕ) (xs ys : List Token) (s : Lies a (b ++ rest) at above xs) → Lies b rest s.to s.below ys →
    Lies (a ++ b) rest at above (xs ++ ys)
both_lie a b rest at above xs ys s t =
    record {
      to = t.to;
      below = t.below;
      told = ap (λ l. tokens_from l at (above + 1) 0) (append_assoc a b rest) ∙ s.told ∙ ap (with_tokens xs) t.told
          ∙ sym (with_both xs ys (tokens_from rest t.to (t.below + 1) 0));
    }

-- what lies in the first line lies in any
pub lowered : (text rest : List ℕ) (at above : ℕ) (ts : List Token) → Seen text rest at ts → Lies text rest at above (map (down above) ts)
lowered text rest at above ts s =
    let e : above + 1 ≡ 1 + above = omega arith in
    record {
      to = s.to;
      below = above;
      told = ap (λ l. tokens_from (text ++ rest) at l 0) e ∙ tokens_moved (text ++ rest) at 1 0 above ∙ ap (moved above) s.told
          ∙ moved_with above ts (tokens_from rest s.to 1 0)
          ∙ ap (with_tokens (map (down above) ts)) (sym (tokens_moved rest s.to 1 0 above) ∙ ap (λ l. tokens_from rest s.to l 0) (sym e));
    }

-- ---- texts with what their tokens stand for

-- the tokens of the text stand for the thing, whatever tokens are behind them
pub record Printed (Q : List Token → List Token → Type 0) (text rest : List ℕ) (at above : ℕ) : Type 0 where
  pub ts : List Token
  pub lies : Lies text rest at above ts
  pub reads : (us : List Token) → Q (ts ++ us) us

-- so it is before each rest of that sort
pub record Written (C : List ℕ → Type 0) (Q : List Token → List Token → Type 0) (text : List ℕ) : Type 0 where
  pub encoded : IsUtf8 text
  pub printed : (at above : ℕ) (rest : List ℕ) → C rest → Printed Q text rest at above

-- any rest
abbrev pub Any : List ℕ → Type 0
Any rest = Unit {0}

-- one thing, and another behind it
pub data Then (Q R : List Token → List Token → Type 0) : List Token → List Token → Type 0 where
  then : (ts us vs : List Token) → Q ts us → R us vs → Then Q R ts vs

-- a token of that kind
pub data One (k : TokenKind) : List Token → List Token → Type 0 where
  one : (t : Token) (ts : List Token) → t.kind ≡ k → One k (t ∷ ts) ts

-- what a production stands for, which is the thing but for the lines
pub record Read {A : Type 0} (P : List Token → A → List Token → Type 0) (plain : A → A) (x : A) (ts us : List Token) : Type 0 where
  pub thing : A
  pub stands : P ts thing us
  pub same : plain thing ≡ plain x

pub both : {C D : List ℕ → Type 0} {Q R : List Token → List Token → Type 0} {a b : List ℕ} → Written C Q a → Written D R b →
    ((rest : List ℕ) → D rest → C (b ++ rest)) → Written D (Then Q R) (a ++ b)
both {C} {D} {Q} {R} {a} {b} w v ends =
    record {
      encoded = IsUtf8-append a b w.encoded v.encoded;
      printed = λ at above rest d.
          let p = w.printed at above (b ++ rest) (ends rest d) in
          let q = v.printed p.lies.to p.lies.below rest d in
          record {
            ts = p.ts ++ q.ts;
            lies = both_lie a b rest at above p.ts q.ts p.lies q.lies;
            reads = λ us. subst (λ l. Then Q R l us) (sym (append_assoc p.ts q.ts us)) (then _ _ _ (p.reads (q.ts ++ us)) (q.reads us));
          };
    }

-- behind a text that needs nothing of the rest
pub behind : {D : List ℕ → Type 0} {Q R : List Token → List Token → Type 0} {a b : List ℕ} → Written Any Q a → Written D R b → Written D (Then Q R) (a ++ b)
behind w v = both w v (λ rest d. tt)

-- the same text with another thing
pub made : {C : List ℕ → Type 0} {Q R : List Token → List Token → Type 0} {a : List ℕ} → ((ts us : List Token) → Q ts us → R ts us) → Written C Q a →
    Written C R a
made f w = record {
  encoded = w.encoded;
  printed = λ at above rest c. let p = w.printed at above rest c in
      record { ts = p.ts; lies = p.lies; reads = λ us. f _ _ (p.reads us) };
}

-- nothing at all
pub nothing : {C : List ℕ → Type 0} {Q : List Token → List Token → Type 0} → ((ts : List Token) → Q ts ts) → Written C Q []
nothing f = record {
  encoded = IsUtf8-nil;
  printed = λ at above rest c. record { ts = []; lies = record { to = at; below = above; told = sym (with_none _) }; reads = f };
}

-- the rest may be any where less is asked of it
pub sure : {C : List ℕ → Type 0} {Q : List Token → List Token → Type 0} {a : List ℕ} → Written Any Q a → Written C Q a
sure w = record { encoded = w.encoded; printed = λ at above rest c. w.printed at above rest tt }

-- ---- margins and lines

pub record Blank (text : List ℕ) : Type 0 where
  pub encoded : IsUtf8 text
  pub lies : (rest : List ℕ) (at above : ℕ) → Lies text rest at above []

pub no_margin : Blank []
no_margin = record { encoded = IsUtf8-nil; lies = λ rest at above. record { to = at; below = above; told = sym (with_none _) } }

pub wider : (margin : List ℕ) → Blank margin → Blank (inside margin)
wider margin m =
    record {
      encoded = IsUtf8-append margin (codes "  ") m.encoded (plain (codes "  ") refl);
      lies = λ rest at above.
          let s = m.lies (codes "  " ++ rest) at above in
          both_lie margin (codes "  ") rest at above [] [] s (record { to = s.to + 1 + 1; below = s.below; told = sym (with_none _) });
    }

-- a line
pub line : {Q : List Token → List Token → Type 0} {a : List ℕ} (margin : List ℕ) → Blank margin → Written Ends Q a → Written Any Q (line_at margin a)
line {Q} {a} margin m w =
    record {
      encoded = IsUtf8-append (margin ++ a) (codes "\n") (IsUtf8-append margin a m.encoded w.encoded) (plain (codes "\n") refl);
      printed = λ at above rest c.
          let s = m.lies (a ++ (codes "\n" ++ rest)) at above in
          let p = w.printed s.to s.below (codes "\n" ++ rest) refl in
          let front = both_lie margin a (codes "\n" ++ rest) at above [] p.ts s p.lies in
          let end : Lies (codes "\n") rest front.to front.below [] = record { to = front.to + 1; below = front.below + 1; told = sym (with_none _) } in
          let whole = both_lie (margin ++ a) (codes "\n") rest at above p.ts [] front end in
          record {
            ts = p.ts;
            lies = record {
              to = whole.to;
              below = whole.below;
              told = whole.told ∙ ap (λ l. with_tokens l (tokens_from rest whole.to (whole.below + 1) 0)) (append-nil p.ts);
            };
            reads = p.reads;
          };
    }
