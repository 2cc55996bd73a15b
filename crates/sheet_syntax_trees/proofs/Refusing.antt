-- Refusals of whole formulas, and of those at the front of tokens.
use Rattle.std.proofs.Common.{◌≡◌, ℕ, ◌+◌, ◌≤◌, List, [], ◌∷◌, ◌++◌, length, Ok, Err, refl, sym, ap, ◌∙◌, subst, arith, append_assoc, append-nil, inl, inr}
use Rattle.std.specs.Prelude.{◌⊎◌}
use Rattle.sheet_syntax_trees.specs.declared.token.Token.{Token}
use Rattle.sheet_syntax_trees.specs.declared.token.SyntaxRefusal.{SyntaxRefusal}
use Rattle.sheet_syntax_trees.specs.declared.token.SyntaxRefusal.TheVariants.{Expected, TooNested}
use Rattle.sheet_syntax_trees.specs.Order.{InOrder}
use Rattle.sheet_syntax_trees.specs.declared.tree.Formed.{Formed}
use Rattle.sheet_syntax_trees.specs.declared.tree.Tree.{Tree}
use Rattle.sheet_syntax_trees.specs.Grammar.{Produces, expression, BeginsFormula, form}
use Rattle.sheet_syntax_trees.specs.Refusals.{IsBlocked, IsFirst, IsTooNested, a_bracket, a_form}
use Rattle.sheet_syntax_trees.specs.Reading as reading
use Rattle.sheet_syntax_trees.specs.Reading.{Answer, ◌>>=◌, offset}
use Rattle.sheet_syntax_trees.proofs.Soundness.{within_sound}
use Rattle.sheet_syntax_trees.proofs.Locality.{blocked, blocked_at, blocked_behind}
use Rattle.sheet_syntax_trees.proofs.Stopping.{Stop, waits, crowded, deep, formula_stops}

-- the tokens before this offset begin a formula
record Begun (end : ℕ) (tokens : List Token) (at : ℕ) : Type 0 where
  front : List Token
  rest : List Token
  split : tokens ≡ front ++ rest
  here : at ≡ offset end rest
  begins : BeginsFormula front

same_offset : (o p : ℕ) → ◌≡◌ {A = SyntaxRefusal} (Expected o) (Expected p) → o ≡ p
same_offset o p h = cc

same_nested : (o p : ℕ) → ◌≡◌ {A = SyntaxRefusal} (TooNested o) (TooNested p) → o ≡ p
same_nested o p h = cc

begun_by : (end : ℕ) (ts : List Token) (o : ℕ) → Stop 32 32 end expression ts (Expected o) → Begun end ts o
begun_by end ts o (waits front rest more w split p same) =
    record {
      front = front;
      rest = rest;
      split = split;
      here = same_offset o (offset end rest) same;
      begins =
          record { behind = more; whole = w; produced = p };
    }
begun_by end ts o (crowded front rest more b w split bracket raised p same) = let wrong : ⊥ = cc in absurd wrong
begun_by end ts o (deep front mid rest m f split a p depth same) = let wrong : ⊥ = cc in absurd wrong

nested_by : (end : ℕ) (ts : List Token) (o : ℕ) → Stop 32 32 end expression ts (TooNested o) → IsTooNested end ts o
nested_by end ts o (waits front rest more w split p same) = let wrong : ⊥ = cc in absurd wrong
nested_by end ts o (crowded front rest more b w split bracket raised p same) =
    let P : List Token → Type 0 = λ l. Produces expression l w in
    a_bracket front rest b split bracket raised.is (record { behind = more; whole = w; produced = subst P (sym (append_assoc front (b ∷ []) more)) p })
    (same_nested o b.start same)
nested_by end ts o (deep front mid rest m f split a p depth same) =
    a_form front mid rest m f split a p (depth ∙ omega arith) (same_nested o (offset end mid) same)

-- ---- tokens in order are divided in one way by an offset

lowest : (low end : ℕ) (front rest : List Token) → InOrder low end (front ++ rest) → low ≤ offset end rest
lowest low end [] [] h = h
lowest low end [] (t ∷ ts) h = h.0
lowest low end (t ∷ front) rest h = let a = h.0 in let b = lowest (t.start + 1) end front rest h.1 in omega (arith, a, b)

head_is : (t u : Token) (ts us : List Token) → t ∷ ts ≡ u ∷ us → (t ≡ u) × (ts ≡ us)
head_is t u ts us h = (cc, cc)

pub divided : (low end : ℕ) (f g r s : List Token) → InOrder low end (f ++ r) → f ++ r ≡ g ++ s → offset end r ≡ offset end s → (f ≡ g) × (r ≡ s)
divided low end [] [] r s o is h = (refl, is)
divided low end [] (u ∷ g) r s o is h =
    let P : List Token → Type 0 = λ l. InOrder low end l in
    let order : InOrder low end (u ∷ (g ++ s)) = subst P is o in
    let l = lowest (u.start + 1) end g s order.1 in
    let first : offset end r ≡ u.start = ap (offset end) is in
    absurd (omega (arith, l, first, h))
divided low end (t ∷ f) [] r s o is h =
    let l = lowest (t.start + 1) end f r o.1 in
    let first : t.start ≡ offset end s = ap (offset end) is in
    absurd (omega (arith, l, first, h))
divided low end (t ∷ f) (u ∷ g) r s o is h =
    let (same, others) = head_is t u (f ++ r) (g ++ s) is in
    let (fronts, rests) = divided (t.start + 1) end f g r s o.1 others h in
    (ap (λ v. v ∷ f) same ∙ ap (λ l. u ∷ l) fronts, rests)

-- ---- the two together

first_by : (end : ℕ) (ts : List Token) (o : ℕ) → InOrder 0 end ts → IsBlocked end ts o → Begun end ts o → IsFirst end ts o
first_by end ts o order b g =
    let P : List Token → Type 0 = λ l. InOrder 0 end l in
    let (fronts, rests) = divided 0 end g.front b.front g.rest b.rest (subst P g.split order) (sym g.split ∙ b.split) (sym g.here ∙ b.here) in
    let Q : List Token → Type 0 = λ l. BeginsFormula l in
    record { front = b.front; rest = b.rest; split = b.split; here = b.here; begins = subst Q fronts g.begins; none = b.none }

err_or_behind : (end : ℕ) (e : SyntaxRefusal) (r : Answer (Formed × List Token)) → ◌≡◌ {A = Answer Tree} (r >>= reading.nothing_behind end) (Err e)
    → (◌≡◌ {A = Answer (Formed × List Token)} r (Err e)) ⊎
    ((f : Formed) × (t : Token) × (rest : List Token) × (◌≡◌ {A = Answer (Formed × List Token)} r (Ok (f, t ∷ rest))) × (e ≡ Expected t.start))
err_or_behind end e (Err d) h = inl (let same : d ≡ e = cc in ap Err same)
err_or_behind end e (Ok (f, [])) h = let wrong : ⊥ = cc in absurd wrong
err_or_behind end e (Ok (f, t ∷ rest)) h = inr (f, t, rest, refl, cc)

begun_behind : (end : ℕ) (ts : List Token) (o : ℕ) (f : Formed) (t : Token) (rest : List Token) → reading.formula_at 32 32 end ts ≡ Ok (f, t ∷ rest) →
    o ≡ t.start → Begun end ts o
unfolding reading.formula_at
begun_behind end ts o f t rest h here =
    let s = within_sound 32 end (omega arith) (length ts + 1) 32 ts (f, t ∷ rest) h in
    let P : List Token → Type 0 = λ l. Produces expression l (form f.tree f.depth s.nest) in
    record {
      front = s.front;
      rest = t ∷ rest;
      split = s.split;
      here = here;
      begins =
          record { behind = []; whole = form f.tree f.depth s.nest; produced = subst P (sym (append-nil s.front)) s.produced };
    }

pub first_at : (end : ℕ) (ts : List Token) (o : ℕ) → InOrder 0 end ts → reading.formula_at 32 32 end ts ≡ Err (Expected o) → IsFirst end ts o
first_at end ts o order h = first_by end ts o order (blocked_at end ts o h) (begun_by end ts o (formula_stops 32 32 end (omega arith) ts (Expected o) h))

pub first_behind : (end : ℕ) (ts : List Token) (f : Formed) (t : Token) (rest : List Token) → InOrder 0 end ts →
    reading.formula_at 32 32 end ts ≡ Ok (f, t ∷ rest) → IsFirst end ts t.start
first_behind end ts f t rest order h =
    first_by end ts t.start order (blocked_behind end ts t.start f t rest refl h) (begun_behind end ts t.start f t rest h refl)

pub first : (end : ℕ) (ts : List Token) (o : ℕ) → InOrder 0 end ts → reading.whole_formula end ts ≡ Err (Expected o) → IsFirst end ts o
first end ts o order h =
    elim (err_or_behind end (Expected o) (reading.formula_at 32 32 end ts) h) [
      | inl e ↦ first_at end ts o order e
      | inr (f, t, rest, is, here) ↦ first_by end ts o order (blocked end ts o h) (begun_behind end ts o f t rest is (same_offset o t.start here))
    ]

pub nested_at : (end : ℕ) (ts : List Token) (o : ℕ) → reading.formula_at 32 32 end ts ≡ Err (TooNested o) → IsTooNested end ts o
nested_at end ts o h = nested_by end ts o (formula_stops 32 32 end (omega arith) ts (TooNested o) h)

pub nested : (end : ℕ) (ts : List Token) (o : ℕ) → reading.whole_formula end ts ≡ Err (TooNested o) → IsTooNested end ts o
nested end ts o h =
    elim (err_or_behind end (TooNested o) (reading.formula_at 32 32 end ts) h) [
      | inl e ↦ nested_at end ts o e
      | inr (f, t, rest, is, here) ↦ (let wrong : ⊥ = cc in absurd wrong)
    ]
