-- Greater limits change nothing of what is read but a refusal for nesting.
use Rattle.std.proofs.Common.{◌≡◌, ℕ, zero, suc, ◌+◌, ◌-◌, ◌<◌, ◌≤◌, max, List, [], ◌∷◌, ◌++◌, length, true, false, Some, None, Ok, Err, refl, sym, ap, subst}
use Rattle.std.proofs.Common.{arith, inl, inr}
use Rattle.std.specs.Prelude.{Bool, Option, nat_lt, if◌then◌else◌, ◌==◌}
use Rattle.std.proofs.lemmas.Bool.{cases_Bool, ltb-true, lt-ltb}
use Rattle.sheet_syntax_trees.specs.declared.token.Token.{Token}
use Rattle.sheet_syntax_trees.specs.declared.token.SyntaxRefusal.TheVariants.{TooNested}
use Rattle.sheet_syntax_trees.specs.declared.sign.Sign.{Sign}
use Rattle.sheet_syntax_trees.specs.declared.sign.Sign.TheVariants as sign
use Rattle.sheet_syntax_trees.specs.declared.operators.Operator.{Operator}
use Rattle.sheet_syntax_trees.specs.declared.operators.Level.{Level}
use Rattle.sheet_syntax_trees.specs.declared.operators.Level.TheVariants as level
use Rattle.sheet_syntax_trees.specs.declared.operators.Prefix.{Prefix}
use Rattle.sheet_syntax_trees.specs.declared.operators.Prefix.TheVariants as prefix
use Rattle.sheet_syntax_trees.specs.declared.operators.Function.{Function}
use Rattle.sheet_syntax_trees.specs.declared.operators.Gathering.{Gathering}
use Rattle.sheet_syntax_trees.specs.declared.operators.Gathering.TheVariants as gathering
use Rattle.sheet_syntax_trees.specs.declared.operators.Quantifier.{Quantifier}
use Rattle.sheet_syntax_trees.specs.declared.tree.Tree.{Tree}
use Rattle.sheet_syntax_trees.specs.declared.tree.Formed.{Formed}
use Rattle.sheet_syntax_trees.specs.Signs.{sign_of, same_sign}
use Rattle.sheet_syntax_trees.specs.Operators.{operator_among, repeats}
use Rattle.sheet_syntax_trees.specs.Reading as reading
use Rattle.sheet_syntax_trees.specs.Reading.{Answer, Reader, ◌>>=◌, Setting, offset, line_of, after, with_rest, made, opened, leaf}

-- the same answer, or the first is a refusal for nesting
pub data Wider (A : Type 0) (r w : Answer A) : Type 0 where
  same : r ≡ w → Wider A r w
  nested : (o : ℕ) → ◌≡◌ {A = Answer A} r (Err (TooNested o)) → Wider A r w

alike : (A : Type 0) (r : Answer A) → Wider A r r
alike A r = same refl

pub wider_then : (A B : Type 0) (r w : Answer A) (f g : A → Answer B) → Wider A r w → ((x : A) → Wider B (f x) (g x)) → Wider B (r >>= f) (w >>= g)
wider_then A B r w f g (nested o e) h = nested o (ap (λ z. z >>= f) e)
wider_then A B r w f g (same e) h = subst (λ z. Wider B (r >>= f) (z >>= g)) e (by r) where
  by : (r : Answer A) → Wider B (r >>= f) (r >>= g)
  by (Ok x) = h x
  by (Err d) = same refl

wider_rest : (A : Type 0) (rest : List Token) (r w : Answer A) → Wider A r w → Wider (A × List Token) (with_rest rest r) (with_rest rest w)
wider_rest A rest r w (same e) = same (ap (with_rest rest) e)
wider_rest A rest r w (nested o e) = nested o (ap (with_rest rest) e)

pub wider_made : (l m at : ℕ) (e : Tree) (deepest : ℕ) → l ≤ m → Wider Formed (made l at e deepest) (made m at e deepest)
wider_made l m at e deepest h =
    elim (cases_Bool (nat_lt deepest l)) [
      | inl t ↦ (let below : deepest < l = ltb-true deepest l t in let u : nat_lt deepest m ≡ true = lt-ltb deepest m (omega (arith, below, h)) in
          same (rw t (rw u refl)))
      | inr f ↦ nested at (rw f refl)
    ]

-- the answer of a reader, and of one with greater limits
abbrev pub WiderReader : Reader → Reader → Type 0
WiderReader p q = (ts : List Token) → Wider (Formed × List Token) (p ts) (q ts)

module _ (end l m a b : ℕ) (deeper : l ≤ m) (roomier : a ≤ b) (p q i j : Reader) (inner : WiderReader p q) (nest : WiderReader i j) where
  abbrev S : Setting
  S = record { limit = l; end = end; room = a; inner = p; nested = i }

  abbrev T : Setting
  T = record { limit = m; end = end; room = b; inner = q; nested = j }

  abbrev F : Type 0
  F = Formed × List Token

  room_wider : (A : Type 0) (at : ℕ) (r w : Answer A) → Wider A r w →
      Wider A (if a == 0 then Err (TooNested at) else r) (if b == 0 then Err (TooNested at) else w)
  room_wider A at r w h =
      elim (cases_Bool (a == 0)) [
        | inl t ↦ nested at (rw t refl)
        | inr f ↦ (let g : (b == 0) ≡ false = grind (arith, f, roomier) in
            subst (λ c. Wider A (if c then Err (TooNested at) else r) (if b == 0 then Err (TooNested at) else w)) (sym f)
            (subst (λ c. Wider A r (if c then Err (TooNested at) else w)) (sym g) h))
      ]

  opened_wider : (s : Sign) (ts : List Token) → Wider (List Token) (opened S s ts) (opened T s ts)
  opened_wider s ts =
      wider_then _ _ _ _ _ _ (alike _ (reading.expect end s ts)) (λ rest. room_wider (List Token) (offset end ts) (Ok rest) (Ok rest) (alike _ (Ok rest)))

  closed_wider : (g : Gathering) (close : Sign) (t : Token) (f : Formed) (name : List ℕ) (source : Formed) (ts : List Token) →
      Wider F (reading.closed S g close t f name source ts) (reading.closed T g close t f name source ts)
  unfolding reading.closed
  closed_wider g close t f name source ts =
      wider_then _ _ _ _ _ _ (alike _ (reading.expect end close ts)) (λ rest. wider_rest _ rest _ _ (wider_made l m t.start _ _ deeper))

  closed_where_wider : (g : Gathering) (close : Sign) (t : Token) (f : Formed) (name : List ℕ) (source : Formed) (ts : List Token) →
      Wider F (reading.closed_where S g close t f name source ts) (reading.closed_where T g close t f name source ts)
  unfolding reading.closed_where
  closed_where_wider g close t f name source ts =
      wider_then _ _ _ _ _ _ (inner ts)
      (λ x. wider_then _ _ _ _ _ _ (alike _ (reading.expect end close x.1)) (λ rest. wider_rest _ rest _ _ (wider_made l m t.start _ _ deeper)))

  conditioned_wider : (g : Gathering) (close : Sign) (t : Token) (f : Formed) (name : List ℕ) (source : Formed) (ts : List Token) (o : Option (List Token))
      → Wider F (reading.conditioned S g close t f name source ts o) (reading.conditioned T g close t f name source ts o)
  conditioned_wider g close t f name source ts None = closed_wider g close t f name source ts
  conditioned_wider g close t f name source ts (Some rest) = closed_where_wider g close t f name source rest

  gathered_wider : (g : Gathering) (close : Sign) (t : Token) (f : Formed) (ts : List Token) →
      Wider F (reading.gathered S g close t f ts) (reading.gathered T g close t f ts)
  unfolding reading.gathered
  gathered_wider g close t f ts =
      wider_then _ _ _ _ _ _ (alike _ (reading.expect end sign.Colon ts))
      (λ c. wider_then _ _ _ _ _ _ (alike _ (reading.name_at end c)) (λ name. wider_then _ _ _ _ _ _ (alike _ (reading.expect end sign.In name.1)) (λ d.
      wider_then _ _ _ _ _ _ (inner d) (λ source. conditioned_wider g close t f name.0 source.0 source.1 (after sign.Bar source.1)))))

  summed_wider : (t : Token) (ts : List Token) → Wider F (reading.summed S t ts) (reading.summed T t ts)
  unfolding reading.summed
  summed_wider t ts =
      wider_then _ _ _ _ _ _ (opened_wider sign.Open ts) (λ c. wider_then _ _ _ _ _ _ (inner c) (λ f. gathered_wider gathering.Sum sign.Close t f.0 f.1))

  tested_wider : (u : Quantifier) (t : Token) (ts : List Token) → Wider F (reading.tested S u t ts) (reading.tested T u t ts)
  unfolding reading.tested
  tested_wider u t ts =
      wider_then _ _ _ _ _ _ (opened_wider sign.Open ts)
      (λ c. wider_then _ _ _ _ _ _ (alike _ (reading.name_at end c)) (λ name. wider_then _ _ _ _ _ _ (alike _ (reading.expect end sign.In name.1)) (λ d.
      wider_then _ _ _ _ _ _ (inner d)
      (λ source. wider_then _ _ _ _ _ _ (alike _ (reading.expect end sign.Bar source.1)) (λ k. wider_then _ _ _ _ _ _ (inner k) (λ x.
      wider_then _ _ _ _ _ _ (alike _ (reading.expect end sign.Close x.1)) (λ rest. wider_rest _ rest _ _ (wider_made l m t.start _ _ deeper))))))))

  called_wider : (f : Function) (t : Token) (ts : List Token) → Wider F (reading.called S f t ts) (reading.called T f t ts)
  unfolding reading.called
  called_wider f t ts =
      wider_then _ _ _ _ _ _ (opened_wider sign.Open ts)
      (λ c. wider_then _ _ _ _ _ _ (inner c)
      (λ x. wider_then _ _ _ _ _ _ (alike _ (reading.expect end sign.Close x.1)) (λ rest. wider_rest _ rest _ _ (wider_made l m t.start _ _ deeper))))

  parts_by_wider : (t : Token) (trees : List Tree) (deepest : ℕ) (u : Token) (ts : List Token) (s : Sign) (more wide : List Tree → ℕ → List Token → Answer F)
      → ((trees : List Tree) (deepest : ℕ) (ts : List Token) → Wider F (more trees deepest ts) (wide trees deepest ts)) →
      Wider F (reading.parts_by S t trees deepest u ts s more) (reading.parts_by T t trees deepest u ts s wide)
  parts_by_wider t trees deepest u ts sign.CloseBrace more wide h = wider_rest _ ts _ _ (wider_made l m t.start _ _ deeper)
  parts_by_wider t trees deepest u ts sign.Comma more wide h = wider_then _ _ _ _ _ _ (inner ts) (λ x. h (trees ++ x.0.tree ∷ []) (max deepest x.0.depth) x.1)
  parts_by_wider t trees deepest u ts _ more wide h = same refl

  parts_wider : (n : ℕ) (t : Token) (trees : List Tree) (deepest : ℕ) (ts : List Token) →
      Wider F (reading.parts S n t trees deepest ts) (reading.parts T n t trees deepest ts)
  unfolding reading.parts
  parts_wider zero t trees deepest ts = same refl
  parts_wider (suc n) t trees deepest [] = same refl
  parts_wider (suc n) t trees deepest (u ∷ ts) =
      parts_by_wider t trees deepest u ts (sign_of u.kind) (λ trees deepest rest. reading.parts S n t trees deepest rest)
      (λ trees deepest rest. reading.parts T n t trees deepest rest) (λ trees deepest rest. parts_wider n t trees deepest rest)

  behind_part_wider : (t : Token) (f : Formed) (ts : List Token) (s : Sign) → Wider F (reading.behind_part S t f ts s) (reading.behind_part T t f ts s)
  unfolding reading.behind_part
  behind_part_wider t f ts sign.Colon = gathered_wider gathering.Union sign.CloseBrace t f ts
  behind_part_wider t f ts _ = parts_wider (length ts) t (f.tree ∷ []) f.depth ts

  braced_wider : (t : Token) (ts : List Token) (o : Option (List Token)) → Wider F (reading.braced S t ts o) (reading.braced T t ts o)
  unfolding reading.braced
  braced_wider t ts (Some rest) = wider_rest _ rest _ _ (wider_made l m t.start _ _ deeper)
  braced_wider t ts None = wider_then _ _ _ _ _ _ (inner ts) (λ f. behind_part_wider t f.0 f.1 (reading.sign_at f.1))

  parenthesised_wider : (ts : List Token) → Wider F (reading.parenthesised S ts) (reading.parenthesised T ts)
  unfolding reading.parenthesised
  parenthesised_wider ts = wider_then _ _ _ _ _ _ (inner ts) (λ x. alike _ (reading.expect end sign.Close x.1 >>= (λ rest. Ok (x.0, rest))))

  bracketed_wider : (s : Sign) (t : Token) (ts : List Token) → Wider F (reading.bracketed S s t ts) (reading.bracketed T s t ts)
  unfolding reading.bracketed
  bracketed_wider sign.Open t ts = room_wider F t.start (reading.parenthesised S ts) (reading.parenthesised T ts) (parenthesised_wider ts)
  bracketed_wider sign.OpenBrace t ts =
      room_wider F t.start (reading.braced S t ts (after sign.CloseBrace ts)) (reading.braced T t ts (after sign.CloseBrace ts))
      (braced_wider t ts (after sign.CloseBrace ts))
  bracketed_wider sign.Count t ts = called_wider _ t ts
  bracketed_wider sign.Only t ts = called_wider _ t ts
  bracketed_wider sign.Min t ts = called_wider _ t ts
  bracketed_wider sign.Max t ts = called_wider _ t ts
  bracketed_wider sign.Sum t ts = summed_wider t ts
  bracketed_wider sign.Any t ts = tested_wider _ t ts
  bracketed_wider sign.All t ts = tested_wider _ t ts
  bracketed_wider _ t ts = same refl

  leaf_or_wider : (o : Option Tree) (t : Token) (ts : List Token) → Wider F (reading.leaf_or S o t ts) (reading.leaf_or T o t ts)
  leaf_or_wider (Some form) t ts = same refl
  leaf_or_wider None t ts = bracketed_wider (sign_of t.kind) t ts

  pub atom_wider : WiderReader (reading.atom S) (reading.atom T)
  unfolding reading.atom
  atom_wider [] = same refl
  atom_wider (t ∷ ts) = leaf_or_wider (leaf t.line t.kind) t ts

  choice_wider : (A : Type 0) (c : Bool) (r w x : Answer A) → Wider A r w → Wider A (if c then r else x) (if c then w else x)
  choice_wider A true r w x h = h
  choice_wider A false r w x h = same refl

  steps_wider : (at line : ℕ) (f : Formed) (ts : List Token) → Wider F (reading.steps l end at line f ts) (reading.steps m end at line f ts)
  unfolding reading.steps
  steps_wider at line f [] = same refl
  steps_wider at line f (d ∷ []) = same refl
  steps_wider at line f (d ∷ t ∷ ts) =
      choice_wider _ (same_sign (sign_of d.kind) sign.Dot) _ _ _
      (wider_then _ _ _ _ _ _ (alike _ (reading.or_expected t.start (reading.step_of line f.tree t.kind)))
      (λ form. wider_then _ _ _ _ _ _ (wider_made l m at form f.depth deeper) (λ g. steps_wider at line g ts)))

  postfix_wider : WiderReader (reading.postfix S) (reading.postfix T)
  unfolding reading.postfix
  postfix_wider ts = wider_then _ _ _ _ _ _ (atom_wider ts) (λ x. steps_wider (offset end ts) (line_of ts) x.0 x.1)

  under_wider : (u : Prefix) (ts : List Token) (r w : Answer Formed) → Wider Formed r w →
      Wider Formed (reading.under_prefixes l u ts r) (reading.under_prefixes m u ts w)
  unfolding reading.under_prefixes
  under_wider u [] r w h = h
  under_wider u (t ∷ ts) r w h = wider_then _ _ _ _ _ _ (under_wider u ts r w h) (λ f. wider_made l m t.start _ _ deeper)

  prefixes_wider : (u : Prefix) (o v : Reader) → WiderReader o v → WiderReader (reading.with_prefixes S u o) (reading.with_prefixes T u v)
  unfolding reading.with_prefixes
  prefixes_wider u o v h ts =
      wider_then _ _ _ _ _ _ (h (reading.behind_prefixes u ts))
      (λ x. wider_rest _ x.1 _ _ (under_wider u (reading.prefixes u ts) (Ok x.0) (Ok x.0) (same refl)))

  operand_wider : (o v : Reader) → WiderReader o v → (at line : ℕ) (op : Operator) (f : Formed) (ts : List Token) →
      Wider F (reading.operand_behind S o at line op f ts) (reading.operand_behind T v at line op f ts)
  operand_wider o v h at line op f ts = wider_then _ _ _ _ _ _ (h ts) (λ x. wider_rest _ x.1 _ _ (wider_made l m at _ _ deeper))

  go_on_wider : (c : Bool) (r w : Answer F) → Wider F r w → (f g : Formed → List Token → Answer F) →
      ((x : Formed) (ts : List Token) → Wider F (f x ts) (g x ts)) → Wider F (reading.go_on c r f) (reading.go_on c w g)
  go_on_wider true r w h f g k = wider_then _ _ r w (λ x. f x.0 x.1) (λ x. g x.0 x.1) h (λ x. k x.0 x.1)
  go_on_wider false r w h f g k = h

  more_by_wider : (v : Level) (o w : Reader) → WiderReader o w →
      (at line : ℕ) (f : Formed) (t : Token) (ts : List Token) (op : Option Operator) (x y : Formed → List Token → Answer F)
      → ((g : Formed) (ts : List Token) → Wider F (x g ts) (y g ts)) →
      Wider F (reading.more_by S v o at line f t ts op x) (reading.more_by T v w at line f t ts op y)
  more_by_wider v o w h at line f t ts None x y k = same refl
  more_by_wider v o w h at line f t ts (Some op) x y k = go_on_wider (repeats v) _ _ (operand_wider o w h at line op f ts) x y k

  more_wider : (v : Level) (o w : Reader) → WiderReader o w → (n at line : ℕ) (f : Formed) (ts : List Token) →
      Wider F (reading.more S v o n at line f ts) (reading.more T v w n at line f ts)
  unfolding reading.more
  more_wider v o w h zero at line f ts = same refl
  more_wider v o w h (suc n) at line f [] = same refl
  more_wider v o w h (suc n) at line f (t ∷ ts) =
      more_by_wider v o w h at line f t ts (operator_among v (sign_of t.kind)) (λ g rest. reading.more S v o n at line g rest)
      (λ g rest. reading.more T v w n at line g rest) (λ g rest. more_wider v o w h n at line g rest)

  chain_wider : (v : Level) (o w : Reader) → WiderReader o w → WiderReader (reading.chain S v o) (reading.chain T v w)
  unfolding reading.chain
  chain_wider v o w h ts = wider_then _ _ _ _ _ _ (h ts) (λ x. more_wider v o w h (length x.1) (offset end ts) (line_of ts) x.0 x.1)

  disjunction_wider : WiderReader (reading.disjunction S) (reading.disjunction T)
  unfolding reading.disjunction reading.conjunction reading.negation reading.comparison reading.sets reading.sums reading.products reading.unary
  disjunction_wider =
      chain_wider level.Or _ _
      (chain_wider level.And _ _ (prefixes_wider prefix.Not _ _ (chain_wider level.Comparison _ _ (chain_wider level.Sets _ _ (chain_wider level.Sums _ _
      (chain_wider level.Products _ _ (prefixes_wider prefix.Minus _ _ postfix_wider)))))))

  chosen_wider : (t : Token) (ts : List Token) → Wider F (reading.chosen S t ts) (reading.chosen T t ts)
  unfolding reading.chosen
  chosen_wider t ts =
      wider_then _ _ _ _ _ _ (nest ts)
      (λ c. wider_then _ _ _ _ _ _ (alike _ (reading.expect end sign.Then c.1))
      (λ d. wider_then _ _ _ _ _ _ (nest d) (λ x. wider_then _ _ _ _ _ _ (alike _ (reading.expect end sign.Else x.1)) (λ e.
      wider_then _ _ _ _ _ _ (nest e) (λ y. wider_rest _ y.1 _ _ (wider_made l m t.start _ _ deeper))))))

  either_wider : (c : Bool) (r w x y : Answer F) → Wider F r w → Wider F x y → Wider F (if c then r else x) (if c then w else y)
  either_wider true r w x y h k = h
  either_wider false r w x y h k = k

  expression_wider : WiderReader (reading.expression S) (reading.expression T)
  unfolding reading.expression
  expression_wider [] = disjunction_wider []
  expression_wider (t ∷ ts) = either_wider (same_sign (sign_of t.kind) sign.If) _ _ _ _ (chosen_wider t ts) (disjunction_wider (t ∷ ts))

pub within_wider : (end l m : ℕ) → l ≤ m → (turns a b : ℕ) → a ≤ b → WiderReader (reading.within l end turns a) (reading.within m end turns b)
unfolding reading.within
within_wider end l m deeper zero a b roomier ts = same refl
within_wider end l m deeper (suc n) a b roomier ts =
    expression_wider end l m a b deeper roomier _ _ _ _ (within_wider end l m deeper n (a - 1) (b - 1) (omega arith))
    (within_wider end l m deeper n a b roomier) ts

pub formula_wider : (end l m a b : ℕ) → l ≤ m → a ≤ b → WiderReader (reading.formula_at l a end) (reading.formula_at m b end)
unfolding reading.formula_at
formula_wider end l m a b deeper roomier ts = within_wider end l m deeper (length ts + 1) a b roomier ts
