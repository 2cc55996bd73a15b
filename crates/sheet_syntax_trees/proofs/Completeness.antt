-- Formulas that stand there by the productions, within the limits, are read.
use Rattle.std.proofs.Common.{append-nil, ◌≡◌, ℕ, zero, suc, ◌+◌, ◌-◌, ◌<◌, ◌≤◌, max, List, [], ◌∷◌, ◌++◌, length, true, false, Some, None, Ok, Err, refl, sym}
use Rattle.std.proofs.Common.{ap, ◌∙◌, subst, arith, append_assoc, length-append, inl, inr}
use Rattle.std.specs.Prelude.{Bool, Option, ◌==◌, ◌⊎◌}
use Rattle.std.proofs.lemmas.Bool.{lt-ltb}
use Rattle.sheet_syntax_trees.specs.declared.token.Token.{Token}
use Rattle.sheet_syntax_trees.specs.declared.token.TokenKind.{TokenKind}
use Rattle.sheet_syntax_trees.specs.declared.token.TokenKind.TheVariants as kind
use Rattle.sheet_syntax_trees.specs.declared.sign.Sign.{Sign}
use Rattle.sheet_syntax_trees.specs.declared.sign.Sign.TheVariants as sign
use Rattle.sheet_syntax_trees.specs.declared.operators.Operator.{Operator}
use Rattle.sheet_syntax_trees.specs.declared.operators.Level.{Level}
use Rattle.sheet_syntax_trees.specs.declared.operators.Level.TheVariants as level
use Rattle.sheet_syntax_trees.specs.declared.operators.Prefix.{Prefix}
use Rattle.sheet_syntax_trees.specs.declared.operators.Prefix.TheVariants as prefix
use Rattle.sheet_syntax_trees.specs.declared.operators.Function.{Function}
use Rattle.sheet_syntax_trees.specs.declared.operators.Gathering.{Gathering}
use Rattle.sheet_syntax_trees.specs.declared.operators.Gathering.TheVariants as gathering
use Rattle.sheet_syntax_trees.specs.declared.operators.Quantifier.{Quantifier}
use Rattle.sheet_syntax_trees.specs.declared.tree.Tree.{Tree}
use Rattle.sheet_syntax_trees.specs.declared.tree.Tree.TheVariants as tree
use Rattle.sheet_syntax_trees.specs.declared.tree.Formed.{Formed}
use Rattle.sheet_syntax_trees.specs.Signs.{sign_of, same_sign}
use Rattle.sheet_syntax_trees.specs.Operators.{operator_among, repeats, prefix_sign, prefixed}
use Rattle.sheet_syntax_trees.specs.Grammar.{Nonterminal, expression, chain, negation, unary, postfix, atom, operand, before, prefixing, unprefixed, Form, form}
use Rattle.sheet_syntax_trees.specs.Grammar.{Parts, function_of, quantifier_of, IsFormula, Produces, AreParts, Gathers, a_choice, no_choice, an_operand}
use Rattle.sheet_syntax_trees.specs.Grammar.{an_operation, a_prefix, no_prefix, no_step, a_child, an_up, a_leaf, in_parentheses, no_set, a_set, a_comprehension}
use Rattle.sheet_syntax_trees.specs.Grammar.{a_sum, a_call, a_test, one_part, more_parts, all_values, chosen_values}
use Rattle.sheet_syntax_trees.specs.Reading as reading
use Rattle.sheet_syntax_trees.specs.Reading.{Answer, Reader, ◌>>=◌, Setting, setting, offset, line_of, sign_at, after, expect, name_at, with_rest, made, opened}
use Rattle.sheet_syntax_trees.specs.Reading.{leaf}
use Rattle.sheet_syntax_trees.proofs.Answering.{ok_then, rest_ok}
use Rattle.sheet_syntax_trees.proofs.Binding.{binding, level_height, height, operator_binding, no_operator, other_sign, same_self, no_dot, firstly, start}
use Rattle.sheet_syntax_trees.proofs.Binding.{First, first_sign, unprefixed_below, leafless, no_leaf, function_leafless, quantifier_leafless}
use Rattle.sheet_syntax_trees.proofs.Soundness.{Begins, nonempty}

abbrev pub formed : Form → Formed
formed f = record { tree = f.tree; depth = f.depth }

pub bind : {A B : Type 0} (r : Answer A) (x : A) (k : A → Answer B) → ◌≡◌ {A = Answer A} r (Ok x) → ◌≡◌ {A = Answer B} (r >>= k) (k x)
bind r x k e = ap (λ r. r >>= k) e

pub made_given : (limit at : ℕ) (e : Tree) (deepest : ℕ) → deepest < limit →
    ◌≡◌ {A = Answer Formed} (made limit at e deepest) (Ok (record { tree = e; depth = deepest + 1 }))
made_given limit at e deepest h = let test = lt-ltb deepest limit h in rw test refl

expect_given : (end : ℕ) (s : Sign) (t : Token) (rest : List Token) → sign_of t.kind ≡ s → ◌≡◌ {A = Answer (List Token)} (expect end s (t ∷ rest)) (Ok rest)
expect_given end s t rest is = let test = same_self (sign_of t.kind) s is in rw test refl

name_given : (end : ℕ) (t : Token) (name : List ℕ) (rest : List Token) → t.kind ≡ kind.Name name → name_at end (t ∷ rest) ≡ Ok (name, rest)
name_given end t name rest is = rw is refl

has_room : (room : ℕ) → 0 < room → (room == 0) ≡ false
has_room room h = grind arith

opened_given : (s : Setting) (b : Sign) (t : Token) (rest : List Token) → sign_of t.kind ≡ b → 0 < s.room →
    ◌≡◌ {A = Answer (List Token)} (opened s b (t ∷ rest)) (Ok rest)
opened_given s b t rest is some =
    let test = same_self (sign_of t.kind) b is in
    let room = has_room s.room some in
    rw (test, room) refl

line_front : (xs zs : List Token) → Begins xs → line_of (xs ++ zs) ≡ line_of xs
line_front xs zs b = ap (λ l. line_of (l ++ zs)) b.is ∙ sym (ap line_of b.is)

-- ---- what holds of each nonterminal

abbrev Direct : Nonterminal → List Token → Form → (Setting → Reader) → Type 0
Direct n ts f reader = (limit end turns room : ℕ) → f.depth ≤ limit → f.nest ≤ room → length ts ≤ turns → (rest : List Token) →
    height n < binding (sign_at rest) → reader (setting limit end turns room) (ts ++ rest) ≡ Ok (formed f, rest)

abbrev AtomClaim : List Token → Form → Type 0
AtomClaim ts f = (limit end turns room : ℕ) → f.depth ≤ limit → f.nest ≤ room → length ts ≤ turns → (rest : List Token) →
    reading.atom (setting limit end turns room) (ts ++ rest) ≡ Ok (formed f, rest)

abbrev StepsClaim : List Token → Form → Type 0
StepsClaim ts f = (limit end turns room : ℕ) → f.depth ≤ limit → f.nest ≤ room → length ts ≤ turns → (rest : List Token)
    → reading.postfix (setting limit end turns room) (ts ++ rest) ≡ reading.steps limit end (offset end (ts ++ rest)) (line_of (ts ++ rest)) (formed f) rest

-- the loosest sign that goes on with an operand of a level, or with a comparison
abbrev ends : Level → ℕ
ends level.Or = 5
ends level.And = 4
ends level.Comparison = 4
ends level.Sets = 2
ends level.Sums = 1
ends level.Products = 0

record MoreAt (s : Setting) (l : Level) (ts : List Token) (f : Formed) (rest : List Token) : Type 0 where
  turns : ℕ
  enough : length rest ≤ turns
  is : reading.chain_at s l (ts ++ rest) ≡ reading.more s l (reading.operand_at s l) turns (offset s.end (ts ++ rest)) (line_of (ts ++ rest)) f rest

abbrev MoreClaim : Level → List Token → Form → Type 0
MoreClaim l ts f = (limit end turns room : ℕ) → f.depth ≤ limit → f.nest ≤ room → length ts ≤ turns → (rest : List Token) → ends l < binding (sign_at rest) →
    MoreAt (setting limit end turns room) l ts (formed f) rest

abbrev Claim : Nonterminal → List Token → Form → Type 0
Claim expression ts f = Direct expression ts f reading.expression
Claim (chain l) ts f = MoreClaim l ts f
Claim negation ts f = Direct negation ts f reading.negation
Claim unary ts f = Direct unary ts f reading.unary
Claim postfix ts f = StepsClaim ts f
Claim atom ts f = AtomClaim ts f

-- ---- levels

chain_at_is : (s : Setting) (l : Level) (ts : List Token) → reading.chain_at s l ts ≡ reading.chain s l (reading.operand_at s l) ts
unfolding reading.products reading.sums reading.sets reading.comparison reading.conjunction reading.disjunction
chain_at_is s level.Or ts = refl
chain_at_is s level.And ts = refl
chain_at_is s level.Comparison ts = refl
chain_at_is s level.Sets ts = refl
chain_at_is s level.Sums ts = refl
chain_at_is s level.Products ts = refl

begun : (s : Setting) (l : Level) (ts : List Token) (x : Formed × List Token) → reading.operand_at s l ts ≡ Ok x
    → reading.chain_at s l ts ≡ reading.more s l (reading.operand_at s l) (length x.1) (offset s.end ts) (line_of ts) x.0 x.1
unfolding reading.chain
begun s l ts x e = chain_at_is s l ts ∙ ap (λ r. r >>= (λ x. reading.more s l (reading.operand_at s l) (length x.1) (offset s.end ts) (line_of ts) x.0 x.1)) e

more_stops : (s : Setting) (l : Level) (p : Reader) (n at line : ℕ) (f : Formed) (rest : List Token) → level_height l < binding (sign_at rest) →
    reading.more s l p n at line f rest ≡ Ok (f, rest)
unfolding reading.more
more_stops s l p zero at line f rest h = refl
more_stops s l p (suc n) at line f [] h = refl
more_stops s l p (suc n) at line f (t ∷ ts) h = let none = no_operator l (sign_of t.kind) h in rw none refl

direct_of_more : (l : Level) (ts : List Token) (f : Form) → MoreClaim l ts f → (limit end turns room : ℕ) → f.depth ≤ limit → f.nest ≤ room →
    length ts ≤ turns → (rest : List Token)
    → level_height l < binding (sign_at rest) → ends l < binding (sign_at rest) →
    reading.chain_at (setting limit end turns room) l (ts ++ rest) ≡ Ok (formed f, rest)
direct_of_more l ts f claim limit end turns room deep narrow short rest h k =
    let s = setting limit end turns room in
    let m = claim limit end turns room deep narrow short rest k in
    m.is ∙ more_stops s l (reading.operand_at s l) m.turns (offset end (ts ++ rest)) (line_of (ts ++ rest)) (formed f) rest h

operand_direct : (l : Level) (ts : List Token) (f : Form) → Claim (operand l) ts f → (limit end turns room : ℕ) → f.depth ≤ limit → f.nest ≤ room →
    length ts ≤ turns → (rest : List Token)
    → height (operand l) < binding (sign_at rest) → reading.operand_at (setting limit end turns room) l (ts ++ rest) ≡ Ok (formed f, rest)
operand_direct level.Or ts f claim limit end turns room deep narrow short rest h =
    direct_of_more level.And ts f claim limit end turns room deep narrow short rest h (omega arith)
operand_direct level.And ts f claim limit end turns room deep narrow short rest h = claim limit end turns room deep narrow short rest h
operand_direct level.Comparison ts f claim limit end turns room deep narrow short rest h =
    direct_of_more level.Sets ts f claim limit end turns room deep narrow short rest h (omega arith)
operand_direct level.Sets ts f claim limit end turns room deep narrow short rest h =
    direct_of_more level.Sums ts f claim limit end turns room deep narrow short rest h (omega arith)
operand_direct level.Sums ts f claim limit end turns room deep narrow short rest h =
    direct_of_more level.Products ts f claim limit end turns room deep narrow short rest h (omega arith)
operand_direct level.Products ts f claim limit end turns room deep narrow short rest h = claim limit end turns room deep narrow short rest h

ends_operand : (l : Level) → height (operand l) ≤ ends l
ends_operand level.Or = omega arith
ends_operand level.And = omega arith
ends_operand level.Comparison = omega arith
ends_operand level.Sets = omega arith
ends_operand level.Sums = omega arith
ends_operand level.Products = omega arith

operand_claim : (l : Level) (ts : List Token) (f : Form) → Claim (operand l) ts f → MoreClaim l ts f
operand_claim l ts f claim limit end turns room deep narrow short rest h =
    let s = setting limit end turns room in
    let e = ends_operand l in
    record {
      turns = length rest;
      enough = omega arith;
      is =
          begun s l (ts ++ rest) (formed f, rest) (operand_direct l ts f claim limit end turns room deep narrow short rest (omega arith));
    }

-- what is read behind the left operand, at an operator of the level
left_more : (l : Level) (ts : List Token) (f : Form) → Claim (before l) ts f → (limit end turns room : ℕ) → f.depth ≤ limit → f.nest ≤ room →
    length ts ≤ turns → (rest : List Token)
    → binding (sign_at rest) ≡ level_height l → MoreAt (setting limit end turns room) l ts (formed f) rest
left_more level.Or ts f claim limit end turns room deep narrow short rest h = claim limit end turns room deep narrow short rest (omega arith)
left_more level.And ts f claim limit end turns room deep narrow short rest h = claim limit end turns room deep narrow short rest (omega arith)
left_more level.Comparison ts f claim limit end turns room deep narrow short rest h =
    let s = setting limit end turns room in
    record {
      turns = length rest;
      enough = omega arith;
      is =
          begun s level.Comparison (ts ++ rest) (formed f, rest)
          (direct_of_more level.Sets ts f claim limit end turns room deep narrow short rest (omega arith) (omega arith));
    }
left_more level.Sets ts f claim limit end turns room deep narrow short rest h = claim limit end turns room deep narrow short rest (omega arith)
left_more level.Sums ts f claim limit end turns room deep narrow short rest h = claim limit end turns room deep narrow short rest (omega arith)
left_more level.Products ts f claim limit end turns room deep narrow short rest h = claim limit end turns room deep narrow short rest (omega arith)

more_op : (s : Setting) (l : Level) (p : Reader) (n at line : ℕ) (f : Formed) (o : Token) (ts : List Token) (op : Operator) →
    operator_among l (sign_of o.kind) ≡ Some op
    → reading.more s l p (suc n) at line f (o ∷ ts) ≡ reading.go_on (repeats l) (reading.operand_behind s p at line op f ts)
    (λ g rest. reading.more s l p n at line g rest)
unfolding reading.more
more_op s l p n at line f o ts op some = rw some refl

behind_given : (s : Setting) (p : Reader) (at line : ℕ) (op : Operator) (f y : Formed) (ts rest : List Token) → p ts ≡ Ok (y, rest) →
    max f.depth y.depth < s.limit
    → reading.operand_behind s p at line op f ts ≡ Ok (record { tree = tree.Binary line op f.tree y.tree; depth = max f.depth y.depth + 1 }, rest)
behind_given s p at line op f y ts rest e fits =
    ap (λ r. r >>= (λ x. with_rest x.1 (reading.operation s.limit at line op f x.0))) e
    ∙ ap (with_rest rest) (made_given s.limit at (tree.Binary line op f.tree y.tree) (max f.depth y.depth) fits)

went_on : (s : Setting) (l : Level) (p : Reader) (at line : ℕ) (g : Formed) (rest : List Token) (n : ℕ) (b : Bool) → repeats l ≡ b →
    ends l < binding (sign_at rest) → (r : Answer (Formed × List Token)) → r ≡ Ok (g, rest) → length rest ≤ n
    → reading.go_on b r (λ g rest. reading.more s l p n at line g rest) ≡ reading.more s l p n at line g rest
went_on s l p at line g rest n true again h r e enough = ap (λ r. r >>= (λ x. reading.more s l p n at line x.0 x.1)) e
went_on s l p at line g rest n false again h r e enough = e ∙ sym (more_stops s l p n at line g rest (once l again h)) where
  once : (l : Level) → repeats l ≡ false → ends l < binding (sign_at rest) → level_height l < binding (sign_at rest)
  once level.Or again h = let wrong : ⊥ = cc in absurd wrong
  once level.And again h = let wrong : ⊥ = cc in absurd wrong
  once level.Comparison again h = h
  once level.Sets again h = let wrong : ⊥ = cc in absurd wrong
  once level.Sums again h = let wrong : ⊥ = cc in absurd wrong
  once level.Products again h = let wrong : ⊥ = cc in absurd wrong

turn_more : (s : Setting) (l : Level) (p : Reader) (n at line : ℕ) (f y : Formed) (o : Token) (ts rest : List Token) (op : Operator) →
    operator_among l (sign_of o.kind) ≡ Some op → p ts ≡ Ok (y, rest) → max f.depth y.depth < s.limit
    → ends l < binding (sign_at rest) → length rest ≤ n
    → reading.more s l p (suc n) at line f (o ∷ ts) ≡ reading.more s l p n at line
    (record { tree = tree.Binary line op f.tree y.tree; depth = max f.depth y.depth + 1 }) rest
turn_more s l p n at line f y o ts rest op some e fits h enough =
    more_op s l p n at line f o ts op some ∙ went_on s l p at line _ rest n (repeats l) refl h (reading.operand_behind s p at line op f ts)
    (behind_given s p at line op f y ts rest e fits) enough

operation_more : (s : Setting) (l : Level) (p : Reader) (n at line : ℕ) (f y : Formed) (o : Token) (ts rest : List Token) (op : Operator) →
    operator_among l (sign_of o.kind) ≡ Some op → p ts ≡ Ok (y, rest) → max f.depth y.depth < s.limit
    → ends l < binding (sign_at rest) → length (o ∷ ts) ≤ n → length rest ≤ length ts
    → (m : ℕ) × (length rest ≤ m) × (reading.more s l p n at line f (o ∷ ts) ≡ reading.more s l p m at line
    (record { tree = tree.Binary line op f.tree y.tree; depth = max f.depth y.depth + 1 }) rest)
operation_more s l p zero at line f y o ts rest op some e fits h enough less = absurd (omega arith)
operation_more s l p (suc n) at line f y o ts rest op some e fits h enough less =
    (n, omega arith, turn_more s l p n at line f y o ts rest op some e fits h (omega arith))

operation_claim : (l : Level) (op : Operator) (o : Token) (xs ys : List Token) (x y : Form) → Begins xs → Claim (before l) xs x →
    operator_among l (sign_of o.kind) ≡ Some op → Claim (operand l) ys y
    → MoreClaim l (xs ++ o ∷ ys) (form (tree.Binary (line_of xs) op x.tree y.tree) (max x.depth y.depth + 1) (max x.nest y.nest))
operation_claim l op o xs ys x y b cx some cy limit end turns room deep narrow short rest h =
    let s = setting limit end turns room in
    let long : length (xs ++ o ∷ ys) ≡ length xs + length (o ∷ ys) = length-append xs (o ∷ ys) in
    let left = left_more l xs x cx limit end turns room (omega arith) (omega arith) (omega arith) (o ∷ (ys ++ rest))
    (operator_binding l (sign_of o.kind) op some) in
    let e = ends_operand l in
    let right = operand_direct l ys y cy limit end turns room (omega arith) (omega arith) (omega arith) rest (omega arith) in
    let longer : length (ys ++ rest) ≡ length ys + length rest = length-append ys rest in
    let whole : (xs ++ o ∷ ys) ++ rest ≡ xs ++ o ∷ (ys ++ rest) = append_assoc xs (o ∷ ys) rest in
    let line : line_of (xs ++ o ∷ (ys ++ rest)) ≡ line_of xs = line_front xs (o ∷ (ys ++ rest)) b in
    let (m, enough, is) = operation_more s l (reading.operand_at s l) left.turns (offset end (xs ++ o ∷ (ys ++ rest))) (line_of (xs ++ o ∷ (ys ++ rest)))
    (formed x) (formed y) o (ys ++ rest) rest op some right (omega arith) h left.enough (omega arith) in
    record {
      turns = m;
      enough = enough;
      is =
          ap (reading.chain_at s l) whole ∙ left.is ∙ is
          ∙ ap (λ k. reading.more s l (reading.operand_at s l) m (offset end (xs ++ o ∷ (ys ++ rest))) (line_of (xs ++ o ∷ (ys ++ rest)))
          (record { tree = tree.Binary k op x.tree y.tree; depth = max x.depth y.depth + 1 }) rest) line
          ∙ ap (λ k. reading.more s l (reading.operand_at s l) m (offset end k) (line_of k)
          (record { tree = tree.Binary (line_of xs) op x.tree y.tree; depth = max x.depth y.depth + 1 }) rest) (sym whole);
    }

-- ---- prefixes

steps_stop : (limit end at line : ℕ) (f : Formed) (rest : List Token) → 0 < binding (sign_at rest) → reading.steps limit end at line f rest ≡ Ok (f, rest)
unfolding reading.steps
steps_stop limit end at line f [] h = refl
steps_stop limit end at line f (d ∷ []) h = let other = no_dot (sign_of d.kind) h in rw other refl
steps_stop limit end at line f (d ∷ t ∷ ts) h = let other = no_dot (sign_of d.kind) h in rw other refl

abbrev unprefixed_at : Setting → Prefix → Reader
unprefixed_at s prefix.Minus = reading.postfix s
unprefixed_at s prefix.Not = reading.comparison s

unprefixed_direct : (p : Prefix) (ts : List Token) (f : Form) → Claim (unprefixed p) ts f → (limit end turns room : ℕ) → f.depth ≤ limit → f.nest ≤ room →
    length ts ≤ turns → (rest : List Token)
    → height (prefixing p) < binding (sign_at rest) → unprefixed_at (setting limit end turns room) p (ts ++ rest) ≡ Ok (formed f, rest)
unprefixed_direct prefix.Minus ts f claim limit end turns room deep narrow short rest h =
    claim limit end turns room deep narrow short rest ∙ steps_stop limit end (offset end (ts ++ rest)) (line_of (ts ++ rest)) (formed f) rest h
unprefixed_direct prefix.Not ts f claim limit end turns room deep narrow short rest h =
    direct_of_more level.Comparison ts f claim limit end turns room deep narrow short rest h h

prefix_reader : (p : Prefix) (ts : List Token) (f : Form) →
    ((limit end turns room : ℕ) → f.depth ≤ limit → f.nest ≤ room → length ts ≤ turns → (rest : List Token) → height (prefixing p) < binding (sign_at rest)
    → reading.with_prefixes (setting limit end turns room) p (unprefixed_at (setting limit end turns room) p) (ts ++ rest) ≡ Ok (formed f, rest)) →
    Claim (prefixing p) ts f
unfolding reading.unary reading.negation
prefix_reader prefix.Minus ts f h = h
prefix_reader prefix.Not ts f h = h

prefix_claimed : (p : Prefix) (ts : List Token) (f : Form) → Claim (prefixing p) ts f → (limit end turns room : ℕ) → f.depth ≤ limit → f.nest ≤ room →
    length ts ≤ turns → (rest : List Token) → height (prefixing p) < binding (sign_at rest)
    → reading.with_prefixes (setting limit end turns room) p (unprefixed_at (setting limit end turns room) p) (ts ++ rest) ≡ Ok (formed f, rest)
unfolding reading.unary reading.negation
prefix_claimed prefix.Minus ts f h = h
prefix_claimed prefix.Not ts f h = h

one_more_prefix : (s : Setting) (p : Prefix) (operand : Reader) (t : Token) (ts rest : List Token) (f : Formed) → sign_of t.kind ≡ prefix_sign p →
    reading.with_prefixes s p operand ts ≡ Ok (f, rest) → f.depth < s.limit
    → reading.with_prefixes s p operand (t ∷ ts) ≡ Ok (record { tree = prefixed p t.line f.tree; depth = f.depth + 1 }, rest)
unfolding reading.with_prefixes reading.under_prefixes reading.prefixes reading.behind_prefixes
one_more_prefix s p operand t ts rest f is e fits =
    let test = same_self (sign_of t.kind) (prefix_sign p) is in
    let (x, ex, e1) = ok_then (operand (reading.behind_prefixes p ts)) (λ x. with_rest x.1 (reading.under_prefixes s.limit p (reading.prefixes p ts) (Ok x.0)))
    (f, rest) e in
    let (g, eg, same) = rest_ok x.1 (reading.under_prefixes s.limit p (reading.prefixes p ts) (Ok x.0)) (f, rest) e1 in
    let first : g ≡ f = ap (λ (z : Formed × List Token). z.0) (sym same) in
    let second : x.1 ≡ rest = ap (λ (z : Formed × List Token). z.1) (sym same) in
    let under : (reading.under_prefixes s.limit p (reading.prefixes p ts) (Ok x.0) >>= (λ g. made s.limit t.start (prefixed p t.line g.tree) g.depth)) ≡ Ok
    (record { tree = prefixed p t.line f.tree; depth = f.depth + 1 }) =
    bind _ f (λ g. made s.limit t.start (prefixed p t.line g.tree) g.depth) (eg ∙ ap Ok first)
    ∙ made_given s.limit t.start (prefixed p t.line f.tree) f.depth fits in
    rw test (bind (operand (reading.behind_prefixes p ts)) x
    (λ x. with_rest x.1
    (reading.under_prefixes s.limit p (reading.prefixes p ts) (Ok x.0) >>= (λ g. made s.limit t.start (prefixed p t.line g.tree) g.depth))) ex
    ∙ ap (with_rest x.1) under ∙ ap (λ l. Ok (record { tree = prefixed p t.line f.tree; depth = f.depth + 1 }, l)) second)

no_prefix_here : (s : Setting) (p : Prefix) (operand : Reader) (ts : List Token) (rest : List Token) (f : Formed) (n : ℕ) → First n ts →
    n < firstly (prefix_sign p) → (us : List Token) → operand (ts ++ us) ≡ Ok (f, rest)
    → reading.with_prefixes s p operand (ts ++ us) ≡ Ok (f, rest)
unfolding reading.with_prefixes reading.under_prefixes reading.prefixes reading.behind_prefixes
no_prefix_here s p operand ts rest f n first low us e =
    let other : same_sign (sign_of first.token.kind) (prefix_sign p) ≡ false =
    other_sign (sign_of first.token.kind) (prefix_sign p) (λ same. let k = first.low in
    let b : firstly (sign_of first.token.kind) ≡ firstly (prefix_sign p) = ap firstly same in omega arith) in
    let whole : ts ++ us ≡ first.token ∷ (first.others ++ us) = ap (λ l. l ++ us) first.is in
    let e' : operand (first.token ∷ (first.others ++ us)) ≡ Ok (f, rest) = ap operand (sym whole) ∙ e in
    ap (reading.with_prefixes s p operand) whole
    ∙ rw other (bind (operand (first.token ∷ (first.others ++ us))) (f, rest) (λ x. with_rest x.1 (Ok x.0)) e')

-- ---- steps

step_dot : (limit end at line : ℕ) (f : Formed) (d t : Token) (rest : List Token) (e : Tree) → sign_of d.kind ≡ sign.Dot →
    reading.step_of line f.tree t.kind ≡ Some e → f.depth < limit
    → reading.steps limit end at line f (d ∷ t ∷ rest) ≡ reading.steps limit end at line (record { tree = e; depth = f.depth + 1 }) rest
unfolding reading.steps
step_dot limit end at line f d t rest e dot step fits =
    let test = same_self (sign_of d.kind) sign.Dot dot in
    rw (test, step) (bind (made limit at e f.depth) (record { tree = e; depth = f.depth + 1 }) (λ g. reading.steps limit end at line g rest)
    (made_given limit at e f.depth fits))

pub up_step : (line : ℕ) (e : Tree) (t : Token) → sign_of t.kind ≡ sign.Up → reading.step_of line e t.kind ≡ Some (tree.Up line e)
up_step line e t is = up_kind line e t.kind is where
  up_kind : (line : ℕ) (e : Tree) (k : TokenKind) → sign_of k ≡ sign.Up → reading.step_of line e k ≡ Some (tree.Up line e)
  up_kind line e (kind.Name name) is = let wrong : ⊥ = cc in absurd wrong
  up_kind line e (kind.Reserved word) is = let test = same_self (sign_of (kind.Reserved word)) sign.Up is in rw test refl
  up_kind line e (kind.Number n) is = let wrong : ⊥ = cc in absurd wrong
  up_kind line e (kind.Text text) is = let wrong : ⊥ = cc in absurd wrong
  up_kind line e (kind.Symbol symbol) is = let test = same_self (sign_of (kind.Symbol symbol)) sign.Up is in rw test refl

-- ---- what stands inside

within_given : (ts : List Token) (f : Form) → Claim expression ts f → (limit end turns room : ℕ) → f.depth ≤ limit → f.nest ≤ room → length ts < turns →
    (rest : List Token) → 6 < binding (sign_at rest)
    → reading.within limit end turns room (ts ++ rest) ≡ Ok (formed f, rest)
unfolding reading.within
within_given ts f claim limit end zero room deep narrow short rest h = absurd (omega arith)
within_given ts f claim limit end (suc n) room deep narrow short rest h = claim limit end n room deep narrow (omega arith) rest h

closes_by : (t : Token) (s : Sign) (rest : List Token) → sign_of t.kind ≡ s → 6 < binding s → 6 < binding (sign_at (t ∷ rest))
closes_by t s rest is h = let b : binding (sign_of t.kind) ≡ binding s = ap binding is in omega arith

-- ---- atoms with brackets

bracketed_atom : (s : Setting) (t : Token) (ts : List Token) (sg : Sign) → sign_of t.kind ≡ sg → leafless sg ≡ true →
    reading.atom s (t ∷ ts) ≡ reading.bracketed s sg t ts
unfolding reading.atom
bracketed_atom s t ts sg is less =
    let P : Sign → Type 0 = λ z. leafless z ≡ true in
    let none = no_leaf t.line t.kind (subst P (sym is) less) in
    rw (none, is) refl

open_bracket : (s : Setting) (t : Token) (ts : List Token) → 0 < s.room → reading.bracketed s sign.Open t ts ≡ reading.parenthesised s ts
unfolding reading.bracketed
open_bracket s t ts some = let room = has_room s.room some in rw room refl

open_brace : (s : Setting) (t : Token) (ts : List Token) → 0 < s.room →
    reading.bracketed s sign.OpenBrace t ts ≡ reading.braced s t ts (after sign.CloseBrace ts)
unfolding reading.bracketed
open_brace s t ts some = let room = has_room s.room some in rw room refl

abbrev some_or : {A : Type 0} → A → Option A → A
some_or d (Some x) = x
some_or d None = d

some_same : {A : Type 0} {x y : A} → Some x ≡ Some y → x ≡ y
some_same {A} {x} {y} e = ap (some_or x) e

function_bracket : (s : Setting) (t : Token) (ts : List Token) (sg : Sign) (h : Function) → function_of sg ≡ Some h →
    reading.bracketed s sg t ts ≡ reading.called s h t ts
unfolding reading.bracketed
function_bracket s t ts sign.Count h e = ap (λ k. reading.called s k t ts) (some_same e)
function_bracket s t ts sign.Only h e = ap (λ k. reading.called s k t ts) (some_same e)
function_bracket s t ts sign.Min h e = ap (λ k. reading.called s k t ts) (some_same e)
function_bracket s t ts sign.Max h e = ap (λ k. reading.called s k t ts) (some_same e)
function_bracket s t ts _ h e = let wrong : ⊥ = cc in absurd wrong

quantifier_bracket : (s : Setting) (t : Token) (ts : List Token) (sg : Sign) (q : Quantifier) → quantifier_of sg ≡ Some q →
    reading.bracketed s sg t ts ≡ reading.tested s q t ts
unfolding reading.bracketed
quantifier_bracket s t ts sign.Any h e = ap (λ k. reading.tested s k t ts) (some_same e)
quantifier_bracket s t ts sign.All h e = ap (λ k. reading.tested s k t ts) (some_same e)
quantifier_bracket s t ts _ h e = let wrong : ⊥ = cc in absurd wrong

called_given : (s : Setting) (h : Function) (t o c : Token) (xs rest : List Token) (x : Formed) → sign_of o.kind ≡ sign.Open → 0 < s.room →
    s.inner (xs ++ c ∷ rest) ≡ Ok (x, c ∷ rest) → sign_of c.kind ≡ sign.Close → x.depth < s.limit
    → reading.called s h t (o ∷ (xs ++ c ∷ rest)) ≡ Ok (record { tree = tree.Call t.line h x.tree; depth = x.depth + 1 }, rest)
unfolding reading.called
called_given s h t o c xs rest x iso some inner isc fits =
    bind (opened s sign.Open (o ∷ (xs ++ c ∷ rest))) (xs ++ c ∷ rest) _ (opened_given s sign.Open o (xs ++ c ∷ rest) iso some)
    ∙ bind (s.inner (xs ++ c ∷ rest)) (x, c ∷ rest) _ inner
    ∙ bind (expect s.end sign.Close (c ∷ rest)) rest _ (expect_given s.end sign.Close c rest isc)
    ∙ ap (with_rest rest) (made_given s.limit t.start (tree.Call t.line h x.tree) x.depth fits)

tested_given : (s : Setting) (q : Quantifier) (t o n i b c : Token) (name : List ℕ) (xs ps rest : List Token) (x p : Formed) → sign_of o.kind ≡ sign.Open →
    0 < s.room → n.kind ≡ kind.Name name → sign_of i.kind ≡ sign.In
    → s.inner (xs ++ b ∷ (ps ++ c ∷ rest)) ≡ Ok (x, b ∷ (ps ++ c ∷ rest)) → sign_of b.kind ≡ sign.Bar → s.inner (ps ++ c ∷ rest) ≡ Ok (p, c ∷ rest) →
    sign_of c.kind ≡ sign.Close → max x.depth p.depth < s.limit
    → reading.tested s q t (o ∷ n ∷ i ∷ (xs ++ b ∷ (ps ++ c ∷ rest))) ≡ Ok
    (record { tree = tree.Test t.line q name x.tree p.tree; depth = max x.depth p.depth + 1 }, rest)
unfolding reading.tested
tested_given s q t o n i b c name xs ps rest x p iso some named isi inner isb second isc fits =
    bind (opened s sign.Open (o ∷ n ∷ i ∷ (xs ++ b ∷ (ps ++ c ∷ rest)))) (n ∷ i ∷ (xs ++ b ∷ (ps ++ c ∷ rest))) _ (opened_given s sign.Open o _ iso some)
    ∙ bind (name_at s.end (n ∷ i ∷ (xs ++ b ∷ (ps ++ c ∷ rest)))) (name, i ∷ (xs ++ b ∷ (ps ++ c ∷ rest))) _ (name_given s.end n name _ named)
    ∙ bind (expect s.end sign.In (i ∷ (xs ++ b ∷ (ps ++ c ∷ rest)))) (xs ++ b ∷ (ps ++ c ∷ rest)) _ (expect_given s.end sign.In i _ isi)
    ∙ bind (s.inner (xs ++ b ∷ (ps ++ c ∷ rest))) (x, b ∷ (ps ++ c ∷ rest)) _ inner
    ∙ bind (expect s.end sign.Bar (b ∷ (ps ++ c ∷ rest))) (ps ++ c ∷ rest) _ (expect_given s.end sign.Bar b _ isb)
    ∙ bind (s.inner (ps ++ c ∷ rest)) (p, c ∷ rest) _ second
    ∙ bind (expect s.end sign.Close (c ∷ rest)) rest _ (expect_given s.end sign.Close c rest isc)
    ∙ ap (with_rest rest) (made_given s.limit t.start (tree.Test t.line q name x.tree p.tree) (max x.depth p.depth) fits)

chosen_given : (s : Setting) (i t e : Token) (cs xs ys rest : List Token) (c x y : Formed) →
    s.nested (cs ++ t ∷ (xs ++ e ∷ (ys ++ rest))) ≡ Ok (c, t ∷ (xs ++ e ∷ (ys ++ rest))) → sign_of t.kind ≡ sign.Then
    → s.nested (xs ++ e ∷ (ys ++ rest)) ≡ Ok (x, e ∷ (ys ++ rest)) → sign_of e.kind ≡ sign.Else → s.nested (ys ++ rest) ≡ Ok (y, rest) →
    max c.depth (max x.depth y.depth) < s.limit
    → reading.chosen s i (cs ++ t ∷ (xs ++ e ∷ (ys ++ rest))) ≡ Ok
    (record { tree = tree.If i.line c.tree x.tree y.tree; depth = max c.depth (max x.depth y.depth) + 1 }, rest)
unfolding reading.chosen
chosen_given s i t e cs xs ys rest c x y first ist second ise third fits =
    bind (s.nested (cs ++ t ∷ (xs ++ e ∷ (ys ++ rest)))) (c, t ∷ (xs ++ e ∷ (ys ++ rest))) _ first
    ∙ bind (expect s.end sign.Then (t ∷ (xs ++ e ∷ (ys ++ rest)))) (xs ++ e ∷ (ys ++ rest)) _ (expect_given s.end sign.Then t _ ist)
    ∙ bind (s.nested (xs ++ e ∷ (ys ++ rest))) (x, e ∷ (ys ++ rest)) _ second
    ∙ bind (expect s.end sign.Else (e ∷ (ys ++ rest))) (ys ++ rest) _ (expect_given s.end sign.Else e _ ise)
    ∙ bind (s.nested (ys ++ rest)) (y, rest) _ third
    ∙ ap (with_rest rest) (made_given s.limit i.start (tree.If i.line c.tree x.tree y.tree) (max c.depth (max x.depth y.depth)) fits)

no_after : (s : Sign) (t : Token) (ts : List Token) → (sign_of t.kind ≡ s → ⊥) → after s (t ∷ ts) ≡ None
no_after s t ts other = let test = other_sign (sign_of t.kind) s other in rw test refl

some_after : (s : Sign) (t : Token) (ts : List Token) → sign_of t.kind ≡ s → after s (t ∷ ts) ≡ Some ts
some_after s t ts is = let test = same_self (sign_of t.kind) s is in rw test refl

gathered_given : (s : Setting) (g : Gathering) (close : Sign) (t k n i c : Token) (name : List ℕ) (xs rest : List Token) (f x : Formed) →
    sign_of k.kind ≡ sign.Colon → n.kind ≡ kind.Name name → sign_of i.kind ≡ sign.In
    → s.inner (xs ++ c ∷ rest) ≡ Ok (x, c ∷ rest) → sign_of c.kind ≡ close → (close ≡ sign.Bar → ⊥) → max f.depth x.depth < s.limit
    → reading.gathered s g close t f (k ∷ n ∷ i ∷ (xs ++ c ∷ rest)) ≡ Ok
    (record { tree = tree.Gather t.line g f.tree name x.tree; depth = max f.depth x.depth + 1 }, rest)
unfolding reading.gathered reading.closed
gathered_given s g close t k n i c name xs rest f x isk named isi inner isc other fits =
    bind (expect s.end sign.Colon (k ∷ n ∷ i ∷ (xs ++ c ∷ rest))) (n ∷ i ∷ (xs ++ c ∷ rest)) _ (expect_given s.end sign.Colon k _ isk)
    ∙ bind (name_at s.end (n ∷ i ∷ (xs ++ c ∷ rest))) (name, i ∷ (xs ++ c ∷ rest)) _ (name_given s.end n name _ named)
    ∙ bind (expect s.end sign.In (i ∷ (xs ++ c ∷ rest))) (xs ++ c ∷ rest) _ (expect_given s.end sign.In i _ isi)
    ∙ bind (s.inner (xs ++ c ∷ rest)) (x, c ∷ rest) _ inner
    ∙ ap (reading.conditioned s g close t f name x (c ∷ rest)) (no_after sign.Bar c rest (λ e. other (sym isc ∙ e)))
    ∙ bind (expect s.end close (c ∷ rest)) rest _ (expect_given s.end close c rest isc)
    ∙ ap (with_rest rest) (made_given s.limit t.start (tree.Gather t.line g f.tree name x.tree) (max f.depth x.depth) fits)

gathered_where_given : (s : Setting) (g : Gathering) (close : Sign) (t k n i b c : Token) (name : List ℕ) (xs ps rest : List Token) (f x p : Formed) →
    sign_of k.kind ≡ sign.Colon → n.kind ≡ kind.Name name → sign_of i.kind ≡ sign.In
    → s.inner (xs ++ b ∷ (ps ++ c ∷ rest)) ≡ Ok (x, b ∷ (ps ++ c ∷ rest)) → sign_of b.kind ≡ sign.Bar → s.inner (ps ++ c ∷ rest) ≡ Ok (p, c ∷ rest) →
    sign_of c.kind ≡ close → max f.depth (max x.depth p.depth) < s.limit
    → reading.gathered s g close t f (k ∷ n ∷ i ∷ (xs ++ b ∷ (ps ++ c ∷ rest))) ≡ Ok
    (record { tree = tree.GatherWhere t.line g f.tree name x.tree p.tree; depth = max f.depth (max x.depth p.depth) + 1 }, rest)
unfolding reading.gathered reading.closed_where
gathered_where_given s g close t k n i b c name xs ps rest f x p isk named isi inner isb second isc fits =
    bind (expect s.end sign.Colon (k ∷ n ∷ i ∷ (xs ++ b ∷ (ps ++ c ∷ rest)))) (n ∷ i ∷ (xs ++ b ∷ (ps ++ c ∷ rest))) _ (expect_given s.end sign.Colon k _ isk)
    ∙ bind (name_at s.end (n ∷ i ∷ (xs ++ b ∷ (ps ++ c ∷ rest)))) (name, i ∷ (xs ++ b ∷ (ps ++ c ∷ rest))) _ (name_given s.end n name _ named)
    ∙ bind (expect s.end sign.In (i ∷ (xs ++ b ∷ (ps ++ c ∷ rest)))) (xs ++ b ∷ (ps ++ c ∷ rest)) _ (expect_given s.end sign.In i _ isi)
    ∙ bind (s.inner (xs ++ b ∷ (ps ++ c ∷ rest))) (x, b ∷ (ps ++ c ∷ rest)) _ inner
    ∙ ap (reading.conditioned s g close t f name x (b ∷ (ps ++ c ∷ rest))) (some_after sign.Bar b (ps ++ c ∷ rest) isb)
    ∙ bind (s.inner (ps ++ c ∷ rest)) (p, c ∷ rest) _ second
    ∙ bind (expect s.end close (c ∷ rest)) rest _ (expect_given s.end close c rest isc)
    ∙ ap (with_rest rest) (made_given s.limit t.start (tree.GatherWhere t.line g f.tree name x.tree p.tree) (max f.depth (max x.depth p.depth)) fits)

-- ---- parts of a set

abbrev separates : Sign → Type 0
separates sg = (sg ≡ sign.Comma) ⊎ (sg ≡ sign.CloseBrace)

record PartsAt (s : Setting) (t : Token) (ts : List Token) (p : Parts) (rest : List Token) : Type 0 where
  turns : ℕ
  enough : length rest ≤ turns
  is : (s.inner (ts ++ rest) >>= (λ f. reading.behind_part s t f.0 f.1 (sign_at f.1))) ≡ reading.parts s turns t p.trees p.depth rest

abbrev PartsClaim : List Token → Parts → Type 0
PartsClaim ts p = (t : Token) (limit end turns room : ℕ) → p.depth ≤ limit → p.nest ≤ room - 1 → length ts < turns → (rest : List Token) →
    separates (sign_at rest) → PartsAt (setting limit end turns room) t ts p rest

behind_first : (s : Setting) (t : Token) (f : Formed) (rest : List Token) (sg : Sign) → separates sg →
    reading.behind_part s t f rest sg ≡ reading.parts s (length rest) t (f.tree ∷ []) f.depth rest
unfolding reading.behind_part
behind_first s t f rest sg (inl e) = rw e refl
behind_first s t f rest sg (inr e) = rw e refl

separates_binding : (sg : Sign) → separates sg → 6 < binding sg
separates_binding sg (inl e) = let b : binding sg ≡ 7 = ap binding e in omega arith
separates_binding sg (inr e) = let b : binding sg ≡ 7 = ap binding e in omega arith

comma_given : (s : Setting) (n : ℕ) (t k : Token) (trees : List Tree) (deepest : ℕ) (ts rest : List Token) (x : Formed) → sign_of k.kind ≡ sign.Comma →
    s.inner ts ≡ Ok (x, rest)
    → reading.parts s (suc n) t trees deepest (k ∷ ts) ≡ reading.parts s n t (trees ++ x.tree ∷ []) (max deepest x.depth) rest
unfolding reading.parts
comma_given s n t k trees deepest ts rest x is inner =
    rw is (bind (s.inner ts) (x, rest) (λ x. reading.parts s n t (trees ++ x.0.tree ∷ []) (max deepest x.0.depth) x.1) inner)

close_given : (s : Setting) (n : ℕ) (t c : Token) (trees : List Tree) (deepest : ℕ) (rest : List Token) → sign_of c.kind ≡ sign.CloseBrace → deepest < s.limit →
    length (c ∷ rest) ≤ n
    → reading.parts s n t trees deepest (c ∷ rest) ≡ Ok (record { tree = tree.Set t.line trees; depth = deepest + 1 }, rest)
unfolding reading.parts
close_given s zero t c trees deepest rest is fits enough = absurd (omega arith)
close_given s (suc n) t c trees deepest rest is fits enough = rw is (ap (with_rest rest) (made_given s.limit t.start (tree.Set t.line trees) deepest fits))

comma_more : (s : Setting) (n : ℕ) (t k : Token) (trees : List Tree) (deepest : ℕ) (ts rest : List Token) (x : Formed) → sign_of k.kind ≡ sign.Comma →
    s.inner ts ≡ Ok (x, rest) → length (k ∷ ts) ≤ n → length rest ≤ length ts
    → (m : ℕ) × (length rest ≤ m) × (reading.parts s n t trees deepest (k ∷ ts) ≡ reading.parts s m t (trees ++ x.tree ∷ []) (max deepest x.depth) rest)
comma_more s zero t k trees deepest ts rest x is inner enough less = absurd (omega arith)
comma_more s (suc n) t k trees deepest ts rest x is inner enough less = (n, omega arith, comma_given s n t k trees deepest ts rest x is inner)

one_part_claim : (ts : List Token) (f : Form) → Claim expression ts f → PartsClaim ts (record { trees = f.tree ∷ []; depth = f.depth; nest = f.nest })
one_part_claim ts f claim t limit end turns room deep narrow short rest sep =
    let s = setting limit end turns room in
    record {
      turns = length rest;
      enough = omega arith;
      is =
          bind (s.inner (ts ++ rest)) (formed f, rest) (λ f. reading.behind_part s t f.0 f.1 (sign_at f.1))
          (within_given ts f claim limit end turns (room - 1) deep narrow short rest (separates_binding (sign_at rest) sep))
          ∙ behind_first s t (formed f) rest (sign_at rest) sep;
    }

more_parts_claim : (k : Token) (xs ys : List Token) (p : Parts) (y : Form) → PartsClaim xs p → sign_of k.kind ≡ sign.Comma → Claim expression ys y
    → PartsClaim (xs ++ k ∷ ys) (record { trees = p.trees ++ y.tree ∷ []; depth = max p.depth y.depth; nest = max p.nest y.nest })
more_parts_claim k xs ys p y claim is cy t limit end turns room deep narrow short rest sep =
    let s = setting limit end turns room in
    let long : length (xs ++ k ∷ ys) ≡ length xs + length (k ∷ ys) = length-append xs (k ∷ ys) in
    let longer : length (ys ++ rest) ≡ length ys + length rest = length-append ys rest in
    let whole : (xs ++ k ∷ ys) ++ rest ≡ xs ++ k ∷ (ys ++ rest) = append_assoc xs (k ∷ ys) rest in
    let a = claim t limit end turns room (omega arith) (omega arith) (omega arith) (k ∷ (ys ++ rest)) (inl is) in
    let inner = within_given ys y cy limit end turns (room - 1) (omega arith) (omega arith) (omega arith) rest (separates_binding (sign_at rest) sep) in
    let (m, enough, step) = comma_more s a.turns t k p.trees p.depth (ys ++ rest) rest (formed y) is inner a.enough (omega arith) in
    record { turns = m; enough = enough; is = ap (λ l. s.inner l >>= (λ f. reading.behind_part s t f.0 f.1 (sign_at f.1))) whole ∙ a.is ∙ step }

-- ---- comprehensions and sums

abbrev GathersClaim : ℕ → Gathering → List Token → Form → Type 0
GathersClaim line g ts f = (t : Token) → t.line ≡ line → (limit end turns room : ℕ) → f.depth < limit → f.nest ≤ room - 1 → length ts < turns →
    (c : Token) (close : Sign) → sign_of c.kind ≡ close → 6 < binding close → (close ≡ sign.Bar → ⊥) → (rest : List Token)
    → (go : Formed → List Token → Answer (Formed × List Token)) →
    ((x : Formed) (r : List Token) → sign_at r ≡ sign.Colon → go x r ≡ reading.gathered (setting limit end turns room) g close t x r)
    → (reading.within limit end turns (room - 1) (ts ++ c ∷ rest) >>= (λ x. go x.0 x.1)) ≡ Ok (record { tree = f.tree; depth = f.depth + 1 }, rest)

all_values_claim : (line : ℕ) (g : Gathering) (k n i : Token) (name : List ℕ) (fs ss : List Token) (f x : Form) → Claim expression fs f →
    sign_of k.kind ≡ sign.Colon → n.kind ≡ kind.Name name → sign_of i.kind ≡ sign.In → Claim expression ss x
    → GathersClaim line g (fs ++ k ∷ n ∷ i ∷ ss) (form (tree.Gather line g f.tree name x.tree) (max f.depth x.depth) (max f.nest x.nest))
all_values_claim line g k n i name fs ss f x cf isk named isi cx t lined limit end turns room fits narrow short c close isc loose other rest go same =
    let s = setting limit end turns room in
    let long : length (fs ++ k ∷ n ∷ i ∷ ss) ≡ length fs + length (k ∷ n ∷ i ∷ ss) = length-append fs (k ∷ n ∷ i ∷ ss) in
    let whole : (fs ++ k ∷ n ∷ i ∷ ss) ++ c ∷ rest ≡ fs ++ k ∷ n ∷ i ∷ (ss ++ c ∷ rest) = append_assoc fs (k ∷ n ∷ i ∷ ss) (c ∷ rest) in
    let first = within_given fs f cf limit end turns (room - 1) (omega arith) (omega arith) (omega arith) (k ∷ n ∷ i ∷ (ss ++ c ∷ rest))
    (closes_by k sign.Colon (n ∷ i ∷ (ss ++ c ∷ rest)) isk (omega arith)) in
    let second = within_given ss x cx limit end turns (room - 1) (omega arith) (omega arith) (omega arith) (c ∷ rest) (closes_by c close rest isc loose) in
    ap (λ l. reading.within limit end turns (room - 1) l >>= (λ x. go x.0 x.1)) whole
    ∙ bind (reading.within limit end turns (room - 1) (fs ++ k ∷ n ∷ i ∷ (ss ++ c ∷ rest))) (formed f, k ∷ n ∷ i ∷ (ss ++ c ∷ rest)) (λ x. go x.0 x.1) first
    ∙ same (formed f) (k ∷ n ∷ i ∷ (ss ++ c ∷ rest)) isk
    ∙ gathered_given s g close t k n i c name ss rest (formed f) (formed x) isk named isi second isc other fits
    ∙ ap (λ l. Ok (record { tree = tree.Gather l g f.tree name x.tree; depth = max f.depth x.depth + 1 }, rest)) lined

chosen_values_claim : (line : ℕ) (g : Gathering) (k n i b : Token) (name : List ℕ) (fs ss ps : List Token) (f x p : Form) → Claim expression fs f →
    sign_of k.kind ≡ sign.Colon → n.kind ≡ kind.Name name → sign_of i.kind ≡ sign.In → Claim expression ss x
    → sign_of b.kind ≡ sign.Bar → Claim expression ps p
    → GathersClaim line g (fs ++ k ∷ n ∷ i ∷ (ss ++ b ∷ ps))
    (form (tree.GatherWhere line g f.tree name x.tree p.tree) (max f.depth (max x.depth p.depth)) (max f.nest (max x.nest p.nest)))
chosen_values_claim line g k n i b name fs ss ps f x p cf isk named isi cx isb cp t lined limit end turns room fits narrow short c close isc loose other rest go
    same =
    let s = setting limit end turns room in
    let long : length (fs ++ k ∷ n ∷ i ∷ (ss ++ b ∷ ps)) ≡ length fs + length (k ∷ n ∷ i ∷ (ss ++ b ∷ ps)) = length-append fs (k ∷ n ∷ i ∷ (ss ++ b ∷ ps)) in
    let longer : length (ss ++ b ∷ ps) ≡ length ss + length (b ∷ ps) = length-append ss (b ∷ ps) in
    let whole : (fs ++ k ∷ n ∷ i ∷ (ss ++ b ∷ ps)) ++ c ∷ rest ≡ fs ++ k ∷ n ∷ i ∷ (ss ++ b ∷ (ps ++ c ∷ rest)) =
    append_assoc fs (k ∷ n ∷ i ∷ (ss ++ b ∷ ps)) (c ∷ rest) ∙ ap (λ l. fs ++ k ∷ n ∷ i ∷ l) (append_assoc ss (b ∷ ps) (c ∷ rest)) in
    let first = within_given fs f cf limit end turns (room - 1) (omega arith) (omega arith) (omega arith) (k ∷ n ∷ i ∷ (ss ++ b ∷ (ps ++ c ∷ rest)))
    (closes_by k sign.Colon (n ∷ i ∷ (ss ++ b ∷ (ps ++ c ∷ rest))) isk (omega arith)) in
    let second = within_given ss x cx limit end turns (room - 1) (omega arith) (omega arith) (omega arith) (b ∷ (ps ++ c ∷ rest))
    (closes_by b sign.Bar (ps ++ c ∷ rest) isb (omega arith)) in
    let third = within_given ps p cp limit end turns (room - 1) (omega arith) (omega arith) (omega arith) (c ∷ rest) (closes_by c close rest isc loose) in
    ap (λ l. reading.within limit end turns (room - 1) l >>= (λ x. go x.0 x.1)) whole
    ∙ bind (reading.within limit end turns (room - 1) (fs ++ k ∷ n ∷ i ∷ (ss ++ b ∷ (ps ++ c ∷ rest)))) (formed f, k ∷ n ∷ i ∷ (ss ++ b ∷ (ps ++ c ∷ rest)))
    (λ x. go x.0 x.1) first
    ∙ same (formed f) (k ∷ n ∷ i ∷ (ss ++ b ∷ (ps ++ c ∷ rest))) isk
    ∙ gathered_where_given s g close t k n i b c name ss ps rest (formed f) (formed x) (formed p) isk named isi second isb third isc fits
    ∙ ap (λ l. Ok (record { tree = tree.GatherWhere l g f.tree name x.tree p.tree; depth = max f.depth (max x.depth p.depth) + 1 }, rest)) lined

-- ---- each production

colon_go : (s : Setting) (t : Token) (x : Formed) (r : List Token) → sign_at r ≡ sign.Colon →
    reading.behind_part s t x r (sign_at r) ≡ reading.gathered s gathering.Union sign.CloseBrace t x r
unfolding reading.behind_part
colon_go s t x r e = rw e refl

-- the first part in braces doesn't begin with the closing one
not_closed : (n : ℕ) (ts : List Token) → First n ts → n < 9 → (us : List Token) → after sign.CloseBrace (ts ++ us) ≡ None
not_closed n ts f low us =
    ap (λ l. after sign.CloseBrace (l ++ us)) f.is ∙ no_after sign.CloseBrace f.token (f.others ++ us) (λ e. let b : firstly (sign_of f.token.kind) ≡ 9 =
    ap firstly e in let k = f.low in omega arith)

parts_first : (ts : List Token) (p : Parts) → AreParts ts p → First 3 ts
parts_first ts _ (one_part ts' f p) = first_sign expression ts f p
parts_first _ _ (more_parts k xs ys p y a is q) =
    let f = parts_first xs p a in record { token = f.token; others = f.others ++ k ∷ ys; is = ap (λ l. l ++ k ∷ ys) f.is; low = f.low }

gathers_first : (line : ℕ) (g : Gathering) (ts : List Token) (f : Form) → Gathers line g ts f → First 3 ts
gathers_first _ _ _ _ (all_values line g k n i name fs ss f x p a b c q) = let f = first_sign expression fs f p in
    record { token = f.token; others = _; is = ap (λ l. l ++ k ∷ n ∷ i ∷ ss) f.is; low = f.low }
gathers_first _ _ _ _ (chosen_values line g k n i b name fs ss ps f x p pf a c d q e r) = let f = first_sign expression fs f pf in
    record { token = f.token; others = _; is = ap (λ l. l ++ k ∷ n ∷ i ∷ (ss ++ b ∷ ps)) f.is; low = f.low }

choice_claim : (i t e : Token) (cs xs ys : List Token) (c x y : Form) → sign_of i.kind ≡ sign.If → Claim expression cs c → sign_of t.kind ≡ sign.Then →
    Claim expression xs x → sign_of e.kind ≡ sign.Else → Claim expression ys y
    → Claim expression (i ∷ (cs ++ t ∷ (xs ++ e ∷ ys)))
    (form (tree.If i.line c.tree x.tree y.tree) (max c.depth (max x.depth y.depth) + 1) (max c.nest (max x.nest y.nest)))
unfolding reading.expression
choice_claim i t e cs xs ys c x y isi cc ist cx ise cy limit end turns room deep narrow short rest h =
    let s = setting limit end turns room in
    let long : length (cs ++ t ∷ (xs ++ e ∷ ys)) ≡ length cs + length (t ∷ (xs ++ e ∷ ys)) = length-append cs (t ∷ (xs ++ e ∷ ys)) in
    let longer : length (xs ++ e ∷ ys) ≡ length xs + length (e ∷ ys) = length-append xs (e ∷ ys) in
    let whole : (cs ++ t ∷ (xs ++ e ∷ ys)) ++ rest ≡ cs ++ t ∷ (xs ++ e ∷ (ys ++ rest)) =
    append_assoc cs (t ∷ (xs ++ e ∷ ys)) rest ∙ ap (λ l. cs ++ t ∷ l) (append_assoc xs (e ∷ ys) rest) in
    let first = within_given cs c cc limit end turns room (omega arith) (omega arith) (omega arith) (t ∷ (xs ++ e ∷ (ys ++ rest)))
    (closes_by t sign.Then (xs ++ e ∷ (ys ++ rest)) ist (omega arith)) in
    let second = within_given xs x cx limit end turns room (omega arith) (omega arith) (omega arith) (e ∷ (ys ++ rest))
    (closes_by e sign.Else (ys ++ rest) ise (omega arith)) in
    let third = within_given ys y cy limit end turns room (omega arith) (omega arith) (omega arith) rest h in
    let test = same_self (sign_of i.kind) sign.If isi in
    rw test (ap (reading.chosen s i) whole ∙ chosen_given s i t e cs xs ys rest (formed c) (formed x) (formed y) first ist second ise third (omega arith))

or_claim : (ts : List Token) (f : Form) → First 2 ts → Claim (chain level.Or) ts f → Claim expression ts f
unfolding reading.expression
or_claim ts f first claim limit end turns room deep narrow short rest h =
    let s = setting limit end turns room in
    let other : same_sign (sign_of first.token.kind) sign.If ≡ false = other_sign (sign_of first.token.kind) sign.If (λ same. let k = first.low in
    let b : firstly (sign_of first.token.kind) ≡ 3 = ap firstly same in omega arith) in
    let whole : ts ++ rest ≡ first.token ∷ (first.others ++ rest) = ap (λ l. l ++ rest) first.is in
    ap (reading.expression s) whole
    ∙ rw other (ap (reading.disjunction s) (sym whole) ∙ direct_of_more level.Or ts f claim limit end turns room deep narrow short rest h (omega arith))

prefix_claim : (p : Prefix) (t : Token) (ts : List Token) (f : Form) → sign_of t.kind ≡ prefix_sign p → Claim (prefixing p) ts f →
    Claim (prefixing p) (t ∷ ts) (form (prefixed p t.line f.tree) (f.depth + 1) f.nest)
prefix_claim p t ts f is claim =
    prefix_reader p (t ∷ ts) (form (prefixed p t.line f.tree) (f.depth + 1) f.nest)
    (λ limit end turns room deep narrow short rest h.
    let s = setting limit end turns room in
    one_more_prefix s p (unprefixed_at s p) t (ts ++ rest) rest (formed f) is
    (prefix_claimed p ts f claim limit end turns room (omega arith) narrow (omega arith) rest h) (omega arith))

no_prefix_claim : (p : Prefix) (ts : List Token) (f : Form) → First (start (unprefixed p)) ts → Claim (unprefixed p) ts f → Claim (prefixing p) ts f
no_prefix_claim p ts f first claim =
    prefix_reader p ts f
    (λ limit end turns room deep narrow short rest h.
    let s = setting limit end turns room in
    no_prefix_here s p (unprefixed_at s p) ts rest (formed f) (start (unprefixed p)) first (unprefixed_below p) rest
    (unprefixed_direct p ts f claim limit end turns room deep narrow short rest h))

no_step_claim : (ts : List Token) (f : Form) → Claim atom ts f → Claim postfix ts f
unfolding reading.postfix
no_step_claim ts f claim limit end turns room deep narrow short rest =
    bind (reading.atom (setting limit end turns room) (ts ++ rest)) (formed f, rest)
    (λ x. reading.steps limit end (offset end (ts ++ rest)) (line_of (ts ++ rest)) x.0 x.1) (claim limit end turns room deep narrow short rest)

pub named_step : (line : ℕ) (e : Tree) (t : Token) (name : List ℕ) → t.kind ≡ kind.Name name → reading.step_of line e t.kind ≡ Some (tree.Child line e name)
named_step line e t name named = rw named refl

step_claim : (d t : Token) (ts : List Token) (f : Form) (e : Tree) → Begins ts → Claim postfix ts f → sign_of d.kind ≡ sign.Dot →
    reading.step_of (line_of ts) f.tree t.kind ≡ Some e
    → Claim postfix (ts ++ d ∷ t ∷ []) (form e (f.depth + 1) f.nest)
step_claim d t ts f e b claim dot step limit end turns room deep narrow short rest =
    let s = setting limit end turns room in
    let long : length (ts ++ d ∷ t ∷ []) ≡ length ts + length (d ∷ t ∷ []) = length-append ts (d ∷ t ∷ []) in
    let whole : (ts ++ d ∷ t ∷ []) ++ rest ≡ ts ++ d ∷ t ∷ rest = append_assoc ts (d ∷ t ∷ []) rest in
    let line : line_of (ts ++ d ∷ t ∷ rest) ≡ line_of ts = line_front ts (d ∷ t ∷ rest) b in
    ap (reading.postfix s) whole
    ∙ claim limit end turns room (omega arith) narrow (omega arith) (d ∷ t ∷ rest)
    ∙ step_dot limit end (offset end (ts ++ d ∷ t ∷ rest)) (line_of (ts ++ d ∷ t ∷ rest)) (formed f) d t rest e dot
    (ap (λ l. reading.step_of l f.tree t.kind) line ∙ step) (omega arith)
    ∙ ap (λ l. reading.steps limit end (offset end l) (line_of l) (record { tree = e; depth = f.depth + 1 }) rest) (sym whole)

leaf_claim : (t : Token) (e : Tree) → leaf t.line t.kind ≡ Some e → Claim atom (t ∷ []) (form e 1 0)
unfolding reading.atom
leaf_claim t e is limit end turns room deep narrow short rest = rw is refl

parentheses_claim : (o c : Token) (ts : List Token) (f : Form) → sign_of o.kind ≡ sign.Open → Claim expression ts f → sign_of c.kind ≡ sign.Close →
    Claim atom (o ∷ (ts ++ c ∷ [])) (form f.tree f.depth (f.nest + 1))
unfolding reading.parenthesised
parentheses_claim o c ts f iso claim isc limit end turns room deep narrow short rest =
    let s = setting limit end turns room in
    let long : length (ts ++ c ∷ []) ≡ length ts + length (c ∷ []) = length-append ts (c ∷ []) in
    let whole : (ts ++ c ∷ []) ++ rest ≡ ts ++ c ∷ rest = append_assoc ts (c ∷ []) rest in
    let inner = within_given ts f claim limit end turns (room - 1) deep (omega arith) (omega arith) (c ∷ rest)
    (closes_by c sign.Close rest isc (omega arith)) in
    bracketed_atom s o ((ts ++ c ∷ []) ++ rest) sign.Open iso refl ∙ open_bracket s o ((ts ++ c ∷ []) ++ rest) (omega arith)
    ∙ ap (reading.parenthesised s) whole
    ∙ bind (s.inner (ts ++ c ∷ rest)) (formed f, c ∷ rest) (λ x. expect s.end sign.Close x.1 >>= (λ rest. Ok (x.0, rest))) inner
    ∙ bind (expect s.end sign.Close (c ∷ rest)) rest (λ rest. Ok (formed f, rest)) (expect_given s.end sign.Close c rest isc)

no_set_claim : (o c : Token) → sign_of o.kind ≡ sign.OpenBrace → sign_of c.kind ≡ sign.CloseBrace → Claim atom (o ∷ c ∷ []) (form (tree.Set o.line []) 1 1)
unfolding reading.braced
no_set_claim o c iso isc limit end turns room deep narrow short rest =
    let s = setting limit end turns room in
    bracketed_atom s o (c ∷ rest) sign.OpenBrace iso refl ∙ open_brace s o (c ∷ rest) (omega arith)
    ∙ ap (reading.braced s o (c ∷ rest)) (some_after sign.CloseBrace c rest isc)
    ∙ ap (with_rest rest) (made_given limit o.start (tree.Set o.line []) 0 (omega arith))

set_claim : (o c : Token) (ts : List Token) (p : Parts) → sign_of o.kind ≡ sign.OpenBrace → First 3 ts → PartsClaim ts p → sign_of c.kind ≡ sign.CloseBrace →
    Claim atom (o ∷ (ts ++ c ∷ [])) (form (tree.Set o.line p.trees) (p.depth + 1) (p.nest + 1))
unfolding reading.braced
set_claim o c ts p iso first claim isc limit end turns room deep narrow short rest =
    let s = setting limit end turns room in
    let long : length (ts ++ c ∷ []) ≡ length ts + length (c ∷ []) = length-append ts (c ∷ []) in
    let whole : (ts ++ c ∷ []) ++ rest ≡ ts ++ c ∷ rest = append_assoc ts (c ∷ []) rest in
    let a = claim o limit end turns room (omega arith) (omega arith) (omega arith) (c ∷ rest) (inr isc) in
    bracketed_atom s o ((ts ++ c ∷ []) ++ rest) sign.OpenBrace iso refl ∙ open_brace s o ((ts ++ c ∷ []) ++ rest) (omega arith)
    ∙ ap (λ l. reading.braced s o l (after sign.CloseBrace l)) whole
    ∙ ap (reading.braced s o (ts ++ c ∷ rest)) (not_closed 3 ts first (omega arith) (c ∷ rest))
    ∙ a.is ∙ close_given s a.turns o c p.trees p.depth rest isc (omega arith) a.enough

comprehension_claim : (o c : Token) (ts : List Token) (g : Form) → sign_of o.kind ≡ sign.OpenBrace → First 3 ts → GathersClaim o.line gathering.Union ts g →
    sign_of c.kind ≡ sign.CloseBrace
    → Claim atom (o ∷ (ts ++ c ∷ [])) (form g.tree (g.depth + 1) (g.nest + 1))
unfolding reading.braced
comprehension_claim o c ts g iso first claim isc limit end turns room deep narrow short rest =
    let s = setting limit end turns room in
    let long : length (ts ++ c ∷ []) ≡ length ts + length (c ∷ []) = length-append ts (c ∷ []) in
    let whole : (ts ++ c ∷ []) ++ rest ≡ ts ++ c ∷ rest = append_assoc ts (c ∷ []) rest in
    bracketed_atom s o ((ts ++ c ∷ []) ++ rest) sign.OpenBrace iso refl ∙ open_brace s o ((ts ++ c ∷ []) ++ rest) (omega arith)
    ∙ ap (λ l. reading.braced s o l (after sign.CloseBrace l)) whole
    ∙ ap (reading.braced s o (ts ++ c ∷ rest)) (not_closed 3 ts first (omega arith) (c ∷ rest))
    ∙ claim o refl limit end turns room (omega arith) (omega arith) (omega arith) c sign.CloseBrace isc (omega arith) (λ e. let wrong : ⊥ = cc in
    wrong) rest (λ x r. reading.behind_part s o x r (sign_at r)) (colon_go s o)

sum_claim : (w o c : Token) (ts : List Token) (g : Form) → sign_of w.kind ≡ sign.Sum → sign_of o.kind ≡ sign.Open → GathersClaim w.line gathering.Sum ts g →
    sign_of c.kind ≡ sign.Close
    → Claim atom (w ∷ o ∷ (ts ++ c ∷ [])) (form g.tree (g.depth + 1) (g.nest + 1))
unfolding reading.summed reading.bracketed
sum_claim w o c ts g isw iso claim isc limit end turns room deep narrow short rest =
    let s = setting limit end turns room in
    let long : length (ts ++ c ∷ []) ≡ length ts + length (c ∷ []) = length-append ts (c ∷ []) in
    let whole : (ts ++ c ∷ []) ++ rest ≡ ts ++ c ∷ rest = append_assoc ts (c ∷ []) rest in
    bracketed_atom s w (o ∷ ((ts ++ c ∷ []) ++ rest)) sign.Sum isw refl ∙ ap (λ l. reading.summed s w (o ∷ l)) whole
    ∙ bind (opened s sign.Open (o ∷ (ts ++ c ∷ rest))) (ts ++ c ∷ rest) (λ a. s.inner a >>= (λ f. reading.gathered s gathering.Sum sign.Close w f.0 f.1))
    (opened_given s sign.Open o (ts ++ c ∷ rest) iso (omega arith))
    ∙ claim w refl limit end turns room (omega arith) (omega arith) (omega arith) c sign.Close isc (omega arith) (λ e. let wrong : ⊥ = cc in
    wrong) rest (λ x r. reading.gathered s gathering.Sum sign.Close w x r) (λ x r e. refl)

call_claim : (w o c : Token) (h : Function) (ts : List Token) (f : Form) → function_of (sign_of w.kind) ≡ Some h → sign_of o.kind ≡ sign.Open →
    Claim expression ts f → sign_of c.kind ≡ sign.Close
    → Claim atom (w ∷ o ∷ (ts ++ c ∷ [])) (form (tree.Call w.line h f.tree) (f.depth + 1) (f.nest + 1))
call_claim w o c h ts f isw iso claim isc limit end turns room deep narrow short rest =
    let s = setting limit end turns room in
    let long : length (ts ++ c ∷ []) ≡ length ts + length (c ∷ []) = length-append ts (c ∷ []) in
    let whole : (ts ++ c ∷ []) ++ rest ≡ ts ++ c ∷ rest = append_assoc ts (c ∷ []) rest in
    let inner = within_given ts f claim limit end turns (room - 1) (omega arith) (omega arith) (omega arith) (c ∷ rest)
    (closes_by c sign.Close rest isc (omega arith)) in
    bracketed_atom s w (o ∷ ((ts ++ c ∷ []) ++ rest)) (sign_of w.kind) refl (function_leafless (sign_of w.kind) h isw)
    ∙ function_bracket s w (o ∷ ((ts ++ c ∷ []) ++ rest)) (sign_of w.kind) h isw
    ∙ ap (λ l. reading.called s h w (o ∷ l)) whole
    ∙ called_given s h w o c ts rest (formed f) iso (omega arith) inner isc (omega arith)

test_claim : (w o n i b c : Token) (q : Quantifier) (name : List ℕ) (ss ps : List Token) (x p : Form) → quantifier_of (sign_of w.kind) ≡ Some q →
    sign_of o.kind ≡ sign.Open → n.kind ≡ kind.Name name → sign_of i.kind ≡ sign.In → Claim expression ss x
    → sign_of b.kind ≡ sign.Bar → Claim expression ps p → sign_of c.kind ≡ sign.Close
    → Claim atom (w ∷ o ∷ n ∷ i ∷ (ss ++ b ∷ (ps ++ c ∷ []))) (form (tree.Test w.line q name x.tree p.tree) (max x.depth p.depth + 1) (max x.nest p.nest + 1))
test_claim w o n i b c q name ss ps x p isw iso named isi cx isb cp isc limit end turns room deep narrow short rest =
    let s = setting limit end turns room in
    let long : length (ss ++ b ∷ (ps ++ c ∷ [])) ≡ length ss + length (b ∷ (ps ++ c ∷ [])) = length-append ss (b ∷ (ps ++ c ∷ [])) in
    let longer : length (ps ++ c ∷ []) ≡ length ps + length (c ∷ []) = length-append ps (c ∷ []) in
    let whole : (ss ++ b ∷ (ps ++ c ∷ [])) ++ rest ≡ ss ++ b ∷ (ps ++ c ∷ rest) = append_assoc ss (b ∷ (ps ++ c ∷ [])) rest
    ∙ ap (λ l. ss ++ b ∷ l) (append_assoc ps (c ∷ []) rest) in
    let inner = within_given ss x cx limit end turns (room - 1) (omega arith) (omega arith) (omega arith) (b ∷ (ps ++ c ∷ rest))
    (closes_by b sign.Bar (ps ++ c ∷ rest) isb (omega arith)) in
    let second = within_given ps p cp limit end turns (room - 1) (omega arith) (omega arith) (omega arith) (c ∷ rest)
    (closes_by c sign.Close rest isc (omega arith)) in
    bracketed_atom s w (o ∷ n ∷ i ∷ ((ss ++ b ∷ (ps ++ c ∷ [])) ++ rest)) (sign_of w.kind) refl (quantifier_leafless (sign_of w.kind) q isw)
    ∙ quantifier_bracket s w (o ∷ n ∷ i ∷ ((ss ++ b ∷ (ps ++ c ∷ [])) ++ rest)) (sign_of w.kind) q isw
    ∙ ap (λ l. reading.tested s q w (o ∷ n ∷ i ∷ l)) whole
    ∙ tested_given s q w o n i b c name ss ps rest (formed x) (formed p) iso (omega arith) named isi inner isb second isc (omega arith)

-- ---- all of it

mutual
  complete : (n : Nonterminal) (ts : List Token) (f : Form) → Produces n ts f → Claim n ts f
  complete _ _ _ (a_choice i t e cs xs ys c x y isi pc ist px ise py) =
      choice_claim i t e cs xs ys c x y isi (complete expression cs c pc) ist (complete expression xs x px) ise (complete expression ys y py)
  complete _ _ _ (no_choice ts f p) = or_claim ts f (first_sign (chain level.Or) ts f p) (complete (chain level.Or) ts f p)
  complete _ _ _ (an_operand l ts f p) = operand_claim l ts f (complete (operand l) ts f p)
  complete _ _ _ (an_operation l op o xs ys x y px is py) =
      operation_claim l op o xs ys x y (nonempty (before l) xs x px) (complete (before l) xs x px) is (complete (operand l) ys y py)
  complete _ _ _ (a_prefix p t ts f is q) = prefix_claim p t ts f is (complete (prefixing p) ts f q)
  complete _ _ _ (no_prefix p ts f q) = no_prefix_claim p ts f (first_sign (unprefixed p) ts f q) (complete (unprefixed p) ts f q)
  complete _ _ _ (no_step ts f p) = no_step_claim ts f (complete atom ts f p)
  complete _ _ _ (a_child d t name ts f p dot named) =
      step_claim d t ts f (tree.Child (line_of ts) f.tree name) (nonempty postfix ts f p) (complete postfix ts f p) dot
      (named_step (line_of ts) f.tree t name named)
  complete _ _ _ (an_up d t ts f p dot up) =
      step_claim d t ts f (tree.Up (line_of ts) f.tree) (nonempty postfix ts f p) (complete postfix ts f p) dot (up_step (line_of ts) f.tree t up)
  complete _ _ _ (a_leaf t e is) = leaf_claim t e is
  complete _ _ _ (in_parentheses o c ts f iso p isc) = parentheses_claim o c ts f iso (complete expression ts f p) isc
  complete _ _ _ (no_set o c iso isc) = no_set_claim o c iso isc
  complete _ _ _ (a_set o c ts p iso q isc) = set_claim o c ts p iso (parts_first ts p q) (complete_parts ts p q) isc
  complete _ _ _ (a_comprehension o c ts g iso q isc) =
      comprehension_claim o c ts g iso (gathers_first o.line gathering.Union ts g q) (complete_gathers o.line gathering.Union ts g q) isc
  complete _ _ _ (a_sum w o c ts g isw iso q isc) = sum_claim w o c ts g isw iso (complete_gathers w.line gathering.Sum ts g q) isc
  complete _ _ _ (a_call w o c h ts f isw iso p isc) = call_claim w o c h ts f isw iso (complete expression ts f p) isc
  complete _ _ _ (a_test w o n i b c q name ss ps x p isw iso named isi px isb pp isc) =
      test_claim w o n i b c q name ss ps x p isw iso named isi (complete expression ss x px) isb (complete expression ps p pp) isc

  complete_parts : (ts : List Token) (p : Parts) → AreParts ts p → PartsClaim ts p
  complete_parts _ _ (one_part ts f p) = one_part_claim ts f (complete expression ts f p)
  complete_parts _ _ (more_parts k xs ys p y a is q) = more_parts_claim k xs ys p y (complete_parts xs p a) is (complete expression ys y q)

  complete_gathers : (line : ℕ) (g : Gathering) (ts : List Token) (f : Form) → Gathers line g ts f → GathersClaim line g ts f
  complete_gathers _ _ _ _ (all_values line g k n i name fs ss f x pf isk named isi px) =
      all_values_claim line g k n i name fs ss f x (complete expression fs f pf) isk named isi (complete expression ss x px)
  complete_gathers _ _ _ _ (chosen_values line g k n i b name fs ss ps f x p pf isk named isi px isb pp) =
      chosen_values_claim line g k n i b name fs ss ps f x p (complete expression fs f pf) isk named isi (complete expression ss x px) isb
      (complete expression ps p pp)

-- ---- whole formulas

pub read_before : (ts : List Token) (f : Form) → Produces expression ts f → (limit end turns room : ℕ) → f.depth ≤ limit → f.nest ≤ room → length ts < turns →
    (rest : List Token) → 6 < binding (sign_at rest)
    → reading.within limit end turns room (ts ++ rest) ≡ Ok (formed f, rest)
read_before ts f p limit end turns room deep narrow short rest h = within_given ts f (complete expression ts f p) limit end turns room deep narrow short rest h

pub atom_before : (ts : List Token) (f : Form) → Produces atom ts f → (limit end turns room : ℕ) → f.depth ≤ limit → f.nest ≤ room → length ts ≤ turns →
    (rest : List Token)
    → reading.atom (setting limit end turns room) (ts ++ rest) ≡ Ok (formed f, rest)
atom_before ts f p limit end turns room deep narrow short rest = complete atom ts f p limit end turns room deep narrow short rest

pub read_whole : (ts : List Token) (f : Form) → Produces expression ts f → (limit end room : ℕ) → f.depth ≤ limit → f.nest ≤ room →
    reading.formula_at limit room end ts ≡ Ok (formed f, [])
unfolding reading.formula_at
read_whole ts f p limit end room deep narrow =
    ap (reading.within limit end (length ts + 1) room) (sym (append-nil ts)) ∙ read_before ts f p limit end (length ts + 1) room deep narrow (omega arith) []
    (omega arith)

abbrev tree_or : Tree → Answer (Formed × List Token) → Tree
tree_or d (Ok x) = x.0.tree
tree_or d (Err e) = d

-- tokens stand for one tree at most
pub one_tree : (ts : List Token) (d e : Tree) → IsFormula ts d → IsFormula ts e → d ≡ e
one_tree ts d e p q =
    ap (tree_or d) (sym (read_whole ts (form d p.depth p.nest) p.produced 32 0 32 p.shallow p.narrow)
    ∙ read_whole ts (form e q.depth q.nest) q.produced 32 0 32 q.shallow q.narrow)

pub whole_given : (end : ℕ) (ts : List Token) (e : Tree) → IsFormula ts e → reading.whole_formula end ts ≡ Ok e
whole_given end ts e p = ap (λ r. r >>= reading.nothing_behind end) (read_whole ts (form e p.depth p.nest) p.produced 32 end 32 p.shallow p.narrow)
