-- How tightly signs bind what stands before them, and with which signs formulas begin.
use Rattle.std.proofs.Common.{◌≡◌, ℕ, ◌<◌, ◌≤◌, List, [], ◌∷◌, ◌++◌, true, false, Some, None, refl, ap, arith, inl, inr, eq-eqb}
use Rattle.std.specs.Prelude.{Bool, Option}
use Rattle.std.proofs.lemmas.Bool.{cases_Bool}
use Rattle.sheet_syntax_trees.specs.declared.token.Token.{Token}
use Rattle.sheet_syntax_trees.specs.declared.token.TokenKind.{TokenKind}
use Rattle.sheet_syntax_trees.specs.declared.token.TokenKind.TheVariants as kind
use Rattle.sheet_syntax_trees.specs.declared.sign.Sign.{Sign}
use Rattle.sheet_syntax_trees.specs.declared.sign.Sign.TheVariants as sign
use Rattle.sheet_syntax_trees.specs.declared.operators.Operator.{Operator}
use Rattle.sheet_syntax_trees.specs.declared.operators.Level.{Level}
use Rattle.sheet_syntax_trees.specs.declared.operators.Level.TheVariants as level
use Rattle.sheet_syntax_trees.specs.declared.operators.Prefix.{Prefix}
use Rattle.sheet_syntax_trees.specs.declared.operators.Prefix.TheVariants as prefix
use Rattle.sheet_syntax_trees.specs.declared.operators.Function.{Function}
use Rattle.sheet_syntax_trees.specs.declared.operators.Quantifier.{Quantifier}
use Rattle.sheet_syntax_trees.specs.declared.tree.Tree.{Tree}
use Rattle.sheet_syntax_trees.specs.Signs.{sign_of, sign_rank, same_sign}
use Rattle.sheet_syntax_trees.specs.Operators.{operator_among, prefix_sign}
use Rattle.sheet_syntax_trees.specs.Grammar.{Nonterminal, expression, chain, negation, unary, postfix, atom, operand, before, prefixing, unprefixed, Form}
use Rattle.sheet_syntax_trees.specs.Grammar.{Produces, a_choice, no_choice, an_operand, an_operation, a_prefix, no_prefix, no_step, a_child, an_up, a_leaf}
use Rattle.sheet_syntax_trees.specs.Grammar.{in_parentheses, no_set, a_set, a_comprehension, a_sum, a_call, a_test, function_of, quantifier_of}
use Rattle.sheet_syntax_trees.specs.Reading.{leaf, leaf_of}
use Rattle.sheet_syntax_trees.proofs.SignLemmas.{same_is}

abbrev pub binding : Sign → ℕ
binding sign.Dot = 0
binding sign.Times = 1
binding sign.Divide = 1
binding sign.Remainder = 1
binding sign.Plus = 2
binding sign.Minus = 2
binding sign.Join = 2
binding sign.Union = 3
binding sign.Intersect = 3
binding sign.Except = 3
binding sign.Equals = 4
binding sign.NotEquals = 4
binding sign.Less = 4
binding sign.AtMost = 4
binding sign.Greater = 4
binding sign.AtLeast = 4
binding sign.In = 4
binding sign.And = 5
binding sign.Or = 6
binding _ = 7

abbrev pub level_height : Level → ℕ
level_height level.Or = 6
level_height level.And = 5
level_height level.Comparison = 4
level_height level.Sets = 3
level_height level.Sums = 2
level_height level.Products = 1

-- the loosest sign that goes on with what stands there
abbrev pub height : Nonterminal → ℕ
height expression = 6
height (chain l) = level_height l
height negation = 4
height unary = 0
height postfix = 0
height atom = 0

pub operator_binding : (l : Level) (sg : Sign) (op : Operator) → operator_among l sg ≡ Some op → binding sg ≡ level_height l
operator_binding level.Or sign.Or op e = refl
operator_binding level.And sign.And op e = refl
operator_binding level.Comparison sign.Equals op e = refl
operator_binding level.Comparison sign.NotEquals op e = refl
operator_binding level.Comparison sign.Less op e = refl
operator_binding level.Comparison sign.AtMost op e = refl
operator_binding level.Comparison sign.Greater op e = refl
operator_binding level.Comparison sign.AtLeast op e = refl
operator_binding level.Comparison sign.In op e = refl
operator_binding level.Sets sign.Union op e = refl
operator_binding level.Sets sign.Intersect op e = refl
operator_binding level.Sets sign.Except op e = refl
operator_binding level.Sums sign.Plus op e = refl
operator_binding level.Sums sign.Minus op e = refl
operator_binding level.Sums sign.Join op e = refl
operator_binding level.Products sign.Times op e = refl
operator_binding level.Products sign.Divide op e = refl
operator_binding level.Products sign.Remainder op e = refl
operator_binding _ _ op e = let wrong : ⊥ = cc in absurd wrong

no_operator_by : (l : Level) (sg : Sign) (o : Option Operator) → operator_among l sg ≡ o → level_height l < binding sg → o ≡ None
no_operator_by l sg None e h = refl
no_operator_by l sg (Some op) e h = let b = operator_binding l sg op e in absurd (omega arith)

pub no_operator : (l : Level) (sg : Sign) → level_height l < binding sg → operator_among l sg ≡ None
no_operator l sg h = no_operator_by l sg (operator_among l sg) refl h

pub other_sign : (a b : Sign) → (a ≡ b → ⊥) → same_sign a b ≡ false
other_sign a b other = elim (cases_Bool (same_sign a b)) [ inl same ↦ absurd (other (same_is a b same)) | inr differ ↦ differ ]

pub same_self : (a b : Sign) → a ≡ b → same_sign a b ≡ true
same_self a b e = eq-eqb (sign_rank a) (sign_rank b) (ap sign_rank e)

pub no_dot : (sg : Sign) → 0 < binding sg → same_sign sg sign.Dot ≡ false
no_dot sg h = other_sign sg sign.Dot (λ e. let b : binding sg ≡ 0 = ap binding e in omega arith)

-- ---- first signs

abbrev pub firstly : Sign → ℕ
firstly sign.Minus = 1
firstly sign.Not = 2
firstly sign.If = 3
firstly sign.CloseBrace = 9
firstly _ = 0

abbrev pub start : Nonterminal → ℕ
start expression = 3
start (chain level.Or) = 2
start (chain level.And) = 2
start (chain level.Comparison) = 1
start (chain level.Sets) = 1
start (chain level.Sums) = 1
start (chain level.Products) = 1
start negation = 2
start unary = 1
start postfix = 0
start atom = 0

pub record First (n : ℕ) (ts : List Token) : Type 0 where
  pub token : Token
  pub others : List Token
  pub is : ts ≡ token ∷ others
  pub low : firstly (sign_of token.kind) ≤ n

looser : (n m : ℕ) (ts : List Token) → n ≤ m → First n ts → First m ts
looser n m ts h f = record { token = f.token; others = f.others; is = f.is; low = (let l = f.low in omega arith) }

first_more : (n : ℕ) (ts us : List Token) → First n ts → First n (ts ++ us)
first_more n ts us f = record { token = f.token; others = f.others ++ us; is = ap (λ l. l ++ us) f.is; low = f.low }

first_is : (n : ℕ) (t : Token) (ts : List Token) → firstly (sign_of t.kind) ≤ n → First n (t ∷ ts)
first_is n t ts h = record { token = t; others = ts; is = refl; low = h }

operand_start : (l : Level) → start (operand l) ≤ start (chain l)
operand_start level.Or = omega arith
operand_start level.And = omega arith
operand_start level.Comparison = omega arith
operand_start level.Sets = omega arith
operand_start level.Sums = omega arith
operand_start level.Products = omega arith

before_start : (l : Level) → start (before l) ≤ start (chain l)
before_start level.Or = omega arith
before_start level.And = omega arith
before_start level.Comparison = omega arith
before_start level.Sets = omega arith
before_start level.Sums = omega arith
before_start level.Products = omega arith

unprefixed_start : (p : Prefix) → start (unprefixed p) ≤ start (prefixing p)
unprefixed_start prefix.Minus = omega arith
unprefixed_start prefix.Not = omega arith

prefix_start : (p : Prefix) → firstly (prefix_sign p) ≤ start (prefixing p)
prefix_start prefix.Minus = omega arith
prefix_start prefix.Not = omega arith

pub unprefixed_below : (p : Prefix) → start (unprefixed p) < firstly (prefix_sign p)
unprefixed_below prefix.Minus = omega arith
unprefixed_below prefix.Not = omega arith

low_by : (sg s : Sign) (n : ℕ) → sg ≡ s → firstly s ≤ n → firstly sg ≤ n
low_by sg s n e h = let b : firstly sg ≡ firstly s = ap firstly e in omega arith

leaf_low : (line : ℕ) (sg : Sign) (e : Tree) → leaf_of line sg ≡ Some e → firstly sg ≤ 0
leaf_low line sign.True e h = omega arith
leaf_low line sign.False e h = omega arith
leaf_low line sign.Root e h = omega arith
leaf_low line sign.This e h = omega arith
leaf_low line sign.Caller e h = omega arith
leaf_low line sign.Operator e h = omega arith
leaf_low line _ e h = let wrong : ⊥ = cc in absurd wrong

leaf_first : (line : ℕ) (k : TokenKind) (e : Tree) → leaf line k ≡ Some e → firstly (sign_of k) ≤ 0
leaf_first line (kind.Name name) e h = omega arith
leaf_first line (kind.Reserved word) e h = leaf_low line (sign_of (kind.Reserved word)) e h
leaf_first line (kind.Number n) e h = omega arith
leaf_first line (kind.Text text) e h = omega arith
leaf_first line (kind.Symbol symbol) e h = leaf_low line (sign_of (kind.Symbol symbol)) e h

function_low : (sg : Sign) (h : Function) → function_of sg ≡ Some h → firstly sg ≤ 0
function_low sign.Count h e = omega arith
function_low sign.Only h e = omega arith
function_low sign.Min h e = omega arith
function_low sign.Max h e = omega arith
function_low _ h e = let wrong : ⊥ = cc in absurd wrong

quantifier_low : (sg : Sign) (h : Quantifier) → quantifier_of sg ≡ Some h → firstly sg ≤ 0
quantifier_low sign.Any h e = omega arith
quantifier_low sign.All h e = omega arith
quantifier_low _ h e = let wrong : ⊥ = cc in absurd wrong

pub first_sign : (n : Nonterminal) (ts : List Token) (f : Form) → Produces n ts f → First (start n) ts
first_sign _ _ _ (a_choice i t e cs xs ys c x y a b d g h k) = first_is 3 i _ (low_by (sign_of i.kind) sign.If 3 a (omega arith))
first_sign _ _ _ (no_choice ts f p) = looser 2 3 ts (omega arith) (first_sign _ ts f p)
first_sign _ _ _ (an_operand l ts f p) = looser (start (operand l)) (start (chain l)) ts (operand_start l) (first_sign _ ts f p)
first_sign _ _ _ (an_operation l op o xs ys x y p is q) =
    looser (start (before l)) (start (chain l)) _ (before_start l) (first_more _ xs (o ∷ ys) (first_sign _ xs x p))
first_sign _ _ _ (a_prefix p t ts f is q) = first_is (start (prefixing p)) t ts (low_by (sign_of t.kind) (prefix_sign p) _ is (prefix_start p))
first_sign _ _ _ (no_prefix p ts f q) = looser (start (unprefixed p)) (start (prefixing p)) ts (unprefixed_start p) (first_sign _ ts f q)
first_sign _ _ _ (no_step ts f p) = first_sign _ ts f p
first_sign _ _ _ (a_child d t name ts f p a b) = first_more 0 ts (d ∷ t ∷ []) (first_sign _ ts f p)
first_sign _ _ _ (an_up d t ts f p a b) = first_more 0 ts (d ∷ t ∷ []) (first_sign _ ts f p)
first_sign _ _ _ (a_leaf t e is) = first_is 0 t [] (leaf_first t.line t.kind e is)
first_sign _ _ _ (in_parentheses o c ts f a p b) = first_is 0 o _ (low_by (sign_of o.kind) sign.Open 0 a (omega arith))
first_sign _ _ _ (no_set o c a b) = first_is 0 o _ (low_by (sign_of o.kind) sign.OpenBrace 0 a (omega arith))
first_sign _ _ _ (a_set o c ts p a q b) = first_is 0 o _ (low_by (sign_of o.kind) sign.OpenBrace 0 a (omega arith))
first_sign _ _ _ (a_comprehension o c ts g a q b) = first_is 0 o _ (low_by (sign_of o.kind) sign.OpenBrace 0 a (omega arith))
first_sign _ _ _ (a_sum w o c ts g a b q d) = first_is 0 w _ (low_by (sign_of w.kind) sign.Sum 0 a (omega arith))
first_sign _ _ _ (a_call w o c h ts f a b q d) = first_is 0 w _ (function_low (sign_of w.kind) h a)
first_sign _ _ _ (a_test w o n i b c q name ss ps x p a1 a2 a3 a4 a5 a6 a7 a8) = first_is 0 w _ (quantifier_low (sign_of w.kind) q a1)

-- ---- words and brackets that begin a form with parts

abbrev pub leafless : Sign → Bool
leafless sign.Open = true
leafless sign.OpenBrace = true
leafless sign.Count = true
leafless sign.Only = true
leafless sign.Min = true
leafless sign.Max = true
leafless sign.Sum = true
leafless sign.Any = true
leafless sign.All = true
leafless _ = false

no_leaf_of : (line : ℕ) (sg : Sign) → leafless sg ≡ true → leaf_of line sg ≡ None
no_leaf_of line sign.Open e = refl
no_leaf_of line sign.OpenBrace e = refl
no_leaf_of line sign.Count e = refl
no_leaf_of line sign.Only e = refl
no_leaf_of line sign.Min e = refl
no_leaf_of line sign.Max e = refl
no_leaf_of line sign.Sum e = refl
no_leaf_of line sign.Any e = refl
no_leaf_of line sign.All e = refl
no_leaf_of line _ e = let wrong : ⊥ = cc in absurd wrong

pub no_leaf : (line : ℕ) (k : TokenKind) → leafless (sign_of k) ≡ true → leaf line k ≡ None
no_leaf line (kind.Name name) e = let wrong : ⊥ = cc in absurd wrong
no_leaf line (kind.Reserved word) e = no_leaf_of line (sign_of (kind.Reserved word)) e
no_leaf line (kind.Number n) e = let wrong : ⊥ = cc in absurd wrong
no_leaf line (kind.Text text) e = let wrong : ⊥ = cc in absurd wrong
no_leaf line (kind.Symbol symbol) e = no_leaf_of line (sign_of (kind.Symbol symbol)) e

pub function_leafless : (sg : Sign) (h : Function) → function_of sg ≡ Some h → leafless sg ≡ true
function_leafless sign.Count h e = refl
function_leafless sign.Only h e = refl
function_leafless sign.Min h e = refl
function_leafless sign.Max h e = refl
function_leafless _ h e = let wrong : ⊥ = cc in absurd wrong

pub quantifier_leafless : (sg : Sign) (h : Quantifier) → quantifier_of sg ≡ Some h → leafless sg ≡ true
quantifier_leafless sign.Any h e = refl
quantifier_leafless sign.All h e = refl
quantifier_leafless _ h e = let wrong : ⊥ = cc in absurd wrong
