-- Where forms may stand in forms, and which brackets are open there.
use Rattle.std.proofs.Common.{◌≡◌, ℕ, ◌+◌, ◌<◌, ◌≤◌, List, [], ◌∷◌, ◌++◌, Some, refl, sym, ap, subst, arith, append_assoc, append-nil}
use Rattle.std.specs.Prelude.{codes, pos}
use Rattle.sheet_syntax_trees.specs.declared.token.Token.{Token}
use Rattle.sheet_syntax_trees.specs.declared.token.TokenKind.{TokenKind}
use Rattle.sheet_syntax_trees.specs.declared.token.TokenKind.TheVariants as kind
use Rattle.sheet_syntax_trees.specs.declared.sign.Sign.{Sign}
use Rattle.sheet_syntax_trees.specs.declared.sign.Sign.TheVariants as sign
use Rattle.sheet_syntax_trees.specs.declared.operators.Operator.{Operator}
use Rattle.sheet_syntax_trees.specs.declared.operators.Level.{Level}
use Rattle.sheet_syntax_trees.specs.declared.operators.Level.TheVariants as level
use Rattle.sheet_syntax_trees.specs.declared.operators.Prefix.{Prefix}
use Rattle.sheet_syntax_trees.specs.declared.operators.Prefix.TheVariants as prefix
use Rattle.sheet_syntax_trees.specs.declared.operators.Function.{Function}
use Rattle.sheet_syntax_trees.specs.declared.operators.Gathering.{Gathering}
use Rattle.sheet_syntax_trees.specs.declared.operators.Gathering.TheVariants as gathering
use Rattle.sheet_syntax_trees.specs.declared.operators.Quantifier.{Quantifier}
use Rattle.sheet_syntax_trees.specs.declared.tree.Tree.{Tree}
use Rattle.sheet_syntax_trees.specs.declared.tree.Tree.TheVariants as tree
use Rattle.sheet_syntax_trees.specs.Signs.{sign_of}
use Rattle.sheet_syntax_trees.specs.Operators.{operator_among, prefix_sign}
use Rattle.sheet_syntax_trees.specs.Grammar.{Nonterminal, expression, chain, negation, unary, postfix, atom, operand, before, prefixing, unprefixed, Form, form}
use Rattle.sheet_syntax_trees.specs.Grammar.{Parts, function_of, quantifier_of, Produces, AreParts, Gathers, a_choice, no_choice, an_operand, an_operation}
use Rattle.sheet_syntax_trees.specs.Grammar.{a_prefix, no_prefix, no_step, a_child, an_up, a_leaf, in_parentheses, no_set, a_set, a_comprehension, a_sum}
use Rattle.sheet_syntax_trees.specs.Grammar.{a_call, a_test, one_part, more_parts, all_values, chosen_values}
use Rattle.sheet_syntax_trees.specs.Reading.{leaf, leaf_of}
use Rattle.sheet_syntax_trees.specs.Refusals.{opening, closing, opens, closes, Admits}
use Rattle.sheet_syntax_trees.proofs.Binding.{binding, level_height, operator_binding}

-- ---- tokens that end a form, and a form that may stand anywhere

abbrev pub spelled : TokenKind → Token
spelled k = record { kind = k; start = 0; end = 0; line = 0 }

abbrev pub then_token : Token
then_token = spelled (kind.Reserved (codes "then"))

abbrev pub else_token : Token
else_token = spelled (kind.Reserved (codes "else"))

abbrev pub in_token : Token
in_token = spelled (kind.Reserved (codes "in"))

abbrev pub open_token : Token
open_token = spelled (kind.Symbol (codes "("))

abbrev pub close_token : Token
close_token = spelled (kind.Symbol (codes ")"))

abbrev pub close_brace_token : Token
close_brace_token = spelled (kind.Symbol (codes "}"))

abbrev pub colon_token : Token
colon_token = spelled (kind.Symbol (codes ":"))

abbrev pub bar_token : Token
bar_token = spelled (kind.Symbol (codes "|"))

abbrev pub name_token : Token
name_token = spelled (kind.Name (codes "x"))

abbrev pub zero_token : Token
zero_token = spelled (kind.Number (pos 0))

abbrev pub zeros : List Token
zeros = zero_token ∷ []

abbrev zero_form : Form
zero_form = form (tree.Number 0 (pos 0)) 1 0

zero_atom : Produces atom zeros zero_form
zero_atom = a_leaf zero_token (tree.Number 0 (pos 0)) refl

zero_postfix : Produces postfix zeros zero_form
zero_postfix = no_step zeros zero_form zero_atom

zero_unary : Produces unary zeros zero_form
zero_unary = no_prefix prefix.Minus zeros zero_form zero_postfix

zero_chain : (l : Level) → Produces (operand l) zeros zero_form → Produces (chain l) zeros zero_form
zero_chain l p = an_operand l zeros zero_form p

zero_comparison : Produces (chain level.Comparison) zeros zero_form
zero_comparison = zero_chain level.Comparison (zero_chain level.Sets (zero_chain level.Sums (zero_chain level.Products zero_unary)))

zero_negation : Produces negation zeros zero_form
zero_negation = no_prefix prefix.Not zeros zero_form zero_comparison

pub zero_expression : Produces expression zeros zero_form
zero_expression = no_choice zeros zero_form (zero_chain level.Or (zero_chain level.And zero_negation))

pub a_zero : (n : Nonterminal) → Produces n zeros zero_form
a_zero expression = zero_expression
a_zero (chain level.Or) = zero_chain level.Or (zero_chain level.And zero_negation)
a_zero (chain level.And) = zero_chain level.And zero_negation
a_zero (chain level.Comparison) = zero_comparison
a_zero (chain level.Sets) = zero_chain level.Sets (zero_chain level.Sums (zero_chain level.Products zero_unary))
a_zero (chain level.Sums) = zero_chain level.Sums (zero_chain level.Products zero_unary)
a_zero (chain level.Products) = zero_chain level.Products zero_unary
a_zero negation = zero_negation
a_zero unary = zero_unary
a_zero postfix = zero_postfix
a_zero atom = zero_atom

-- ---- open brackets

-- so many of the brackets that the tokens open stay open
pub record Raised (k : ℕ) (ts : List Token) : Type 0 where
  pub is : opens ts ≡ closes ts + k

-- a sign that is no bracket
abbrev pub Flat : Sign → Type 0
Flat s = (opening s ≡ 0) × (closing s ≡ 0)

abbrev pub FlatToken : Token → Type 0
FlatToken t = Flat (sign_of t.kind)

opens_append : (xs ys : List Token) → opens (xs ++ ys) ≡ opens xs + opens ys
opens_append [] ys = omega arith
opens_append (x ∷ xs) ys = let h = opens_append xs ys in omega (arith, h)

closes_append : (xs ys : List Token) → closes (xs ++ ys) ≡ closes xs + closes ys
closes_append [] ys = omega arith
closes_append (x ∷ xs) ys = let h = closes_append xs ys in omega (arith, h)

pub flat_sign : (t : Token) (s : Sign) → sign_of t.kind ≡ s → Flat s → FlatToken t
flat_sign t s is f = subst Flat (sym is) f

pub plain : (k : ℕ) (t : Token) (ts : List Token) → FlatToken t → Raised k ts → Raised k (t ∷ ts)
plain k t ts f h = let a = f.0 in let b = f.1 in let c = h.is in record { is = omega (arith, a, b, c) }

pub over : (k : ℕ) (xs ys : List Token) → Raised 0 xs → Raised k ys → Raised k (xs ++ ys)
over k xs ys a b = let o = opens_append xs ys in let c = closes_append xs ys in let d = a.is in let e = b.is in record { is = omega (arith, o, c, d, e) }

pub open_up : (k : ℕ) (t : Token) (ts : List Token) → (opening (sign_of t.kind) ≡ 1) × (closing (sign_of t.kind) ≡ 0) → Raised k ts → Raised (k + 1) (t ∷ ts)
open_up k t ts f h = let a = f.0 in let b = f.1 in let c = h.is in record { is = omega (arith, a, b, c) }

pub both_raised : (j k : ℕ) (xs ys : List Token) → Raised j xs → Raised k ys → Raised (j + k) (xs ++ ys)
both_raised j k xs ys a b = let o = opens_append xs ys in let c = closes_append xs ys in let d = a.is in let e = b.is in
    record { is = omega (arith, o, c, d, e) }

abbrev pub Opens : Token → Type 0
Opens t = (opening (sign_of t.kind) ≡ 1) × (closing (sign_of t.kind) ≡ 0)

abbrev pub Closes : Token → Type 0
Closes t = (opening (sign_of t.kind) ≡ 0) × (closing (sign_of t.kind) ≡ 1)

pub opening_is : (t : Token) → sign_of t.kind ≡ sign.Open → Opens t
opening_is t is = let P : Sign → Type 0 = λ s. (opening s ≡ 1) × (closing s ≡ 0) in subst P (sym is) (refl, refl)

pub opening_brace_is : (t : Token) → sign_of t.kind ≡ sign.OpenBrace → Opens t
opening_brace_is t is = let P : Sign → Type 0 = λ s. (opening s ≡ 1) × (closing s ≡ 0) in subst P (sym is) (refl, refl)

closing_is : (t : Token) → sign_of t.kind ≡ sign.Close → Closes t
closing_is t is = let P : Sign → Type 0 = λ s. (opening s ≡ 0) × (closing s ≡ 1) in subst P (sym is) (refl, refl)

closing_brace_is : (t : Token) → sign_of t.kind ≡ sign.CloseBrace → Closes t
closing_brace_is t is = let P : Sign → Type 0 = λ s. (opening s ≡ 0) × (closing s ≡ 1) in subst P (sym is) (refl, refl)

in_brackets : (o c : Token) (ts : List Token) → Opens o → Closes c → Raised 0 ts → Raised 0 (o ∷ (ts ++ c ∷ []))
in_brackets o c ts a b h =
    let p = opens_append ts (c ∷ []) in
    let q = closes_append ts (c ∷ []) in
    let a0 = a.0 in let a1 = a.1 in let b0 = b.0 in let b1 = b.1 in
    let e = h.is in
    record { is = omega (arith, p, q, a0, a1, b0, b1, e) }

leaf_of_flat : (line : ℕ) (s : Sign) (e : Tree) → leaf_of line s ≡ Some e → Flat s
leaf_of_flat line sign.True e h = (refl, refl)
leaf_of_flat line sign.False e h = (refl, refl)
leaf_of_flat line sign.Root e h = (refl, refl)
leaf_of_flat line sign.This e h = (refl, refl)
leaf_of_flat line sign.Caller e h = (refl, refl)
leaf_of_flat line sign.Operator e h = (refl, refl)
leaf_of_flat line _ e h = let wrong : ⊥ = cc in absurd wrong

leaf_flat : (line : ℕ) (k : TokenKind) (e : Tree) → leaf line k ≡ Some e → Flat (sign_of k)
leaf_flat line (kind.Name name) e h = (refl, refl)
leaf_flat line (kind.Reserved word) e h = leaf_of_flat line (sign_of (kind.Reserved word)) e h
leaf_flat line (kind.Number n) e h = (refl, refl)
leaf_flat line (kind.Text text) e h = (refl, refl)
leaf_flat line (kind.Symbol symbol) e h = leaf_of_flat line (sign_of (kind.Symbol symbol)) e h

binding_flat : (s : Sign) → binding s < 7 → Flat s
binding_flat sign.Open h = absurd (omega arith)
binding_flat sign.OpenBrace h = absurd (omega arith)
binding_flat sign.Close h = absurd (omega arith)
binding_flat sign.CloseBrace h = absurd (omega arith)
binding_flat _ h = (refl, refl)

height_below : (l : Level) → level_height l < 7
height_below level.Or = omega arith
height_below level.And = omega arith
height_below level.Comparison = omega arith
height_below level.Sets = omega arith
height_below level.Sums = omega arith
height_below level.Products = omega arith

pub operator_flat : (l : Level) (o : Token) (op : Operator) → operator_among l (sign_of o.kind) ≡ Some op → FlatToken o
operator_flat l o op is =
    let b = operator_binding l (sign_of o.kind) op is in
    let h = height_below l in
    binding_flat (sign_of o.kind) (omega (arith, b, h))

function_flat : (s : Sign) (h : Function) → function_of s ≡ Some h → Flat s
function_flat sign.Count h e = (refl, refl)
function_flat sign.Only h e = (refl, refl)
function_flat sign.Min h e = (refl, refl)
function_flat sign.Max h e = (refl, refl)
function_flat _ h e = let wrong : ⊥ = cc in absurd wrong

quantifier_flat : (s : Sign) (h : Quantifier) → quantifier_of s ≡ Some h → Flat s
quantifier_flat sign.Any h e = (refl, refl)
quantifier_flat sign.All h e = (refl, refl)
quantifier_flat _ h e = let wrong : ⊥ = cc in absurd wrong

pub prefix_flat : (p : Prefix) (t : Token) → sign_of t.kind ≡ prefix_sign p → FlatToken t
prefix_flat prefix.Minus t is = flat_sign t sign.Minus is (refl, refl)
prefix_flat prefix.Not t is = flat_sign t sign.Not is (refl, refl)

pub named_flat : (t : Token) (name : List ℕ) → t.kind ≡ kind.Name name → FlatToken t
named_flat t name is = flat_sign t sign.Name (ap sign_of is) (refl, refl)

level_nil : Raised 0 []
level_nil = record { is = refl }

mutual
  -- each form closes the brackets that it opens
  pub balanced : (n : Nonterminal) (ts : List Token) (f : Form) → Produces n ts f → Raised 0 ts
  balanced _ _ _ (a_choice i t e cs xs ys c x y a b d g h k) =
      plain 0 i _ (flat_sign i sign.If a (refl, refl))
      (over 0 cs _ (balanced _ cs c b)
      (plain 0 t _ (flat_sign t sign.Then d (refl, refl))
      (over 0 xs _ (balanced _ xs x g) (plain 0 e ys (flat_sign e sign.Else h (refl, refl)) (balanced _ ys y k)))))
  balanced _ _ _ (no_choice ts f p) = balanced _ ts f p
  balanced _ _ _ (an_operand l ts f p) = balanced _ ts f p
  balanced _ _ _ (an_operation l op o xs ys x y p is q) = over 0 xs _ (balanced _ xs x p) (plain 0 o ys (operator_flat l o op is) (balanced _ ys y q))
  balanced _ _ _ (a_prefix p t ts f is q) = plain 0 t ts (prefix_flat p t is) (balanced _ ts f q)
  balanced _ _ _ (no_prefix p ts f q) = balanced _ ts f q
  balanced _ _ _ (no_step ts f p) = balanced _ ts f p
  balanced _ _ _ (a_child d t name ts f p a b) =
      over 0 ts _ (balanced _ ts f p) (plain 0 d _ (flat_sign d sign.Dot a (refl, refl)) (plain 0 t [] (named_flat t name b) level_nil))
  balanced _ _ _ (an_up d t ts f p a b) =
      over 0 ts _ (balanced _ ts f p) (plain 0 d _ (flat_sign d sign.Dot a (refl, refl)) (plain 0 t [] (flat_sign t sign.Up b (refl, refl)) level_nil))
  balanced _ _ _ (a_leaf t e is) = plain 0 t [] (leaf_flat t.line t.kind e is) level_nil
  balanced _ _ _ (in_parentheses o c ts f a p b) = in_brackets o c ts (opening_is o a) (closing_is c b) (balanced _ ts f p)
  balanced _ _ _ (no_set o c a b) = in_brackets o c [] (opening_brace_is o a) (closing_brace_is c b) level_nil
  balanced _ _ _ (a_set o c ts p a q b) = in_brackets o c ts (opening_brace_is o a) (closing_brace_is c b) (balanced_parts ts p q)
  balanced _ _ _ (a_comprehension o c ts g a q b) =
      in_brackets o c ts (opening_brace_is o a) (closing_brace_is c b) (balanced_gathers o.line gathering.Union ts g q)
  balanced _ _ _ (a_sum w o c ts g a b q d) =
      plain 0 w _ (flat_sign w sign.Sum a (refl, refl)) (in_brackets o c ts (opening_is o b) (closing_is c d) (balanced_gathers w.line gathering.Sum ts g q))
  balanced _ _ _ (a_call w o c h ts f a b q d) =
      plain 0 w _ (function_flat (sign_of w.kind) h a) (in_brackets o c ts (opening_is o b) (closing_is c d) (balanced _ ts f q))
  balanced _ _ _ (a_test w o n i b c q name ss ps x p a1 a2 a3 a4 a5 a6 a7 a8) =
      let P : List Token → Type 0 = λ l. Raised 0 (w ∷ o ∷ n ∷ i ∷ l) in
      subst P (append_assoc ss (b ∷ ps) (c ∷ []))
      (plain 0 w _ (quantifier_flat (sign_of w.kind) q a1)
      (in_brackets o c (n ∷ i ∷ (ss ++ b ∷ ps)) (opening_is o a2) (closing_is c a8)
      (plain 0 n _ (named_flat n name a3)
      (plain 0 i _ (flat_sign i sign.In a4 (refl, refl))
      (over 0 ss _ (balanced _ ss x a5) (plain 0 b ps (flat_sign b sign.Bar a6 (refl, refl)) (balanced _ ps p a7)))))))

  pub balanced_parts : (ts : List Token) (p : Parts) → AreParts ts p → Raised 0 ts
  balanced_parts _ _ (one_part ts f p) = balanced _ ts f p
  balanced_parts _ _ (more_parts k xs ys p y q is r) =
      over 0 xs _ (balanced_parts xs p q) (plain 0 k ys (flat_sign k sign.Comma is (refl, refl)) (balanced _ ys y r))

  pub balanced_gathers : (line : ℕ) (g : Gathering) (ts : List Token) (f : Form) → Gathers line g ts f → Raised 0 ts
  balanced_gathers _ _ _ _ (all_values line g k n i name fs ss f x a1 a2 a3 a4 a5) =
      over 0 fs _ (balanced _ fs f a1)
      (plain 0 k _ (flat_sign k sign.Colon a2 (refl, refl))
      (plain 0 n _ (named_flat n name a3) (plain 0 i _ (flat_sign i sign.In a4 (refl, refl)) (balanced _ ss x a5))))
  balanced_gathers _ _ _ _ (chosen_values line g k n i b name fs ss ps f x p a1 a2 a3 a4 a5 a6 a7) =
      over 0 fs _ (balanced _ fs f a1)
      (plain 0 k _ (flat_sign k sign.Colon a2 (refl, refl)) (plain 0 n _ (named_flat n name a3) (plain 0 i _ (flat_sign i sign.In a4 (refl, refl))
      (over 0 ss _ (balanced _ ss x a5) (plain 0 b ps (flat_sign b sign.Bar a6 (refl, refl)) (balanced _ ps p a7))))))

-- ---- contexts: a place for a form, with so many brackets open

pub record Context (k : ℕ) (n : Nonterminal) (front : List Token) (m : Nonterminal) : Type 0 where
  pub admits : Admits n front m
  pub raised : Raised k front

-- a place that some form of the production has
place : (k : ℕ) (n : Nonterminal) (front : List Token) (m : Nonterminal) (behind : List Token) → Raised k front
    → ((mid : List Token) (f : Form) → Produces m mid f →
    (w : Form) × (whole : List Token) × Produces n whole w × (whole ≡ front ++ (mid ++ behind)) × (f.depth ≤ w.depth)) → Context k n front m
place k n front m behind raised make =
    record {
      admits = record {
        behind = behind;
        whole = λ mid f p.
            let (w, whole, q, is, deep) = make mid f p in
            let P : List Token → Type 0 = λ l. Produces n l w in
            (w, subst P is q, deep);
      };
      raised = raised;
    }

pub nowhere : (n : Nonterminal) → Context 0 n [] n
nowhere n = place 0 n [] n [] level_nil (λ mid f p. (f, mid, p, sym (append-nil mid), omega arith))

pub in_choice_first : (i : Token) → sign_of i.kind ≡ sign.If → Context 0 expression (i ∷ []) expression
in_choice_first i is =
    place 0 expression (i ∷ []) expression (then_token ∷ (zeros ++ else_token ∷ zeros)) (plain 0 i [] (flat_sign i sign.If is (refl, refl)) level_nil)
    (λ mid f p. (_, _, a_choice i then_token else_token mid zeros zeros f _ _ is p refl zero_expression refl zero_expression, refl, omega arith))

pub in_choice_second : (i t : Token) (cs : List Token) (c : Form) → sign_of i.kind ≡ sign.If → Produces expression cs c → sign_of t.kind ≡ sign.Then →
    Context 0 expression ((i ∷ cs) ++ t ∷ []) expression
in_choice_second i t cs c is p then =
    place 0 expression ((i ∷ cs) ++ t ∷ []) expression (else_token ∷ zeros)
    (over 0 (i ∷ cs) (t ∷ []) (plain 0 i cs (flat_sign i sign.If is (refl, refl)) (balanced _ cs c p))
    (plain 0 t [] (flat_sign t sign.Then then (refl, refl)) level_nil))
    (λ mid f q. (
      _,
      _,
      a_choice i t else_token cs mid zeros c f _ is p then q refl zero_expression,
      sym (append_assoc (i ∷ cs) (t ∷ []) (mid ++ else_token ∷ zeros)),
      omega arith,
    ))

pub in_choice_third : (i t e : Token) (cs xs : List Token) (c x : Form) → sign_of i.kind ≡ sign.If → Produces expression cs c → sign_of t.kind ≡ sign.Then →
    Produces expression xs x → sign_of e.kind ≡ sign.Else
    → Context 0 expression ((i ∷ (cs ++ t ∷ xs)) ++ e ∷ []) expression
in_choice_third i t e cs xs c x is p then q else =
    place 0 expression ((i ∷ (cs ++ t ∷ xs)) ++ e ∷ []) expression []
    (over 0 (i ∷ (cs ++ t ∷ xs)) (e ∷ [])
    (plain 0 i _ (flat_sign i sign.If is (refl, refl))
    (over 0 cs _ (balanced _ cs c p) (plain 0 t xs (flat_sign t sign.Then then (refl, refl)) (balanced _ xs x q))))
    (plain 0 e [] (flat_sign e sign.Else else (refl, refl)) level_nil))
    (λ mid f r. (_, _, a_choice i t e cs xs mid c x f is p then q else r, simp (append_assoc, append-nil) refl, omega arith))

pub in_choice_no : Context 0 expression [] (chain level.Or)
in_choice_no = place 0 expression [] (chain level.Or) [] level_nil (λ mid f p. (f, _, no_choice mid f p, sym (append-nil mid), omega arith))

pub at_operand : (l : Level) → Context 0 (chain l) [] (operand l)
at_operand l = place 0 (chain l) [] (operand l) [] level_nil (λ mid f p. (f, _, an_operand l mid f p, sym (append-nil mid), omega arith))

pub behind_operator : (l : Level) (op : Operator) (o : Token) (xs : List Token) (x : Form) → Produces (before l) xs x →
    operator_among l (sign_of o.kind) ≡ Some op → Context 0 (chain l) (xs ++ o ∷ []) (operand l)
behind_operator l op o xs x p is =
    place 0 (chain l) (xs ++ o ∷ []) (operand l) [] (over 0 xs (o ∷ []) (balanced _ xs x p) (plain 0 o [] (operator_flat l o op is) level_nil))
    (λ mid f q. (_, _, an_operation l op o xs mid x f p is q, simp (append_assoc, append-nil) refl, omega arith))

pub behind_prefix : (p : Prefix) (t : Token) → sign_of t.kind ≡ prefix_sign p → Context 0 (prefixing p) (t ∷ []) (prefixing p)
behind_prefix p t is =
    place 0 (prefixing p) (t ∷ []) (prefixing p) [] (plain 0 t [] (prefix_flat p t is) level_nil)
    (λ mid f q. (_, _, a_prefix p t mid f is q, simp (append-nil) refl, omega arith))

pub without_prefix : (p : Prefix) → Context 0 (prefixing p) [] (unprefixed p)
without_prefix p = place 0 (prefixing p) [] (unprefixed p) [] level_nil (λ mid f q. (f, _, no_prefix p mid f q, sym (append-nil mid), omega arith))

pub at_atom : Context 0 postfix [] atom
at_atom = place 0 postfix [] atom [] level_nil (λ mid f p. (f, _, no_step mid f p, sym (append-nil mid), omega arith))

pub in_parenthesis : (o : Token) → sign_of o.kind ≡ sign.Open → Context 1 atom (o ∷ []) expression
in_parenthesis o is =
    place 1 atom (o ∷ []) expression (close_token ∷ []) (open_up 0 o [] (opening_is o is) level_nil)
    (λ mid f p. (_, _, in_parentheses o close_token mid f is p refl, refl, omega arith))

pub in_call : (w o : Token) (h : Function) → function_of (sign_of w.kind) ≡ Some h → sign_of o.kind ≡ sign.Open → Context 1 atom ((w ∷ []) ++ o ∷ []) expression
in_call w o h a b =
    place 1 atom (w ∷ o ∷ []) expression (close_token ∷ [])
    (plain 1 w (o ∷ []) (function_flat (sign_of w.kind) h a) (open_up 0 o [] (opening_is o b) level_nil))
    (λ mid f p. (_, _, a_call w o close_token h mid f a b p refl, refl, omega arith))

pub in_test_source : (w o n i : Token) (q : Quantifier) (name : List ℕ) → quantifier_of (sign_of w.kind) ≡ Some q → sign_of o.kind ≡ sign.Open →
    n.kind ≡ kind.Name name → sign_of i.kind ≡ sign.In
    → Context 1 atom ((w ∷ o ∷ n ∷ []) ++ i ∷ []) expression
in_test_source w o n i q name a b c d =
    place 1 atom (w ∷ o ∷ n ∷ i ∷ []) expression (bar_token ∷ (zeros ++ close_token ∷ []))
    (plain 1 w _ (quantifier_flat (sign_of w.kind) q a)
    (open_up 0 o _ (opening_is o b) (plain 0 n _ (named_flat n name c) (plain 0 i [] (flat_sign i sign.In d (refl, refl)) level_nil))))
    (λ mid f p. (_, _, a_test w o n i bar_token close_token q name mid zeros f _ a b c d p refl zero_expression refl, refl, omega arith))

pub in_test_condition : (w o n i k : Token) (q : Quantifier) (name : List ℕ) (ss : List Token) (x : Form) → quantifier_of (sign_of w.kind) ≡ Some q →
    sign_of o.kind ≡ sign.Open → n.kind ≡ kind.Name name → sign_of i.kind ≡ sign.In
    → Produces expression ss x → sign_of k.kind ≡ sign.Bar → Context 1 atom ((w ∷ o ∷ n ∷ i ∷ ss) ++ k ∷ []) expression
in_test_condition w o n i k q name ss x a b c d s e =
    place 1 atom ((w ∷ o ∷ n ∷ i ∷ ss) ++ k ∷ []) expression (close_token ∷ [])
    (plain 1 w _ (quantifier_flat (sign_of w.kind) q a)
    (open_up 0 o _ (opening_is o b) (plain 0 n _ (named_flat n name c) (plain 0 i _ (flat_sign i sign.In d (refl, refl))
    (over 0 ss (k ∷ []) (balanced _ ss x s) (plain 0 k [] (flat_sign k sign.Bar e (refl, refl)) level_nil))))))
    (λ mid f p. (_, _, a_test w o n i k close_token q name ss mid x f a b c d s e p refl, simp (append_assoc) refl, omega arith))

-- ---- a comprehension in braces or a sum, of which these tokens stand before the body

pub record Wrap (line : ℕ) (g : Gathering) (ending : Sign) (front : List Token) : Type 0 where
  pub last : Token
  pub closed : sign_of last.kind ≡ ending
  pub raised : Raised 1 front
  pub whole : (c : Token) (ts : List Token) (f : Form) → Gathers line g ts f → sign_of c.kind ≡ ending →
      Produces atom (front ++ (ts ++ c ∷ [])) (form f.tree (f.depth + 1) (f.nest + 1))

pub in_braces : (o : Token) → sign_of o.kind ≡ sign.OpenBrace → Wrap o.line gathering.Union sign.CloseBrace (o ∷ [])
in_braces o is =
    record {
      last = close_brace_token;
      closed = refl;
      raised = open_up 0 o [] (opening_brace_is o is) level_nil;
      whole =
          λ c ts f p h. a_comprehension o c ts f is p h;
    }

pub in_sum : (w o : Token) → sign_of w.kind ≡ sign.Sum → sign_of o.kind ≡ sign.Open → Wrap w.line gathering.Sum sign.Close (w ∷ o ∷ [])
in_sum w o a b =
    record {
      last = close_token;
      closed = refl;
      raised = plain 1 w _ (flat_sign w sign.Sum a (refl, refl)) (open_up 0 o [] (opening_is o b) level_nil);
      whole =
          λ c ts f p h. a_sum w o c ts f a b p h;
    }

pub at_body : (line : ℕ) (g : Gathering) (ending : Sign) (front : List Token) → Wrap line g ending front → Context 1 atom front expression
at_body line g ending front w =
    place 1 atom front expression (colon_token ∷ name_token ∷ in_token ∷ (zeros ++ w.last ∷ [])) w.raised
    (λ mid f p. (
      _,
      _,
      w.whole w.last _ _ (all_values line g colon_token name_token in_token (codes "x") mid zeros f _ p refl refl refl zero_expression)
          w.closed,
      simp (append_assoc) refl,
      omega arith,
    ))

pub at_source : (line : ℕ) (g : Gathering) (ending : Sign) (front : List Token) → Wrap line g ending front →
    (k n i : Token) (name : List ℕ) (fs : List Token) (x : Form) → Produces expression fs x → sign_of k.kind ≡ sign.Colon → n.kind ≡ kind.Name name
    → sign_of i.kind ≡ sign.In → Context 1 atom ((front ++ (fs ++ k ∷ n ∷ [])) ++ i ∷ []) expression
at_source line g ending front w k n i name fs x p a b c =
    place 1 atom ((front ++ (fs ++ k ∷ n ∷ [])) ++ i ∷ []) expression (w.last ∷ [])
    (both_raised 1 0 (front ++ (fs ++ k ∷ n ∷ [])) (i ∷ [])
    (both_raised 1 0 front (fs ++ k ∷ n ∷ []) w.raised
    (over 0 fs _ (balanced _ fs x p) (plain 0 k _ (flat_sign k sign.Colon a (refl, refl)) (plain 0 n [] (named_flat n name b) level_nil))))
    (plain 0 i [] (flat_sign i sign.In c (refl, refl)) level_nil))
    (λ mid f q. (_, _, w.whole w.last _ _ (all_values line g k n i name fs mid x f p a b c q) w.closed, simp (append_assoc) refl, omega arith))

pub at_condition : (line : ℕ) (g : Gathering) (ending : Sign) (front : List Token) → Wrap line g ending front →
    (k n i b : Token) (name : List ℕ) (fs ss : List Token) (x s : Form) → Produces expression fs x → sign_of k.kind ≡ sign.Colon → n.kind ≡ kind.Name name
    → sign_of i.kind ≡ sign.In → Produces expression ss s → sign_of b.kind ≡ sign.Bar → Context 1 atom ((front ++ (fs ++ k ∷ n ∷ i ∷ ss)) ++ b ∷ []) expression
at_condition line g ending front w k n i b name fs ss x s p a1 a2 a3 q a4 =
    place 1 atom ((front ++ (fs ++ k ∷ n ∷ i ∷ ss)) ++ b ∷ []) expression (w.last ∷ [])
    (both_raised 1 0 (front ++ (fs ++ k ∷ n ∷ i ∷ ss)) (b ∷ [])
    (both_raised 1 0 front (fs ++ k ∷ n ∷ i ∷ ss) w.raised
    (over 0 fs _ (balanced _ fs x p)
    (plain 0 k _ (flat_sign k sign.Colon a1 (refl, refl))
    (plain 0 n _ (named_flat n name a2) (plain 0 i _ (flat_sign i sign.In a3 (refl, refl)) (balanced _ ss s q))))))
    (plain 0 b [] (flat_sign b sign.Bar a4 (refl, refl)) level_nil))
    (λ mid f r. (
      _,
      _,
      w.whole w.last _ _ (chosen_values line g k n i b name fs ss mid x s f p a1 a2 a3 q a4 r) w.closed,
      simp (append_assoc) refl,
      omega arith,
    ))

-- ---- sets

pub at_first_part : (o : Token) → sign_of o.kind ≡ sign.OpenBrace → Context 1 atom (o ∷ []) expression
at_first_part o is =
    place 1 atom (o ∷ []) expression (close_brace_token ∷ []) (open_up 0 o [] (opening_brace_is o is) level_nil)
    (λ mid f p. (_, _, a_set o close_brace_token mid _ is (one_part mid f p) refl, refl, omega arith))

pub at_next_part : (o k : Token) (fs : List Token) (p : Parts) → sign_of o.kind ≡ sign.OpenBrace → AreParts fs p → sign_of k.kind ≡ sign.Comma →
    Context 1 atom ((o ∷ fs) ++ k ∷ []) expression
at_next_part o k fs p is q comma =
    place 1 atom ((o ∷ fs) ++ k ∷ []) expression (close_brace_token ∷ [])
    (open_up 0 o _ (opening_brace_is o is) (over 0 fs (k ∷ []) (balanced_parts fs p q) (plain 0 k [] (flat_sign k sign.Comma comma (refl, refl)) level_nil)))
    (λ mid f r. (_, _, a_set o close_brace_token (fs ++ k ∷ mid) _ is (more_parts k fs mid p f q comma r) refl, simp (append_assoc) refl, omega arith))
