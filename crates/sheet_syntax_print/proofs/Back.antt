-- A printed formula is read as itself.
use Rattle.std.proofs.Common.{◌≡◌, ℕ, ◌<◌, ◌≤◌, ◌+◌, ◌^◌, max, List, [], ◌∷◌, ◌++◌, length, map, true, false, refl, sym, ap, ◌∙◌, subst, arith, append_assoc}
use Rattle.std.proofs.Common.{append-nil, Some, Ok, Err, pos}
use Rattle.std.specs.Prelude.{codes, nat_le, flat_map, Result, IfOk}
use Rattle.sheet_syntax_trees.specs.declared.token.SyntaxRefusal.{SyntaxRefusal}
use Rattle.std.specs.List.{join_by}
use Rattle.std.proofs.lemmas.Grind.{common_steps}
use Rattle.sheet_syntax_trees.specs.declared.token.Token.{Token}
use Rattle.sheet_syntax_trees.specs.declared.token.TokenKind.{TokenKind}
use Rattle.sheet_syntax_trees.specs.declared.token.TokenKind.TheVariants as kind
use Rattle.sheet_syntax_trees.specs.Tokens.{tokens_from, with_tokens, is_reserved, word_kind}
use Rattle.sheet_syntax_trees.specs.Bytes.{is_letter, is_in_word}
use Rattle.sheet_syntax_trees.proofs.Seeing.{AllPass, Seen, both_seen, token, Ends, IsWord, word_seen, number_seen}
use Rattle.sheet_syntax_trees.proofs.Printable.{Lexable, Good, good_front, lexed_good}
use Rattle.sheet_syntax_trees.specs.declared.sign.Sign.{Sign}
use Rattle.sheet_syntax_trees.specs.declared.sign.Sign.TheVariants as sign
use Rattle.sheet_syntax_trees.specs.declared.operators.Operator.{Operator}
use Rattle.sheet_syntax_trees.specs.declared.operators.Operator.TheVariants as operator
use Rattle.sheet_syntax_trees.specs.declared.operators.Level.{Level}
use Rattle.sheet_syntax_trees.specs.declared.operators.Level.TheVariants as level
use Rattle.sheet_syntax_trees.specs.declared.operators.Prefix.{Prefix}
use Rattle.sheet_syntax_trees.specs.declared.operators.Prefix.TheVariants as prefix
use Rattle.sheet_syntax_trees.specs.declared.operators.Function.{Function}
use Rattle.sheet_syntax_trees.specs.declared.operators.Function.TheVariants as function
use Rattle.sheet_syntax_trees.specs.declared.operators.Gathering.{Gathering}
use Rattle.sheet_syntax_trees.specs.declared.operators.Gathering.TheVariants as gathering
use Rattle.sheet_syntax_trees.specs.declared.operators.Quantifier.{Quantifier}
use Rattle.sheet_syntax_trees.specs.declared.operators.Quantifier.TheVariants as quantifier
use Rattle.sheet_syntax_trees.specs.declared.tree.Tree.{Tree}
use Rattle.sheet_syntax_trees.specs.declared.tree.Tree.TheVariants as tree
use Rattle.sheet_syntax_trees.specs.Signs.{sign_of}
use Rattle.sheet_syntax_trees.specs.Operators.{operator_among, prefixed}
use Rattle.sheet_syntax_trees.specs.Grammar.{Nonterminal, expression, chain, negation, unary, postfix, operand as operand_of, before, Form, form, Parts}
use Rattle.sheet_syntax_trees.specs.Grammar.{function_of, quantifier_of, Produces, AreParts, Gathers, a_choice, no_choice, an_operand, an_operation, a_prefix}
use Rattle.sheet_syntax_trees.specs.Grammar.{no_prefix, no_step, a_child, an_up, a_leaf, in_parentheses, no_set, a_set, a_comprehension, a_sum, a_call, a_test}
use Rattle.sheet_syntax_trees.specs.Grammar.{one_part, more_parts, all_values, chosen_values}
use Rattle.sheet_syntax_trees.specs.Reading.{leaf, leaf_of, line_of}
use Rattle.sheet_syntax_trees.specs.Texts.{StandsFor, on_one_line}
use Rattle.sheet_syntax_trees.specs.Printing.{formula_text, is_enclosed, operand, operator_text, function_text, quantifier_text, opening_text, closing_text}
use Rattle.sheet_syntax_print.proofs.Laws.{text-Child, text-Up, text-Negate, text-Not, text-Binary, text-If, text-Call, text-Gather, text-GatherWhere}
use Rattle.sheet_syntax_print.proofs.Laws.{text-Test, text-Set, line-Child, line-Up, line-Negate, line-Not, line-Binary, line-If, line-Call, line-Gather}
use Rattle.sheet_syntax_print.proofs.Laws.{line-GatherWhere, line-Test, line-Set, enclosed-Child, enclosed-Up, enclosed-Negate, enclosed-Not, enclosed-Binary}
use Rattle.sheet_syntax_print.proofs.Laws.{enclosed-If, enclosed-Call, enclosed-Gather, enclosed-GatherWhere, enclosed-Test, enclosed-Set}
use Rattle.sheet_syntax_print.proofs.Quoting.{text_seen}

-- ---- what is read of a text at an offset of the first line, before that rest

pub record Read (n : Nonterminal) (text rest : List ℕ) (at : ℕ) (e : Tree) (depth most : ℕ) : Type 0 where
  pub ts : List Token
  pub nest : ℕ
  pub seen : Seen text rest at ts
  pub produced : Produces n ts (form e depth nest)
  pub narrow : nest ≤ most
  pub lined : line_of ts ≡ 1

abbrev pub Back : Nonterminal → List ℕ → Tree → ℕ → ℕ → Type 0
Back n text e depth most = (at : ℕ) (rest : List ℕ) → Ends rest → Read n text rest at e depth most

-- a formula is read back, and as an operand too
pub record Both (e : Tree) (depth : ℕ) : Type 0 where
  pub whole : Back expression (formula_text e) (on_one_line e) depth depth
  pub part : Back postfix (operand e (formula_text e)) (on_one_line e) depth depth

-- ---- operands are forms of all levels

abbrev Climbs : Nonterminal → Nonterminal → Type 0
Climbs n m = (ts : List Token) (f : Form) → Produces n ts f → Produces m ts f

to_unary : Climbs postfix unary
to_unary ts f p = no_prefix prefix.Minus ts f p

to_comparison : Climbs postfix (chain level.Comparison)
to_comparison ts f p =
    an_operand level.Comparison ts f (an_operand level.Sets ts f (an_operand level.Sums ts f (an_operand level.Products ts f (to_unary ts f p))))

to_negation : Climbs postfix negation
to_negation ts f p = no_prefix prefix.Not ts f (to_comparison ts f p)

to_operand : (l : Level) → Climbs postfix (operand_of l)
to_operand level.Or ts f p = an_operand level.And ts f (to_negation ts f p)
to_operand level.And ts f p = to_negation ts f p
to_operand level.Comparison ts f p = an_operand level.Sets ts f (an_operand level.Sums ts f (an_operand level.Products ts f (to_unary ts f p)))
to_operand level.Sets ts f p = an_operand level.Sums ts f (an_operand level.Products ts f (to_unary ts f p))
to_operand level.Sums ts f p = an_operand level.Products ts f (to_unary ts f p)
to_operand level.Products ts f p = to_unary ts f p

to_before : (l : Level) → Climbs postfix (before l)
to_before level.Or ts f p = an_operand level.Or ts f (to_operand level.Or ts f p)
to_before level.And ts f p = an_operand level.And ts f (to_operand level.And ts f p)
to_before level.Comparison ts f p = to_operand level.Comparison ts f p
to_before level.Sets ts f p = an_operand level.Sets ts f (to_operand level.Sets ts f p)
to_before level.Sums ts f p = an_operand level.Sums ts f (to_operand level.Sums ts f p)
to_before level.Products ts f p = an_operand level.Products ts f (to_operand level.Products ts f p)

from_negation : Climbs negation expression
from_negation ts f p = no_choice ts f (an_operand level.Or ts f (an_operand level.And ts f p))

from_comparison : Climbs (chain level.Comparison) expression
from_comparison ts f p = from_negation ts f (no_prefix prefix.Not ts f p)

from_unary : Climbs unary expression
from_unary ts f p =
    from_comparison ts f (an_operand level.Comparison ts f (an_operand level.Sets ts f (an_operand level.Sums ts f (an_operand level.Products ts f p))))

from_chain : (l : Level) → Climbs (chain l) expression
from_chain level.Or ts f p = no_choice ts f p
from_chain level.And ts f p = no_choice ts f (an_operand level.Or ts f p)
from_chain level.Comparison ts f p = from_comparison ts f p
from_chain level.Sets ts f p = from_comparison ts f (an_operand level.Comparison ts f p)
from_chain level.Sums ts f p = from_comparison ts f (an_operand level.Comparison ts f (an_operand level.Sets ts f p))
from_chain level.Products ts f p = from_comparison ts f (an_operand level.Comparison ts f (an_operand level.Sets ts f (an_operand level.Sums ts f p)))

from_postfix : Climbs postfix expression
from_postfix ts f p = from_unary ts f (to_unary ts f p)

-- ---- pieces of fixed text, before any rest

abbrev Piece : List ℕ → (ℕ → List Token) → Type 0
Piece text ts = (rest : List ℕ) (at : ℕ) → Seen text rest at (ts at)

abbrev symbol_at : List ℕ → ℕ → List Token
symbol_at s at = token (kind.Symbol s) at (at + length s) ∷ []

abbrev word_at : List ℕ → ℕ → List Token
word_at w at = token (kind.Reserved w) at (at + length w) ∷ []

open_piece : Piece (codes "(") (symbol_at (codes "("))
open_piece rest at = record { to = at + 1; told = refl }

close_piece : Piece (codes ")") (symbol_at (codes ")"))
close_piece rest at = record { to = at + 1; told = refl }

open_brace_piece : Piece (codes "{") (symbol_at (codes "{"))
open_brace_piece rest at = record { to = at + 1; told = refl }

close_brace_piece : Piece (codes "}") (symbol_at (codes "}"))
close_brace_piece rest at = record { to = at + 1; told = refl }

root_piece : Piece (codes "$") (symbol_at (codes "$"))
root_piece rest at = record { to = at + 1; told = refl }

dot_piece : Piece (codes ".") (symbol_at (codes "."))
dot_piece rest at = record { to = at + 1; told = refl }

minus_piece : Piece (codes "-") (symbol_at (codes "-"))
minus_piece rest at = record { to = at + 1; told = refl }

comma_piece : Piece (codes ", ") (symbol_at (codes ","))
comma_piece rest at = record { to = at + 1 + 1; told = refl }

colon_piece : Piece (codes " : ") (λ at. symbol_at (codes ":") (at + 1))
colon_piece rest at = record { to = at + 1 + 1 + 1; told = refl }

bar_piece : Piece (codes " | ") (λ at. symbol_at (codes "|") (at + 1))
bar_piece rest at = record { to = at + 1 + 1 + 1; told = refl }

if_piece : Piece (codes "if ") (word_at (codes "if"))
unfolding is_reserved
if_piece rest at = record { to = at + 1 + 1 + 1; told = refl }

not_piece : Piece (codes "not ") (word_at (codes "not"))
unfolding is_reserved
not_piece rest at = record { to = at + 1 + 1 + 1 + 1; told = refl }

then_piece : Piece (codes " then ") (λ at. word_at (codes "then") (at + 1))
unfolding is_reserved
then_piece rest at = record { to = at + 1 + 1 + 1 + 1 + 1 + 1; told = refl }

else_piece : Piece (codes " else ") (λ at. word_at (codes "else") (at + 1))
unfolding is_reserved
else_piece rest at = record { to = at + 1 + 1 + 1 + 1 + 1 + 1; told = refl }

in_piece : Piece (codes " in ") (λ at. word_at (codes "in") (at + 1))
unfolding is_reserved
in_piece rest at = record { to = at + 1 + 1 + 1 + 1; told = refl }

abbrev operator_kind : Operator → TokenKind
operator_kind operator.Or = kind.Reserved (codes "or")
operator_kind operator.And = kind.Reserved (codes "and")
operator_kind operator.Equals = kind.Symbol (codes "=")
operator_kind operator.NotEquals = kind.Symbol (codes "!=")
operator_kind operator.Less = kind.Symbol (codes "<")
operator_kind operator.AtMost = kind.Symbol (codes "<=")
operator_kind operator.Greater = kind.Symbol (codes ">")
operator_kind operator.AtLeast = kind.Symbol (codes ">=")
operator_kind operator.In = kind.Reserved (codes "in")
operator_kind operator.Union = kind.Reserved (codes "union")
operator_kind operator.Intersect = kind.Reserved (codes "intersect")
operator_kind operator.Except = kind.Reserved (codes "except")
operator_kind operator.Plus = kind.Symbol (codes "+")
operator_kind operator.Minus = kind.Symbol (codes "-")
operator_kind operator.Join = kind.Symbol (codes "&")
operator_kind operator.Times = kind.Symbol (codes "*")
operator_kind operator.Divide = kind.Symbol (codes "/")
operator_kind operator.Remainder = kind.Symbol (codes "%")

abbrev operator_at : Operator → ℕ → List Token
operator_at op at = token (operator_kind op) (at + 1) (at + 1 + length (operator_text op)) ∷ []

operator_piece : (op : Operator) → Piece (codes " " ++ (operator_text op ++ codes " ")) (operator_at op)
unfolding is_reserved
operator_piece operator.Or rest at = record { to = at + 1 + 1 + 1 + 1; told = refl }
operator_piece operator.And rest at = record { to = at + 1 + 1 + 1 + 1 + 1; told = refl }
operator_piece operator.Equals rest at = record { to = at + 1 + 1 + 1; told = refl }
operator_piece operator.NotEquals rest at = record { to = at + 1 + 1 + 1 + 1; told = refl }
operator_piece operator.Less rest at = record { to = at + 1 + 1 + 1; told = refl }
operator_piece operator.AtMost rest at = record { to = at + 1 + 1 + 1 + 1; told = refl }
operator_piece operator.Greater rest at = record { to = at + 1 + 1 + 1; told = refl }
operator_piece operator.AtLeast rest at = record { to = at + 1 + 1 + 1 + 1; told = refl }
operator_piece operator.In rest at = record { to = at + 1 + 1 + 1 + 1; told = refl }
operator_piece operator.Union rest at = record { to = at + 1 + 1 + 1 + 1 + 1 + 1 + 1; told = refl }
operator_piece operator.Intersect rest at = record { to = at + 1 + 1 + 1 + 1 + 1 + 1 + 1 + 1 + 1 + 1 + 1; told = refl }
operator_piece operator.Except rest at = record { to = at + 1 + 1 + 1 + 1 + 1 + 1 + 1 + 1; told = refl }
operator_piece operator.Plus rest at = record { to = at + 1 + 1 + 1; told = refl }
operator_piece operator.Minus rest at = record { to = at + 1 + 1 + 1; told = refl }
operator_piece operator.Join rest at = record { to = at + 1 + 1 + 1; told = refl }
operator_piece operator.Times rest at = record { to = at + 1 + 1 + 1; told = refl }
operator_piece operator.Divide rest at = record { to = at + 1 + 1 + 1; told = refl }
operator_piece operator.Remainder rest at = record { to = at + 1 + 1 + 1; told = refl }

abbrev called_at : List ℕ → ℕ → ℕ → List Token
called_at w n at = token (kind.Reserved w) at (at + length w) ∷ token (kind.Symbol (codes "(")) n (n + 1) ∷ []

two : (a b : Token) (r : Result (List Token) SyntaxRefusal) → with_tokens (a ∷ []) (with_tokens (b ∷ []) r) ≡ with_tokens (a ∷ b ∷ []) r
two a b (Ok more) = refl
two a b (Err e) = refl

-- a word, and the bracket at that place behind it
abbrev called : List ℕ → ℕ → ℕ → List ℕ → Result (List Token) SyntaxRefusal
called w n at rest =
    with_tokens (token (kind.Reserved w) at (at + length w) ∷ []) (with_tokens (token (kind.Symbol (codes "(")) n (n + 1) ∷ []) (tokens_from rest (n + 1) 1 0))

opened : (text w : List ℕ) (n : ℕ) (rest : List ℕ) (at : ℕ) → tokens_from (text ++ rest) at 1 0 ≡ called w n at rest → Seen text rest at (called_at w n at)
opened text w n rest at h =
    record {
      to = n + 1;
      told =
          h ∙ two (token (kind.Reserved w) at (at + length w)) (token (kind.Symbol (codes "(")) n (n + 1)) (tokens_from rest (n + 1) 1 0);
    }

function_piece : (f : Function) (rest : List ℕ) (at : ℕ) → (n : ℕ) × Seen (function_text f ++ codes "(") rest at (called_at (function_text f) n at)
unfolding is_reserved
function_piece function.Count rest at = (at + 1 + 1 + 1 + 1 + 1, opened (codes "count(") (codes "count") (at + 1 + 1 + 1 + 1 + 1) rest at refl)
function_piece function.Only rest at = (at + 1 + 1 + 1 + 1, opened (codes "only(") (codes "only") (at + 1 + 1 + 1 + 1) rest at refl)
function_piece function.Min rest at = (at + 1 + 1 + 1, opened (codes "min(") (codes "min") (at + 1 + 1 + 1) rest at refl)
function_piece function.Max rest at = (at + 1 + 1 + 1, opened (codes "max(") (codes "max") (at + 1 + 1 + 1) rest at refl)

quantifier_piece : (q : Quantifier) (rest : List ℕ) (at : ℕ) → (n : ℕ) × Seen (quantifier_text q ++ codes "(") rest at (called_at (quantifier_text q) n at)
unfolding is_reserved
quantifier_piece quantifier.Any rest at = (at + 1 + 1 + 1, opened (codes "any(") (codes "any") (at + 1 + 1 + 1) rest at refl)
quantifier_piece quantifier.All rest at = (at + 1 + 1 + 1, opened (codes "all(") (codes "all") (at + 1 + 1 + 1) rest at refl)

sum_piece : (rest : List ℕ) (at : ℕ) → Seen (codes "sum(") rest at (called_at (codes "sum") (at + 1 + 1 + 1) at)
unfolding is_reserved
sum_piece rest at = opened (codes "sum(") (codes "sum") (at + 1 + 1 + 1) rest at refl

-- ---- signs of these tokens

function_known : (f : Function) → function_of (sign_of (kind.Reserved (function_text f))) ≡ Some f
function_known function.Count = refl
function_known function.Only = refl
function_known function.Min = refl
function_known function.Max = refl

quantifier_known : (q : Quantifier) → quantifier_of (sign_of (kind.Reserved (quantifier_text q))) ≡ Some q
quantifier_known quantifier.Any = refl
quantifier_known quantifier.All = refl

among : (l : Level) (s : Sign) (op : Operator) → operator_among l s ≡ Some op → sign_of (operator_kind op) ≡ s
among level.Or sign.Or op e = let same : operator.Or ≡ op = cc in ap (λ o. sign_of (operator_kind o)) (sym same)
among level.And sign.And op e = let same : operator.And ≡ op = cc in ap (λ o. sign_of (operator_kind o)) (sym same)
among level.Comparison sign.Equals op e = let same : operator.Equals ≡ op = cc in ap (λ o. sign_of (operator_kind o)) (sym same)
among level.Comparison sign.NotEquals op e = let same : operator.NotEquals ≡ op = cc in ap (λ o. sign_of (operator_kind o)) (sym same)
among level.Comparison sign.Less op e = let same : operator.Less ≡ op = cc in ap (λ o. sign_of (operator_kind o)) (sym same)
among level.Comparison sign.AtMost op e = let same : operator.AtMost ≡ op = cc in ap (λ o. sign_of (operator_kind o)) (sym same)
among level.Comparison sign.Greater op e = let same : operator.Greater ≡ op = cc in ap (λ o. sign_of (operator_kind o)) (sym same)
among level.Comparison sign.AtLeast op e = let same : operator.AtLeast ≡ op = cc in ap (λ o. sign_of (operator_kind o)) (sym same)
among level.Comparison sign.In op e = let same : operator.In ≡ op = cc in ap (λ o. sign_of (operator_kind o)) (sym same)
among level.Sets sign.Union op e = let same : operator.Union ≡ op = cc in ap (λ o. sign_of (operator_kind o)) (sym same)
among level.Sets sign.Intersect op e = let same : operator.Intersect ≡ op = cc in ap (λ o. sign_of (operator_kind o)) (sym same)
among level.Sets sign.Except op e = let same : operator.Except ≡ op = cc in ap (λ o. sign_of (operator_kind o)) (sym same)
among level.Sums sign.Plus op e = let same : operator.Plus ≡ op = cc in ap (λ o. sign_of (operator_kind o)) (sym same)
among level.Sums sign.Minus op e = let same : operator.Minus ≡ op = cc in ap (λ o. sign_of (operator_kind o)) (sym same)
among level.Sums sign.Join op e = let same : operator.Join ≡ op = cc in ap (λ o. sign_of (operator_kind o)) (sym same)
among level.Products sign.Times op e = let same : operator.Times ≡ op = cc in ap (λ o. sign_of (operator_kind o)) (sym same)
among level.Products sign.Divide op e = let same : operator.Divide ≡ op = cc in ap (λ o. sign_of (operator_kind o)) (sym same)
among level.Products sign.Remainder op e = let same : operator.Remainder ≡ op = cc in ap (λ o. sign_of (operator_kind o)) (sym same)
among _ _ op e = let wrong : ⊥ = cc in absurd wrong

-- ---- both ways from one

as_whole : (text : List ℕ) (e : Tree) (depth most bound : ℕ) → most ≤ bound → Back postfix text e depth most → Back expression text e depth bound
as_whole text e depth most bound fits b at rest ends =
    let r = b at rest ends in
    let n = r.narrow in
    record { ts = r.ts; nest = r.nest; seen = r.seen; produced = from_postfix r.ts _ r.produced; narrow = omega (arith, fits, n); lined = r.lined }

-- a formula that stands as it is as an operand
open_form : (e : Tree) (depth : ℕ) (text : List ℕ) (d : Tree) → is_enclosed e ≡ false → formula_text e ≡ text → on_one_line e ≡ d →
    Back postfix text d depth depth → Both e depth
open_form e depth text d enclosed told line b =
    let same : operand e (formula_text e) ≡ formula_text e = rw enclosed refl in
    let P : List ℕ → Tree → Type 0 = λ t f. Back postfix t f depth depth in
    let c : Back postfix (formula_text e) (on_one_line e) depth depth = subst (λ t. P t (on_one_line e)) (sym told) (subst (P text) (sym line) b) in
    record { whole = as_whole (formula_text e) (on_one_line e) depth depth depth (omega arith) c; part = subst (λ t. P t (on_one_line e)) (sym same) c }

in_brackets : (text : List ℕ) (e : Tree) (depth : ℕ) → Back expression text e (depth + 1) depth →
    Back postfix (codes "(" ++ text ++ codes ")") e (depth + 1) (depth + 1)
in_brackets text e depth b at rest ends =
    let o = open_piece ((text ++ codes ")") ++ rest) at in
    let r = b o.to (codes ")" ++ rest) refl in
    let c = close_piece rest r.seen.to in
    let n = r.narrow in
    record {
      ts = symbol_at (codes "(") at ++ (r.ts ++ symbol_at (codes ")") r.seen.to);
      nest = r.nest + 1;
      seen = both_seen (codes "(") (text ++ codes ")") rest at _ _ o (both_seen text (codes ")") rest o.to _ _ r.seen c);
      produced = no_step _ _ (in_parentheses _ _ r.ts _ refl r.produced refl);
      narrow = omega (arith, n);
      lined = refl;
    }

-- a formula that stands in parentheses as an operand
shut_form : (e : Tree) (depth : ℕ) (text : List ℕ) (d : Tree) → is_enclosed e ≡ true → formula_text e ≡ text → on_one_line e ≡ d →
    Back expression text d (depth + 1) depth → Both e (depth + 1)
shut_form e depth text d enclosed told line b =
    let P : List ℕ → Tree → Type 0 = λ t f. Back expression t f (depth + 1) depth in
    let c : Back expression (formula_text e) (on_one_line e) (depth + 1) depth = subst (λ t. P t (on_one_line e)) (sym told) (subst (P text) (sym line) b) in
    let same : operand e (formula_text e) ≡ codes "(" ++ formula_text e ++ codes ")" = rw enclosed refl in
    record {
      whole = λ at rest ends. let r = c at rest ends in let n = r.narrow in
          record { ts = r.ts; nest = r.nest; seen = r.seen; produced = r.produced; narrow = omega (arith, n); lined = r.lined };
      part = subst (λ t. Back postfix t (on_one_line e) (depth + 1) (depth + 1)) (sym same) (in_brackets (formula_text e) (on_one_line e) depth c);
    }

first_line : (xs ys : List Token) (n : Nonterminal) (f : Form) → Produces n xs f → line_of xs ≡ 1 → line_of (xs ++ ys) ≡ 1
first_line [] ys n f p h = let wrong : ⊥ = cc in absurd wrong
first_line (x ∷ xs) ys n f p h = h

-- ---- each form

if_back : (line : ℕ) (c x y : Tree) (dc dx dy : ℕ) → Both c dc → Both x dx → Both y dy → Both (tree.If line c x y) (max dc (max dx dy) + 1)
if_back line c x y dc dx dy bc bx by =
    let tc = formula_text c in
    let tx = formula_text x in
    let ty = formula_text y in
    let text : formula_text (tree.If line c x y) ≡ codes "if " ++ (tc ++ (codes " then " ++ (tx ++ (codes " else " ++ ty)))) =
    text-If line c x y ∙ simp (append_assoc) refl in
    shut_form (tree.If line c x y) (max dc (max dx dy)) _ _ (enclosed-If line c x y) text (line-If line c x y)
    (λ at rest ends.
    let p0 = if_piece ((tc ++ (codes " then " ++ (tx ++ (codes " else " ++ ty)))) ++ rest) at in
    let rc = bc.whole p0.to ((codes " then " ++ (tx ++ (codes " else " ++ ty))) ++ rest) refl in
    let p1 = then_piece ((tx ++ (codes " else " ++ ty)) ++ rest) rc.seen.to in
    let rx = bx.whole p1.to ((codes " else " ++ ty) ++ rest) refl in
    let p2 = else_piece (ty ++ rest) rx.seen.to in
    let ry = by.whole p2.to rest ends in
    let nc = rc.narrow in let nx = rx.narrow in let ny = ry.narrow in
    record {
      ts = word_at (codes "if") at ++ (rc.ts ++ (word_at (codes "then") (rc.seen.to + 1) ++ (rx.ts ++ (word_at (codes "else") (rx.seen.to + 1) ++ ry.ts))));
      nest = max rc.nest (max rx.nest ry.nest);
      seen = both_seen (codes "if ") (tc ++ (codes " then " ++ (tx ++ (codes " else " ++ ty)))) rest at _ _ p0
          (both_seen tc (codes " then " ++ (tx ++ (codes " else " ++ ty))) rest p0.to _ _ rc.seen
          (both_seen (codes " then ") (tx ++ (codes " else " ++ ty)) rest rc.seen.to _ _ p1
          (both_seen tx (codes " else " ++ ty) rest p1.to _ _ rx.seen
          (both_seen (codes " else ") ty rest rx.seen.to _ _ p2 ry.seen))));
      produced = a_choice _ _ _ rc.ts rx.ts ry.ts _ _ _ refl rc.produced refl rx.produced refl ry.produced;
      narrow = omega (arith, nc, nx, ny);
      lined = refl;
    })

binary_back : (line : ℕ) (l : Level) (op : Operator) (s : Sign) (a b : Tree) (da db : ℕ) → operator_among l s ≡ Some op → Both a da → Both b db →
    Both (tree.Binary line op a b) (max da db + 1)
binary_back line l op s a b da db is ba bb =
    let ta = operand a (formula_text a) in
    let tb = operand b (formula_text b) in
    let text : formula_text (tree.Binary line op a b) ≡ ta ++ ((codes " " ++ (operator_text op ++ codes " ")) ++ tb) =
    text-Binary line op a b ∙ simp (append_assoc) refl in
    shut_form (tree.Binary line op a b) (max da db) _ _ (enclosed-Binary line op a b) text (line-Binary line op a b)
    (λ at rest ends.
    let ra = ba.part at (((codes " " ++ (operator_text op ++ codes " ")) ++ tb) ++ rest) refl in
    let p = operator_piece op (tb ++ rest) ra.seen.to in
    let rb = bb.part p.to rest ends in
    let na = ra.narrow in let nb = rb.narrow in
    let known : operator_among l (sign_of (operator_kind op)) ≡ Some op = ap (operator_among l) (among l s op is) ∙ is in
    let made = an_operation l op (token (operator_kind op) (ra.seen.to + 1) (ra.seen.to + 1 + length (operator_text op))) ra.ts rb.ts _ _
    (to_before l ra.ts _ ra.produced) known (to_operand l rb.ts _ rb.produced) in
    let P : ℕ → Type 0 =
    λ n. Produces (chain l) (ra.ts ++ (operator_at op ra.seen.to ++ rb.ts))
    (form (tree.Binary n op (on_one_line a) (on_one_line b)) (max da db + 1) (max ra.nest rb.nest)) in
    record {
      ts = ra.ts ++ (operator_at op ra.seen.to ++ rb.ts);
      nest = max ra.nest rb.nest;
      seen = both_seen ta ((codes " " ++ (operator_text op ++ codes " ")) ++ tb) rest at _ _ ra.seen
          (both_seen (codes " " ++ (operator_text op ++ codes " ")) tb rest ra.seen.to _ _ p rb.seen);
      produced = from_chain l _ _ (subst P ra.lined made);
      narrow = omega (arith, na, nb);
      lined = first_line ra.ts _ postfix _ ra.produced ra.lined;
    })

prefix_back : (p : Prefix) (line : ℕ) (e : Tree) (d : ℕ) → Both e d → Both (prefixed p line e) (d + 1)
prefix_back prefix.Minus line e d b =
    shut_form (tree.Negate line e) d _ _ (enclosed-Negate line e) (text-Negate line e) (line-Negate line e)
    (λ at rest ends.
    let t = operand e (formula_text e) in
    let p = minus_piece (t ++ rest) at in
    let r = b.part p.to rest ends in
    record {
      ts = symbol_at (codes "-") at ++ r.ts;
      nest = r.nest;
      seen = both_seen (codes "-") t rest at _ _ p r.seen;
      produced = from_unary _ _ (a_prefix prefix.Minus _ r.ts _ refl (to_unary r.ts _ r.produced));
      narrow = r.narrow;
      lined = refl;
    })
prefix_back prefix.Not line e d b =
    shut_form (tree.Not line e) d _ _ (enclosed-Not line e) (text-Not line e) (line-Not line e)
    (λ at rest ends.
    let t = operand e (formula_text e) in
    let p = not_piece (t ++ rest) at in
    let r = b.part p.to rest ends in
    record {
      ts = word_at (codes "not") at ++ r.ts;
      nest = r.nest;
      seen = both_seen (codes "not ") t rest at _ _ p r.seen;
      produced = from_negation _ _ (a_prefix prefix.Not _ r.ts _ refl (to_negation r.ts _ r.produced));
      narrow = r.narrow;
      lined = refl;
    })

-- ---- names and words

name_kind : (name : List ℕ) → is_reserved name ≡ false → word_kind name ≡ kind.Name name
name_kind name h = rw h refl

pub name_seen : (name rest : List ℕ) (at : ℕ) → IsWord name → is_reserved name ≡ false → Ends rest →
    (end : ℕ) × Seen name rest at (token (kind.Name name) at end ∷ [])
name_seen name rest at w h ends =
    let (end, s) = word_seen name rest at w ends in
    let P : TokenKind → Type 0 = λ k. Seen name rest at (token k at end ∷ []) in
    (end, subst P (name_kind name h) s)

reserved_kind : (word : List ℕ) → is_reserved word ≡ true → word_kind word ≡ kind.Reserved word
reserved_kind word h = rw h refl

pub reserved_seen : (word rest : List ℕ) (at : ℕ) → IsWord word → is_reserved word ≡ true → Ends rest →
    (end : ℕ) × Seen word rest at (token (kind.Reserved word) at end ∷ [])
reserved_seen word rest at w h ends =
    let (end, s) = word_seen word rest at w ends in
    let P : TokenKind → Type 0 = λ k. Seen word rest at (token k at end ∷ []) in
    (end, subst P (reserved_kind word h) s)

-- a formula of one token
one_token : (e : Tree) (d : Tree) (k : TokenKind) → is_enclosed e ≡ false → on_one_line e ≡ d → leaf 1 k ≡ Some d →
    ((rest : List ℕ) (at : ℕ) → Ends rest → (end : ℕ) × Seen (formula_text e) rest at (token k at end ∷ [])) → Both e 1
one_token e d k enclosed line is see =
    open_form e 1 (formula_text e) d enclosed refl line
    (λ at rest ends. let (end, s) = see rest at ends in
    record { ts = token k at end ∷ []; nest = 0; seen = s; produced = no_step _ _ (a_leaf _ d is); narrow = omega arith; lined = refl })

pub a_word : (text : List ℕ) (c : ℕ) (cs : List ℕ) → text ≡ c ∷ cs → is_letter c ≡ true → AllPass is_in_word (c ∷ cs) → nat_le (length (c ∷ cs)) 63 ≡ true →
    IsWord text
a_word text c cs is letter passes short = record { first = c; others = cs; is = is; letter = letter; passes = passes; short = short }

leaf_sign : (line : ℕ) (s : Sign) (e : Tree) → leaf_of line s ≡ Some e → Both e 1
unfolding is_reserved
leaf_sign line sign.True e h =
    let same : tree.Truth line true ≡ e = cc in
    subst (λ t. Both t 1) same
    (one_token (tree.Truth line true) (tree.Truth 1 true) (kind.Reserved (codes "true")) refl refl refl
    (λ rest at ends. reserved_seen (codes "true") rest at (a_word (codes "true") 116 (codes "rue") refl refl (refl, (refl, (refl, (refl, tt)))) refl) refl
    ends))
leaf_sign line sign.False e h =
    let same : tree.Truth line false ≡ e = cc in
    subst (λ t. Both t 1) same
    (one_token (tree.Truth line false) (tree.Truth 1 false) (kind.Reserved (codes "false")) refl refl refl
    (λ rest at ends. reserved_seen (codes "false") rest at (a_word (codes "false") 102 (codes "alse") refl refl (refl, (refl, (refl, (refl, (refl, tt))))) refl)
    refl ends))
leaf_sign line sign.Root e h =
    let same : tree.Root line ≡ e = cc in
    subst (λ t. Both t 1) same
    (one_token (tree.Root line) (tree.Root 1) (kind.Symbol (codes "$")) refl refl refl (λ rest at ends. (at + 1, root_piece rest at)))
leaf_sign line sign.This e h =
    let same : tree.This line ≡ e = cc in
    subst (λ t. Both t 1) same
    (one_token (tree.This line) (tree.This 1) (kind.Reserved (codes "this")) refl refl refl
    (λ rest at ends. reserved_seen (codes "this") rest at (a_word (codes "this") 116 (codes "his") refl refl (refl, (refl, (refl, (refl, tt)))) refl) refl
    ends))
leaf_sign line sign.Caller e h =
    let same : tree.Caller line ≡ e = cc in
    subst (λ t. Both t 1) same
    (one_token (tree.Caller line) (tree.Caller 1) (kind.Reserved (codes "caller")) refl refl refl
    (λ rest at ends.
    reserved_seen (codes "caller") rest at (a_word (codes "caller") 99 (codes "aller") refl refl (refl, (refl, (refl, (refl, (refl, (refl, tt)))))) refl)
    refl ends))
leaf_sign line sign.Operator e h =
    let same : tree.Operator line ≡ e = cc in
    subst (λ t. Both t 1) same
    (one_token (tree.Operator line) (tree.Operator 1) (kind.Reserved (codes "operator")) refl refl refl
    (λ rest at ends.
    reserved_seen (codes "operator") rest at
    (a_word (codes "operator") 111 (codes "perator") refl refl (refl, (refl, (refl, (refl, (refl, (refl, (refl, (refl, tt)))))))) refl) refl ends))
leaf_sign line _ e h = let wrong : ⊥ = cc in absurd wrong

number_fits : (n : ℕ) → nat_le n 9223372036854775807 ≡ true → n < 2 ^ 64
number_fits n h = grind (arith, common_steps)

leaf_back : (line : ℕ) (k : TokenKind) (e : Tree) → Lexable k → leaf line k ≡ Some e → Both e 1
leaf_back line (kind.Name name) e good h =
    let same : tree.Name line name ≡ e = cc in
    subst (λ t. Both t 1) same
    (one_token (tree.Name line name) (tree.Name 1 name) (kind.Name name) refl refl refl (λ rest at ends. name_seen name rest at good.0 good.1 ends))
leaf_back line (kind.Reserved word) e good h = leaf_sign line (sign_of (kind.Reserved word)) e h
leaf_back line (kind.Number z) e (n, is, fits) h =
    let same : tree.Number line z ≡ e = cc in
    subst (λ t. Both t 1) same
    (subst (λ z. Both (tree.Number line z) 1) (sym is)
    (one_token (tree.Number line (pos n)) (tree.Number 1 (pos n)) (kind.Number (pos n)) refl refl refl
    (λ rest at ends. number_seen n rest at fits (number_fits n fits) ends)))
leaf_back line (kind.Text content) e good h =
    let same : tree.Text line content ≡ e = cc in
    subst (λ t. Both t 1) same
    (one_token (tree.Text line content) (tree.Text 1 content) (kind.Text content) refl refl refl (λ rest at ends. text_seen content rest at good.0 good.1))
leaf_back line (kind.Symbol s) e good h = leaf_sign line (sign_of (kind.Symbol s)) e h

-- ---- steps

child_back : (line : ℕ) (e : Tree) (name : List ℕ) (d : ℕ) → IsWord name → is_reserved name ≡ false → Both e d → Both (tree.Child line e name) (d + 1)
child_back line e name d word free b =
    open_form (tree.Child line e name) (d + 1) _ _ (enclosed-Child line e name) (text-Child line e name
    ∙ append_assoc (operand e (formula_text e)) (codes ".") name) (line-Child line e name)
    (λ at rest ends.
    let t = operand e (formula_text e) in
    let r = b.part at ((codes "." ++ name) ++ rest) refl in
    let p = dot_piece (name ++ rest) r.seen.to in
    let (end, s) = name_seen name rest p.to word free ends in
    let n = r.narrow in
    let made = a_child (token (kind.Symbol (codes ".")) r.seen.to (r.seen.to + 1)) (token (kind.Name name) p.to end) name r.ts _ r.produced refl refl in
    let P : ℕ → Type 0 = λ l. Produces postfix (r.ts ++ (token (kind.Symbol (codes ".")) r.seen.to (r.seen.to + 1) ∷ token (kind.Name name) p.to end ∷ []))
    (form (tree.Child l (on_one_line e) name) (d + 1) r.nest) in
    record {
      ts = r.ts ++ (token (kind.Symbol (codes ".")) r.seen.to (r.seen.to + 1) ∷ token (kind.Name name) p.to end ∷ []);
      nest = r.nest;
      seen = both_seen t (codes "." ++ name) rest at _ _ r.seen (both_seen (codes ".") name rest r.seen.to _ _ p s);
      produced = subst P r.lined made;
      narrow = omega (arith, n);
      lined = first_line r.ts _ postfix _ r.produced r.lined;
    })

up_back : (line : ℕ) (e : Tree) (d : ℕ) → Both e d → Both (tree.Up line e) (d + 1)
unfolding is_reserved
up_back line e d b =
    open_form (tree.Up line e) (d + 1) _ _ (enclosed-Up line e) (text-Up line e) (line-Up line e)
    (λ at rest ends.
    let t = operand e (formula_text e) in
    let r = b.part at ((codes "." ++ codes "up") ++ rest) refl in
    let p = dot_piece (codes "up" ++ rest) r.seen.to in
    let (end, s) = reserved_seen (codes "up") rest p.to (a_word (codes "up") 117 (codes "p") refl refl (refl, (refl, tt)) refl) refl ends in
    let n = r.narrow in
    let made = an_up (token (kind.Symbol (codes ".")) r.seen.to (r.seen.to + 1)) (token (kind.Reserved (codes "up")) p.to end) r.ts _ r.produced refl refl in
    let P : ℕ → Type 0 =
    λ l. Produces postfix (r.ts ++ (token (kind.Symbol (codes ".")) r.seen.to (r.seen.to + 1) ∷ token (kind.Reserved (codes "up")) p.to end ∷ []))
    (form (tree.Up l (on_one_line e)) (d + 1) r.nest) in
    record {
      ts = r.ts ++ (token (kind.Symbol (codes ".")) r.seen.to (r.seen.to + 1) ∷ token (kind.Reserved (codes "up")) p.to end ∷ []);
      nest = r.nest;
      seen = both_seen t (codes "." ++ codes "up") rest at _ _ r.seen (both_seen (codes ".") (codes "up") rest r.seen.to _ _ p s);
      produced = subst P r.lined made;
      narrow = omega (arith, n);
      lined = first_line r.ts _ postfix _ r.produced r.lined;
    })

-- ---- forms in brackets

call_back : (line : ℕ) (f : Function) (e : Tree) (d : ℕ) → Both e d → Both (tree.Call line f e) (d + 1)
call_back line f e d b =
    let t = formula_text e in
    open_form (tree.Call line f e) (d + 1) ((function_text f ++ codes "(") ++ (t ++ codes ")")) _ (enclosed-Call line f e)
    (text-Call line f e ∙ sym (append_assoc (function_text f) (codes "(") (t ++ codes ")"))) (line-Call line f e)
    (λ at rest ends.
    let (n, p) = function_piece f ((t ++ codes ")") ++ rest) at in
    let r = b.whole p.to (codes ")" ++ rest) refl in
    let c = close_piece rest r.seen.to in
    let w = r.narrow in
    record {
      ts = called_at (function_text f) n at ++ (r.ts ++ symbol_at (codes ")") r.seen.to);
      nest = r.nest + 1;
      seen = both_seen (function_text f ++ codes "(") (t ++ codes ")") rest at _ _ p (both_seen t (codes ")") rest p.to _ _ r.seen c);
      produced = no_step _ _ (a_call _ _ _ f r.ts _ (function_known f) refl r.produced refl);
      narrow = omega (arith, w);
      lined = refl;
    })

test_back : (line : ℕ) (q : Quantifier) (x : List ℕ) (s p : Tree) (ds dp : ℕ) → IsWord x → is_reserved x ≡ false → Both s ds → Both p dp →
    Both (tree.Test line q x s p) (max ds dp + 1)
test_back line q x s p ds dp word free bs bp =
    let ts = formula_text s in
    let tp = formula_text p in
    let inner = x ++ (codes " in " ++ (ts ++ (codes " | " ++ (tp ++ codes ")")))) in
    let text : formula_text (tree.Test line q x s p) ≡ (quantifier_text q ++ codes "(") ++ inner =
    text-Test line q x s p ∙ simp (append_assoc) refl in
    open_form (tree.Test line q x s p) (max ds dp + 1) _ _ (enclosed-Test line q x s p) text (line-Test line q x s p)
    (λ at rest ends.
    let (n, p0) = quantifier_piece q (inner ++ rest) at in
    let (end, v) = name_seen x ((codes " in " ++ (ts ++ (codes " | " ++ (tp ++ codes ")")))) ++ rest) p0.to word free refl in
    let p1 = in_piece ((ts ++ (codes " | " ++ (tp ++ codes ")"))) ++ rest) v.to in
    let rs = bs.whole p1.to ((codes " | " ++ (tp ++ codes ")")) ++ rest) refl in
    let p2 = bar_piece ((tp ++ codes ")") ++ rest) rs.seen.to in
    let rp = bp.whole p2.to (codes ")" ++ rest) refl in
    let p3 = close_piece rest rp.seen.to in
    let ws = rs.narrow in let wp = rp.narrow in
    record {
      ts = called_at (quantifier_text q) n
          at ++ ((token (kind.Name x) p0.to end ∷ []) ++
          (word_at (codes "in") (v.to + 1) ++ (rs.ts ++ (symbol_at (codes "|") (rs.seen.to + 1) ++ (rp.ts ++ symbol_at (codes ")") rp.seen.to)))));
      nest = max rs.nest rp.nest + 1;
      seen = both_seen (quantifier_text q ++ codes "(") inner rest at _ _ p0
          (both_seen x (codes " in " ++ (ts ++ (codes " | " ++ (tp ++ codes ")")))) rest p0.to _ _ v
          (both_seen (codes " in ") (ts ++ (codes " | " ++ (tp ++ codes ")"))) rest v.to _ _ p1
          (both_seen ts (codes " | " ++ (tp ++ codes ")")) rest p1.to _ _ rs.seen
          (both_seen (codes " | ") (tp ++ codes ")") rest rs.seen.to _ _ p2
          (both_seen tp (codes ")") rest p2.to _ _ rp.seen p3)))));
      produced = no_step _ _ (a_test _ _ _ _ _ _ q x rs.ts rp.ts _ _ (quantifier_known q) refl refl refl rs.produced refl rp.produced refl);
      narrow = omega (arith, ws, wp);
      lined = refl;
    })

-- what stands in a comprehension or a sum, by its text, before a closing bracket
record Gathered (g : Gathering) (text : List ℕ) (e : Tree) (depth : ℕ) (at : ℕ) (rest : List ℕ) : Type 0 where
  ts : List Token
  nest : ℕ
  seen : Seen text rest at ts
  gathers : Gathers 1 g ts (form e depth nest)
  narrow : nest ≤ depth

wrapped : (g : Gathering) (line : ℕ) (e d : Tree) (text : List ℕ) (depth : ℕ) → is_enclosed e ≡ false →
    formula_text e ≡ opening_text g ++ (text ++ closing_text g) → on_one_line e ≡ d
    → ((at : ℕ) (rest : List ℕ) → Ends rest → Gathered g text d depth at rest) → Both e (depth + 1)
wrapped gathering.Union line e d text depth enclosed told one b =
    open_form e (depth + 1) _ d enclosed told one
    (λ at rest ends.
    let p = open_brace_piece ((text ++ codes "}") ++ rest) at in
    let r = b p.to (codes "}" ++ rest) refl in
    let c = close_brace_piece rest r.seen.to in
    let n = r.narrow in
    record {
      ts = symbol_at (codes "{") at ++ (r.ts ++ symbol_at (codes "}") r.seen.to);
      nest = r.nest + 1;
      seen = both_seen (codes "{") (text ++ codes "}") rest at _ _ p (both_seen text (codes "}") rest p.to _ _ r.seen c);
      produced = no_step _ _ (a_comprehension _ _ r.ts _ refl r.gathers refl);
      narrow = omega (arith, n);
      lined = refl;
    })
wrapped gathering.Sum line e d text depth enclosed told one b =
    open_form e (depth + 1) _ d enclosed told one
    (λ at rest ends.
    let p = sum_piece ((text ++ codes ")") ++ rest) at in
    let r = b p.to (codes ")" ++ rest) refl in
    let c = close_piece rest r.seen.to in
    let n = r.narrow in
    record {
      ts = called_at (codes "sum") (at + 1 + 1 + 1) at ++ (r.ts ++ symbol_at (codes ")") r.seen.to);
      nest = r.nest + 1;
      seen = both_seen (codes "sum(") (text ++ codes ")") rest at _ _ p (both_seen text (codes ")") rest p.to _ _ r.seen c);
      produced = no_step _ _ (a_sum _ _ _ r.ts _ refl refl r.gathers refl);
      narrow = omega (arith, n);
      lined = refl;
    })

gather_back : (line : ℕ) (g : Gathering) (f : Tree) (x : List ℕ) (s : Tree) (df ds : ℕ) → IsWord x → is_reserved x ≡ false → Both f df → Both s ds →
    Both (tree.Gather line g f x s) (max df ds + 1)
gather_back line g f x s df ds word free bf bs =
    let tf = formula_text f in
    let ts = formula_text s in
    let text = tf ++ (codes " : " ++ (x ++ (codes " in " ++ ts))) in
    wrapped g line (tree.Gather line g f x s) _ text (max df ds) (enclosed-Gather line g f x s) (text-Gather line g f x s ∙ simp (append_assoc) refl)
    (line-Gather line g f x s)
    (λ at rest ends.
    let rf = bf.whole at ((codes " : " ++ (x ++ (codes " in " ++ ts))) ++ rest) refl in
    let p1 = colon_piece ((x ++ (codes " in " ++ ts)) ++ rest) rf.seen.to in
    let (end, v) = name_seen x ((codes " in " ++ ts) ++ rest) p1.to word free refl in
    let p2 = in_piece (ts ++ rest) v.to in
    let rs = bs.whole p2.to rest ends in
    let wf = rf.narrow in let ws = rs.narrow in
    record {
      ts = rf.ts ++ (symbol_at (codes ":") (rf.seen.to + 1) ++ ((token (kind.Name x) p1.to end ∷ []) ++ (word_at (codes "in") (v.to + 1) ++ rs.ts)));
      nest = max rf.nest rs.nest;
      seen = both_seen tf (codes " : " ++ (x ++ (codes " in " ++ ts))) rest at _ _ rf.seen
          (both_seen (codes " : ") (x ++ (codes " in " ++ ts)) rest rf.seen.to _ _ p1
          (both_seen x (codes " in " ++ ts) rest p1.to _ _ v
          (both_seen (codes " in ") ts rest v.to _ _ p2 rs.seen)));
      gathers = all_values 1 g _ _ _ x rf.ts rs.ts _ _ rf.produced refl refl refl rs.produced;
      narrow = omega (arith, wf, ws);
    })

chosen_back : (line : ℕ) (g : Gathering) (f : Tree) (x : List ℕ) (s p : Tree) (df ds dp : ℕ) → IsWord x → is_reserved x ≡ false → Both f df → Both s ds →
    Both p dp → Both (tree.GatherWhere line g f x s p) (max df (max ds dp) + 1)
chosen_back line g f x s p df ds dp word free bf bs bp =
    let tf = formula_text f in
    let ts = formula_text s in
    let tp = formula_text p in
    let text = tf ++ (codes " : " ++ (x ++ (codes " in " ++ (ts ++ (codes " | " ++ tp))))) in
    wrapped g line (tree.GatherWhere line g f x s p) _ text (max df (max ds dp)) (enclosed-GatherWhere line g f x s p) (text-GatherWhere line g f x s p
    ∙ simp (append_assoc) refl) (line-GatherWhere line g f x s p)
    (λ at rest ends.
    let rf = bf.whole at ((codes " : " ++ (x ++ (codes " in " ++ (ts ++ (codes " | " ++ tp))))) ++ rest) refl in
    let p1 = colon_piece ((x ++ (codes " in " ++ (ts ++ (codes " | " ++ tp)))) ++ rest) rf.seen.to in
    let (end, v) = name_seen x ((codes " in " ++ (ts ++ (codes " | " ++ tp))) ++ rest) p1.to word free refl in
    let p2 = in_piece ((ts ++ (codes " | " ++ tp)) ++ rest) v.to in
    let rs = bs.whole p2.to ((codes " | " ++ tp) ++ rest) refl in
    let p3 = bar_piece (tp ++ rest) rs.seen.to in
    let rp = bp.whole p3.to rest ends in
    let wf = rf.narrow in let ws = rs.narrow in let wp = rp.narrow in
    record {
      ts = rf.ts ++ (symbol_at (codes ":")
          (rf.seen.to + 1) ++
          ((token (kind.Name x) p1.to end ∷ []) ++ (word_at (codes "in") (v.to + 1) ++ (rs.ts ++ (symbol_at (codes "|") (rs.seen.to + 1) ++ rp.ts)))));
      nest = max rf.nest (max rs.nest rp.nest);
      seen = both_seen tf (codes " : " ++ (x ++ (codes " in " ++ (ts ++ (codes " | " ++ tp))))) rest at _ _ rf.seen
          (both_seen (codes " : ") (x ++ (codes " in " ++ (ts ++ (codes " | " ++ tp)))) rest rf.seen.to _ _ p1
          (both_seen x (codes " in " ++ (ts ++ (codes " | " ++ tp))) rest p1.to _ _ v
          (both_seen (codes " in ") (ts ++ (codes " | " ++ tp)) rest v.to _ _ p2
          (both_seen ts (codes " | " ++ tp) rest p2.to _ _ rs.seen
          (both_seen (codes " | ") tp rest rs.seen.to _ _ p3 rp.seen)))));
      gathers = chosen_values 1 g _ _ _ _ x rf.ts rs.ts rp.ts _ _ _ rf.produced refl refl refl rs.produced refl rp.produced;
      narrow = omega (arith, wf, ws, wp);
    })

-- ---- sets

record PartsRead (trees : List Tree) (depth : ℕ) (at : ℕ) (rest : List ℕ) : Type 0 where
  ts : List Token
  nest : ℕ
  seen : Seen (join_by formula_text (codes ", ") trees) rest at ts
  are : AreParts ts (record { trees = map on_one_line trees; depth = depth; nest = nest })
  narrow : nest ≤ depth

record PartsBack (trees : List Tree) (depth : ℕ) : Type 0 where
  first : Tree
  others : List Tree
  some : trees ≡ first ∷ others
  read : (at : ℕ) (rest : List ℕ) → Ends rest → PartsRead trees depth at rest

one_back : (e : Tree) (d : ℕ) → Both e d → PartsBack (e ∷ []) d
one_back e d b =
    record {
      first = e;
      others = [];
      some = refl;
      read = λ at rest ends.
          let r = b.whole at rest ends in
          let P : List ℕ → Type 0 = λ t. Seen t rest at r.ts in
          record { ts = r.ts; nest = r.nest; seen = subst P (sym (append-nil (formula_text e))) r.seen; are = one_part r.ts _ r.produced; narrow = r.narrow };
    }

flat_snoc : {A B : Type 0} (f : A → List B) (xs : List A) (y : A) → flat_map f (xs ++ y ∷ []) ≡ flat_map f xs ++ f y
flat_snoc f [] y = append-nil (f y)
flat_snoc f (x ∷ xs) y = ap (λ l. f x ++ l) (flat_snoc f xs y) ∙ sym (append_assoc (f x) (flat_map f xs) (f y))

join_snoc : (first : Tree) (others : List Tree) (y : Tree) →
    join_by formula_text (codes ", ") ((first ∷ others) ++ y ∷ []) ≡ join_by formula_text (codes ", ") (first ∷ others) ++ (codes ", " ++ formula_text y)
join_snoc first others y =
    ap (λ l. formula_text first ++ l) (flat_snoc (λ e. codes ", " ++ formula_text e) others y)
    ∙ sym (append_assoc (formula_text first) (flat_map (λ e. codes ", " ++ formula_text e) others) (codes ", " ++ formula_text y))

map_snoc : {A B : Type 0} (f : A → B) (xs : List A) (y : A) → map f (xs ++ y ∷ []) ≡ map f xs ++ f y ∷ []
map_snoc f [] y = refl
map_snoc f (x ∷ xs) y = ap (λ l. f x ∷ l) (map_snoc f xs y)

more_back : (trees : List Tree) (y : Tree) (d dy : ℕ) → PartsBack trees d → Both y dy → PartsBack (trees ++ y ∷ []) (max d dy)
more_back trees y d dy b by =
    record {
      first = b.first;
      others = b.others ++ y ∷ [];
      some = ap (λ l. l ++ y ∷ []) b.some;
      read = λ at rest ends.
          let ty = formula_text y in
          let tt' = join_by formula_text (codes ", ") trees in
          let r = b.read at ((codes ", " ++ ty) ++ rest) refl in
          let p = comma_piece (ty ++ rest) r.seen.to in
          let ry = by.whole p.to rest ends in
          let text : join_by formula_text (codes ", ") (trees ++ y ∷ []) ≡ tt' ++ (codes ", " ++ ty) =
          ap (λ l. join_by formula_text (codes ", ") (l ++ y ∷ [])) b.some ∙ join_snoc b.first b.others y
          ∙ ap (λ l. join_by formula_text (codes ", ") l ++ (codes ", " ++ ty)) (sym b.some) in
          let P : List ℕ → Type 0 = λ t. Seen t rest at (r.ts ++ (symbol_at (codes ",") r.seen.to ++ ry.ts)) in
          let Q : List Tree →
          Type 0 = λ l. AreParts (r.ts ++ (symbol_at (codes ",") r.seen.to ++ ry.ts)) (record { trees = l; depth = max d dy; nest = max r.nest ry.nest }) in
          let n = r.narrow in let m = ry.narrow in
          record {
            ts = r.ts ++ (symbol_at (codes ",") r.seen.to ++ ry.ts);
            nest = max r.nest ry.nest;
            seen = subst P (sym text) (both_seen tt' (codes ", " ++ ty) rest at _ _ r.seen (both_seen (codes ", ") ty rest r.seen.to _ _ p ry.seen));
            are = subst Q (sym (map_snoc on_one_line trees y)) (more_parts _ r.ts ry.ts _ _ r.are refl ry.produced);
            narrow = omega (arith, n, m);
          };
    }

set_back : (line : ℕ) (trees : List Tree) (d : ℕ) → PartsBack trees d → Both (tree.Set line trees) (d + 1)
set_back line trees d b =
    let t = join_by formula_text (codes ", ") trees in
    open_form (tree.Set line trees) (d + 1) _ _ (enclosed-Set line trees) (text-Set line trees) (line-Set line trees)
    (λ at rest ends.
    let p = open_brace_piece ((t ++ codes "}") ++ rest) at in
    let r = b.read p.to (codes "}" ++ rest) refl in
    let c = close_brace_piece rest r.seen.to in
    let n = r.narrow in
    record {
      ts = symbol_at (codes "{") at ++ (r.ts ++ symbol_at (codes "}") r.seen.to);
      nest = r.nest + 1;
      seen = both_seen (codes "{") (t ++ codes "}") rest at _ _ p (both_seen t (codes "}") rest p.to _ _ r.seen c);
      produced = no_step _ _ (a_set _ _ r.ts _ refl r.are refl);
      narrow = omega (arith, n);
      lined = refl;
    })

empty_back : (line : ℕ) → Both (tree.Set line []) 1
empty_back line =
    open_form (tree.Set line []) 1 _ _ (enclosed-Set line []) (text-Set line []) (line-Set line [])
    (λ at rest ends.
    let p = open_brace_piece (codes "}" ++ rest) at in
    let c = close_brace_piece rest p.to in
    record {
      ts = symbol_at (codes "{") at ++ symbol_at (codes "}") p.to;
      nest = 1;
      seen = both_seen (codes "{") (codes "}") rest at _ _ p c;
      produced =
          no_step _ _ (no_set _ _ refl refl);
      narrow = omega arith;
      lined = refl;
    })

-- ---- all forms

pub named_word : (k : TokenKind) (name : List ℕ) → k ≡ kind.Name name → Lexable k → IsWord name × (is_reserved name ≡ false)
named_word k name is h = let P : TokenKind → Type 0 = Lexable in subst P is h

mutual
  pub back : (n : Nonterminal) (ts : List Token) (f : Form) → Produces n ts f → Good ts → Both f.tree f.depth
  back _ _ _ (a_choice i t e cs xs ys c x y a b d g h k) good =
      let (gc, g1) = good_front cs (t ∷ (xs ++ e ∷ ys)) good.1 in
      let (gx, g2) = good_front xs (e ∷ ys) g1.1 in
      if_back i.line c.tree x.tree y.tree c.depth x.depth y.depth (back _ cs c b gc) (back _ xs x g gx) (back _ ys y k g2.1)
  back _ _ _ (no_choice ts f p) good = back _ ts f p good
  back _ _ _ (an_operand l ts f p) good = back _ ts f p good
  back _ _ _ (an_operation l op o xs ys x y p is q) good =
      let (gx, g1) = good_front xs (o ∷ ys) good in
      binary_back (line_of xs) l op (sign_of o.kind) x.tree y.tree x.depth y.depth is (back _ xs x p gx) (back _ ys y q g1.1)
  back _ _ _ (a_prefix p t ts f is q) good = prefix_back p t.line f.tree f.depth (back _ ts f q good.1)
  back _ _ _ (no_prefix p ts f q) good = back _ ts f q good
  back _ _ _ (no_step ts f p) good = back _ ts f p good
  back _ _ _ (a_child d t name ts f p a b) good =
      let (gf, g1) = good_front ts (d ∷ t ∷ []) good in
      let (word, free) = named_word t.kind name b g1.1.0 in
      child_back (line_of ts) f.tree name f.depth word free (back _ ts f p gf)
  back _ _ _ (an_up d t ts f p a b) good = let (gf, g1) = good_front ts (d ∷ t ∷ []) good in up_back (line_of ts) f.tree f.depth (back _ ts f p gf)
  back _ _ _ (a_leaf t e is) good = leaf_back t.line t.kind e good.0 is
  back _ _ _ (in_parentheses o c ts f a p b) good = let (gf, g1) = good_front ts (c ∷ []) good.1 in back _ ts f p gf
  back _ _ _ (no_set o c a b) good = empty_back o.line
  back _ _ _ (a_set o c ts p a q b) good = let (gp, g1) = good_front ts (c ∷ []) good.1 in set_back o.line p.trees p.depth (back_parts ts p q gp)
  back _ _ _ (a_comprehension o c ts g a q b) good = let (gg, g1) = good_front ts (c ∷ []) good.1 in back_gathers o.line gathering.Union ts g q gg
  back _ _ _ (a_sum w o c ts g a b q d) good = let (gg, g1) = good_front ts (c ∷ []) good.1.1 in back_gathers w.line gathering.Sum ts g q gg
  back _ _ _ (a_call w o c h ts f a b q d) good = let (gf, g1) = good_front ts (c ∷ []) good.1.1 in call_back w.line h f.tree f.depth (back _ ts f q gf)
  back _ _ _ (a_test w o n i b c q name ss ps x p a1 a2 a3 a4 a5 a6 a7 a8) good =
      let inner = good.1.1 in
      let (word, free) = named_word n.kind name a3 inner.0 in
      let (gs, g1) = good_front ss (b ∷ (ps ++ c ∷ [])) inner.1.1 in
      let (gp, g2) = good_front ps (c ∷ []) g1.1 in
      test_back w.line q name x.tree p.tree x.depth p.depth word free (back _ ss x a5 gs) (back _ ps p a7 gp)

  back_parts : (ts : List Token) (p : Parts) → AreParts ts p → Good ts → PartsBack p.trees p.depth
  back_parts _ _ (one_part ts f p) good = one_back f.tree f.depth (back _ ts f p good)
  back_parts _ _ (more_parts k xs ys p y q is r) good =
      let (gx, g1) = good_front xs (k ∷ ys) good in
      more_back p.trees y.tree p.depth y.depth (back_parts xs p q gx) (back _ ys y r g1.1)

  back_gathers : (line : ℕ) (g : Gathering) (ts : List Token) (f : Form) → Gathers line g ts f → Good ts → Both f.tree (f.depth + 1)
  back_gathers _ _ _ _ (all_values line g k n i name fs ss f x a1 a2 a3 a4 a5) good =
      let (gf, g1) = good_front fs (k ∷ n ∷ i ∷ ss) good in
      let (word, free) = named_word n.kind name a3 g1.1.0 in
      gather_back line g f.tree name x.tree f.depth x.depth word free (back _ fs f a1 gf) (back _ ss x a5 g1.1.1.1)
  back_gathers _ _ _ _ (chosen_values line g k n i b name fs ss ps f x p a1 a2 a3 a4 a5 a6 a7) good =
      let (gf, g1) = good_front fs (k ∷ n ∷ i ∷ (ss ++ b ∷ ps)) good in
      let (word, free) = named_word n.kind name a3 g1.1.0 in
      let (gs, g2) = good_front ss (b ∷ ps) g1.1.1.1 in
      chosen_back line g f.tree name x.tree p.tree f.depth x.depth p.depth word free (back _ fs f a1 gf) (back _ ss x a5 gs) (back _ ps p a7 g2.1)

pub reads_back : (text : List ℕ) (e : Tree) → StandsFor text e → StandsFor (formula_text e) (on_one_line e)
reads_back text e s =
    let both = back expression s.tokens (form e s.formula.depth s.formula.nest) s.formula.produced (lexed_good text s.tokens s.lexed) in
    let r = both.whole 0 [] tt in
    let n = r.narrow in let d = s.formula.shallow in
    record {
      tokens = r.ts;
      lexed = ap (λ l. tokens_from l 0 1 0) (sym (append-nil (formula_text e))) ∙ r.seen.told ∙ ap Ok (append-nil r.ts);
      formula = record { depth = s.formula.depth; nest = r.nest; produced = r.produced; shallow = d; narrow = omega (arith, n, d) };
    }

-- the same of a text that a function may give
pub given_back : {X E : Type 0} (items : X → List ℕ) (r : Result X E) (e : Tree) → IfOk r (λ t. items t ≡ formula_text e) →
    IfOk r (λ t. (source : List ℕ) → StandsFor source e → StandsFor (items t) (on_one_line e))
given_back items (Ok t) e h = λ source s. let P : List ℕ → Type 0 = λ l. StandsFor l (on_one_line e) in subst P (sym h) (reads_back source e s)
given_back items (Err d) e h = tt
