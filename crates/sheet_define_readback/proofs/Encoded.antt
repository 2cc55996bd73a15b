-- What is printed of a formula is UTF-8.
use Rattle.std.proofs.Common.{◌≡◌, ℕ, zero, suc, ◌<◌, ◌≤◌, ◌^◌, Bool, true, false, ◌&&◌, nat_lt, List, [], ◌∷◌, ◌++◌, length, get_or, IsUtf8, inl, inr, refl}
use Rattle.std.proofs.Common.{sym, ap₂, subst, arith, append-nil, ltb-true, pos}
use Rattle.std.specs.Prelude.{codes, flat_map, nat_le, Some}
use Rattle.std.specs.Fmt.{signed_decimal}
use Rattle.std.specs.List.{join_by}
use Rattle.std.proofs.lemmas.Bool.{and_parts, cases_Bool, cases_lt, cases_eq}
use Rattle.std.proofs.lemmas.Grind.{common_steps, flat_map-append}
use Rattle.std.proofs.lemmas.Str.{IsUtf8-append, IsUtf8-nil, IsUtf8-encode, IsUtf8-from_is_utf8, encode_ascii, inside_one}
use lib.Utf8.{scalar, scalars, encode, encodes, low_scalar}
use Rattle.sheet_syntax_trees.specs.declared.token.Token.{Token}
use Rattle.sheet_syntax_trees.specs.declared.token.TokenKind.{TokenKind}
use Rattle.sheet_syntax_trees.specs.declared.token.TokenKind.TheVariants as kind
use Rattle.sheet_syntax_trees.specs.Bytes.{is_digit, is_in_word}
use Rattle.sheet_syntax_trees.specs.Tokens.{is_short_text}
use Rattle.sheet_syntax_trees.proofs.Seeing.{AllPass, IsWord, numeral}
use Rattle.sheet_syntax_trees.proofs.Printable.{Lexable, Good, good_front}
use Rattle.sheet_syntax_trees.specs.declared.sign.Sign.{Sign}
use Rattle.sheet_syntax_trees.specs.declared.sign.Sign.TheVariants as sign
use Rattle.sheet_syntax_trees.specs.declared.operators.Operator.{Operator}
use Rattle.sheet_syntax_trees.specs.declared.operators.Operator.TheVariants as operator
use Rattle.sheet_syntax_trees.specs.declared.operators.Function.{Function}
use Rattle.sheet_syntax_trees.specs.declared.operators.Function.TheVariants as function
use Rattle.sheet_syntax_trees.specs.declared.operators.Gathering.{Gathering}
use Rattle.sheet_syntax_trees.specs.declared.operators.Gathering.TheVariants as gathering
use Rattle.sheet_syntax_trees.specs.declared.operators.Quantifier.{Quantifier}
use Rattle.sheet_syntax_trees.specs.declared.operators.Quantifier.TheVariants as quantifier
use Rattle.sheet_syntax_trees.specs.declared.operators.Prefix.{Prefix}
use Rattle.sheet_syntax_trees.specs.declared.operators.Prefix.TheVariants as prefix
use Rattle.sheet_syntax_trees.specs.declared.tree.Tree.{Tree}
use Rattle.sheet_syntax_trees.specs.declared.tree.Tree.TheVariants as tree
use Rattle.sheet_syntax_trees.specs.Signs.{sign_of}
use Rattle.sheet_syntax_trees.specs.Operators.{prefixed}
use Rattle.sheet_syntax_trees.specs.Grammar.{Nonterminal, Form, Parts, Produces, AreParts, Gathers, a_choice, no_choice, an_operand, an_operation, a_prefix}
use Rattle.sheet_syntax_trees.specs.Grammar.{no_prefix, no_step, a_child, an_up, a_leaf, in_parentheses, no_set, a_set, a_comprehension, a_sum, a_call, a_test}
use Rattle.sheet_syntax_trees.specs.Grammar.{one_part, more_parts, all_values, chosen_values}
use Rattle.sheet_syntax_trees.specs.Reading.{leaf, leaf_of, line_of}
use Rattle.sheet_syntax_trees.specs.Printing.{escape, quoted, formula_text, is_enclosed, operand, operator_text, function_text, quantifier_text, opening_text}
use Rattle.sheet_syntax_trees.specs.Printing.{closing_text}
use Rattle.sheet_syntax_print.proofs.Laws.{text-Child, text-Up, text-Negate, text-Not, text-Binary, text-If, text-Call, text-Gather, text-GatherWhere}
use Rattle.sheet_syntax_print.proofs.Laws.{text-Test, text-Set}
use Rattle.sheet_syntax_print.proofs.Back.{named_word}

-- ---- ASCII

ascii_then : (x : ℕ) (xs : List ℕ) → x < 128 → IsUtf8 xs → IsUtf8 (x ∷ xs)
ascii_then x xs small u = IsUtf8-append (x ∷ []) xs (subst IsUtf8 (encode_ascii x small) (IsUtf8-encode x (low_scalar x (omega arith)))) u

abbrev pub are_ascii : List ℕ → Bool
are_ascii [] = true
are_ascii (x ∷ xs) = nat_lt x 128 && are_ascii xs

pub plain : (xs : List ℕ) → are_ascii xs ≡ true → IsUtf8 xs
plain [] e = IsUtf8-nil
plain (x ∷ xs) e = let p = and_parts _ _ e in ascii_then x xs (ltb-true _ _ p.0) (plain xs p.1)

in_word_ascii : (c : ℕ) → is_in_word c ≡ true → c < 128
in_word_ascii c h = grind (arith, common_steps)

digit_in_word : (c : ℕ) → is_digit c ≡ true → c < 128
digit_in_word c h = grind (arith, common_steps)

passing : (p : ℕ → Bool) → ((c : ℕ) → p c ≡ true → c < 128) → (xs : List ℕ) → AllPass p xs → IsUtf8 xs
passing p small [] h = IsUtf8-nil
passing p small (x ∷ xs) h = ascii_then x xs (small x h.0) (passing p small xs h.1)

pub word_encoded : (w : List ℕ) → IsWord w → IsUtf8 w
word_encoded w h = subst IsUtf8 (sym h.is) (passing is_in_word in_word_ascii (h.first ∷ h.others) h.passes)

fits_small : (n : ℕ) → nat_le n 9223372036854775807 ≡ true → n < 2 ^ 64
fits_small n h = grind (arith, common_steps)

pub number_encoded : (n : ℕ) → nat_le n 9223372036854775807 ≡ true → IsUtf8 (signed_decimal (pos n))
number_encoded n fits = let m = numeral n (fits_small n fits) in subst IsUtf8 (sym m.is) (passing is_digit digit_in_word (m.first ∷ m.others) m.passes)

-- ---- texts in quotes

escape_plain : (c : ℕ) → (c ≡ 34 → ⊥) → (c ≡ 92 → ⊥) → (c ≡ 10 → ⊥) → escape c ≡ c ∷ []
escape_plain c a b d = elim (cases_eq c 34) [
  | inl e ↦ absurd (a e)
  | inr e ↦ grind (arith, common_steps)
]

abbrev escapes_below : ℕ → Bool
escapes_below zero = true
escapes_below (suc n) = are_ascii (escape n) && escapes_below n

escape_below : (n : ℕ) → escapes_below n ≡ true → (x : ℕ) → x < n → are_ascii (escape x) ≡ true
escape_below zero e x h = absurd (omega arith)
escape_below (suc n) e x h =
    let p = and_parts _ _ e in
    elim (cases_eq x n) [ inl same ↦ rw same p.0 | inr other ↦ escape_below n p.1 x (omega arith) ]

escape_high : (xs : List ℕ) → ((k : ℕ) → k < length xs → 128 ≤ get_or xs k 0) → flat_map escape xs ≡ xs
escape_high [] h = refl
escape_high (x ∷ xs) h =
    let high : 128 ≤ x = h 0 (omega arith) in
    ap₂ (λ (a b : List ℕ). a ++ b) (escape_plain x (λ e. omega arith) (λ e. omega arith) (λ e. omega arith))
    (escape_high xs (λ k below. h (suc k) (omega arith)))

one_char : (c : ℕ) → scalar c ≡ true → IsUtf8 (flat_map escape (encode c))
one_char c ok = elim (cases_lt c 128) [
  | inl small ↦ rw (encode_ascii c small, append-nil) (plain _ (escape_below 128 refl c small))
  | inr big ↦
      let high : (k : ℕ) → k < length (encode c) → 128 ≤ get_or (encode c) k 0 = λ k below. elim (cases_lt (get_or (encode c) k 0) 128) [
        | inl low ↦ absurd (omega (arith, inside_one c [] (encode c) k (sym (append-nil _)) below low))
        | inr h ↦ h
      ] in
      subst IsUtf8 (sym (escape_high (encode c) high)) (IsUtf8-encode c ok)
]

all_chars : (cs : List ℕ) → scalars cs ≡ true → IsUtf8 (flat_map escape (encodes cs))
all_chars [] e = IsUtf8-nil
all_chars (c ∷ cs) e =
    let p = and_parts _ _ e in
    subst IsUtf8 (sym (flat_map-append escape (encode c) (encodes cs))) (IsUtf8-append _ _ (one_char c p.0) (all_chars cs p.1))

pub quoted_encoded : (content : List ℕ) → is_short_text content ≡ true → IsUtf8 (quoted content)
quoted_encoded content short =
    let p = and_parts _ _ short in
    let u = IsUtf8-from_is_utf8 content p.0 in
    ascii_then 34 _ (omega arith) (IsUtf8-append _ _ (subst (λ l. IsUtf8 (flat_map escape l)) u.1.1 (all_chars u.0 u.1.0)) (plain (34 ∷ []) refl))

-- ---- words of formulas

operator_encoded : (op : Operator) → IsUtf8 (operator_text op)
operator_encoded operator.Or = plain _ refl
operator_encoded operator.And = plain _ refl
operator_encoded operator.Equals = plain _ refl
operator_encoded operator.NotEquals = plain _ refl
operator_encoded operator.Less = plain _ refl
operator_encoded operator.AtMost = plain _ refl
operator_encoded operator.Greater = plain _ refl
operator_encoded operator.AtLeast = plain _ refl
operator_encoded operator.In = plain _ refl
operator_encoded operator.Union = plain _ refl
operator_encoded operator.Intersect = plain _ refl
operator_encoded operator.Except = plain _ refl
operator_encoded operator.Plus = plain _ refl
operator_encoded operator.Minus = plain _ refl
operator_encoded operator.Join = plain _ refl
operator_encoded operator.Times = plain _ refl
operator_encoded operator.Divide = plain _ refl
operator_encoded operator.Remainder = plain _ refl

function_encoded : (f : Function) → IsUtf8 (function_text f)
function_encoded function.Count = plain _ refl
function_encoded function.Only = plain _ refl
function_encoded function.Min = plain _ refl
function_encoded function.Max = plain _ refl

quantifier_encoded : (q : Quantifier) → IsUtf8 (quantifier_text q)
quantifier_encoded quantifier.Any = plain _ refl
quantifier_encoded quantifier.All = plain _ refl

opening_encoded : (g : Gathering) → IsUtf8 (opening_text g)
opening_encoded gathering.Union = plain _ refl
opening_encoded gathering.Sum = plain _ refl

closing_encoded : (g : Gathering) → IsUtf8 (closing_text g)
closing_encoded gathering.Union = plain _ refl
closing_encoded gathering.Sum = plain _ refl

-- ---- forms

join : (a b : List ℕ) → IsUtf8 a → IsUtf8 b → IsUtf8 (a ++ b)
join a b u v = IsUtf8-append a b u v

around : (a b : List ℕ) (text : List ℕ) → IsUtf8 a → IsUtf8 b → IsUtf8 text → IsUtf8 (a ++ text ++ b)
around a b text u v w = join _ _ (join _ _ u w) v

pub operand_encoded : (e : Tree) (text : List ℕ) → IsUtf8 text → IsUtf8 (operand e text)
operand_encoded e text u = elim (cases_Bool (is_enclosed e)) [
  | inl h ↦ rw h (around (codes "(") (codes ")") text (plain _ refl) (plain _ refl) u)
  | inr h ↦ rw h u
]

leaf_sign : (line : ℕ) (s : Sign) (e : Tree) → leaf_of line s ≡ Some e → IsUtf8 (formula_text e)
leaf_sign line sign.True e h = let same : tree.Truth line true ≡ e = cc in subst (λ t. IsUtf8 (formula_text t)) same (plain _ refl)
leaf_sign line sign.False e h = let same : tree.Truth line false ≡ e = cc in subst (λ t. IsUtf8 (formula_text t)) same (plain _ refl)
leaf_sign line sign.Root e h = let same : tree.Root line ≡ e = cc in subst (λ t. IsUtf8 (formula_text t)) same (plain _ refl)
leaf_sign line sign.This e h = let same : tree.This line ≡ e = cc in subst (λ t. IsUtf8 (formula_text t)) same (plain _ refl)
leaf_sign line sign.Caller e h = let same : tree.Caller line ≡ e = cc in subst (λ t. IsUtf8 (formula_text t)) same (plain _ refl)
leaf_sign line sign.Operator e h = let same : tree.Operator line ≡ e = cc in subst (λ t. IsUtf8 (formula_text t)) same (plain _ refl)
leaf_sign line _ e h = let wrong : ⊥ = cc in absurd wrong

leaf_encoded : (line : ℕ) (k : TokenKind) (e : Tree) → Lexable k → leaf line k ≡ Some e → IsUtf8 (formula_text e)
leaf_encoded line (kind.Name name) e good h = let same : tree.Name line name ≡ e = cc in subst (λ t. IsUtf8 (formula_text t)) same (word_encoded name good.0)
leaf_encoded line (kind.Reserved word) e good h = leaf_sign line (sign_of (kind.Reserved word)) e h
leaf_encoded line (kind.Number z) e (n, is, fits) h =
    let same : tree.Number line z ≡ e = cc in
    subst (λ t. IsUtf8 (formula_text t)) same (subst (λ z. IsUtf8 (signed_decimal z)) (sym is) (number_encoded n fits))
leaf_encoded line (kind.Text content) e good h = let same : tree.Text line content ≡ e = cc in
    subst (λ t. IsUtf8 (formula_text t)) same (quoted_encoded content good.0)
leaf_encoded line (kind.Symbol s) e good h = leaf_sign line (sign_of (kind.Symbol s)) e h

prefixed_encoded : (p : Prefix) (line : ℕ) (e : Tree) → IsUtf8 (formula_text e) → IsUtf8 (formula_text (prefixed p line e))
prefixed_encoded prefix.Minus line e u = subst IsUtf8 (sym (text-Negate line e)) (join _ _ (plain (codes "-") refl) (operand_encoded e (formula_text e) u))
prefixed_encoded prefix.Not line e u = subst IsUtf8 (sym (text-Not line e)) (join _ _ (plain (codes "not ") refl) (operand_encoded e (formula_text e) u))

-- the texts are all UTF-8
abbrev AllEncoded : List Tree → Type 0
AllEncoded [] = Unit {0}
AllEncoded (e ∷ es) = IsUtf8 (formula_text e) × AllEncoded es

one_behind : (es : List Tree) (e : Tree) → AllEncoded es → IsUtf8 (formula_text e) → AllEncoded (es ++ e ∷ [])
one_behind [] e all u = (u, tt)
one_behind (x ∷ xs) e all u = (all.0, one_behind xs e all.1 u)

others_encoded : (es : List Tree) → AllEncoded es → IsUtf8 (flat_map (λ e. codes ", " ++ formula_text e) es)
others_encoded [] all = IsUtf8-nil
others_encoded (e ∷ es) all = join _ _ (join _ _ (plain (codes ", ") refl) all.0) (others_encoded es all.1)

parts_text : (es : List Tree) → AllEncoded es → IsUtf8 (join_by formula_text (codes ", ") es)
parts_text [] all = IsUtf8-nil
parts_text (e ∷ es) all = join _ _ all.0 (others_encoded es all.1)

set_encoded : (line : ℕ) (es : List Tree) → AllEncoded es → IsUtf8 (formula_text (tree.Set line es))
set_encoded line es all =
    subst IsUtf8 (sym (text-Set line es)) (around (codes "{") (codes "}") _ (plain (codes "{") refl) (plain (codes "}") refl) (parts_text es all))

mutual
  pub encoded : (nt : Nonterminal) (ts : List Token) (f : Form) → Produces nt ts f → Good ts → IsUtf8 (formula_text f.tree)
  encoded _ _ _ (a_choice i t e cs xs ys c x y a b d g h k) good =
      let (gc, g1) = good_front cs (t ∷ (xs ++ e ∷ ys)) good.1 in
      let (gx, g2) = good_front xs (e ∷ ys) g1.1 in
      subst IsUtf8 (sym (text-If i.line c.tree x.tree y.tree))
      (join _ _ (join _ _ (join _ _ (join _ _ (join _ _ (plain (codes "if ") refl) (encoded _ cs c b gc)) (plain (codes " then ") refl)) (encoded _ xs x g gx))
      (plain (codes " else ") refl)) (encoded _ ys y k g2.1))
  encoded _ _ _ (no_choice ts f p) good = encoded _ ts f p good
  encoded _ _ _ (an_operand l ts f p) good = encoded _ ts f p good
  encoded _ _ _ (an_operation l op o xs ys x y p is q) good =
      let (gx, g1) = good_front xs (o ∷ ys) good in
      subst IsUtf8 (sym (text-Binary (line_of xs) op x.tree y.tree))
      (join _ _ (join _ _ (join _ _ (join _ _ (operand_encoded x.tree _ (encoded _ xs x p gx)) (plain (codes " ") refl)) (operator_encoded op))
      (plain (codes " ") refl)) (operand_encoded y.tree _ (encoded _ ys y q g1.1)))
  encoded _ _ _ (a_prefix p t ts f is q) good = prefixed_encoded p t.line f.tree (encoded _ ts f q good.1)
  encoded _ _ _ (no_prefix p ts f q) good = encoded _ ts f q good
  encoded _ _ _ (no_step ts f p) good = encoded _ ts f p good
  encoded _ _ _ (a_child d t name ts f p a b) good =
      let (gf, g1) = good_front ts (d ∷ t ∷ []) good in
      let (word, free) = named_word t.kind name b g1.1.0 in
      subst IsUtf8 (sym (text-Child (line_of ts) f.tree name))
      (join _ _ (join _ _ (operand_encoded f.tree _ (encoded _ ts f p gf)) (plain (codes ".") refl)) (word_encoded name word))
  encoded _ _ _ (an_up d t ts f p a b) good =
      let (gf, g1) = good_front ts (d ∷ t ∷ []) good in
      subst IsUtf8 (sym (text-Up (line_of ts) f.tree)) (join _ _ (operand_encoded f.tree _ (encoded _ ts f p gf)) (plain (codes ".up") refl))
  encoded _ _ _ (a_leaf t e is) good = leaf_encoded t.line t.kind e good.0 is
  encoded _ _ _ (in_parentheses o c ts f a p b) good = let (gf, g1) = good_front ts (c ∷ []) good.1 in encoded _ ts f p gf
  encoded _ _ _ (no_set o c a b) good = set_encoded o.line [] tt
  encoded _ _ _ (a_set o c ts p a q b) good = let (gp, g1) = good_front ts (c ∷ []) good.1 in set_encoded o.line p.trees (parts_encoded ts p q gp)
  encoded _ _ _ (a_comprehension o c ts g a q b) good = let (gg, g1) = good_front ts (c ∷ []) good.1 in gathers_encoded o.line gathering.Union ts g q gg
  encoded _ _ _ (a_sum w o c ts g a b q d) good = let (gg, g1) = good_front ts (c ∷ []) good.1.1 in gathers_encoded w.line gathering.Sum ts g q gg
  encoded _ _ _ (a_call w o c h ts f a b q d) good =
      let (gf, g1) = good_front ts (c ∷ []) good.1.1 in
      subst IsUtf8 (sym (text-Call w.line h f.tree))
      (join _ _ (function_encoded h) (around (codes "(") (codes ")") _ (plain (codes "(") refl) (plain (codes ")") refl) (encoded _ ts f q gf)))
  encoded _ _ _ (a_test w o n i b c q name ss ps x p a1 a2 a3 a4 a5 a6 a7 a8) good =
      let inner = good.1.1 in
      let (word, free) = named_word n.kind name a3 inner.0 in
      let (gs, g1) = good_front ss (b ∷ (ps ++ c ∷ [])) inner.1.1 in
      let (gp, g2) = good_front ps (c ∷ []) g1.1 in
      subst IsUtf8 (sym (text-Test w.line q name x.tree p.tree))
      (join _ _ (quantifier_encoded q)
      (around (codes "(") (codes ")") _ (plain (codes "(") refl) (plain (codes ")") refl)
      (join _ _ (join _ _ (join _ _ (join _ _ (word_encoded name word) (plain (codes " in ") refl)) (encoded _ ss x a5 gs)) (plain (codes " | ") refl))
      (encoded _ ps p a7 gp))))

  parts_encoded : (ts : List Token) (p : Parts) → AreParts ts p → Good ts → AllEncoded p.trees
  parts_encoded _ _ (one_part ts f p) good = (encoded _ ts f p good, tt)
  parts_encoded _ _ (more_parts k xs ys p y q is r) good =
      let (gx, g1) = good_front xs (k ∷ ys) good in
      one_behind p.trees y.tree (parts_encoded xs p q gx) (encoded _ ys y r g1.1)

  gathers_encoded : (line : ℕ) (g : Gathering) (ts : List Token) (f : Form) → Gathers line g ts f → Good ts → IsUtf8 (formula_text f.tree)
  gathers_encoded _ _ _ _ (all_values line g k n i name fs ss f x a1 a2 a3 a4 a5) good =
      let (gf, g1) = good_front fs (k ∷ n ∷ i ∷ ss) good in
      let (word, free) = named_word n.kind name a3 g1.1.0 in
      subst IsUtf8 (sym (text-Gather line g f.tree name x.tree))
      (join _ _ (join _ _ (opening_encoded g)
      (join _ _ (join _ _ (join _ _ (join _ _ (encoded _ fs f a1 gf) (plain (codes " : ") refl)) (word_encoded name word)) (plain (codes " in ") refl))
      (encoded _ ss x a5 g1.1.1.1)))
      (closing_encoded g))
  gathers_encoded _ _ _ _ (chosen_values line g k n i b name fs ss ps f x p a1 a2 a3 a4 a5 a6 a7) good =
      let (gf, g1) = good_front fs (k ∷ n ∷ i ∷ (ss ++ b ∷ ps)) good in
      let (word, free) = named_word n.kind name a3 g1.1.0 in
      let (gs, g2) = good_front ss (b ∷ ps) g1.1.1.1 in
      subst IsUtf8 (sym (text-GatherWhere line g f.tree name x.tree p.tree))
      (join _ _ (join _ _ (join _ _ (join _ _ (opening_encoded g)
      (join _ _ (join _ _ (join _ _ (join _ _ (encoded _ fs f a1 gf) (plain (codes " : ") refl)) (word_encoded name word)) (plain (codes " in ") refl))
      (encoded _ ss x a5 gs)))
      (plain (codes " | ") refl)) (encoded _ ps p a7 g2.1))
      (closing_encoded g))
