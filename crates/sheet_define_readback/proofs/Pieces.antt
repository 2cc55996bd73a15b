-- The words, symbols, names and values of printed definitions, and what each is read as.
use Rattle.std.proofs.Common.{◌≡◌, ℕ, ◌+◌, ◌^◌, ◌<◌, ◌≤◌, List, [], ◌∷◌, ◌++◌, map, IsUtf8, true, false, refl, ◌∙◌, subst, arith, pos}
use Rattle.std.specs.Prelude.{codes, nat_le}
use Rattle.std.specs.Fmt.{signed_decimal}
use Rattle.std.proofs.lemmas.Grind.{common_steps}
use Rattle.std.proofs.lemmas.Str.{IsUtf8-append}
use Rattle.sheet_syntax_trees.specs.declared.token.Token.{Token}
use Rattle.sheet_syntax_trees.specs.declared.token.TokenKind.{TokenKind}
use Rattle.sheet_syntax_trees.specs.declared.token.TokenKind.TheVariants as kind
use Rattle.sheet_syntax_trees.specs.Tokens.{is_reserved, tokens_from, with_tokens, is_short_text}
use Rattle.sheet_syntax_trees.proofs.Printable.{Good, good_front}
use Rattle.sheet_syntax_trees.proofs.Seeing.{Ends, Seen, IsWord, TextBytes, token, number_seen}
use Rattle.sheet_syntax_trees.specs.declared.tree.Tree.{Tree}
use Rattle.sheet_syntax_trees.specs.Grammar.{Nonterminal, expression, postfix, form}
use Rattle.sheet_syntax_trees.specs.Texts.{on_one_line}
use Rattle.sheet_syntax_trees.specs.Printing.{formula_text, operand, quoted}
use Rattle.sheet_define_data.specs.Grammar.{Limits, IsFormulaOf}
use Rattle.sheet_syntax_print.proofs.Back.{Back, back, name_seen, reserved_seen, a_word}
use Rattle.sheet_syntax_print.proofs.Quoting.{text_seen}
use Rattle.sheet_define_readback.proofs.Encoded.{are_ascii, plain, encoded, word_encoded, number_encoded, quoted_encoded, operand_encoded}
use Rattle.sheet_define_readback.proofs.Lowered.{lower, twice}
use Rattle.sheet_define_readback.proofs.Moved.{down}
use Rattle.sheet_define_readback.proofs.Written.{lowered, Written, Any, One, one, Read}

-- ---- fixed pieces of text with one token, before any rest

record Piece (k : TokenKind) (text rest : List ℕ) (at above : ℕ) : Type 0 where
  start : ℕ
  end : ℕ
  to : ℕ
  told : tokens_from (text ++ rest) at (above + 1) 0 ≡ with_tokens (record { kind = k; start = start; end = end; line = above + 1 } ∷ [])
      (tokens_from rest to (above + 1) 0)

piece : (k : TokenKind) (text : List ℕ) → are_ascii text ≡ true → ((rest : List ℕ) (at above : ℕ) → Piece k text rest at above) → Written Any (One k) text
piece k text ascii f =
    record {
      encoded = plain text ascii;
      printed = λ at above rest c.
          let p = f rest at above in
          record {
            ts = record { kind = k; start = p.start; end = p.end; line = above + 1 } ∷ [];
            lies = record { to = p.to; below = above; told = p.told };
            reads = λ us. one _ us refl;
          };
    }

pub callers_piece : Written Any (One (kind.Reserved (codes "callers"))) (codes "callers ")
unfolding is_reserved
callers_piece = piece _ (codes "callers ") refl (λ rest at above. record { start = _; end = _; to = _; told = refl })

pub object_piece : Written Any (One (kind.Reserved (codes "object"))) (codes "object ")
unfolding is_reserved
object_piece = piece _ (codes "object ") refl (λ rest at above. record { start = _; end = _; to = _; told = refl })

pub state_piece : Written Any (One (kind.Reserved (codes "state"))) (codes "state ")
unfolding is_reserved
state_piece = piece _ (codes "state ") refl (λ rest at above. record { start = _; end = _; to = _; told = refl })

pub formula_piece : Written Any (One (kind.Reserved (codes "formula"))) (codes "formula ")
unfolding is_reserved
formula_piece = piece _ (codes "formula ") refl (λ rest at above. record { start = _; end = _; to = _; told = refl })

pub procedure_piece : Written Any (One (kind.Reserved (codes "procedure"))) (codes "procedure ")
unfolding is_reserved
procedure_piece = piece _ (codes "procedure ") refl (λ rest at above. record { start = _; end = _; to = _; told = refl })

pub view_piece : Written Any (One (kind.Reserved (codes "view"))) (codes "view ")
unfolding is_reserved
view_piece = piece _ (codes "view ") refl (λ rest at above. record { start = _; end = _; to = _; told = refl })

pub show_piece : Written Any (One (kind.Reserved (codes "show"))) (codes "show ")
unfolding is_reserved
show_piece = piece _ (codes "show ") refl (λ rest at above. record { start = _; end = _; to = _; told = refl })

pub table_piece : Written Any (One (kind.Reserved (codes "table"))) (codes "table ")
unfolding is_reserved
table_piece = piece _ (codes "table ") refl (λ rest at above. record { start = _; end = _; to = _; told = refl })

pub let_piece : Written Any (One (kind.Reserved (codes "let"))) (codes "let ")
unfolding is_reserved
let_piece = piece _ (codes "let ") refl (λ rest at above. record { start = _; end = _; to = _; told = refl })

pub set_piece : Written Any (One (kind.Reserved (codes "set"))) (codes "set ")
unfolding is_reserved
set_piece = piece _ (codes "set ") refl (λ rest at above. record { start = _; end = _; to = _; told = refl })

pub add_piece : Written Any (One (kind.Reserved (codes "add"))) (codes "add ")
unfolding is_reserved
add_piece = piece _ (codes "add ") refl (λ rest at above. record { start = _; end = _; to = _; told = refl })

pub remove_piece : Written Any (One (kind.Reserved (codes "remove"))) (codes "remove ")
unfolding is_reserved
remove_piece = piece _ (codes "remove ") refl (λ rest at above. record { start = _; end = _; to = _; told = refl })

pub new_piece : Written Any (One (kind.Reserved (codes "new"))) (codes "new ")
unfolding is_reserved
new_piece = piece _ (codes "new ") refl (λ rest at above. record { start = _; end = _; to = _; told = refl })

pub delete_piece : Written Any (One (kind.Reserved (codes "delete"))) (codes "delete ")
unfolding is_reserved
delete_piece = piece _ (codes "delete ") refl (λ rest at above. record { start = _; end = _; to = _; told = refl })

pub check_piece : Written Any (One (kind.Reserved (codes "check"))) (codes "check ")
unfolding is_reserved
check_piece = piece _ (codes "check ") refl (λ rest at above. record { start = _; end = _; to = _; told = refl })

pub reply_piece : Written Any (One (kind.Reserved (codes "reply"))) (codes "reply ")
unfolding is_reserved
reply_piece = piece _ (codes "reply ") refl (λ rest at above. record { start = _; end = _; to = _; told = refl })

pub if_piece : Written Any (One (kind.Reserved (codes "if"))) (codes "if ")
unfolding is_reserved
if_piece = piece _ (codes "if ") refl (λ rest at above. record { start = _; end = _; to = _; told = refl })

pub for_piece : Written Any (One (kind.Reserved (codes "for"))) (codes "for ")
unfolding is_reserved
for_piece = piece _ (codes "for ") refl (λ rest at above. record { start = _; end = _; to = _; told = refl })

pub to_piece : Written Any (One (kind.Reserved (codes "to"))) (codes " to ")
unfolding is_reserved
to_piece = piece _ (codes " to ") refl (λ rest at above. record { start = _; end = _; to = _; told = refl })

pub from_piece : Written Any (One (kind.Reserved (codes "from"))) (codes " from ")
unfolding is_reserved
from_piece = piece _ (codes " from ") refl (λ rest at above. record { start = _; end = _; to = _; told = refl })

pub else_piece : Written Any (One (kind.Reserved (codes "else"))) (codes " else ")
unfolding is_reserved
else_piece = piece _ (codes " else ") refl (λ rest at above. record { start = _; end = _; to = _; told = refl })

pub in_piece : Written Any (One (kind.Reserved (codes "in"))) (codes " in ")
unfolding is_reserved
in_piece = piece _ (codes " in ") refl (λ rest at above. record { start = _; end = _; to = _; told = refl })

pub allow_piece : Written Any (One (kind.Reserved (codes "allow"))) (codes " allow ")
unfolding is_reserved
allow_piece = piece _ (codes " allow ") refl (λ rest at above. record { start = _; end = _; to = _; told = refl })

pub equals_piece : Written Any (One (kind.Symbol (codes "="))) (codes " = ")
equals_piece = piece _ (codes " = ") refl (λ rest at above. record { start = _; end = _; to = _; told = refl })

pub colon_piece : Written Any (One (kind.Symbol (codes ":"))) (codes " : ")
colon_piece = piece _ (codes " : ") refl (λ rest at above. record { start = _; end = _; to = _; told = refl })

pub comma_piece : Written Any (One (kind.Symbol (codes ","))) (codes ", ")
comma_piece = piece _ (codes ", ") refl (λ rest at above. record { start = _; end = _; to = _; told = refl })

pub open_piece : Written Any (One (kind.Symbol (codes "("))) (codes "(")
open_piece = piece _ (codes "(") refl (λ rest at above. record { start = _; end = _; to = _; told = refl })

pub close_piece : Written Any (One (kind.Symbol (codes ")"))) (codes ")")
close_piece = piece _ (codes ")") refl (λ rest at above. record { start = _; end = _; to = _; told = refl })

pub dot_piece : Written Any (One (kind.Symbol (codes "."))) (codes ".")
dot_piece = piece _ (codes ".") refl (λ rest at above. record { start = _; end = _; to = _; told = refl })

pub minus_piece : Written Any (One (kind.Symbol (codes "-"))) (codes "-")
minus_piece = piece _ (codes "-") refl (λ rest at above. record { start = _; end = _; to = _; told = refl })

pub open_brace_piece : Written Any (One (kind.Symbol (codes "{"))) (codes " {")
open_brace_piece = piece _ (codes " {") refl (λ rest at above. record { start = _; end = _; to = _; told = refl })

pub close_brace_piece : Written Any (One (kind.Symbol (codes "}"))) (codes "}")
close_brace_piece = piece _ (codes "}") refl (λ rest at above. record { start = _; end = _; to = _; told = refl })

pub close_brace_then_piece : Written Any (One (kind.Symbol (codes "}"))) (codes "} ")
close_brace_then_piece = piece _ (codes "} ") refl (λ rest at above. record { start = _; end = _; to = _; told = refl })

-- ---- one token, before a rest that ends it

one_token : (k : TokenKind) (text : List ℕ) → IsUtf8 text → ((rest : List ℕ) (at : ℕ) → Ends rest → (end : ℕ) × Seen text rest at (token k at end ∷ [])) →
    Written Ends (One k) text
one_token k text u see =
    record {
      encoded = u;
      printed = λ at above rest ends.
          let (end, s) = see rest at ends in
          record { ts = map (down above) (token k at end ∷ []); lies = lowered text rest at above (token k at end ∷ []) s; reads = λ us. one _ us refl };
    }

pub name_written : (name : List ℕ) → IsWord name → is_reserved name ≡ false → Written Ends (One (kind.Name name)) name
name_written name word free = one_token (kind.Name name) name (word_encoded name word) (λ rest at ends. name_seen name rest at word free ends)

fits_small : (n : ℕ) → nat_le n 9223372036854775807 ≡ true → n < 2 ^ 64
fits_small n h = grind (arith, common_steps)

pub number_written : (n : ℕ) → nat_le n 9223372036854775807 ≡ true → Written Ends (One (kind.Number (pos n))) (signed_decimal (pos n))
number_written n fits =
    one_token (kind.Number (pos n)) (signed_decimal (pos n)) (number_encoded n fits) (λ rest at ends. number_seen n rest at fits (fits_small n fits) ends)

pub text_written : (content : List ℕ) → is_short_text content ≡ true → TextBytes content → Written Ends (One (kind.Text content)) (quoted content)
text_written content short bytes =
    one_token (kind.Text content) (quoted content) (quoted_encoded content short) (λ rest at ends. text_seen content rest at short bytes)

reserved_written : (word : List ℕ) → IsWord word → is_reserved word ≡ true → Written Ends (One (kind.Reserved word)) word
reserved_written word w h = one_token (kind.Reserved word) word (word_encoded word w) (λ rest at ends. reserved_seen word rest at w h ends)

pub number_word : Written Ends (One (kind.Reserved (codes "number"))) (codes "number")
unfolding is_reserved
number_word = reserved_written (codes "number") (a_word (codes "number") 110 (codes "umber") refl refl (refl, (refl, (refl, (refl, (refl, (refl, tt)))))) refl)
    refl

pub text_word : Written Ends (One (kind.Reserved (codes "text"))) (codes "text")
unfolding is_reserved
text_word = reserved_written (codes "text") (a_word (codes "text") 116 (codes "ext") refl refl (refl, (refl, (refl, (refl, tt)))) refl) refl

pub truth_word : Written Ends (One (kind.Reserved (codes "truth"))) (codes "truth")
unfolding is_reserved
truth_word = reserved_written (codes "truth") (a_word (codes "truth") 116 (codes "ruth") refl refl (refl, (refl, (refl, (refl, (refl, tt))))) refl) refl

pub true_word : Written Ends (One (kind.Reserved (codes "true"))) (codes "true")
unfolding is_reserved
true_word = reserved_written (codes "true") (a_word (codes "true") 116 (codes "rue") refl refl (refl, (refl, (refl, (refl, tt)))) refl) refl

pub false_word : Written Ends (One (kind.Reserved (codes "false"))) (codes "false")
unfolding is_reserved
false_word = reserved_written (codes "false") (a_word (codes "false") 102 (codes "alse") refl refl (refl, (refl, (refl, (refl, (refl, tt))))) refl) refl

pub one_word : Written Ends (One (kind.Reserved (codes "one"))) (codes "one")
unfolding is_reserved
one_word = reserved_written (codes "one") (a_word (codes "one") 111 (codes "ne") refl refl (refl, (refl, (refl, tt))) refl) refl

pub else_word : Written Ends (One (kind.Reserved (codes "else"))) (codes "else")
unfolding is_reserved
else_word = reserved_written (codes "else") (a_word (codes "else") 101 (codes "lse") refl refl (refl, (refl, (refl, (refl, tt)))) refl) refl

-- a space before a text
pub after_space : {C : List ℕ → Type 0} {Q : List Token → List Token → Type 0} {a : List ℕ} → Written C Q a → Written C Q (codes " " ++ a)
after_space {C} {Q} {a} w =
    record {
      encoded = IsUtf8-append (codes " ") a (plain (codes " ") refl) w.encoded;
      printed = λ at above rest c.
          let p = w.printed (at + 1) above rest c in
          record { ts = p.ts; lies = record { to = p.lies.to; below = p.lies.below; told = p.lies.told }; reads = p.reads };
    }

-- ---- formulas

formula_written : (l : Limits) → l.depth ≤ l.nest → (nt : Nonterminal) (text : List ℕ) (e : Tree) (depth : ℕ) → depth ≤ l.depth →
    Back nt text (on_one_line e) depth depth → IsUtf8 text
    → Written Ends (Read (IsFormulaOf l nt) on_one_line e) text
formula_written l fits nt text e depth shallow b u =
    record {
      encoded = u;
      printed = λ at above rest ends.
          let r = b at rest ends in
          let q = lower above nt r.ts (form (on_one_line e) depth r.nest) r.produced in
          let n = r.narrow in
          record {
            ts = map (down above) r.ts;
            lies = lowered text rest at above r.ts r.seen;
            reads = λ us. record {
              thing = q.tree;
              stands = record {
                front = map (down above) r.ts;
                depth = depth;
                nest = r.nest;
                split = refl;
                produced = q.produced;
                shallow = shallow;
                narrow = omega (arith, n, shallow, fits);
              };
              same = q.same ∙ twice e;
            };
          };
    }

pub expression_back : (l : Limits) → l.depth ≤ l.nest → (ts us : List Token) (e : Tree) → IsFormulaOf l expression ts e us → Good ts →
    Good us × Written Ends (Read (IsFormulaOf l expression) on_one_line e) (formula_text e)
expression_back l fits ts us e x good =
    let (gf, gu) = good_front x.front us (subst Good x.split good) in
    let b = back expression x.front (form e x.depth x.nest) x.produced gf in
    (gu, formula_written l fits expression (formula_text e) e x.depth x.shallow b.whole (encoded expression x.front (form e x.depth x.nest) x.produced gf))

pub operand_back : (l : Limits) → l.depth ≤ l.nest → (ts us : List Token) (e : Tree) → IsFormulaOf l postfix ts e us → Good ts →
    Good us × Written Ends (Read (IsFormulaOf l postfix) on_one_line e) (operand e (formula_text e))
operand_back l fits ts us e x good =
    let (gf, gu) = good_front x.front us (subst Good x.split good) in
    let b = back postfix x.front (form e x.depth x.nest) x.produced gf in
    let u = operand_encoded e (formula_text e) (encoded postfix x.front (form e x.depth x.nest) x.produced gf) in
    (gu, formula_written l fits postfix (operand e (formula_text e)) e x.depth x.shallow b.part u)
