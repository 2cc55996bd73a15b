-- The tokens of a text: their names have at most 63 bytes and their numbers no sign, also behind what stands at their front.
use Rattle.std.proofs.Common.{◌≡◌, ℕ, pos, zero, suc, ◌+◌, ◌-◌, ◌≤◌, List, [], ◌∷◌, ◌++◌, length, take, Bool, true, false, cond, Option, Some, None, Result, Ok}
use Rattle.std.proofs.Common.{Err, refl, subst, arith}
use Rattle.std.specs.Prelude.{◌≤ℤ◌, ◌==◌, nat_le}
use Rattle.std.proofs.lemmas.Bool.{leb-true}
use Rattle.std.proofs.lemmas.Int.{ints}
use Rattle.sheet_syntax_trees.specs.declared.token.Token.{Token}
use Rattle.sheet_syntax_trees.specs.declared.token.TokenKind.{TokenKind}
use Rattle.sheet_syntax_trees.specs.declared.token.TokenKind.TheVariants as kind
use Rattle.sheet_syntax_trees.specs.declared.token.SyntaxRefusal.{SyntaxRefusal}
use Rattle.sheet_syntax_trees.specs.Bytes.{is_letter, is_digit, is_blank, is_in_word, is_in_comment, run_length, symbol_length}
use Rattle.sheet_syntax_trees.specs.Tokens.{is_reserved, digits_value, has_leading_zero, scan_word, scan_number, text_from, is_short_text, text_scan}
use Rattle.sheet_syntax_trees.specs.Tokens.{symbol_scan, scan, with_tokens, scanned, line_after, tokens_from, lexed}
use Rattle.sheet_syntax_trees.specs.declared.tree.Tree.{Tree}
use Rattle.sheet_syntax_trees.specs.Grammar.{Nonterminal, expression, postfix}
use Rattle.sheet_define_data.specs.declared.definition.Path.{Path}
use Rattle.sheet_define_data.specs.declared.definition.TypeName.{TypeName}
use Rattle.sheet_define_data.specs.declared.definition.Literal.{Literal}
use Rattle.sheet_define_data.specs.declared.definition.Parameter.{Parameter}
use Rattle.sheet_define_data.specs.declared.definition.Procedure.{Procedure}
use Rattle.sheet_define_data.specs.declared.definition.Show.{Show}
use Rattle.sheet_define_data.specs.declared.definition.Part.{Part}
use Rattle.sheet_define_data.specs.declared.definition.View.{View}
use Rattle.sheet_define_data.specs.declared.statement.Target.{Target}
use Rattle.sheet_define_data.specs.declared.statement.Statement.{Statement}
use Rattle.sheet_define_data.specs.Grammar.{Limits, IsFormulaOf, Maybe, left_out, stated, Repeated, none, one_more, AreNames, one_name, more_names, IsPath}
use Rattle.sheet_define_data.specs.Grammar.{a_path, IsType, numbers, texts, truths, objects, IsLiteral, a_number, a_negative_number, a_text, a_true, a_false}
use Rattle.sheet_define_data.specs.Grammar.{IsOne, any_count, just_one, IsFirst, a_first, IsDeclared, a_declared, IsAllow, an_allow, IsParameter, a_parameter}
use Rattle.sheet_define_data.specs.Grammar.{AreParameters, one_parameter, more_parameters, InParentheses, no_parameters, some_parameters, IsTarget, of_root}
use Rattle.sheet_define_data.specs.Grammar.{of_object, IsStatement, a_let, an_assignment, an_add, a_remove, a_new, a_delete, a_check, a_reply, an_if}
use Rattle.sheet_define_data.specs.Grammar.{an_if_else, a_for, AreStatements, no_statements, more_statements, IsBlock, a_block, IsProcedure, a_procedure}
use Rattle.sheet_define_data.specs.Grammar.{IsShow, a_show, IsPart, one_show, a_table, IsView, a_view}

abbrev pub IsPlain : TokenKind → Type 0
IsPlain (kind.Name name) = length name ≤ 63
IsPlain (kind.Reserved word) = Unit {0}
IsPlain (kind.Number n) = pos 0 ≤ℤ n
IsPlain (kind.Text text) = Unit {0}
IsPlain (kind.Symbol symbol) = Unit {0}

abbrev pub ArePlain : List Token → Type 0
ArePlain [] = Unit {0}
ArePlain (t ∷ ts) = IsPlain t.kind × ArePlain ts

-- all the tokens of a reading that isn't refused are plain
abbrev AllPlain : Result (List Token) SyntaxRefusal → Type 0
AllPlain (Ok ts) = ArePlain ts
AllPlain (Err e) = Unit {0}

one_plain : (t : Token) (more : Result (List Token) SyntaxRefusal) → IsPlain t.kind → AllPlain more → AllPlain (with_tokens (t ∷ []) more)
one_plain t (Ok ts) here all = (here, all)
one_plain t (Err e) here all = tt

cond_case : {A : Type 0} (P : A → Type 0) (b : Bool) (x y : A) → (b ≡ true → P x) → (b ≡ false → P y) → P (cond b x y)
cond_case P true x y f g = f refl
cond_case P false x y f g = g refl

word_plain : (word : List ℕ) (b : Bool) → length word ≤ 63 → IsPlain (cond b (kind.Reserved word) (kind.Name word))
word_plain word true short = tt
word_plain word false short = short

-- what is scanned at the front of bytes, with plain tokens behind it
module _ (at line : ℕ) (behind : ℕ → Result (List Token) SyntaxRefusal) (all : (len : ℕ) → AllPlain (behind len)) where
  scanned_word : (word : List ℕ) → AllPlain (scanned at line (scan_word word) behind)
  scanned_word word =
      cond_case (λ s. AllPlain (scanned at line s behind)) (nat_le (length word) 63) _ _
      (λ is. one_plain _ (behind (length word)) (word_plain word (is_reserved word) (leb-true (length word) 63 is)) (all (length word)))
      (λ is. tt)

  scanned_number : (digits : List ℕ) → AllPlain (scanned at line (scan_number digits) behind)
  scanned_number digits =
      cond_case (λ s. AllPlain (scanned at line s behind)) (has_leading_zero digits) _ _ (λ is. tt)
      (λ is. cond_case (λ s. AllPlain (scanned at line s behind)) (nat_le (digits_value 0 digits) 9223372036854775807) _ _
      (λ is. one_plain _ (behind (length digits)) (omega (arith, ints)) (all (length digits))) (λ is. tt))

  scanned_text : (o : Option (List ℕ × ℕ)) → AllPlain (scanned at line (text_scan o) behind)
  scanned_text None = tt
  scanned_text (Some p) =
      cond_case (λ s. AllPlain (scanned at line s behind)) (is_short_text p.0) _ _ (λ is. one_plain _ (behind (p.1 + 1)) tt (all (p.1 + 1))) (λ is. tt)

  scanned_symbol : (count : ℕ) (rest : List ℕ) → AllPlain (scanned at line (symbol_scan count rest) behind)
  scanned_symbol count rest =
      cond_case (λ s. AllPlain (scanned at line s behind)) (count == 0) _ _ (λ is. tt) (λ is. one_plain _ (behind count) tt (all count))

  scanned_plain : (bytes : List ℕ) → AllPlain (scanned at line (scan bytes) behind)
  scanned_plain [] = tt
  scanned_plain (c ∷ cs) =
      cond_case (λ s. AllPlain (scanned at line s behind)) (is_letter c) _ _ (λ is. scanned_word (take (run_length is_in_word (c ∷ cs)) (c ∷ cs)))
      (λ is. cond_case (λ s. AllPlain (scanned at line s behind)) (is_digit c) _ _ (λ is. scanned_number (take (run_length is_digit (c ∷ cs)) (c ∷ cs)))
      (λ is. cond_case (λ s. AllPlain (scanned at line s behind)) (c == 34) _ _ (λ is. scanned_text (text_from false cs))
      (λ is. scanned_symbol (symbol_length (c ∷ cs)) (c ∷ cs))))

either : {A : Type 0} (P : A → Type 0) (b : Bool) (x y : A) → P x → P y → P (cond b x y)
either P true x y px py = px
either P false x y px py = py

from_plain : (cs : List ℕ) (at line passed : ℕ) → AllPlain (tokens_from cs at line passed)
from_plain [] at line passed = tt
from_plain (c ∷ cs) at line (suc passed) = from_plain cs (at + 1) (line_after c line) passed
from_plain (c ∷ cs) at line zero =
    either AllPlain (is_blank c) (tokens_from cs (at + 1) (line_after c line) 0) _ (from_plain cs (at + 1) (line_after c line) 0)
    (either AllPlain (c == 35) (tokens_from cs (at + 1) line (run_length is_in_comment cs)) _ (from_plain cs (at + 1) line (run_length is_in_comment cs))
    (scanned_plain at line (λ len. tokens_from cs (at + 1) line (len - 1)) (λ len. from_plain cs (at + 1) line (len - 1)) (c ∷ cs)))

pub lexed_plain : (text : List ℕ) (ts : List Token) → lexed text ≡ Ok ts → ArePlain ts
lexed_plain text ts told = subst AllPlain told (from_plain text 0 1 0)

-- the tokens behind a production

drop_plain : (front us : List Token) → ArePlain (front ++ us) → ArePlain us
drop_plain [] us p = p
drop_plain (t ∷ front) us p = drop_plain front us p.1

pub formula_plain : (l : Limits) (n : Nonterminal) (ts us : List Token) (e : Tree) → IsFormulaOf l n ts e us → ArePlain ts → ArePlain us
formula_plain l n ts us e f p = drop_plain f.front us (subst ArePlain f.split p)

names_plain : (ts us : List Token) (names : List (List ℕ)) → AreNames ts names us → ArePlain ts → ArePlain us
names_plain _ _ _ (one_name t name ts named) p = p.1
names_plain _ _ _ (more_names t d name names ts us named dotted more) p = names_plain ts us names more p.1.1

pub path_plain : (ts us : List Token) (q : Path) → IsPath ts q us → ArePlain ts → ArePlain us
path_plain _ _ _ (a_path ts us names are) p = names_plain ts us names are p

pub type_plain : (ts us : List Token) (t : TypeName) → IsType ts t us → ArePlain ts → ArePlain us
type_plain _ _ _ (numbers t ts is) p = p.1
type_plain _ _ _ (texts t ts is) p = p.1
type_plain _ _ _ (truths t ts is) p = p.1
type_plain _ _ _ (objects ts us q is) p = path_plain ts us q is p

pub literal_plain : (ts us : List Token) (v : Literal) → IsLiteral ts v us → ArePlain ts → ArePlain us
literal_plain _ _ _ (a_number t n ts is) p = p.1
literal_plain _ _ _ (a_negative_number m t n ts ism is) p = p.1.1
literal_plain _ _ _ (a_text t text ts is) p = p.1
literal_plain _ _ _ (a_true t ts is) p = p.1
literal_plain _ _ _ (a_false t ts is) p = p.1

pub one_word_plain : (ts us : List Token) (one : Bool) → IsOne ts one us → ArePlain ts → ArePlain us
one_word_plain _ _ _ (any_count ts) p = p
one_word_plain _ _ _ (just_one t ts is) p = p.1

pub first_plain : (ts us : List Token) (v : Option Literal) → Maybe IsFirst ts v us → ArePlain ts → ArePlain us
first_plain _ _ _ (left_out ts) p = p
first_plain _ _ _ (stated _ _ _ (a_first e ts us v is lit)) p = literal_plain ts us v lit p.1

pub declared_plain : (ts us : List Token) (t : Option TypeName) → Maybe IsDeclared ts t us → ArePlain ts → ArePlain us
declared_plain _ _ _ (left_out ts) p = p
declared_plain _ _ _ (stated _ _ _ (a_declared k ts us t is typed)) p = type_plain ts us t typed p.1

allow_plain : (l : Limits) (ts us : List Token) (e : Option Tree) → Maybe (IsAllow l) ts e us → ArePlain ts → ArePlain us
allow_plain l _ _ _ (left_out ts) p = p
allow_plain l _ _ _ (stated _ _ _ (an_allow w ts us e is read)) p = formula_plain l expression ts us e read p.1

parameter_plain : (ts us : List Token) (q : Parameter) → IsParameter ts q us → ArePlain ts → ArePlain us
parameter_plain _ _ _ (a_parameter n k name ts us t named isk typed) p = type_plain ts us t typed p.1.1

listed_plain : (ts us : List Token) (ps : List Parameter) → AreParameters ts ps us → ArePlain ts → ArePlain us
listed_plain _ _ _ (one_parameter ts us q is) p = parameter_plain ts us q is p
listed_plain _ _ _ (more_parameters ts us rest k q ps is isk more) p = let a = parameter_plain ts (k ∷ us) q is p in listed_plain us rest ps more a.1

parameters_plain : (ts us : List Token) (ps : List Parameter) → InParentheses ts ps us → ArePlain ts → ArePlain us
parameters_plain _ _ _ (no_parameters o c ts iso isc) p = p.1.1
parameters_plain _ _ _ (some_parameters o c ts us ps iso are few isc) p = let h = listed_plain ts (c ∷ us) ps are p.1 in h.1

target_plain : (l : Limits) (ts us : List Token) (t : Target) → IsTarget l ts t us → ArePlain ts → ArePlain us
target_plain l _ _ _ (of_root n name ts named) p = p.1
target_plain l _ _ _ (of_object d n name ts us e f isd named) p = let h = formula_plain l postfix ts (d ∷ n ∷ us) e f p in h.1.1

mutual
  statement_plain : (l : Limits) (b : ℕ) (ts us : List Token) (x : Statement) → IsStatement l b ts x us → ArePlain ts → ArePlain us
  statement_plain l b _ _ _ (a_let _ w n e name ts rest v a1 a2 a3 f) p = formula_plain l expression ts rest v f p.1.1.1
  statement_plain l b _ _ _ (an_assignment _ w e ts us rest t v a1 g a2 f) p = let k = target_plain l ts (e ∷ us) t g p.1 in
      formula_plain l expression us rest v f k.1
  statement_plain l b _ _ _ (an_add _ w o ts us rest t v a1 f a2 g) p = let h = formula_plain l expression ts (o ∷ us) v f p.1 in target_plain l us rest t g h.1
  statement_plain l b _ _ _ (a_remove _ w o ts us rest t v a1 f a2 g) p = let h = formula_plain l expression ts (o ∷ us) v f p.1 in
      target_plain l us rest t g h.1
  statement_plain l b _ _ _ (a_new _ w n e name ts rest t a1 a2 a3 g) p = target_plain l ts rest t g p.1.1.1
  statement_plain l b _ _ _ (a_delete _ w ts rest v a1 f) p = formula_plain l expression ts rest v f p.1
  statement_plain l b _ _ _ (a_check _ w e m message ts rest q a1 f a2 a3) p = let h = formula_plain l expression ts (e ∷ m ∷ rest) q f p.1 in h.1.1
  statement_plain l b _ _ _ (a_reply _ w ts rest v a1 f) p = formula_plain l expression ts rest v f p.1
  statement_plain l b _ _ _ (an_if _ w ts us rest q body a1 f k) p = block_plain l b us rest body k (formula_plain l expression ts us q f p.1)
  statement_plain l b _ _ _ (an_if_else _ w e ts us vs rest q body other a1 f k a2 k2) p =
      let m = block_plain l b us (e ∷ vs) body k (formula_plain l expression ts us q f p.1) in block_plain l b vs rest other k2 m.1
  statement_plain l b _ _ _ (a_for _ w n i name ts us rest v body a1 a2 a3 f k) p =
      block_plain l b us rest body k (formula_plain l expression ts us v f p.1.1.1)

  statements_plain : (l : Limits) (b : ℕ) (ts us : List Token) (xs : List Statement) → AreStatements l b ts xs us → ArePlain ts → ArePlain us
  statements_plain l b _ _ _ (no_statements _ ts) p = p
  statements_plain l b _ _ _ (more_statements _ ts us rest x xs q r) p = statements_plain l b us rest xs r (statement_plain l b ts us x q p)

  block_plain : (l : Limits) (b : ℕ) (ts us : List Token) (xs : List Statement) → IsBlock l b ts xs us → ArePlain ts → ArePlain us
  block_plain l _ _ _ _ (a_block b o c ts rest xs a1 q a2) p = let k = statements_plain l b ts (c ∷ rest) xs q p.1 in k.1

show_plain : (l : Limits) (ts us : List Token) (x : Show) → IsShow l ts x us → ArePlain ts → ArePlain us
show_plain l _ _ _ (a_show w n e name ts rest f a1 a2 a3 g) p = formula_plain l expression ts rest f g p.1.1.1

repeated_plain : {A : Type 0} (P : List Token → A → List Token → Type 0) → ((ts us : List Token) (x : A) → P ts x us → ArePlain ts → ArePlain us) →
    (ts us : List Token) (xs : List A) → Repeated P ts xs us → ArePlain ts → ArePlain us
repeated_plain P plain _ _ _ (none ts) p = p
repeated_plain P plain _ _ _ (one_more ts us vs x xs q r) p = repeated_plain P plain us vs xs r (plain ts us x q p)

part_plain : (l : Limits) (ts us : List Token) (x : Part) → IsPart l ts x us → ArePlain ts → ArePlain us
part_plain l _ _ _ (one_show ts rest x q) p = show_plain l ts rest x q p
part_plain l _ _ _ (a_table w n e v i o c name variable ts us rest f shows a1 a2 a3 a4 a5 g a6 q a7) p =
    let h = formula_plain l expression ts (o ∷ us) f g p.1.1.1.1.1 in let k = repeated_plain (IsShow l) (show_plain l) us (c ∷ rest) shows q h.1 in k.1

pub procedure_plain : (l : Limits) (b : ℕ) (ts us : List Token) (x : Procedure) → IsProcedure l b ts x us → ArePlain ts → ArePlain us
procedure_plain l b _ _ _ (a_procedure w n name ps ts bs rest parameters allow body a1 a2 q r s) p =
    block_plain l b bs rest body s (allow_plain l ts bs allow r (parameters_plain ps ts parameters q p.1.1))

pub view_plain : (l : Limits) (ts us : List Token) (v : View) → IsView l ts v us → ArePlain ts → ArePlain us
view_plain l _ _ _ (a_view w n o c name ps ts us rest parameters allow parts a1 a2 q r a3 s a4) p =
    let h = allow_plain l ts (o ∷ us) allow r (parameters_plain ps ts parameters q p.1.1) in
    let k = repeated_plain (IsPart l) (part_plain l) us (c ∷ rest) parts s h.1 in k.1
