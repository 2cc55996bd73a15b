-- What stands at the front of tokens by the productions takes some of them.
use Rattle.std.proofs.Common.{◌≡◌, ℕ, ℤ, zero, suc, ◌+◌, ◌-◌, ◌<◌, ◌≤◌, List, [], ◌∷◌, ◌++◌, length, true, false, Some, None, Ok, Err, refl, sym, ap, ◌∙◌}
use Rattle.std.proofs.Common.{subst, arith, append_assoc}
use Rattle.std.specs.Prelude.{Bool, Option, if◌then◌else◌}
use Rattle.sheet_syntax_trees.specs.declared.token.Token.{Token}
use Rattle.sheet_syntax_trees.specs.declared.token.TokenKind.{TokenKind}
use Rattle.sheet_syntax_trees.specs.declared.token.TokenKind.TheVariants as kind
use Rattle.sheet_syntax_trees.specs.declared.token.SyntaxRefusal.TheVariants.{Expected}
use Rattle.sheet_syntax_trees.specs.declared.sign.Sign.TheVariants as sign
use Rattle.sheet_syntax_trees.specs.declared.tree.Tree.{Tree}
use Rattle.sheet_syntax_trees.specs.declared.tree.Formed.{Formed}
use Rattle.sheet_syntax_trees.specs.Signs.{sign_of}
use Rattle.sheet_syntax_trees.specs.Grammar.{Produces, form, expression, postfix, atom, no_step}
use Rattle.sheet_syntax_trees.specs.Reading as trees
use Rattle.sheet_syntax_trees.specs.Reading.{Answer, ◌>>=◌, offset, line_of, or_expected, name_at, formula_at, within, setting, step_of, made}
use Rattle.sheet_define_data.specs.declared.definition.Path.{Path}
use Rattle.sheet_define_data.specs.declared.definition.TypeName.{TypeName}
use Rattle.sheet_define_data.specs.declared.definition.TypeName.TheVariants as type
use Rattle.sheet_define_data.specs.declared.definition.Literal.{Literal}
use Rattle.sheet_define_data.specs.declared.definition.Literal.TheVariants as literal
use Rattle.sheet_define_data.specs.declared.definition.Column.{Column}
use Rattle.sheet_define_data.specs.declared.definition.Content.TheVariants as content
use Rattle.sheet_define_data.specs.declared.definition.Parameter.{Parameter}
use Rattle.sheet_define_data.specs.declared.definition.Procedure.{Procedure}
use Rattle.sheet_define_data.specs.declared.definition.Show.{Show}
use Rattle.sheet_define_data.specs.declared.definition.Part.{Part}
use Rattle.sheet_define_data.specs.declared.definition.Part.TheVariants as part
use Rattle.sheet_define_data.specs.declared.definition.View.{View}
use Rattle.sheet_define_data.specs.declared.definition.Declaration.{Declaration}
use Rattle.sheet_define_data.specs.declared.definition.Declaration.TheVariants as declaration
use Rattle.sheet_define_data.specs.declared.statement.Target.{Target}
use Rattle.sheet_define_data.specs.declared.statement.Statement.{Statement}
use Rattle.sheet_define_data.specs.declared.statement.Statement.TheVariants as statement
use Rattle.sheet_define_data.specs.Grammar.{Limits, IsFormulaOf, IsExpression, Maybe, left_out, stated, Repeated, none, one_more, AreNames, one_name}
use Rattle.sheet_define_data.specs.Grammar.{more_names, IsPath, a_path, IsType, numbers, texts, truths, objects, IsLiteral, a_number, a_negative_number, a_text}
use Rattle.sheet_define_data.specs.Grammar.{a_true, a_false, IsOne, any_count, just_one, IsFirst, a_first, IsDeclared, a_declared, IsAllow, an_allow, IsColumn}
use Rattle.sheet_define_data.specs.Grammar.{an_object_column, a_state_column, a_formula_column, AreColumns, no_columns, more_columns, IsParameter, a_parameter}
use Rattle.sheet_define_data.specs.Grammar.{AreParameters, one_parameter, more_parameters, InParentheses, no_parameters, some_parameters, IsTarget, of_root}
use Rattle.sheet_define_data.specs.Grammar.{of_object, IsStatement, a_let, an_assignment, an_add, a_remove, a_new, a_delete, a_check, a_reply, an_if}
use Rattle.sheet_define_data.specs.Grammar.{an_if_else, a_for, AreStatements, no_statements, more_statements, IsBlock, a_block, IsProcedure, a_procedure}
use Rattle.sheet_define_data.specs.Grammar.{IsShow, a_show, IsPart, one_show, a_table, IsView, a_view, IsDeclaration, the_callers, a_column, one_procedure}
use Rattle.sheet_define_data.specs.Grammar.{one_view, AreDeclarations, no_declarations, more_declarations}
use Rattle.std.proofs.Common.{length-append}
use Rattle.sheet_syntax_trees.specs.Grammar.{Nonterminal}

formula_short : (l : Limits) (n : Nonterminal) (ts us : List Token) (e : Tree) → IsFormulaOf l n ts e us → length us ≤ length ts
formula_short l n ts us e f = let long : length ts ≡ length f.front + length us = ap length f.split ∙ length-append f.front us in omega arith

names_short : (ts us : List Token) (names : List (List ℕ)) → AreNames ts names us → length us ≤ length ts
names_short _ _ _ (one_name t name ts named) = omega arith
names_short _ _ _ (more_names t d name names ts us named dotted more) = let k = names_short ts us names more in omega arith

path_short : (ts us : List Token) (p : Path) → IsPath ts p us → length us ≤ length ts
path_short _ _ _ (a_path ts us names are) = names_short ts us names are

type_short : (ts us : List Token) (t : TypeName) → IsType ts t us → length us ≤ length ts
type_short _ _ _ (numbers t ts is) = omega arith
type_short _ _ _ (texts t ts is) = omega arith
type_short _ _ _ (truths t ts is) = omega arith
type_short _ _ _ (objects ts us p is) = path_short ts us p is

literal_short : (ts us : List Token) (v : Literal) → IsLiteral ts v us → length us ≤ length ts
literal_short _ _ _ (a_number t n ts is) = omega arith
literal_short _ _ _ (a_negative_number m t n ts ism is) = omega arith
literal_short _ _ _ (a_text t text ts is) = omega arith
literal_short _ _ _ (a_true t ts is) = omega arith
literal_short _ _ _ (a_false t ts is) = omega arith

one_short : (ts us : List Token) (one : Bool) → IsOne ts one us → length us ≤ length ts
one_short _ _ _ (any_count ts) = omega arith
one_short _ _ _ (just_one t ts is) = omega arith

first_short : (ts us : List Token) (v : Option Literal) → Maybe IsFirst ts v us → length us ≤ length ts
first_short _ _ _ (left_out ts) = omega arith
first_short _ _ _ (stated _ _ _ (a_first e ts us v is lit)) = let k = literal_short ts us v lit in omega arith

declared_short : (ts us : List Token) (t : Option TypeName) → Maybe IsDeclared ts t us → length us ≤ length ts
declared_short _ _ _ (left_out ts) = omega arith
declared_short _ _ _ (stated _ _ _ (a_declared k ts us t is typed)) = let h = type_short ts us t typed in omega arith

allow_short : (l : Limits) (ts us : List Token) (e : Option Tree) → Maybe (IsAllow l) ts e us → length us ≤ length ts
allow_short l _ _ _ (left_out ts) = omega arith
allow_short l _ _ _ (stated _ _ _ (an_allow w ts us e is read)) = let h = formula_short l expression ts us e read in omega arith

parameter_short : (ts us : List Token) (p : Parameter) → IsParameter ts p us → length us ≤ length ts
parameter_short _ _ _ (a_parameter n k name ts us t named isk typed) = let h = type_short ts us t typed in omega arith

listed_short : (ts us : List Token) (ps : List Parameter) → AreParameters ts ps us → length us ≤ length ts
listed_short _ _ _ (one_parameter ts us p is) = parameter_short ts us p is
listed_short _ _ _ (more_parameters ts us rest k p ps is isk more) = let a = parameter_short ts (k ∷ us) p is in let b = listed_short us rest ps more in
    omega arith

parameters_short : (ts us : List Token) (ps : List Parameter) → InParentheses ts ps us → length us ≤ length ts
parameters_short _ _ _ (no_parameters o c ts iso isc) = omega arith
parameters_short _ _ _ (some_parameters o c ts us ps iso are few isc) = let h = listed_short ts (c ∷ us) ps are in omega arith

target_short : (l : Limits) (ts us : List Token) (t : Target) → IsTarget l ts t us → length us ≤ length ts
target_short l _ _ _ (of_root n name ts named) = omega arith
target_short l _ _ _ (of_object d n name ts us e f isd named) = let h = formula_short l postfix ts (d ∷ n ∷ us) e f in omega arith

mutual
  pub statement_short : (l : Limits) (b : ℕ) (ts us : List Token) (x : Statement) → IsStatement l b ts x us → length us < length ts
  statement_short l b _ _ _ (a_let _ w n e name ts rest v a1 a2 a3 f) = let h = formula_short l expression ts rest v f in omega arith
  statement_short l b _ _ _ (an_assignment _ w e ts us rest t v a1 g a2 f) = let h = formula_short l expression us rest v f in
      let k = target_short l ts (e ∷ us) t g in omega arith
  statement_short l b _ _ _ (an_add _ w o ts us rest t v a1 f a2 g) = let h = formula_short l expression ts (o ∷ us) v f in
      let k = target_short l us rest t g in omega arith
  statement_short l b _ _ _ (a_remove _ w o ts us rest t v a1 f a2 g) = let h = formula_short l expression ts (o ∷ us) v f in
      let k = target_short l us rest t g in omega arith
  statement_short l b _ _ _ (a_new _ w n e name ts rest t a1 a2 a3 g) = let k = target_short l ts rest t g in omega arith
  statement_short l b _ _ _ (a_delete _ w ts rest v a1 f) = let h = formula_short l expression ts rest v f in omega arith
  statement_short l b _ _ _ (a_check _ w e m message ts rest p a1 f a2 a3) = let h = formula_short l expression ts (e ∷ m ∷ rest) p f in omega arith
  statement_short l b _ _ _ (a_reply _ w ts rest v a1 f) = let h = formula_short l expression ts rest v f in omega arith
  statement_short l b _ _ _ (an_if _ w ts us rest p body a1 f k) = let h = formula_short l expression ts us p f in let m = block_short l b us rest body k in
      omega arith
  statement_short l b _ _ _ (an_if_else _ w e ts us vs rest p body other a1 f k a2 k2) =
      let h = formula_short l expression ts us p f in let m = block_short l b us (e ∷ vs) body k in let m2 = block_short l b vs rest other k2 in omega arith
  statement_short l b _ _ _ (a_for _ w n i name ts us rest v body a1 a2 a3 f k) = let h = formula_short l expression ts us v f in
      let m = block_short l b us rest body k in omega arith

  statements_short : (l : Limits) (b : ℕ) (ts us : List Token) (xs : List Statement) → AreStatements l b ts xs us → length us ≤ length ts
  statements_short l b _ _ _ (no_statements _ ts) = omega arith
  statements_short l b _ _ _ (more_statements _ ts us rest x xs p q) = let h = statement_short l b ts us x p in let k = statements_short l b us rest xs q in
      omega arith

  block_short : (l : Limits) (b : ℕ) (ts us : List Token) (xs : List Statement) → IsBlock l b ts xs us → length us ≤ length ts
  block_short l _ _ _ _ (a_block b o c ts rest xs a1 q a2) = let k = statements_short l b ts (c ∷ rest) xs q in omega arith

pub show_short : (l : Limits) (ts us : List Token) (x : Show) → IsShow l ts x us → length us < length ts
show_short l _ _ _ (a_show w n e name ts rest f a1 a2 a3 g) = let h = formula_short l expression ts rest f g in omega arith

repeated_short : {A : Type 0} (P : List Token → A → List Token → Type 0) → ((ts us : List Token) (x : A) → P ts x us → length us < length ts) →
    (ts us : List Token) (xs : List A) → Repeated P ts xs us → length us ≤ length ts
repeated_short P short _ _ _ (none ts) = omega arith
repeated_short P short _ _ _ (one_more ts us vs x xs p q) = let h = short ts us x p in let k = repeated_short P short us vs xs q in omega arith

pub part_short : (l : Limits) (ts us : List Token) (x : Part) → IsPart l ts x us → length us < length ts
part_short l _ _ _ (one_show ts rest x p) = show_short l ts rest x p
part_short l _ _ _ (a_table w n e v i o c name variable ts us rest f shows a1 a2 a3 a4 a5 g a6 q a7) =
    let h = formula_short l expression ts (o ∷ us) f g in let k = repeated_short (IsShow l) (show_short l) us (c ∷ rest) shows q in omega arith

mutual
  pub column_short : (l : Limits) (k : ℕ) (ts us : List Token) (ds : List Declaration) → IsColumn l k ts ds us → length us < length ts
  column_short l _ _ _ _ (an_object_column k w n o c name ts us ds a1 a2 a3 q a4) = let h = columns_short l (suc k) ts (c ∷ us) ds q in omega arith
  column_short l _ _ _ _ (a_state_column k w n c name ts us vs rest t one first a1 a2 a3 p q r) =
      let h = type_short ts us t p in let i = one_short us vs one q in let j = first_short vs rest first r in omega arith
  column_short l _ _ _ _ (a_formula_column k w n e name ts us rest t f a1 a2 p a3 q) = let h = declared_short ts (e ∷ us) t p in
      let i = formula_short l expression us rest f q in omega arith

  columns_short : (l : Limits) (k : ℕ) (ts us : List Token) (ds : List Declaration) → AreColumns l k ts ds us → length us ≤ length ts
  columns_short l _ _ _ _ (no_columns k ts) = omega arith
  columns_short l _ _ _ _ (more_columns k ts us rest ds es p q) = let h = column_short l k ts us ds p in let i = columns_short l k us rest es q in omega arith

procedure_short : (l : Limits) (b : ℕ) (ts us : List Token) (p : Procedure) → IsProcedure l b ts p us → length us < length ts
procedure_short l b _ _ _ (a_procedure w n name ps ts bs rest parameters allow body a1 a2 p q r) =
    let h = parameters_short ps ts parameters p in let i = allow_short l ts bs allow q in let j = block_short l b bs rest body r in omega arith

view_short : (l : Limits) (ts us : List Token) (v : View) → IsView l ts v us → length us < length ts
view_short l _ _ _ (a_view w n o c name ps ts us rest parameters allow parts a1 a2 p q a3 r a4) =
    let h = parameters_short ps ts parameters p in let i = allow_short l ts (o ∷ us) allow q in
    let j = repeated_short (IsPart l) (part_short l) us (c ∷ rest) parts r in omega arith

pub declaration_short : (l : Limits) (b : ℕ) (ts us : List Token) (ds : List Declaration) → IsDeclaration l b ts ds us → length us < length ts
declaration_short l b _ _ _ (the_callers w ts rest p a1 q) = let h = path_short ts rest p q in omega arith
declaration_short l b _ _ _ (a_column ts rest ds p) = column_short l 0 ts rest ds p
declaration_short l b _ _ _ (one_procedure ts rest p q) = procedure_short l b ts rest p q
declaration_short l b _ _ _ (one_view ts rest v q) = view_short l ts rest v q
