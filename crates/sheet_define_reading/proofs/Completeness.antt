-- What stands at the front of tokens by the productions is read: paths, types, first values, columns, parameters and targets.
use Rattle.std.proofs.Common.{◌≡◌, ℕ, ℤ, zero, suc, ◌+◌, ◌-◌, ◌<◌, ◌≤◌, List, [], ◌∷◌, ◌++◌, length, true, false, Some, None, Ok, Err, refl, sym, ap, ◌∙◌}
use Rattle.std.proofs.Common.{subst, arith, append_assoc}
use Rattle.std.specs.Prelude.{Bool, Option, if◌then◌else◌}
use Rattle.sheet_syntax_trees.specs.declared.token.Token.{Token}
use Rattle.sheet_syntax_trees.specs.declared.token.TokenKind.{TokenKind}
use Rattle.sheet_syntax_trees.specs.declared.token.TokenKind.TheVariants as kind
use Rattle.sheet_syntax_trees.specs.declared.token.SyntaxRefusal.TheVariants.{Expected}
use Rattle.sheet_syntax_trees.specs.declared.sign.Sign.TheVariants as sign
use Rattle.sheet_syntax_trees.specs.declared.tree.Tree.{Tree}
use Rattle.sheet_syntax_trees.specs.declared.tree.Formed.{Formed}
use Rattle.sheet_syntax_trees.specs.Signs.{sign_of}
use Rattle.sheet_syntax_trees.specs.Grammar.{Produces, form, expression, postfix, atom, no_step}
use Rattle.sheet_syntax_trees.specs.Reading as trees
use Rattle.sheet_syntax_trees.specs.Reading.{Answer, ◌>>=◌, offset, line_of, or_expected, name_at, formula_at, within, setting, step_of, made}
use Rattle.sheet_define_data.specs.declared.definition.Path.{Path}
use Rattle.sheet_define_data.specs.declared.definition.TypeName.{TypeName}
use Rattle.sheet_define_data.specs.declared.definition.TypeName.TheVariants as type
use Rattle.sheet_define_data.specs.declared.definition.Literal.{Literal}
use Rattle.sheet_define_data.specs.declared.definition.Literal.TheVariants as literal
use Rattle.sheet_define_data.specs.declared.definition.Column.{Column}
use Rattle.sheet_define_data.specs.declared.definition.Content.TheVariants as content
use Rattle.sheet_define_data.specs.declared.definition.Parameter.{Parameter}
use Rattle.sheet_define_data.specs.declared.definition.Procedure.{Procedure}
use Rattle.sheet_define_data.specs.declared.definition.Show.{Show}
use Rattle.sheet_define_data.specs.declared.definition.Part.{Part}
use Rattle.sheet_define_data.specs.declared.definition.Part.TheVariants as part
use Rattle.sheet_define_data.specs.declared.definition.View.{View}
use Rattle.sheet_define_data.specs.declared.definition.Declaration.{Declaration}
use Rattle.sheet_define_data.specs.declared.definition.Declaration.TheVariants as declaration
use Rattle.sheet_define_data.specs.declared.statement.Target.{Target}
use Rattle.sheet_define_data.specs.declared.statement.Statement.{Statement}
use Rattle.sheet_define_data.specs.declared.statement.Statement.TheVariants as statement
use Rattle.sheet_define_data.specs.Grammar.{Limits, IsFormulaOf, IsExpression, Maybe, left_out, stated, Repeated, none, one_more, AreNames, one_name}
use Rattle.sheet_define_data.specs.Grammar.{more_names, IsPath, a_path, IsType, numbers, texts, truths, objects, IsLiteral, a_number, a_negative_number, a_text}
use Rattle.sheet_define_data.specs.Grammar.{a_true, a_false, IsOne, any_count, just_one, IsFirst, a_first, IsDeclared, a_declared, IsAllow, an_allow, IsColumn}
use Rattle.sheet_define_data.specs.Grammar.{an_object_column, a_state_column, a_formula_column, AreColumns, no_columns, more_columns, IsParameter, a_parameter}
use Rattle.sheet_define_data.specs.Grammar.{AreParameters, one_parameter, more_parameters, InParentheses, no_parameters, some_parameters, IsTarget, of_root}
use Rattle.sheet_define_data.specs.Grammar.{of_object, IsStatement, a_let, an_assignment, an_add, a_remove, a_new, a_delete, a_check, a_reply, an_if}
use Rattle.sheet_define_data.specs.Grammar.{an_if_else, a_for, AreStatements, no_statements, more_statements, IsBlock, a_block, IsProcedure, a_procedure}
use Rattle.sheet_define_data.specs.Grammar.{IsShow, a_show, IsPart, one_show, a_table, IsView, a_view, IsDeclaration, the_callers, a_column, one_procedure}
use Rattle.sheet_define_data.specs.Grammar.{one_view, AreDeclarations, no_declarations, more_declarations}
use Rattle.sheet_define_reading.specs.declared.mark.Mark.{Mark}
use Rattle.sheet_define_reading.specs.declared.mark.Mark.TheVariants as mark
use Rattle.sheet_define_reading.specs.Marks.{mark_of, mark_rank, same_mark}
use Rattle.sheet_define_reading.specs.Reading as reading
use Rattle.sheet_define_reading.specs.Reading.{Bounds, Reader, Turn, after, expect, with_front, alone}
use Rattle.sheet_syntax_trees.specs.Grammar.{Nonterminal, Form, Parts, Gathers, chain, negation, unary, prefixing, a_choice, no_choice, an_operand}
use Rattle.sheet_syntax_trees.specs.Grammar.{an_operation, a_prefix, no_prefix, a_child, an_up, a_leaf, in_parentheses, no_set, a_set, a_comprehension, a_sum}
use Rattle.sheet_syntax_trees.specs.Grammar.{a_call, a_test}
use Rattle.sheet_syntax_trees.specs.declared.operators.Prefix.{Prefix}
use Rattle.sheet_syntax_trees.specs.declared.operators.Prefix.TheVariants as prefix
use Rattle.sheet_syntax_trees.specs.Reading.{sign_at, name_of, with_rest, leaf}
use Rattle.sheet_syntax_trees.proofs.Binding.{binding}
use Rattle.sheet_syntax_trees.proofs.Answering.{ok_then}
use Rattle.sheet_syntax_trees.proofs.Soundness.{Begins, nonempty as form_begins}
use Rattle.sheet_syntax_trees.proofs.Completeness.{formed, read_before, atom_before, made_given, up_step, named_step}
use Rattle.std.proofs.Common.{length-append}
use Rattle.sheet_define_reading.specs.Reading.{mark_at}
use Rattle.sheet_define_reading.proofs.MarkLemmas.{spelling, same_self, other_mark}
use Rattle.sheet_define_reading.proofs.Answering.{front_ok, alone_ok}
use Rattle.sheet_syntax_trees.specs.declared.tree.Tree.TheVariants as tree
use Rattle.sheet_define_reading.proofs.Dots.{sign_dot}
use Rattle.sheet_define_reading.proofs.Clearing.{begins, clear, clear_at, clear_binding, clear_other, clear_after, marked, other_at, after_other}
use Rattle.sheet_define_reading.proofs.Clearing.{after_name_token, then_given, after_given, expect_given, name_given}
use Rattle.sheet_define_reading.proofs.Soundness.{limits}

pub formula_given : (s : Bounds) (ts us : List Token) (e : Tree) → IsExpression (limits s) ts e us → 6 < binding (sign_at us) →
    reading.formula s ts ≡ Ok (e, us)
unfolding reading.formula formula_at
formula_given s ts us e f h =
    let long : length ts ≡ length f.front + length us = ap length f.split ∙ length-append f.front us in
    let read : within s.depth s.end (length ts + 1) s.nest ts ≡ Ok (record { tree = e; depth = f.depth }, us) =
    ap (within s.depth s.end (length ts + 1) s.nest) f.split ∙ read_before f.front (form e f.depth f.nest) f.produced s.depth s.end (length ts + 1) s.nest
    f.shallow f.narrow (omega arith) us h in
    ap (λ r. r >>= (λ x. Ok (x.0.tree, x.1))) read

-- ---- paths, types and first values

-- the names behind a dot
dot_names : (end : ℕ) (d : Token) (ts : List Token) → d.kind ≡ spelling mark.Dot →
    reading.more_names end (d ∷ ts) ≡ (name_at end ts >>= (λ name. with_front (name.0 ∷ []) (reading.more_names end name.1)))
unfolding reading.more_names
dot_names end d [] is = let test = same_self (mark_of d.kind) mark.Dot (marked d.kind mark.Dot is) in rw test refl
dot_names end d (t ∷ ts) is = let test = same_self (mark_of d.kind) mark.Dot (marked d.kind mark.Dot is) in rw test (by (name_of t.kind)) where
  by : (o : Option (List ℕ)) →
      (or_expected t.start o >>= (λ name. with_front (name ∷ []) (reading.more_names end ts))) ≡ (with_rest ts (or_expected t.start o) >>= (λ name.
      with_front (name.0 ∷ []) (reading.more_names end name.1)))
  by (Some name) = refl
  by None = refl

no_more_names : (end : ℕ) (ts : List Token) → same_mark (mark_at ts) mark.Dot ≡ false → reading.more_names end ts ≡ Ok ([], ts)
unfolding reading.more_names
no_more_names end [] unlike = refl
no_more_names end (d ∷ []) unlike = rw unlike refl
no_more_names end (d ∷ t ∷ ts) unlike = rw unlike refl

names_given : (end : ℕ) (ts us : List Token) (names : List (List ℕ)) → AreNames ts names us → same_mark (mark_at us) mark.Dot ≡ false
    → (name_at end ts >>= (λ name. with_front (name.0 ∷ []) (reading.more_names end name.1))) ≡ Ok (names, us)
names_given end _ _ _ (one_name t name ts named) unlike =
    then_given (name_at end (t ∷ ts)) (name, ts) (λ name. with_front (name.0 ∷ []) (reading.more_names end name.1)) _ (name_given end t name ts named)
    (ap (with_front (name ∷ [])) (no_more_names end ts unlike))
names_given end _ _ _ (more_names t d name names ts us named dotted more) unlike =
    then_given (name_at end (t ∷ d ∷ ts)) (name, d ∷ ts) (λ name. with_front (name.0 ∷ []) (reading.more_names end name.1)) _
    (name_given end t name (d ∷ ts) named)
    (ap (with_front (name ∷ [])) (dot_names end d ts dotted ∙ names_given end ts us names more unlike))

pub path_given : (s : Bounds) (ts us : List Token) (p : Path) → IsPath ts p us → same_mark (mark_at us) mark.Dot ≡ false → reading.path s ts ≡ Ok (p, us)
unfolding reading.path
path_given s _ _ _ (a_path ts us names are) unlike =
    let (name, en, e1) = ok_then (name_at s.end ts) (λ name. with_front (name.0 ∷ []) (reading.more_names s.end name.1)) (names, us)
    (names_given s.end ts us names are unlike) in
    let (more, em, same) = front_ok (name.0 ∷ []) (reading.more_names s.end name.1) (names, us) e1 in
    let first : names ≡ name.0 ∷ more.0 = ap (λ (p : List (List ℕ) × List Token). p.0) same in
    let rest : us ≡ more.1 = ap (λ (p : List (List ℕ) × List Token). p.1) same in
    then_given (name_at s.end ts) name
    (λ name. reading.more_names s.end name.1 >>= (λ more. Ok (record { line = line_of ts; names = name.0 ∷ more.0 }, more.1))) _ en
    (then_given (reading.more_names s.end name.1) more (λ more. Ok (record { line = line_of ts; names = name.0 ∷ more.0 }, more.1)) _ em
    (ap (λ (p : List (List ℕ) × List Token). Ok (record { line = line_of ts; names = p.0 }, p.1)) (sym same)))

pub record Named (ts : List Token) : Type 0 where
  pub first : Token
  pub others : List Token
  pub name : List ℕ
  pub is : ts ≡ first ∷ others
  pub named : first.kind ≡ kind.Name name

names_named : (ts us : List Token) (names : List (List ℕ)) → AreNames ts names us → Named ts
names_named _ _ _ (one_name t name ts named) = record { first = t; others = ts; name = name; is = refl; named = named }
names_named _ _ _ (more_names t d name names ts us named dotted more) = record { first = t; others = d ∷ ts; name = name; is = refl; named = named }

path_named : (ts us : List Token) (p : Path) → IsPath ts p us → Named ts
path_named _ _ _ (a_path ts us names are) = names_named ts us names are

type_of_path : (s : Bounds) (ts : List Token) → Named ts → reading.type_at s ts ≡ (reading.path s ts >>= (λ p. Ok (type.Object p.0, p.1)))
unfolding reading.type_at
type_of_path s ts n =
    let other : mark_of n.first.kind ≡ mark.Other = ap mark_of n.named in
    ap (reading.type_at s) n.is ∙ ap (reading.type_by s n.first n.others) other ∙ ap (λ l. reading.path s l >>= (λ p. Ok (type.Object p.0, p.1))) (sym n.is)

pub type_given : (s : Bounds) (ts us : List Token) (t : TypeName) → IsType ts t us → same_mark (mark_at us) mark.Dot ≡ false → reading.type_at s ts ≡ Ok (t, us)
unfolding reading.type_at
type_given s _ _ _ (numbers t ts is) unlike = ap (reading.type_by s t ts) (marked t.kind mark.Number is)
type_given s _ _ _ (texts t ts is) unlike = ap (reading.type_by s t ts) (marked t.kind mark.Text is)
type_given s _ _ _ (truths t ts is) unlike = ap (reading.type_by s t ts) (marked t.kind mark.Truth is)
type_given s _ _ _ (objects ts us p is) unlike =
    type_of_path s ts (path_named ts us p is) ∙ ap (λ r. r >>= (λ p. Ok (type.Object p.0, p.1))) (path_given s ts us p is unlike)

pub literal_given : (s : Bounds) (ts us : List Token) (v : Literal) → IsLiteral ts v us → reading.literal_at s ts ≡ Ok (v, us)
unfolding reading.literal_at reading.negative
literal_given s _ _ _ (a_number t n ts is) = ap (λ k. reading.literal_or s t ts (reading.literal_of t.line k)) is
literal_given s _ _ _ (a_text t text ts is) = ap (λ k. reading.literal_or s t ts (reading.literal_of t.line k)) is
literal_given s _ _ _ (a_true t ts is) = ap (λ k. reading.literal_or s t ts (reading.literal_of t.line k)) is
literal_given s _ _ _ (a_false t ts is) = ap (λ k. reading.literal_or s t ts (reading.literal_of t.line k)) is
literal_given s _ _ _ (a_negative_number m t n ts ism is) =
    let test = same_self (mark_of m.kind) mark.Minus (marked m.kind mark.Minus ism) in
    ap (λ k. reading.literal_or s m (t ∷ ts) (reading.literal_of m.line k)) ism
    ∙ rw test (ap (λ k. or_expected t.start (reading.number_of k) >>= (λ n. Ok (literal.Negative m.line n, ts))) is)

-- ---- columns

abbrev optional_of : {A : Type 0} → Reader A → Mark → Reader (Option A)
optional_of p m ts = reading.optional p ts (after m ts)

left_given : {A : Type 0} (p : Reader A) (m : Mark) (ts : List Token) → after m ts ≡ None → optional_of p m ts ≡ Ok (None, ts)
left_given p m ts e = rw e refl

stated_given : {A : Type 0} (p : Reader A) (m : Mark) (t : Token) (ts us : List Token) (x : A) → t.kind ≡ spelling m → p ts ≡ Ok (x, us) →
    optional_of p m (t ∷ ts) ≡ Ok (Some x, us)
stated_given p m t ts us x is e = ap (reading.optional p (t ∷ ts)) (after_given m t ts is) ∙ ap (λ r. r >>= (λ x. Ok (Some x.0, x.1))) e

pub object_given : (s : Bounds) (depth : ℕ) (w n o : Token) (name : List ℕ) (ts : List Token) → n.kind ≡ kind.Name name → o.kind ≡ spelling mark.OpenBrace
    → reading.object_column s depth w (n ∷ o ∷ ts) ≡ Ok (record { depth = depth; line = w.line; name = name; content = content.Object }, ts)
unfolding reading.object_column
object_given s depth w n o name ts named iso =
    then_given (name_at s.end (n ∷ o ∷ ts)) (name, o ∷ ts)
    (λ name. expect s.end mark.OpenBrace name.1 >>= (λ rest. Ok (record { depth = depth; line = w.line; name = name.0; content = content.Object }, rest))) _
    (name_given s.end n name (o ∷ ts) named)
    (then_given (expect s.end mark.OpenBrace (o ∷ ts)) ts (λ rest. Ok (record { depth = depth; line = w.line; name = name; content = content.Object }, rest)) _
    (expect_given s.end mark.OpenBrace o ts iso) refl)

first_given : (s : Bounds) (ts us : List Token) (v : Option Literal) → Maybe IsFirst ts v us → clear_at us ≡ true →
    optional_of (reading.literal_at s) mark.Equals ts ≡ Ok (v, us)
first_given s _ _ _ (left_out ts) h = left_given (reading.literal_at s) mark.Equals ts (clear_after mark.Equals refl (omega arith) ts h)
first_given s _ _ _ (stated _ _ _ (a_first e ts us v is lit)) h = stated_given (reading.literal_at s) mark.Equals e ts us v is (literal_given s ts us v lit)

first_no_one : (ts us : List Token) (v : Option Literal) → Maybe IsFirst ts v us → clear_at us ≡ true → after mark.One ts ≡ None
first_no_one _ _ _ (left_out ts) h = clear_after mark.One refl (omega arith) ts h
first_no_one _ _ _ (stated _ _ _ (a_first e ts us v is lit)) h = after_other e ts mark.Equals mark.One is refl

first_no_dot : (ts us : List Token) (v : Option Literal) → Maybe IsFirst ts v us → clear_at us ≡ true → same_mark (mark_at ts) mark.Dot ≡ false
first_no_dot _ _ _ (left_out ts) h = clear_other mark.Dot refl (omega arith) ts h
first_no_dot _ _ _ (stated _ _ _ (a_first e ts us v is lit)) h = other_at e mark.Equals mark.Dot is refl

one_given : (ts us rest : List Token) (one : Bool) (v : Option Literal) → IsOne ts one us → Maybe IsFirst us v rest → clear_at rest ≡ true →
    reading.one_or ts (after mark.One ts) ≡ (one, us)
one_given _ _ rest _ v (any_count ts) f h = ap (reading.one_or ts) (first_no_one ts rest v f h)
one_given _ _ rest _ v (just_one t ts is) f h = ap (reading.one_or (t ∷ ts)) (after_given mark.One t ts is)

one_no_dot : (ts us rest : List Token) (one : Bool) (v : Option Literal) → IsOne ts one us → Maybe IsFirst us v rest → clear_at rest ≡ true →
    same_mark (mark_at ts) mark.Dot ≡ false
one_no_dot _ _ rest _ v (any_count ts) f h = first_no_dot ts rest v f h
one_no_dot _ _ rest _ v (just_one t ts is) f h = other_at t mark.One mark.Dot is refl

pub state_given : (s : Bounds) (depth : ℕ) (w n k : Token) (name : List ℕ) (ts us vs rest : List Token) (t : TypeName) (one : Bool) (v : Option Literal) →
    n.kind ≡ kind.Name name → k.kind ≡ spelling mark.Colon
    → IsType ts t us → IsOne us one vs → Maybe IsFirst vs v rest → clear_at rest ≡ true
    → reading.state_column s depth w (n ∷ k ∷ ts) ≡ Ok (record { depth = depth; line = w.line; name = name; content = content.State t one v }, rest)
unfolding reading.state_column
state_given s depth w n k name ts us vs rest t one v named isk typed ones firsts h =
    then_given (name_at s.end (n ∷ k ∷ ts)) (name, k ∷ ts)
    (λ name. expect s.end mark.Colon
    name.1 >>= (λ a. reading.type_at s a >>= (λ t. reading.state_behind s depth w name.0 t.0 (reading.one_or t.1 (after mark.One t.1))))) _
    (name_given s.end n name (k ∷ ts) named)
    (then_given (expect s.end mark.Colon (k ∷ ts)) ts
    (λ a. reading.type_at s a >>= (λ t. reading.state_behind s depth w name t.0 (reading.one_or t.1 (after mark.One t.1)))) _
    (expect_given s.end mark.Colon k ts isk)
    (then_given (reading.type_at s ts) (t, us) (λ t. reading.state_behind s depth w name t.0 (reading.one_or t.1 (after mark.One t.1))) _
    (type_given s ts us t typed (one_no_dot us vs rest one v ones firsts h))
    (ap (reading.state_behind s depth w name t) (one_given us vs rest one v ones firsts h)
    ∙ ap (λ r. r >>= (λ first. Ok (record { depth = depth; line = w.line; name = name; content = content.State t one first.0 }, first.1)))
    (first_given s vs rest v firsts h))))

declared_given : (s : Bounds) (ts us : List Token) (e : Token) (t : Option TypeName) → e.kind ≡ spelling mark.Equals → (vs : List Token) → vs ≡ e ∷ us →
    Maybe IsDeclared ts t vs → optional_of (reading.type_at s) mark.Colon ts ≡ Ok (t, vs)
declared_given s _ us e _ ise _ split (left_out ts) =
    left_given (reading.type_at s) mark.Colon ts (ap (after mark.Colon) split ∙ after_other e us mark.Equals mark.Colon ise refl)
declared_given s _ us e _ ise _ split (stated _ _ _ (a_declared k ts vs t isk typed)) =
    stated_given (reading.type_at s) mark.Colon k ts vs t isk
    (type_given s ts vs t typed (ap (λ l. same_mark (mark_at l) mark.Dot) split ∙ other_at e mark.Equals mark.Dot ise refl))

pub formula_column_given : (s : Bounds) (depth : ℕ) (w n e : Token) (name : List ℕ) (ts us rest : List Token) (t : Option TypeName) (f : Tree) →
    n.kind ≡ kind.Name name → Maybe IsDeclared ts t (e ∷ us) → e.kind ≡ spelling mark.Equals
    → IsExpression (limits s) us f rest → clear_at rest ≡ true
    → reading.formula_column s depth w (n ∷ ts) ≡ Ok (record { depth = depth; line = w.line; name = name; content = content.Formula t f }, rest)
unfolding reading.formula_column
formula_column_given s depth w n e name ts us rest t f named declared ise read h =
    then_given (name_at s.end (n ∷ ts)) (name, ts)
    (λ name. optional_of (reading.type_at s) mark.Colon
    name.1 >>= (λ t.
    expect s.end mark.Equals
    t.1 >>= (λ a. reading.formula s a >>= (λ f. Ok (record { depth = depth; line = w.line; name = name.0; content = content.Formula t.0 f.0 }, f.1))))) _
    (name_given s.end n name ts named)
    (then_given (optional_of (reading.type_at s) mark.Colon ts) (t, e ∷ us)
    (λ t. expect s.end mark.Equals
    t.1 >>= (λ a. reading.formula s a >>= (λ f. Ok (record { depth = depth; line = w.line; name = name; content = content.Formula t.0 f.0 }, f.1)))) _
    (declared_given s ts us e t ise (e ∷ us) refl declared)
    (then_given (expect s.end mark.Equals (e ∷ us)) us
    (λ a. reading.formula s a >>= (λ f. Ok (record { depth = depth; line = w.line; name = name; content = content.Formula t f.0 }, f.1))) _
    (expect_given s.end mark.Equals e us ise)
    (then_given (reading.formula s us) (f, rest) (λ f. Ok (record { depth = depth; line = w.line; name = name; content = content.Formula t f.0 }, f.1)) _
    (formula_given s us rest f read (clear_binding rest h)) refl)))

-- ---- parameters

parameter_given : (s : Bounds) (ts us : List Token) (p : Parameter) → IsParameter ts p us → same_mark (mark_at us) mark.Dot ≡ false →
    reading.parameter s ts ≡ Ok (p, us)
unfolding reading.parameter
parameter_given s _ _ _ (a_parameter n k name ts us t named isk typed) unlike =
    then_given (name_at s.end (n ∷ k ∷ ts)) (name, k ∷ ts)
    (λ name. expect s.end mark.Colon name.1 >>= (λ a. reading.type_at s a >>= (λ t. Ok (record { line = n.line; name = name.0; values = t.0 }, t.1)))) _
    (name_given s.end n name (k ∷ ts) named)
    (then_given (expect s.end mark.Colon (k ∷ ts)) ts (λ a. reading.type_at s a >>= (λ t. Ok (record { line = n.line; name = name; values = t.0 }, t.1))) _
    (expect_given s.end mark.Colon k ts isk)
    (then_given (reading.type_at s ts) (t, us) (λ t. Ok (record { line = n.line; name = name; values = t.0 }, t.1)) _ (type_given s ts us t typed unlike) refl))

some_parameters_listed : (ts us : List Token) (ps : List Parameter) → AreParameters ts ps us → 0 < length ps
some_parameters_listed _ _ _ (one_parameter ts us p is) = omega arith
some_parameters_listed _ _ _ (more_parameters ts us rest k p ps is isk more) = omega arith

closed_given : (s : Bounds) (c : Token) (us : List Token) → c.kind ≡ spelling mark.Close → reading.closed s (c ∷ us) ≡ Ok ([], us)
closed_given s c us isc = ap (λ r. r >>= (λ rest. Ok ([], rest))) (expect_given s.end mark.Close c us isc)

more_closed : (s : Bounds) (room : ℕ) (c : Token) (us : List Token) → c.kind ≡ spelling mark.Close → reading.more_parameters s room (c ∷ us) ≡ Ok ([], us)
unfolding reading.more_parameters
more_closed s zero c us isc = closed_given s c us isc
more_closed s (suc room) c us isc =
    ap (λ o. reading.more_by s (c ∷ us) o (λ rest. reading.more_parameters s room rest)) (after_other c us mark.Close mark.Comma isc refl)
    ∙ closed_given s c us isc

more_comma : (s : Bounds) (room : ℕ) (k : Token) (us : List Token) → k.kind ≡ spelling mark.Comma
    → reading.more_parameters s (suc room) (k ∷ us) ≡ (reading.parameter s us >>= (λ p. with_front (p.0 ∷ []) (reading.more_parameters s room p.1)))
unfolding reading.more_parameters
more_comma s room k us isk = ap (λ o. reading.more_by s (k ∷ us) o (λ rest. reading.more_parameters s room rest)) (after_given mark.Comma k us isk)

listed_given : (s : Bounds) (room : ℕ) (ts us : List Token) (c : Token) (ps : List Parameter) → c.kind ≡ spelling mark.Close → (vs : List Token) → vs ≡ c ∷ us →
    AreParameters ts ps vs → length ps ≤ suc room
    → (reading.parameter s ts >>= (λ p. with_front (p.0 ∷ []) (reading.more_parameters s room p.1))) ≡ Ok (ps, us)
listed_given s room _ us c _ isc _ split (one_parameter ts vs p is) few =
    then_given (reading.parameter s ts) (p, vs) (λ p. with_front (p.0 ∷ []) (reading.more_parameters s room p.1)) _
    (parameter_given s ts vs p is (ap (λ l. same_mark (mark_at l) mark.Dot) split ∙ other_at c mark.Close mark.Dot isc refl))
    (ap (with_front (p ∷ [])) (ap (reading.more_parameters s room) split ∙ more_closed s room c us isc))
listed_given s zero _ us c _ isc _ split (more_parameters ts xs vs k p ps is isk more) few = let some = some_parameters_listed xs vs ps more in
    absurd (omega arith)
listed_given s (suc room) _ us c _ isc _ split (more_parameters ts xs vs k p ps is isk more) few =
    then_given (reading.parameter s ts) (p, k ∷ xs) (λ p. with_front (p.0 ∷ []) (reading.more_parameters s (suc room) p.1)) _
    (parameter_given s ts (k ∷ xs) p is (other_at k mark.Comma mark.Dot isk refl))
    (ap (with_front (p ∷ [])) (more_comma s room k xs isk ∙ listed_given s room xs us c ps isc vs split more (omega arith)))

first_parameter_no_close : (ts us : List Token) (p : Parameter) → IsParameter ts p us → after mark.Close ts ≡ None
first_parameter_no_close _ _ _ (a_parameter n k name ts us t named isk typed) = after_name_token n (k ∷ ts) name mark.Close named (omega arith)

parameters_no_close : (ts us : List Token) (ps : List Parameter) → AreParameters ts ps us → after mark.Close ts ≡ None
parameters_no_close _ _ _ (one_parameter ts us p is) = first_parameter_no_close ts us p is
parameters_no_close _ _ _ (more_parameters ts us rest k p ps is isk more) = first_parameter_no_close ts (k ∷ us) p is

pub parameters_given : (s : Bounds) (ts us : List Token) (ps : List Parameter) → InParentheses ts ps us → reading.parameters s ts ≡ Ok (ps, us)
unfolding reading.parameters
parameters_given s _ _ _ (no_parameters o c ts iso isc) =
    then_given (expect s.end mark.Open (o ∷ c ∷ ts)) (c ∷ ts) (λ a. reading.parameters_or s a (after mark.Close a)) _
    (expect_given s.end mark.Open o (c ∷ ts) iso)
    (ap (reading.parameters_or s (c ∷ ts)) (after_given mark.Close c ts isc))
parameters_given s _ _ _ (some_parameters o c ts us ps iso are few isc) =
    then_given (expect s.end mark.Open (o ∷ ts)) ts (λ a. reading.parameters_or s a (after mark.Close a)) _ (expect_given s.end mark.Open o ts iso)
    (ap (reading.parameters_or s ts) (parameters_no_close ts (c ∷ us) ps are) ∙ listed_given s 15 ts us c ps isc (c ∷ us) refl are few)

abbrev ok_or : {A : Type 0} → A → Answer A → A
ok_or d (Ok x) = x
ok_or d (Err e) = d

same_ok : {A : Type 0} {x y : A} → ◌≡◌ {A = Answer A} (Ok x) (Ok y) → x ≡ y
same_ok {A} {x} {y} e = ap (ok_or x) e

-- ---- targets

alone_given : (n : Token) (name : List ℕ) (ts : List Token) → n.kind ≡ kind.Name name → same_mark (mark_at ts) mark.Dot ≡ false →
    alone (n ∷ ts) ≡ Some (name, ts)
alone_given n name ts named unlike = rw (unlike, named) refl

dotted_alone : (t d : Token) (ts : List Token) → d.kind ≡ spelling mark.Dot → alone (t ∷ d ∷ ts) ≡ None
dotted_alone t d ts isd = let test = same_self (mark_of d.kind) mark.Dot (marked d.kind mark.Dot isd) in rw test refl

-- a lone name is all of the atom that is read there
name_atom : (s : Bounds) (t : Token) (ts : List Token) (name : List ℕ) → t.kind ≡ kind.Name name →
    trees.atom (setting s.depth s.end (length (t ∷ ts) + 1) s.nest) (t ∷ ts) ≡ Ok (record { tree = tree.Name t.line name; depth = 1 }, ts)
unfolding trees.atom
name_atom s t ts name named = ap (λ k. trees.leaf_or (setting s.depth s.end (length (t ∷ ts) + 1) s.nest) (leaf t.line k) t ts) named

-- before a dot an atom is no lone name
atom_alone : (s : Bounds) (ts : List Token) (f : Formed) (d : Token) (rest : List Token) → d.kind ≡ spelling mark.Dot →
    trees.atom (setting s.depth s.end (length ts + 1) s.nest) ts ≡ Ok (f, d ∷ rest)
    → (o : Option (List ℕ × List Token)) → alone ts ≡ o → alone ts ≡ None
atom_alone s ts f d rest isd e None missing = missing
atom_alone s ts f d rest isd e (Some x) some =
    let (t, split, named) = alone_ok ts x some in
    let read : trees.atom (setting s.depth s.end (length (t ∷ x.1) + 1) s.nest) (t ∷ x.1) ≡ Ok (f, d ∷ rest) =
    subst (λ l. trees.atom (setting s.depth s.end (length l + 1) s.nest) l ≡ Ok (f, d ∷ rest)) split e in
    let same : (record { tree = tree.Name t.line x.0; depth = 1 }, x.1) ≡ (f, d ∷ rest) = same_ok (sym (name_atom s t x.1 x.0 named) ∙ read) in
    let behind : x.1 ≡ d ∷ rest = ap (λ (p : Formed × List Token). p.1) same in
    ap alone (split ∙ ap (λ l. t ∷ l) behind) ∙ dotted_alone t d rest isd

-- ---- the steps of a target

record TargetAt (s : Bounds) (ts : List Token) (f : Formed) (rest : List Token) : Type 0 where
  turns : ℕ
  enough : length rest ≤ turns
  is : reading.target s (ts ++ rest) ≡ reading.last_step s turns (offset s.end (ts ++ rest)) (line_of (ts ++ rest)) f rest

abbrev StepsClaim : List Token → Form → Type 0
StepsClaim ts f = (s : Bounds) → f.depth ≤ s.depth → f.nest ≤ s.nest → (d : Token) (rest : List Token) → d.kind ≡ spelling mark.Dot →
    TargetAt s ts (formed f) (d ∷ rest)

abbrev Claim : Nonterminal → List Token → Form → Type 0
Claim postfix ts f = StepsClaim ts f
Claim _ ts f = Unit {0}

atom_claim : (ts : List Token) (f : Form) → Produces atom ts f → StepsClaim ts f
unfolding reading.target
atom_claim ts f p s deep narrow d rest isd =
    let long : length (ts ++ d ∷ rest) ≡ length ts + length (d ∷ rest) = length-append ts (d ∷ rest) in
    let read = atom_before ts f p s.depth s.end (length (ts ++ d ∷ rest) + 1) s.nest deep narrow (omega arith) (d ∷ rest) in
    record {
      turns = length (d ∷ rest);
      enough = omega arith;
      is = ap (reading.target_by s (ts ++ d ∷ rest)) (atom_alone s (ts ++ d ∷ rest) (formed f) d rest isd read (alone (ts ++ d ∷ rest)) refl)
          ∙ ap (λ r. r >>= (λ x. reading.last_step s (length x.1) (offset s.end (ts ++ d ∷ rest)) (line_of (ts ++ d ∷ rest)) x.0 x.1)) read;
    }

step_more : (s : Bounds) (n at line : ℕ) (f : Formed) (d t e : Token) (rest : List Token) (g : Tree) → d.kind ≡ spelling mark.Dot → e.kind ≡ spelling mark.Dot →
    step_of line f.tree t.kind ≡ Some g → f.depth < s.depth
    → reading.last_step s (suc n) at line f (d ∷ t ∷ e ∷ rest) ≡ reading.last_step s n at line (record { tree = g; depth = f.depth + 1 }) (e ∷ rest)
unfolding reading.last_step
step_more s n at line f d t e rest g isd ise stepped fits =
    then_given (expect s.end mark.Dot (d ∷ t ∷ e ∷ rest)) (t ∷ e ∷ rest)
    (λ a. reading.step_by s at line f a (alone a) (λ g rest. reading.last_step s n at line g rest)) _ (expect_given s.end mark.Dot d (t ∷ e ∷ rest) isd)
    (ap (λ o. reading.step_by s at line f (t ∷ e ∷ rest) o (λ g rest. reading.last_step s n at line g rest)) (dotted_alone t e rest ise)
    ∙ ap (λ o. or_expected t.start o >>= (λ form. made s.depth at form f.depth >>= (λ g. reading.last_step s n at line g (e ∷ rest)))) stepped
    ∙ ap (λ r. r >>= (λ g. reading.last_step s n at line g (e ∷ rest))) (made_given s.depth at g f.depth fits))

line_front : (xs zs : List Token) → Begins xs → line_of (xs ++ zs) ≡ line_of xs
line_front xs zs b = ap (λ l. line_of (l ++ zs)) b.is ∙ sym (ap line_of b.is)

step_claim : (d t : Token) (ts : List Token) (f : Form) (e : Tree) → Begins ts → StepsClaim ts f → d.kind ≡ spelling mark.Dot →
    step_of (line_of ts) f.tree t.kind ≡ Some e → StepsClaim (ts ++ d ∷ t ∷ []) (form e (f.depth + 1) f.nest)
step_claim d t ts f e b claim isd stepped s deep narrow c rest isc =
    let whole : (ts ++ d ∷ t ∷ []) ++ c ∷ rest ≡ ts ++ d ∷ t ∷ c ∷ rest = append_assoc ts (d ∷ t ∷ []) (c ∷ rest) in
    let line : line_of (ts ++ d ∷ t ∷ c ∷ rest) ≡ line_of ts = line_front ts (d ∷ t ∷ c ∷ rest) b in
    let a = claim s (omega arith) narrow d (t ∷ c ∷ rest) isd in
    let enough = a.enough in
    let more : a.turns ≡ suc (a.turns - 1) = omega arith in
    record {
      turns = a.turns - 1;
      enough = omega arith;
      is = ap (reading.target s) whole ∙ a.is
          ∙ ap (λ n. reading.last_step s n (offset s.end (ts ++ d ∷ t ∷ c ∷ rest)) (line_of (ts ++ d ∷ t ∷ c ∷ rest)) (formed f) (d ∷ t ∷ c ∷ rest)) more
          ∙ step_more s (a.turns - 1) (offset s.end (ts ++ d ∷ t ∷ c ∷ rest)) (line_of (ts ++ d ∷ t ∷ c ∷ rest)) (formed f) d t c rest e isd isc
          (ap (λ l. step_of l f.tree t.kind) line ∙ stepped) (omega arith)
          ∙ ap (λ l. reading.last_step s (a.turns - 1) (offset s.end l) (line_of l) (record { tree = e; depth = f.depth + 1 }) (c ∷ rest)) (sym whole);
    }

-- a dot is spelled so
dot_spelled : (t : Token) → sign_of t.kind ≡ sign.Dot → t.kind ≡ spelling mark.Dot
dot_spelled t is = sign_dot t.kind is

prefix_claim : (p : Prefix) (ts : List Token) (f : Form) → Claim (prefixing p) ts f
prefix_claim prefix.Minus ts f = tt
prefix_claim prefix.Not ts f = tt

steps_claim : (n : Nonterminal) (ts : List Token) (f : Form) → Produces n ts f → Claim n ts f
steps_claim _ _ _ (a_choice i t e cs xs ys c x y a1 a2 a3 a4 a5 a6) = tt
steps_claim _ _ _ (no_choice ts f p) = tt
steps_claim _ _ _ (an_operand l ts f p) = tt
steps_claim _ _ _ (an_operation l op o xs ys x y px is py) = tt
steps_claim _ _ _ (a_prefix p t ts f is q) = prefix_claim p _ _
steps_claim _ _ _ (no_prefix p ts f q) = prefix_claim p _ _
steps_claim _ _ _ (no_step ts f p) = atom_claim ts f p
steps_claim _ _ _ (a_child d t name ts f p dot named) =
    step_claim d t ts f _ (form_begins postfix ts f p) (steps_claim postfix ts f p) (dot_spelled d dot) (named_step (line_of ts) f.tree t name named)
steps_claim _ _ _ (an_up d t ts f p dot up) =
    step_claim d t ts f _ (form_begins postfix ts f p) (steps_claim postfix ts f p) (dot_spelled d dot) (up_step (line_of ts) f.tree t up)
steps_claim _ _ _ (a_leaf t e is) = tt
steps_claim _ _ _ (in_parentheses o c ts f iso p isc) = tt
steps_claim _ _ _ (no_set o c iso isc) = tt
steps_claim _ _ _ (a_set o c ts p iso q isc) = tt
steps_claim _ _ _ (a_comprehension o c ts g iso q isc) = tt
steps_claim _ _ _ (a_sum w o c ts g isw iso q isc) = tt
steps_claim _ _ _ (a_call w o c h ts f isw iso p isc) = tt
steps_claim _ _ _ (a_test w o n i b c q name ss ps x p a1 a2 a3 a4 a5 a6 a7 a8) = tt

last_given : (s : Bounds) (n at line : ℕ) (f : Formed) (d t : Token) (name : List ℕ) (us : List Token) → d.kind ≡ spelling mark.Dot → t.kind ≡ kind.Name name →
    same_mark (mark_at us) mark.Dot ≡ false
    → reading.last_step s (suc n) at line f (d ∷ t ∷ us) ≡ Ok (record { line = line; object = Some f.tree; column = name }, us)
unfolding reading.last_step
last_given s n at line f d t name us isd named unlike =
    then_given (expect s.end mark.Dot (d ∷ t ∷ us)) (t ∷ us) (λ a. reading.step_by s at line f a (alone a) (λ g rest. reading.last_step s n at line g rest)) _
    (expect_given s.end mark.Dot d (t ∷ us) isd)
    (ap (λ o. reading.step_by s at line f (t ∷ us) o (λ g rest. reading.last_step s n at line g rest)) (alone_given t name us named unlike))

pub target_given : (s : Bounds) (ts us : List Token) (t : Target) → IsTarget (limits s) ts t us → same_mark (mark_at us) mark.Dot ≡ false →
    reading.target s ts ≡ Ok (t, us)
unfolding reading.target
target_given s _ _ _ (of_root n name ts named) unlike = ap (reading.target_by s (n ∷ ts)) (alone_given n name ts named unlike)
target_given s _ _ _ (of_object d n name ts us e f isd named) unlike =
    let a = steps_claim postfix f.front (form e f.depth f.nest) f.produced s f.shallow f.narrow d (n ∷ us) isd in
    let enough = a.enough in
    let more : a.turns ≡ suc (a.turns - 1) = omega arith in
    ap (reading.target s) f.split ∙ a.is
    ∙ ap (λ k. reading.last_step s k (offset s.end (f.front ++ d ∷ n ∷ us)) (line_of (f.front ++ d ∷ n ∷ us)) (formed (form e f.depth f.nest)) (d ∷ n ∷ us))
    more
    ∙ last_given s (a.turns - 1) (offset s.end (f.front ++ d ∷ n ∷ us)) (line_of (f.front ++ d ∷ n ∷ us)) (formed (form e f.depth f.nest)) d n name us isd named
    unlike
    ∙ ap (λ l. Ok (record { line = line_of l; object = Some e; column = name }, us)) (sym f.split)
