-- Statements, procedures, views and whole definitions that stand there by the productions are read.
use Rattle.std.proofs.Common.{◌≡◌, ℕ, ℤ, zero, suc, ◌+◌, ◌-◌, ◌<◌, ◌≤◌, List, [], ◌∷◌, ◌++◌, length, true, false, Some, None, Ok, Err, refl, sym, ap, ◌∙◌}
use Rattle.std.proofs.Common.{subst, arith, append_assoc}
use Rattle.std.specs.Prelude.{Bool, Option, if◌then◌else◌}
use Rattle.sheet_syntax_trees.specs.declared.token.Token.{Token}
use Rattle.sheet_syntax_trees.specs.declared.token.TokenKind.{TokenKind}
use Rattle.sheet_syntax_trees.specs.declared.token.TokenKind.TheVariants as kind
use Rattle.sheet_syntax_trees.specs.declared.token.SyntaxRefusal.TheVariants.{Expected}
use Rattle.sheet_syntax_trees.specs.declared.sign.Sign.TheVariants as sign
use Rattle.sheet_syntax_trees.specs.declared.tree.Tree.{Tree}
use Rattle.sheet_syntax_trees.specs.declared.tree.Formed.{Formed}
use Rattle.sheet_syntax_trees.specs.Signs.{sign_of}
use Rattle.sheet_syntax_trees.specs.Grammar.{Produces, form, expression, postfix, atom, no_step}
use Rattle.sheet_syntax_trees.specs.Reading as trees
use Rattle.sheet_syntax_trees.specs.Reading.{Answer, ◌>>=◌, offset, line_of, or_expected, name_at, formula_at, within, setting, step_of, made}
use Rattle.sheet_define_data.specs.declared.definition.Path.{Path}
use Rattle.sheet_define_data.specs.declared.definition.TypeName.{TypeName}
use Rattle.sheet_define_data.specs.declared.definition.TypeName.TheVariants as type
use Rattle.sheet_define_data.specs.declared.definition.Literal.{Literal}
use Rattle.sheet_define_data.specs.declared.definition.Literal.TheVariants as literal
use Rattle.sheet_define_data.specs.declared.definition.Column.{Column}
use Rattle.sheet_define_data.specs.declared.definition.Content.TheVariants as content
use Rattle.sheet_define_data.specs.declared.definition.Parameter.{Parameter}
use Rattle.sheet_define_data.specs.declared.definition.Procedure.{Procedure}
use Rattle.sheet_define_data.specs.declared.definition.Show.{Show}
use Rattle.sheet_define_data.specs.declared.definition.Part.{Part}
use Rattle.sheet_define_data.specs.declared.definition.Part.TheVariants as part
use Rattle.sheet_define_data.specs.declared.definition.View.{View}
use Rattle.sheet_define_data.specs.declared.definition.Declaration.{Declaration}
use Rattle.sheet_define_data.specs.declared.definition.Declaration.TheVariants as declaration
use Rattle.sheet_define_data.specs.declared.statement.Target.{Target}
use Rattle.sheet_define_data.specs.declared.statement.Statement.{Statement}
use Rattle.sheet_define_data.specs.declared.statement.Statement.TheVariants as statement
use Rattle.sheet_define_data.specs.Grammar.{Limits, IsFormulaOf, IsExpression, Maybe, left_out, stated, Repeated, none, one_more, AreNames, one_name}
use Rattle.sheet_define_data.specs.Grammar.{more_names, IsPath, a_path, IsType, numbers, texts, truths, objects, IsLiteral, a_number, a_negative_number, a_text}
use Rattle.sheet_define_data.specs.Grammar.{a_true, a_false, IsOne, any_count, just_one, IsFirst, a_first, IsDeclared, a_declared, IsAllow, an_allow, IsColumn}
use Rattle.sheet_define_data.specs.Grammar.{an_object_column, a_state_column, a_formula_column, AreColumns, no_columns, more_columns, IsParameter, a_parameter}
use Rattle.sheet_define_data.specs.Grammar.{AreParameters, one_parameter, more_parameters, InParentheses, no_parameters, some_parameters, IsTarget, of_root}
use Rattle.sheet_define_data.specs.Grammar.{of_object, IsStatement, a_let, an_assignment, an_add, a_remove, a_new, a_delete, a_check, a_reply, an_if}
use Rattle.sheet_define_data.specs.Grammar.{an_if_else, a_for, AreStatements, no_statements, more_statements, IsBlock, a_block, IsProcedure, a_procedure}
use Rattle.sheet_define_data.specs.Grammar.{IsShow, a_show, IsPart, one_show, a_table, IsView, a_view, IsDeclaration, the_callers, a_column, one_procedure}
use Rattle.sheet_define_data.specs.Grammar.{one_view, AreDeclarations, no_declarations, more_declarations}
use Rattle.sheet_define_reading.specs.declared.mark.Mark.{Mark}
use Rattle.sheet_define_reading.specs.declared.mark.Mark.TheVariants as mark
use Rattle.sheet_define_reading.specs.Marks.{mark_of, mark_rank, same_mark}
use Rattle.sheet_define_reading.specs.Reading as reading
use Rattle.sheet_define_reading.specs.Reading.{Bounds, Reader, Turn, after, expect, with_front, alone}
use Rattle.sheet_syntax_trees.specs.Reading.{sign_at, with_rest}
use Rattle.sheet_syntax_trees.proofs.Binding.{binding}
use Rattle.sheet_define_reading.specs.Reading.{mark_at}
use Rattle.sheet_define_reading.proofs.MarkLemmas.{spelling, same_self}
use Rattle.sheet_define_reading.proofs.Clearing.{begins, clear, clear_at, clear_binding, clear_other, clear_after, begins_clear, begins_open, marked, other_at}
use Rattle.sheet_define_reading.proofs.Clearing.{after_other, then_given, after_given, expect_given, name_given}
use Rattle.sheet_define_reading.proofs.Soundness.{limits}
use Rattle.sheet_define_reading.proofs.Completeness.{formula_given, path_given, object_given, state_given, formula_column_given, parameters_given, target_given}
use Rattle.sheet_define_reading.proofs.Lengths.{statement_short, show_short, part_short, column_short, declaration_short}

-- what begins with a token of a mark that begins something
pub record Opens (ts : List Token) : Type 0 where
  pub first : Token
  pub others : List Token
  pub is : ts ≡ first ∷ others
  pub word : begins (mark_of first.kind) ≡ true

pub opens : (t : Token) (ts : List Token) (m : Mark) → t.kind ≡ spelling m → begins m ≡ true → Opens (t ∷ ts)
opens t ts m is word = record { first = t; others = ts; is = refl; word = ap begins (marked t.kind m is) ∙ word }

pub opens_clear : (ts : List Token) → Opens ts → clear_at ts ≡ true
opens_clear ts o = ap clear_at o.is ∙ begins_clear (mark_of o.first.kind) o.word

pub close_clear : (c : Token) (us : List Token) → c.kind ≡ spelling mark.CloseBrace → clear_at (c ∷ us) ≡ true
close_clear c us is = ap clear (marked c.kind mark.CloseBrace is)

-- a token of a mark with which no formula goes on
pub loose : (t : Token) (us : List Token) (k : TokenKind) → t.kind ≡ k → 6 < binding (sign_of k) → 6 < binding (sign_at (t ∷ us))
loose t us k is h = subst (λ k. 6 < binding (sign_of k)) (sym is) h

-- ---- things of a kind up to a closing brace

-- the first thing of a kind, at the token that begins it
abbrev pub first_of : {A : Type 0} → (Token → List Token → Mark → Answer (A × List Token)) → List Token → Answer (A × List Token)
first_of one [] = Err (Expected 0)
first_of one (t ∷ ts) = one t ts (mark_of t.kind)

many_closed : {A : Type 0} (end : ℕ) (one : Token → List Token → Mark → Answer (A × List Token)) (n : ℕ) (c : Token) (us : List Token) →
    c.kind ≡ spelling mark.CloseBrace → 0 < n → reading.many end one n (c ∷ us) ≡ Ok ([], us)
unfolding reading.many
many_closed end one zero c us is some = absurd (omega arith)
many_closed end one (suc n) c us is some = let test = same_self (mark_of c.kind) mark.CloseBrace (marked c.kind mark.CloseBrace is) in rw test refl

many_more : {A : Type 0} (end : ℕ) (one : Token → List Token → Mark → Answer (A × List Token)) (n : ℕ) (ts us rest : List Token) (x : A) (xs : List A) →
    Opens ts → first_of one ts ≡ Ok (x, us) → reading.many end one n us ≡ Ok (xs, rest)
    → reading.many end one (suc n) ts ≡ Ok (x ∷ xs, rest)
unfolding reading.many
many_more end one n ts us rest x xs o e h =
    let open_mark : same_mark (mark_of o.first.kind) mark.CloseBrace ≡ false = begins_open (mark_of o.first.kind) o.word in
    let read : one o.first o.others (mark_of o.first.kind) ≡ Ok (x, us) = sym (ap (first_of one) o.is) ∙ e in
    ap (reading.many end one (suc n)) o.is
    ∙ ap (λ b. reading.many_by one o.first o.others b (λ rest. reading.many end one n rest)) open_mark
    ∙ then_given (one o.first o.others (mark_of o.first.kind)) (x, us) (λ x. with_front (x.0 ∷ []) (reading.many end one n x.1)) (Ok (x ∷ xs, rest)) read
    (ap (with_front (x ∷ [])) h)

repeated_clear : {A : Type 0} (P : List Token → A → List Token → Type 0) → ((ts us : List Token) (x : A) → P ts x us → Opens ts) →
    (c : Token) (us : List Token) → c.kind ≡ spelling mark.CloseBrace → (ts vs : List Token) (xs : List A) → vs ≡ c ∷ us → Repeated P ts xs vs
    → clear_at ts ≡ true
repeated_clear P begun c us is _ _ _ split (none ts) = ap clear_at split ∙ close_clear c us is
repeated_clear P begun c us is _ _ _ split (one_more ts vs ws x xs p q) = opens_clear ts (begun ts vs x p)

pub many_given : {A : Type 0} (P : List Token → A → List Token → Type 0) (end : ℕ) (one : Token → List Token → Mark → Answer (A × List Token)) →
    ((ts us : List Token) (x : A) → P ts x us → Opens ts)
    → ((ts us : List Token) (x : A) → P ts x us → length us < length ts) →
    ((ts us : List Token) (x : A) → P ts x us → clear_at us ≡ true → first_of one ts ≡ Ok (x, us))
    → (c : Token) (us : List Token) → c.kind ≡ spelling mark.CloseBrace → (n : ℕ) (ts vs : List Token) (xs : List A) → vs ≡ c ∷ us → Repeated P ts xs vs →
    length ts ≤ n → reading.many end one n ts ≡ Ok (xs, us)
many_given P end one begun short read c us is n _ _ _ split (none ts) enough =
    let long : length ts ≡ length (c ∷ us) = ap length split in
    ap (reading.many end one n) split ∙ many_closed end one n c us is (omega arith)
many_given P end one begun short read c us is zero _ _ _ split (one_more ts vs ws x xs p q) enough = let k = short ts vs x p in absurd (omega arith)
many_given P end one begun short read c us is (suc n) _ _ _ split (one_more ts vs ws x xs p q) enough =
    let k = short ts vs x p in
    many_more end one n ts vs us x xs (begun ts vs x p) (read ts vs x p (repeated_clear P begun c us is vs ws xs split q))
    (many_given P end one begun short read c us is n vs ws xs split q (omega arith))

-- ---- statements

statement_opens : (l : Limits) (b : ℕ) (ts us : List Token) (x : Statement) → IsStatement l b ts x us → Opens ts
statement_opens l b _ _ _ (a_let _ w n e name ts rest v a1 a2 a3 f) = opens w _ mark.Let a1 refl
statement_opens l b _ _ _ (an_assignment _ w e ts us rest t v a1 g a2 f) = opens w _ mark.Set a1 refl
statement_opens l b _ _ _ (an_add _ w o ts us rest t v a1 f a2 g) = opens w _ mark.Add a1 refl
statement_opens l b _ _ _ (a_remove _ w o ts us rest t v a1 f a2 g) = opens w _ mark.Remove a1 refl
statement_opens l b _ _ _ (a_new _ w n e name ts rest t a1 a2 a3 g) = opens w _ mark.New a1 refl
statement_opens l b _ _ _ (a_delete _ w ts rest v a1 f) = opens w _ mark.Delete a1 refl
statement_opens l b _ _ _ (a_check _ w e m message ts rest p a1 f a2 a3) = opens w _ mark.Check a1 refl
statement_opens l b _ _ _ (a_reply _ w ts rest v a1 f) = opens w _ mark.Reply a1 refl
statement_opens l b _ _ _ (an_if _ w ts us rest p body a1 f k) = opens w _ mark.If a1 refl
statement_opens l b _ _ _ (an_if_else _ w e ts us vs rest p body other a1 f k a2 k2) = opens w _ mark.If a1 refl
statement_opens l b _ _ _ (a_for _ w n i name ts us rest v body a1 a2 a3 f k) = opens w _ mark.For a1 refl

statements_clear : (l : Limits) (b : ℕ) (c : Token) (us : List Token) → c.kind ≡ spelling mark.CloseBrace → (ts vs : List Token) (xs : List Statement) →
    vs ≡ c ∷ us → AreStatements l b ts xs vs → clear_at ts ≡ true
statements_clear l b c us is _ _ _ split (no_statements _ ts) = ap clear_at split ∙ close_clear c us is
statements_clear l b c us is _ _ _ split (more_statements _ ts vs ws x xs p q) = opens_clear ts (statement_opens l b ts vs x p)

block_opens : (l : Limits) (b : ℕ) (ts us : List Token) (xs : List Statement) → IsBlock l b ts xs us → 6 < binding (sign_at ts)
block_opens l _ _ _ _ (a_block b o c ts rest xs iso q isc) = loose o ts (spelling mark.OpenBrace) iso (omega arith)

abbrev block_at : Bounds → ℕ → Reader (List Statement)
block_at s b = λ rest. reading.block s b rest

-- what is read at a word
abbrev statement_at : Bounds → ℕ → List Token → Answer (Statement × List Token)
statement_at s b = first_of (reading.statement_by s (block_at s b))

by_word : (s : Bounds) (b : ℕ) (w : Token) (ts : List Token) (m : Mark) → w.kind ≡ spelling m →
    statement_at s b (w ∷ ts) ≡ reading.statement_by s (block_at s b) w ts m
by_word s b w ts m is = ap (reading.statement_by s (block_at s b) w ts) (marked w.kind m is)

text_given : (end : ℕ) (m : Token) (message : List ℕ) (ts : List Token) → m.kind ≡ kind.Text message → reading.text_at end (m ∷ ts) ≡ Ok (message, ts)
unfolding reading.text_at
text_given end m message ts is = rw is refl

module _ (s : Bounds) (b : ℕ) where
  let_given : (w n e : Token) (name : List ℕ) (ts rest : List Token) (v : Tree) → n.kind ≡ kind.Name name → e.kind ≡ spelling mark.Equals →
      IsExpression (limits s) ts v rest → clear_at rest ≡ true
      → reading.let_statement s w (n ∷ e ∷ ts) ≡ Ok (statement.Let w.line name v, rest)
  unfolding reading.let_statement
  let_given w n e name ts rest v named ise read h =
      then_given (name_at s.end (n ∷ e ∷ ts)) (name, e ∷ ts)
      (λ name. expect s.end mark.Equals name.1 >>= (λ a. reading.formula s a >>= (λ v. Ok (statement.Let w.line name.0 v.0, v.1)))) _
      (name_given s.end n name (e ∷ ts) named)
      (then_given (expect s.end mark.Equals (e ∷ ts)) ts (λ a. reading.formula s a >>= (λ v. Ok (statement.Let w.line name v.0, v.1))) _
      (expect_given s.end mark.Equals e ts ise)
      (then_given (reading.formula s ts) (v, rest) (λ v. Ok (statement.Let w.line name v.0, v.1)) _ (formula_given s ts rest v read (clear_binding rest h))
      refl))

  set_given : (w e : Token) (ts us rest : List Token) (t : Target) (v : Tree) → IsTarget (limits s) ts t (e ∷ us) → e.kind ≡ spelling mark.Equals →
      IsExpression (limits s) us v rest → clear_at rest ≡ true
      → reading.set_statement s w ts ≡ Ok (statement.Set w.line t v, rest)
  unfolding reading.set_statement
  set_given w e ts us rest t v aimed ise read h =
      then_given (reading.target s ts) (t, e ∷ us)
      (λ t. expect s.end mark.Equals t.1 >>= (λ a. reading.formula s a >>= (λ v. Ok (statement.Set w.line t.0 v.0, v.1)))) _
      (target_given s ts (e ∷ us) t aimed (other_at e mark.Equals mark.Dot ise refl))
      (then_given (expect s.end mark.Equals (e ∷ us)) us (λ a. reading.formula s a >>= (λ v. Ok (statement.Set w.line t v.0, v.1))) _
      (expect_given s.end mark.Equals e us ise)
      (then_given (reading.formula s us) (v, rest) (λ v. Ok (statement.Set w.line t v.0, v.1)) _ (formula_given s us rest v read (clear_binding rest h)) refl))

  add_given : (w o : Token) (ts us rest : List Token) (t : Target) (v : Tree) → IsExpression (limits s) ts v (o ∷ us) → o.kind ≡ spelling mark.To →
      IsTarget (limits s) us t rest → clear_at rest ≡ true
      → reading.add_statement s w ts ≡ Ok (statement.Add w.line v t, rest)
  unfolding reading.add_statement
  add_given w o ts us rest t v read iso aimed h =
      then_given (reading.formula s ts) (v, o ∷ us)
      (λ v. expect s.end mark.To v.1 >>= (λ a. reading.target s a >>= (λ t. Ok (statement.Add w.line v.0 t.0, t.1)))) _
      (formula_given s ts (o ∷ us) v read (loose o us (spelling mark.To) iso (omega arith)))
      (then_given (expect s.end mark.To (o ∷ us)) us (λ a. reading.target s a >>= (λ t. Ok (statement.Add w.line v t.0, t.1))) _
      (expect_given s.end mark.To o us iso)
      (then_given (reading.target s us) (t, rest) (λ t. Ok (statement.Add w.line v t.0, t.1)) _
      (target_given s us rest t aimed (clear_other mark.Dot refl (omega arith) rest h)) refl))

  remove_given : (w o : Token) (ts us rest : List Token) (t : Target) (v : Tree) → IsExpression (limits s) ts v (o ∷ us) → o.kind ≡ spelling mark.From →
      IsTarget (limits s) us t rest → clear_at rest ≡ true
      → reading.remove_statement s w ts ≡ Ok (statement.Remove w.line v t, rest)
  unfolding reading.remove_statement
  remove_given w o ts us rest t v read iso aimed h =
      then_given (reading.formula s ts) (v, o ∷ us)
      (λ v. expect s.end mark.From v.1 >>= (λ a. reading.target s a >>= (λ t. Ok (statement.Remove w.line v.0 t.0, t.1)))) _
      (formula_given s ts (o ∷ us) v read (loose o us (spelling mark.From) iso (omega arith)))
      (then_given (expect s.end mark.From (o ∷ us)) us (λ a. reading.target s a >>= (λ t. Ok (statement.Remove w.line v t.0, t.1))) _
      (expect_given s.end mark.From o us iso)
      (then_given (reading.target s us) (t, rest) (λ t. Ok (statement.Remove w.line v t.0, t.1)) _
      (target_given s us rest t aimed (clear_other mark.Dot refl (omega arith) rest h)) refl))

  new_given : (w n e : Token) (name : List ℕ) (ts rest : List Token) (t : Target) → n.kind ≡ kind.Name name → e.kind ≡ spelling mark.Equals →
      IsTarget (limits s) ts t rest → clear_at rest ≡ true
      → reading.new_statement s w (n ∷ e ∷ ts) ≡ Ok (statement.New w.line name t, rest)
  unfolding reading.new_statement
  new_given w n e name ts rest t named ise aimed h =
      then_given (name_at s.end (n ∷ e ∷ ts)) (name, e ∷ ts)
      (λ name. expect s.end mark.Equals name.1 >>= (λ a. reading.target s a >>= (λ t. Ok (statement.New w.line name.0 t.0, t.1)))) _
      (name_given s.end n name (e ∷ ts) named)
      (then_given (expect s.end mark.Equals (e ∷ ts)) ts (λ a. reading.target s a >>= (λ t. Ok (statement.New w.line name t.0, t.1))) _
      (expect_given s.end mark.Equals e ts ise)
      (then_given (reading.target s ts) (t, rest) (λ t. Ok (statement.New w.line name t.0, t.1)) _
      (target_given s ts rest t aimed (clear_other mark.Dot refl (omega arith) rest h)) refl))

  delete_given : (w : Token) (ts rest : List Token) (v : Tree) → IsExpression (limits s) ts v rest → clear_at rest ≡ true →
      reading.delete_statement s w ts ≡ Ok (statement.Delete w.line v, rest)
  unfolding reading.delete_statement
  delete_given w ts rest v read h =
      then_given (reading.formula s ts) (v, rest) (λ v. Ok (statement.Delete w.line v.0, v.1)) _ (formula_given s ts rest v read (clear_binding rest h)) refl

  reply_given : (w : Token) (ts rest : List Token) (v : Tree) → IsExpression (limits s) ts v rest → clear_at rest ≡ true →
      reading.reply_statement s w ts ≡ Ok (statement.Reply w.line v, rest)
  unfolding reading.reply_statement
  reply_given w ts rest v read h =
      then_given (reading.formula s ts) (v, rest) (λ v. Ok (statement.Reply w.line v.0, v.1)) _ (formula_given s ts rest v read (clear_binding rest h)) refl

  check_given : (w e m : Token) (message : List ℕ) (ts rest : List Token) (p : Tree) → IsExpression (limits s) ts p (e ∷ m ∷ rest) →
      e.kind ≡ spelling mark.Else → m.kind ≡ kind.Text message
      → reading.check_statement s w ts ≡ Ok (statement.Check w.line p message, rest)
  unfolding reading.check_statement
  check_given w e m message ts rest p read ise texted =
      then_given (reading.formula s ts) (p, e ∷ m ∷ rest)
      (λ p. expect s.end mark.Else p.1 >>= (λ a. reading.text_at s.end a >>= (λ message. Ok (statement.Check w.line p.0 message.0, message.1)))) _
      (formula_given s ts (e ∷ m ∷ rest) p read (loose e (m ∷ rest) (spelling mark.Else) ise (omega arith)))
      (then_given (expect s.end mark.Else (e ∷ m ∷ rest)) (m ∷ rest)
      (λ a. reading.text_at s.end a >>= (λ message. Ok (statement.Check w.line p message.0, message.1))) _ (expect_given s.end mark.Else e (m ∷ rest) ise)
      (then_given (reading.text_at s.end (m ∷ rest)) (message, rest) (λ message. Ok (statement.Check w.line p message.0, message.1)) _
      (text_given s.end m message rest texted) refl))

  if_given : (w : Token) (ts us rest : List Token) (p : Tree) (body : List Statement) → IsExpression (limits s) ts p us → 6 < binding (sign_at us) →
      reading.block s b us ≡ Ok (body, rest) → clear_at rest ≡ true
      → reading.if_statement s (block_at s b) w ts ≡ Ok (statement.If w.line p body, rest)
  unfolding reading.if_statement
  if_given w ts us rest p body read low blocked h =
      then_given (reading.formula s ts) (p, us)
      (λ p. reading.block s b p.1 >>= (λ body. reading.otherwise (block_at s b) w p.0 body.0 body.1 (after mark.Else body.1))) _
      (formula_given s ts us p read low)
      (then_given (reading.block s b us) (body, rest) (λ body. reading.otherwise (block_at s b) w p body.0 body.1 (after mark.Else body.1)) _ blocked
      (ap (reading.otherwise (block_at s b) w p body rest) (clear_after mark.Else refl (omega arith) rest h)))

  if_else_given : (w e : Token) (ts us vs rest : List Token) (p : Tree) (body other : List Statement) → IsExpression (limits s) ts p us →
      6 < binding (sign_at us) → reading.block s b us ≡ Ok (body, e ∷ vs) → e.kind ≡ spelling mark.Else
      → reading.block s b vs ≡ Ok (other, rest) → reading.if_statement s (block_at s b) w ts ≡ Ok (statement.IfElse w.line p body other, rest)
  unfolding reading.if_statement
  if_else_given w e ts us vs rest p body other read low blocked ise second =
      then_given (reading.formula s ts) (p, us)
      (λ p. reading.block s b p.1 >>= (λ body. reading.otherwise (block_at s b) w p.0 body.0 body.1 (after mark.Else body.1))) _
      (formula_given s ts us p read low)
      (then_given (reading.block s b us) (body, e ∷ vs) (λ body. reading.otherwise (block_at s b) w p body.0 body.1 (after mark.Else body.1)) _ blocked
      (ap (reading.otherwise (block_at s b) w p body (e ∷ vs)) (after_given mark.Else e vs ise)
      ∙ then_given (reading.block s b vs) (other, rest) (λ other. Ok (statement.IfElse w.line p body other.0, other.1)) _ second refl))

  for_given : (w n i : Token) (name : List ℕ) (ts us rest : List Token) (v : Tree) (body : List Statement) → n.kind ≡ kind.Name name →
      i.kind ≡ spelling mark.In → IsExpression (limits s) ts v us → 6 < binding (sign_at us)
      → reading.block s b us ≡ Ok (body, rest) → reading.for_statement s (block_at s b) w (n ∷ i ∷ ts) ≡ Ok (statement.For w.line name v body, rest)
  unfolding reading.for_statement
  for_given w n i name ts us rest v body named isi read low blocked =
      then_given (name_at s.end (n ∷ i ∷ ts)) (name, i ∷ ts)
      (λ name. expect s.end mark.In
      name.1 >>= (λ a. reading.formula s a >>= (λ v. reading.block s b v.1 >>= (λ body. Ok (statement.For w.line name.0 v.0 body.0, body.1))))) _
      (name_given s.end n name (i ∷ ts) named)
      (then_given (expect s.end mark.In (i ∷ ts)) ts
      (λ a. reading.formula s a >>= (λ v. reading.block s b v.1 >>= (λ body. Ok (statement.For w.line name v.0 body.0, body.1)))) _
      (expect_given s.end mark.In i ts isi)
      (then_given (reading.formula s ts) (v, us) (λ v. reading.block s b v.1 >>= (λ body. Ok (statement.For w.line name v.0 body.0, body.1))) _
      (formula_given s ts us v read low)
      (then_given (reading.block s b us) (body, rest) (λ body. Ok (statement.For w.line name v body.0, body.1)) _ blocked refl)))

block_many : (s : Bounds) (b : ℕ) (o : Token) (ts : List Token) → o.kind ≡ spelling mark.OpenBrace →
    reading.block s (suc b) (o ∷ ts) ≡ reading.many s.end (reading.statement_by s (block_at s b)) (length ts) ts
unfolding reading.block
block_many s b o ts iso =
    then_given (expect s.end mark.OpenBrace (o ∷ ts)) ts (λ a. reading.many s.end (reading.statement_by s (block_at s b)) (length a) a) _
    (expect_given s.end mark.OpenBrace o ts iso) refl

-- the bounds of these limits, over a text of that length
abbrev pub bounds : ℕ → Limits → Bounds
bounds end l = record { end = end; depth = l.depth; nest = l.nest }

mutual
  unfolding reading.statement_by

  pub statement_given : (end : ℕ) (l : Limits) (b : ℕ) (ts us : List Token) (x : Statement) → IsStatement l b ts x us → clear_at us ≡ true →
      statement_at (bounds end l) b ts ≡ Ok (x, us)
  statement_given end l b _ _ _ (a_let _ w n e name ts rest v a1 a2 a3 f) h = by_word (bounds end l) b w (n ∷ e ∷ ts) mark.Let a1
      ∙ let_given (bounds end l) b w n e name ts rest v a2 a3 f h
  statement_given end l b _ _ _ (an_assignment _ w e ts us rest t v a1 g a2 f) h =
      by_word (bounds end l) b w ts mark.Set a1 ∙ set_given (bounds end l) b w e ts us rest t v g a2 f h
  statement_given end l b _ _ _ (an_add _ w o ts us rest t v a1 f a2 g) h =
      by_word (bounds end l) b w ts mark.Add a1 ∙ add_given (bounds end l) b w o ts us rest t v f a2 g h
  statement_given end l b _ _ _ (a_remove _ w o ts us rest t v a1 f a2 g) h =
      by_word (bounds end l) b w ts mark.Remove a1 ∙ remove_given (bounds end l) b w o ts us rest t v f a2 g h
  statement_given end l b _ _ _ (a_new _ w n e name ts rest t a1 a2 a3 g) h =
      by_word (bounds end l) b w (n ∷ e ∷ ts) mark.New a1 ∙ new_given (bounds end l) b w n e name ts rest t a2 a3 g h
  statement_given end l b _ _ _ (a_delete _ w ts rest v a1 f) h = by_word (bounds end l) b w ts mark.Delete a1 ∙ delete_given (bounds end l) b w ts rest v f h
  statement_given end l b _ _ _ (a_check _ w e m message ts rest p a1 f a2 a3) h =
      by_word (bounds end l) b w ts mark.Check a1 ∙ check_given (bounds end l) b w e m message ts rest p f a2 a3
  statement_given end l b _ _ _ (a_reply _ w ts rest v a1 f) h = by_word (bounds end l) b w ts mark.Reply a1 ∙ reply_given (bounds end l) b w ts rest v f h
  statement_given end l b _ _ _ (an_if _ w ts us rest p body a1 f k) h =
      by_word (bounds end l) b w ts mark.If a1 ∙ if_given (bounds end l) b w ts us rest p body f (block_opens l b us rest body k)
      (block_given end l b us rest body k) h
  statement_given end l b _ _ _ (an_if_else _ w e ts us vs rest p body other a1 f k a2 k2) h =
      by_word (bounds end l) b w ts mark.If a1 ∙ if_else_given (bounds end l) b w e ts us vs rest p body other f (block_opens l b us (e ∷ vs) body k)
      (block_given end l b us (e ∷ vs) body k) a2 (block_given end l b vs rest other k2)
  statement_given end l b _ _ _ (a_for _ w n i name ts us rest v body a1 a2 a3 f k) h =
      by_word (bounds end l) b w (n ∷ i ∷ ts) mark.For a1 ∙ for_given (bounds end l) b w n i name ts us rest v body a2 a3 f (block_opens l b us rest body k)
      (block_given end l b us rest body k)

  statements_given : (end : ℕ) (l : Limits) (b : ℕ) (c : Token) (us : List Token) → c.kind ≡ spelling mark.CloseBrace →
      (n : ℕ) (ts vs : List Token) (xs : List Statement) → vs ≡ c ∷ us → AreStatements l b ts xs vs → length ts ≤ n
      → reading.many end (reading.statement_by (bounds end l) (block_at (bounds end l) b)) n ts ≡ Ok (xs, us)
  statements_given end l b c us is n _ _ _ split (no_statements _ ts) enough =
      let long : length ts ≡ length (c ∷ us) = ap length split in
      ap (reading.many end (reading.statement_by (bounds end l) (block_at (bounds end l) b)) n) split
      ∙ many_closed end (reading.statement_by (bounds end l) (block_at (bounds end l) b)) n c us is (omega arith)
  statements_given end l b c us is zero _ _ _ split (more_statements _ ts vs ws x xs p q) enough = let k = statement_short l b ts vs x p in absurd (omega arith)
  statements_given end l b c us is (suc n) _ _ _ split (more_statements _ ts vs ws x xs p q) enough =
      let k = statement_short l b ts vs x p in
      many_more end (reading.statement_by (bounds end l) (block_at (bounds end l) b)) n ts vs us x xs (statement_opens l b ts vs x p)
      (statement_given end l b ts vs x p (statements_clear l b c us is vs ws xs split q))
      (statements_given end l b c us is n vs ws xs split q (omega arith))

  pub block_given : (end : ℕ) (l : Limits) (b : ℕ) (ts us : List Token) (xs : List Statement) → IsBlock l b ts xs us →
      reading.block (bounds end l) b ts ≡ Ok (xs, us)
  block_given end l _ _ _ _ (a_block b o c ts rest xs iso q isc) =
      block_many (bounds end l) b o ts iso ∙ statements_given end l b c rest isc (length ts) ts (c ∷ rest) xs refl q (omega arith)
