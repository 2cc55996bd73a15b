-- Statements, procedures, views and whole definitions that are read stand there by the productions.
use Rattle.std.proofs.Common.{◌≡◌, ℕ, ℤ, zero, suc, ◌+◌, ◌-◌, ◌<◌, ◌≤◌, List, [], ◌∷◌, ◌++◌, length, true, false, Some, None, Ok, Err, refl, sym, ap, ◌∙◌}
use Rattle.std.proofs.Common.{subst, arith, append_assoc}
use Rattle.std.specs.Prelude.{Bool, Option, if◌then◌else◌}
use Rattle.sheet_syntax_trees.specs.declared.token.Token.{Token}
use Rattle.sheet_syntax_trees.specs.declared.token.TokenKind.{TokenKind}
use Rattle.sheet_syntax_trees.specs.declared.token.TokenKind.TheVariants as kind
use Rattle.sheet_syntax_trees.specs.declared.token.SyntaxRefusal.TheVariants.{Expected}
use Rattle.sheet_syntax_trees.specs.declared.sign.Sign.TheVariants as sign
use Rattle.sheet_syntax_trees.specs.declared.tree.Tree.{Tree}
use Rattle.sheet_syntax_trees.specs.declared.tree.Formed.{Formed}
use Rattle.sheet_syntax_trees.specs.Signs.{sign_of}
use Rattle.sheet_syntax_trees.specs.Grammar.{Produces, form, expression, postfix, atom, no_step}
use Rattle.sheet_syntax_trees.specs.Reading as trees
use Rattle.sheet_syntax_trees.specs.Reading.{Answer, ◌>>=◌, offset, line_of, or_expected, name_at, formula_at, within, setting, step_of, made}
use Rattle.sheet_syntax_trees.proofs.Answering.{ok_then, expected_ok, made_ok, name_ok as name_told, name_some as trees_name}
use Rattle.sheet_syntax_trees.proofs.Soundness.{Stands, within_sound, atom_sound, step_produced, nonempty}
use Rattle.sheet_define_data.specs.declared.definition.Path.{Path}
use Rattle.sheet_define_data.specs.declared.definition.TypeName.{TypeName}
use Rattle.sheet_define_data.specs.declared.definition.TypeName.TheVariants as type
use Rattle.sheet_define_data.specs.declared.definition.Literal.{Literal}
use Rattle.sheet_define_data.specs.declared.definition.Literal.TheVariants as literal
use Rattle.sheet_define_data.specs.declared.definition.Column.{Column}
use Rattle.sheet_define_data.specs.declared.definition.Content.TheVariants as content
use Rattle.sheet_define_data.specs.declared.definition.Parameter.{Parameter}
use Rattle.sheet_define_data.specs.declared.definition.Procedure.{Procedure}
use Rattle.sheet_define_data.specs.declared.definition.Show.{Show}
use Rattle.sheet_define_data.specs.declared.definition.Part.{Part}
use Rattle.sheet_define_data.specs.declared.definition.Part.TheVariants as part
use Rattle.sheet_define_data.specs.declared.definition.View.{View}
use Rattle.sheet_define_data.specs.declared.definition.Declaration.{Declaration}
use Rattle.sheet_define_data.specs.declared.definition.Declaration.TheVariants as declaration
use Rattle.sheet_define_data.specs.declared.statement.Target.{Target}
use Rattle.sheet_define_data.specs.declared.statement.Statement.{Statement}
use Rattle.sheet_define_data.specs.declared.statement.Statement.TheVariants as statement
use Rattle.sheet_define_data.specs.Grammar.{Limits, IsFormulaOf, IsExpression, Maybe, left_out, stated, Repeated, none, one_more, AreNames, one_name}
use Rattle.sheet_define_data.specs.Grammar.{more_names, IsPath, a_path, IsType, numbers, texts, truths, objects, IsLiteral, a_number, a_negative_number, a_text}
use Rattle.sheet_define_data.specs.Grammar.{a_true, a_false, IsOne, any_count, just_one, IsFirst, a_first, IsDeclared, a_declared, IsAllow, an_allow, IsColumn}
use Rattle.sheet_define_data.specs.Grammar.{an_object_column, a_state_column, a_formula_column, AreColumns, no_columns, more_columns, IsParameter, a_parameter}
use Rattle.sheet_define_data.specs.Grammar.{AreParameters, one_parameter, more_parameters, InParentheses, no_parameters, some_parameters, IsTarget, of_root}
use Rattle.sheet_define_data.specs.Grammar.{of_object, IsStatement, a_let, an_assignment, an_add, a_remove, a_new, a_delete, a_check, a_reply, an_if}
use Rattle.sheet_define_data.specs.Grammar.{an_if_else, a_for, AreStatements, no_statements, more_statements, IsBlock, a_block, IsProcedure, a_procedure}
use Rattle.sheet_define_data.specs.Grammar.{IsShow, a_show, IsPart, one_show, a_table, IsView, a_view, IsDeclaration, the_callers, a_column, one_procedure}
use Rattle.sheet_define_data.specs.Grammar.{one_view, AreDeclarations, no_declarations, more_declarations}
use Rattle.sheet_define_reading.specs.declared.mark.Mark.{Mark}
use Rattle.sheet_define_reading.specs.declared.mark.Mark.TheVariants as mark
use Rattle.sheet_define_reading.specs.Marks.{mark_of, mark_rank, same_mark}
use Rattle.sheet_define_reading.specs.Reading as reading
use Rattle.sheet_define_reading.specs.Reading.{Bounds, Reader, Turn, after, expect, with_front, alone}
use Rattle.sheet_define_reading.proofs.MarkLemmas.{spelling, spelled, same_is}
use Rattle.sheet_define_reading.proofs.Answering.{Sound, given, after_read, after_mark, after_name, after_optional, after_told, front_ok, alone_ok}
use Rattle.sheet_define_reading.proofs.Soundness.{limits, formula_sound, path_sound, type_sound, parameters_sound, target_sound, text_some, an_object}
use Rattle.sheet_define_reading.proofs.Soundness.{state_sound, formula_column_sound}

module _ (s : Bounds) (deep : 0 < s.depth) (b : ℕ) where
  abbrev IsS : List Token → Statement → List Token → Type 0
  IsS = IsStatement (limits s) b

  let_sound : (w : Token) → w.kind ≡ spelling mark.Let → (ts : List Token) (y : Statement × List Token) → reading.let_statement s w ts ≡ Ok y →
      IsS (w ∷ ts) y.0 y.1
  unfolding reading.let_statement
  let_sound w is ts y e =
      after_name s.end ts _ y (λ (k : List Token). IsS (w ∷ k) y.0 y.1) e (λ n name xs named e1.
      after_mark mark.Equals s.end xs _ y (λ (k : List Token). IsS (w ∷ n ∷ k) y.0 y.1) (omega arith) e1 (λ q us isq e2.
      after_read (IsExpression (limits s)) (reading.formula s) (formula_sound s deep) us _ y (IsS (w ∷ n ∷ q ∷ us) y.0 y.1) e2 (λ v rest read e3.
      given (λ (z : Statement × List Token). IsS (w ∷ n ∷ q ∷ us) z.0 z.1) (statement.Let w.line name v, rest) y e3
      (a_let b w n q name us rest v is named isq read))))

  set_sound : (w : Token) → w.kind ≡ spelling mark.Set → (ts : List Token) (y : Statement × List Token) → reading.set_statement s w ts ≡ Ok y →
      IsS (w ∷ ts) y.0 y.1
  unfolding reading.set_statement
  set_sound w is ts y e =
      after_read (IsTarget (limits s)) (reading.target s) (target_sound s deep) ts _ y (IsS (w ∷ ts) y.0 y.1) e (λ t xs aimed e1.
      after_mark mark.Equals s.end xs _ y (λ (k : List Token). IsTarget (limits s) ts t k → IsS (w ∷ ts) y.0 y.1) (omega arith) e1 (λ q us isq e2 aimed.
      after_read (IsExpression (limits s)) (reading.formula s) (formula_sound s deep) us _ y (IsS (w ∷ ts) y.0 y.1) e2 (λ v rest read e3.
      given (λ (z : Statement × List Token). IsS (w ∷ ts) z.0 z.1) (statement.Set w.line t v, rest) y e3
      (an_assignment b w q ts us rest t v is aimed isq read))) aimed)

  add_sound : (w : Token) → w.kind ≡ spelling mark.Add → (ts : List Token) (y : Statement × List Token) → reading.add_statement s w ts ≡ Ok y →
      IsS (w ∷ ts) y.0 y.1
  unfolding reading.add_statement
  add_sound w is ts y e =
      after_read (IsExpression (limits s)) (reading.formula s) (formula_sound s deep) ts _ y (IsS (w ∷ ts) y.0 y.1) e (λ v xs read e1.
      after_mark mark.To s.end xs _ y (λ (k : List Token). IsExpression (limits s) ts v k → IsS (w ∷ ts) y.0 y.1) (omega arith) e1 (λ q us isq e2 read.
      after_read (IsTarget (limits s)) (reading.target s) (target_sound s deep) us _ y (IsS (w ∷ ts) y.0 y.1) e2 (λ t rest aimed e3.
      given (λ (z : Statement × List Token). IsS (w ∷ ts) z.0 z.1) (statement.Add w.line v t, rest) y e3 (an_add b w q ts us rest t v is read isq aimed))) read)

  remove_sound : (w : Token) → w.kind ≡ spelling mark.Remove → (ts : List Token) (y : Statement × List Token) → reading.remove_statement s w ts ≡ Ok y →
      IsS (w ∷ ts) y.0 y.1
  unfolding reading.remove_statement
  remove_sound w is ts y e =
      after_read (IsExpression (limits s)) (reading.formula s) (formula_sound s deep) ts _ y (IsS (w ∷ ts) y.0 y.1) e (λ v xs read e1.
      after_mark mark.From s.end xs _ y (λ (k : List Token). IsExpression (limits s) ts v k → IsS (w ∷ ts) y.0 y.1) (omega arith) e1 (λ q us isq e2 read.
      after_read (IsTarget (limits s)) (reading.target s) (target_sound s deep) us _ y (IsS (w ∷ ts) y.0 y.1) e2 (λ t rest aimed e3.
      given (λ (z : Statement × List Token). IsS (w ∷ ts) z.0 z.1) (statement.Remove w.line v t, rest) y e3 (a_remove b w q ts us rest t v is read isq aimed)))
      read)

  new_sound : (w : Token) → w.kind ≡ spelling mark.New → (ts : List Token) (y : Statement × List Token) → reading.new_statement s w ts ≡ Ok y →
      IsS (w ∷ ts) y.0 y.1
  unfolding reading.new_statement
  new_sound w is ts y e =
      after_name s.end ts _ y (λ (k : List Token). IsS (w ∷ k) y.0 y.1) e (λ n name xs named e1.
      after_mark mark.Equals s.end xs _ y (λ (k : List Token). IsS (w ∷ n ∷ k) y.0 y.1) (omega arith) e1 (λ q us isq e2.
      after_read (IsTarget (limits s)) (reading.target s) (target_sound s deep) us _ y (IsS (w ∷ n ∷ q ∷ us) y.0 y.1) e2 (λ t rest aimed e3.
      given (λ (z : Statement × List Token). IsS (w ∷ n ∷ q ∷ us) z.0 z.1) (statement.New w.line name t, rest) y e3
      (a_new b w n q name us rest t is named isq aimed))))

  delete_sound : (w : Token) → w.kind ≡ spelling mark.Delete → (ts : List Token) (y : Statement × List Token) → reading.delete_statement s w ts ≡ Ok y →
      IsS (w ∷ ts) y.0 y.1
  unfolding reading.delete_statement
  delete_sound w is ts y e =
      after_read (IsExpression (limits s)) (reading.formula s) (formula_sound s deep) ts _ y (IsS (w ∷ ts) y.0 y.1) e (λ v rest read e1.
      given (λ (z : Statement × List Token). IsS (w ∷ ts) z.0 z.1) (statement.Delete w.line v, rest) y e1 (a_delete b w ts rest v is read))

  reply_sound : (w : Token) → w.kind ≡ spelling mark.Reply → (ts : List Token) (y : Statement × List Token) → reading.reply_statement s w ts ≡ Ok y →
      IsS (w ∷ ts) y.0 y.1
  unfolding reading.reply_statement
  reply_sound w is ts y e =
      after_read (IsExpression (limits s)) (reading.formula s) (formula_sound s deep) ts _ y (IsS (w ∷ ts) y.0 y.1) e (λ v rest read e1.
      given (λ (z : Statement × List Token). IsS (w ∷ ts) z.0 z.1) (statement.Reply w.line v, rest) y e1 (a_reply b w ts rest v is read))

  after_text : (ts : List Token) (k : List ℕ × List Token → Answer (Statement × List Token)) (y : Statement × List Token) (P : List Token → Type 0) →
      ◌≡◌ {A = Answer (Statement × List Token)} (reading.text_at s.end ts >>= k) (Ok y)
      → ((t : Token) (text : List ℕ) (us : List Token) → t.kind ≡ kind.Text text → ◌≡◌ {A = Answer (Statement × List Token)} (k (text, us)) (Ok y) →
      P (t ∷ us)) → P ts
  unfolding reading.text_at
  after_text [] k y P e more = let wrong : ⊥ = cc in absurd wrong
  after_text (t ∷ ts) k y P e more = by (reading.text_of t.kind) refl e where
    by : (o : Option (List ℕ)) → reading.text_of t.kind ≡ o →
        ◌≡◌ {A = Answer (Statement × List Token)} (trees.with_rest ts (or_expected t.start o) >>= k) (Ok y) → P (t ∷ ts)
    by (Some text) is h = more t text ts (text_some t.kind text is) h
    by None is h = let wrong : ⊥ = cc in absurd wrong

  check_sound : (w : Token) → w.kind ≡ spelling mark.Check → (ts : List Token) (y : Statement × List Token) → reading.check_statement s w ts ≡ Ok y →
      IsS (w ∷ ts) y.0 y.1
  unfolding reading.check_statement
  check_sound w is ts y e =
      after_read (IsExpression (limits s)) (reading.formula s) (formula_sound s deep) ts _ y (IsS (w ∷ ts) y.0 y.1) e (λ p xs read e1.
      after_mark mark.Else s.end xs _ y (λ (k : List Token). IsExpression (limits s) ts p k → IsS (w ∷ ts) y.0 y.1) (omega arith) e1 (λ q us isq e2 read.
      after_text us _ y (λ (k : List Token). IsExpression (limits s) ts p (q ∷ k) → IsS (w ∷ ts) y.0 y.1) e2 (λ m message rest texted e3 read.
      given (λ (z : Statement × List Token). IsS (w ∷ ts) z.0 z.1) (statement.Check w.line p message, rest) y e3
      (a_check b w q m message ts rest p is read isq texted)) read) read)

  if_sound : (block : Reader (List Statement)) → Sound (IsBlock (limits s) b) block → (w : Token) → w.kind ≡ spelling mark.If →
      (ts : List Token) (y : Statement × List Token) → reading.if_statement s block w ts ≡ Ok y → IsS (w ∷ ts) y.0 y.1
  unfolding reading.if_statement
  if_sound block inner w is ts y e =
      after_read (IsExpression (limits s)) (reading.formula s) (formula_sound s deep) ts _ y (IsS (w ∷ ts) y.0 y.1) e (λ p us read e1.
      after_read (IsBlock (limits s) b) block inner us _ y (IsS (w ∷ ts) y.0 y.1) e1
      (λ body vs blocked e2. by p us read body vs blocked (after mark.Else vs) refl e2)) where
        by : (p : Tree) (us : List Token) → IsExpression (limits s) ts p us → (body : List Statement) (vs : List Token) → IsBlock (limits s) b us body vs →
            (o : Option (List Token)) → after mark.Else vs ≡ o
            → reading.otherwise block w p body vs o ≡ Ok y → IsS (w ∷ ts) y.0 y.1
        by p us read body vs blocked None missing h =
            given (λ (z : Statement × List Token). IsS (w ∷ ts) z.0 z.1) (statement.If w.line p body, vs) y h (an_if b w ts us vs p body is read blocked)
        by p us read body vs blocked (Some more) some h =
            let (q, split, isq) = after_told mark.Else (omega arith) vs more some in
            after_read (IsBlock (limits s) b) block inner more _ y (IsS (w ∷ ts) y.0 y.1) h (λ other rest second h1.
            given (λ (z : Statement × List Token). IsS (w ∷ ts) z.0 z.1) (statement.IfElse w.line p body other, rest) y h1
            (an_if_else b w q ts us more rest p body other is read (subst (λ l. IsBlock (limits s) b us body l) split blocked) isq second))

  for_sound : (block : Reader (List Statement)) → Sound (IsBlock (limits s) b) block → (w : Token) → w.kind ≡ spelling mark.For →
      (ts : List Token) (y : Statement × List Token) → reading.for_statement s block w ts ≡ Ok y → IsS (w ∷ ts) y.0 y.1
  unfolding reading.for_statement
  for_sound block inner w is ts y e =
      after_name s.end ts _ y (λ (k : List Token). IsS (w ∷ k) y.0 y.1) e (λ n name xs named e1.
      after_mark mark.In s.end xs _ y (λ (k : List Token). IsS (w ∷ n ∷ k) y.0 y.1) (omega arith) e1 (λ i us isi e2.
      after_read (IsExpression (limits s)) (reading.formula s) (formula_sound s deep) us _ y (IsS (w ∷ n ∷ i ∷ us) y.0 y.1) e2 (λ v vs read e3.
      after_read (IsBlock (limits s) b) block inner vs _ y (IsS (w ∷ n ∷ i ∷ us) y.0 y.1) e3 (λ body rest blocked e4.
      given (λ (z : Statement × List Token). IsS (w ∷ n ∷ i ∷ us) z.0 z.1) (statement.For w.line name v body, rest) y e4
      (a_for b w n i name us vs rest v body is named isi read blocked)))))

  statement_sound : (block : Reader (List Statement)) → Sound (IsBlock (limits s) b) block →
      (w : Token) (ts : List Token) (y : Statement × List Token) (m : Mark) → mark_of w.kind ≡ m → reading.statement_by s block w ts m ≡ Ok y →
      IsS (w ∷ ts) y.0 y.1
  unfolding reading.statement_by
  statement_sound block inner w ts y mark.Let is e = let_sound w (spelled w.kind mark.Let is (omega arith)) ts y e
  statement_sound block inner w ts y mark.Set is e = set_sound w (spelled w.kind mark.Set is (omega arith)) ts y e
  statement_sound block inner w ts y mark.Add is e = add_sound w (spelled w.kind mark.Add is (omega arith)) ts y e
  statement_sound block inner w ts y mark.Remove is e = remove_sound w (spelled w.kind mark.Remove is (omega arith)) ts y e
  statement_sound block inner w ts y mark.New is e = new_sound w (spelled w.kind mark.New is (omega arith)) ts y e
  statement_sound block inner w ts y mark.Delete is e = delete_sound w (spelled w.kind mark.Delete is (omega arith)) ts y e
  statement_sound block inner w ts y mark.Check is e = check_sound w (spelled w.kind mark.Check is (omega arith)) ts y e
  statement_sound block inner w ts y mark.Reply is e = reply_sound w (spelled w.kind mark.Reply is (omega arith)) ts y e
  statement_sound block inner w ts y mark.If is e = if_sound block inner w (spelled w.kind mark.If is (omega arith)) ts y e
  statement_sound block inner w ts y mark.For is e = for_sound block inner w (spelled w.kind mark.For is (omega arith)) ts y e
  statement_sound block inner w ts y _ is e = let wrong : ⊥ = cc in absurd wrong

-- ---- things of a kind up to a closing brace

pub record Braced {A : Type 0} (P : List Token → A → List Token → Type 0) (ts : List Token) (xs : List A) (us : List Token) : Type 0 where
  pub close : Token
  pub are : Repeated P ts xs (close ∷ us)
  pub closes : close.kind ≡ spelling mark.CloseBrace

pub many_sound : {A : Type 0} (P : List Token → A → List Token → Type 0) (end : ℕ) (one : Token → List Token → Mark → Answer (A × List Token))
    → ((w : Token) (ts : List Token) (y : A × List Token) (m : Mark) → mark_of w.kind ≡ m → one w ts m ≡ Ok y → P (w ∷ ts) y.0 y.1) → (n : ℕ) →
    Sound (Braced P) (reading.many end one n)
unfolding reading.many
many_sound P end one sound n [] y e = let wrong : ⊥ = cc in absurd wrong
many_sound P end one sound zero (t ∷ ts) y e = let wrong : ⊥ = cc in absurd wrong
many_sound {A} P end one sound (suc n) (t ∷ ts) y e =
    many_by_sound A P one t ts (sound t ts) (λ rest. reading.many end one n rest) (many_sound P end one sound n) y (same_mark (mark_of t.kind) mark.CloseBrace)
    refl e where
      many_by_sound : (A : Type 0) (P : List Token → A → List Token → Type 0) (one : Token → List Token → Mark →
          Answer (A × List Token)) (t : Token) (ts : List Token)
          → ((y : A × List Token) (m : Mark) → mark_of t.kind ≡ m → ◌≡◌ {A = Answer (A × List Token)} (one t ts m) (Ok y) → P (t ∷ ts) y.0 y.1) →
          (more : Reader (List A)) → Sound (Braced P) more
          → (y : List A × List Token) (b : Bool) → same_mark (mark_of t.kind) mark.CloseBrace ≡ b →
          ◌≡◌ {A = Answer (List A × List Token)} (reading.many_by one t ts b more) (Ok y) → Braced P (t ∷ ts) y.0 y.1
      many_by_sound A P one t ts sound more again y true test e =
          given (λ (z : List A × List Token). Braced P (t ∷ ts) z.0 z.1) ([], ts) y e
          (record { close = t; are = none (t ∷ ts); closes = spelled t.kind mark.CloseBrace (same_is (mark_of t.kind) mark.CloseBrace test) (omega arith) })
      many_by_sound A P one t ts sound more again y false test e =
          let (x, ex, e1) = ok_then (one t ts (mark_of t.kind)) (λ x. with_front (x.0 ∷ []) (more x.1)) y e in
          let (z, ez, same) = front_ok (x.0 ∷ []) (more x.1) y e1 in
          let r = again x.1 z ez in
          let Q : List A × List Token → Type 0 = λ w. Braced P (t ∷ ts) w.0 w.1 in
          subst Q (sym same) (record {
            close = r.close;
            are = one_more (t ∷ ts) x.1 (r.close ∷ z.1) x.0 z.0 (sound x (mark_of t.kind) refl ex) r.are;
            closes = r.closes;
          })

-- statements one after the other
are_statements : (l : Limits) (b : ℕ) (ts us : List Token) (xs : List Statement) → Repeated (IsStatement l b) ts xs us → AreStatements l b ts xs us
are_statements l b _ _ _ (none ts) = no_statements b ts
are_statements l b _ _ _ (one_more ts us vs x xs p r) = more_statements b ts us vs x xs p (are_statements l b us vs xs r)

pub block_sound : (s : Bounds) → 0 < s.depth → (b : ℕ) → Sound (IsBlock (limits s) b) (reading.block s b)
unfolding reading.block
block_sound s deep zero ts y e =
    after_mark mark.OpenBrace s.end ts _ y (λ (k : List Token). IsBlock (limits s) zero k y.0 y.1) (omega arith) e (λ o xs iso e1. let wrong : ⊥ = cc in
    absurd wrong)
block_sound s deep (suc b) ts y e =
    after_mark mark.OpenBrace s.end ts _ y (λ (k : List Token). IsBlock (limits s) (suc b) k y.0 y.1) (omega arith) e (λ o xs iso e1.
    let r = many_sound (IsStatement (limits s) b) s.end (reading.statement_by s (λ rest. reading.block s b rest))
    (statement_sound s deep b (λ rest. reading.block s b rest) (block_sound s deep b)) (length xs) xs y e1 in
    a_block b o r.close xs y.1 y.0 iso (are_statements (limits s) b xs (r.close ∷ y.1) y.0 r.are) r.closes)

-- ---- procedures and views

allow_sound : (s : Bounds) → 0 < s.depth → {B : Type 0} (ts : List Token) (k : Option Tree × List Token → Answer B) (y : B) (R : Type 0) →
    ◌≡◌ {A = Answer B} (reading.optional (reading.formula s) ts (after mark.Allow ts) >>= k) (Ok y)
    → ((a : Option Tree) (us : List Token) → Maybe (IsAllow (limits s)) ts a us → ◌≡◌ {A = Answer B} (k (a, us)) (Ok y) → R) → R
allow_sound s deep ts k y R e more =
    after_optional (IsExpression (limits s)) (reading.formula s) (formula_sound s deep) mark.Allow (omega arith) ts k y R e
    (λ e1. more None ts (left_out ts) e1)
    (λ w us x vs same isw read e1. more (Some x) vs (stated ts vs x (subst (λ l. IsAllow (limits s) l x vs) (sym same) (an_allow w us vs x isw read))) e1)

pub procedure_sound : (s : Bounds) → 0 < s.depth → (b : ℕ) (w : Token) → w.kind ≡ spelling mark.Procedure → (ts : List Token) (y : Procedure × List Token) →
    reading.procedure s b w ts ≡ Ok y → IsProcedure (limits s) b (w ∷ ts) y.0 y.1
unfolding reading.procedure
procedure_sound s deep b w is ts y e =
    after_name s.end ts _ y (λ (k : List Token). IsProcedure (limits s) b (w ∷ k) y.0 y.1) e (λ n name xs named e1.
    after_read InParentheses (reading.parameters s) (parameters_sound s) xs _ y (IsProcedure (limits s) b (w ∷ n ∷ xs) y.0 y.1) e1 (λ ps us listed e2.
    allow_sound s deep us _ y (IsProcedure (limits s) b (w ∷ n ∷ xs) y.0 y.1) e2 (λ a vs allowed e3.
    after_read (IsBlock (limits s) b) (reading.block s b) (block_sound s deep b) vs _ y (IsProcedure (limits s) b (w ∷ n ∷ xs) y.0 y.1) e3
    (λ body rest blocked e4.
    given (λ (z : Procedure × List Token). IsProcedure (limits s) b (w ∷ n ∷ xs) z.0 z.1)
    (record { line = w.line; name = name; parameters = ps; allow = a; body = body }, rest) y e4
    (a_procedure w n name xs us vs rest ps a body is named listed allowed blocked)))))

show_sound : (s : Bounds) → 0 < s.depth → (w : Token) → w.kind ≡ spelling mark.Show → (ts : List Token) (y : Show × List Token) → reading.show s w ts ≡ Ok y →
    IsShow (limits s) (w ∷ ts) y.0 y.1
unfolding reading.show
show_sound s deep w is ts y e =
    after_name s.end ts _ y (λ (k : List Token). IsShow (limits s) (w ∷ k) y.0 y.1) e (λ n name xs named e1.
    after_mark mark.Equals s.end xs _ y (λ (k : List Token). IsShow (limits s) (w ∷ n ∷ k) y.0 y.1) (omega arith) e1 (λ q us isq e2.
    after_read (IsExpression (limits s)) (reading.formula s) (formula_sound s deep) us _ y (IsShow (limits s) (w ∷ n ∷ q ∷ us) y.0 y.1) e2 (λ f rest read e3.
    given (λ (z : Show × List Token). IsShow (limits s) (w ∷ n ∷ q ∷ us) z.0 z.1) (record { line = w.line; name = name; shown = f }, rest) y e3
    (a_show w n q name us rest f is named isq read))))

show_by_sound : (s : Bounds) → 0 < s.depth → (w : Token) (ts : List Token) (y : Show × List Token) (m : Mark) → mark_of w.kind ≡ m →
    reading.show_by s w ts m ≡ Ok y → IsShow (limits s) (w ∷ ts) y.0 y.1
unfolding reading.show_by
show_by_sound s deep w ts y mark.Show is e = show_sound s deep w (spelled w.kind mark.Show is (omega arith)) ts y e
show_by_sound s deep w ts y _ is e = let wrong : ⊥ = cc in absurd wrong

table_sound : (s : Bounds) → 0 < s.depth → (w : Token) → w.kind ≡ spelling mark.Table → (ts : List Token) (y : Part × List Token) →
    reading.table s w ts ≡ Ok y → IsPart (limits s) (w ∷ ts) y.0 y.1
unfolding reading.table
table_sound s deep w is ts y e =
    after_name s.end ts _ y (λ (k : List Token). IsPart (limits s) (w ∷ k) y.0 y.1) e (λ n name xs named e1.
    after_mark mark.Equals s.end xs _ y (λ (k : List Token). IsPart (limits s) (w ∷ n ∷ k) y.0 y.1) (omega arith) e1 (λ q us isq e2.
    after_name s.end us _ y (λ (k : List Token). IsPart (limits s) (w ∷ n ∷ q ∷ k) y.0 y.1) e2 (λ v variable vs called e3.
    after_mark mark.In s.end vs _ y (λ (k : List Token). IsPart (limits s) (w ∷ n ∷ q ∷ v ∷ k) y.0 y.1) (omega arith) e3 (λ i ws isi e4.
    after_read (IsExpression (limits s)) (reading.formula s) (formula_sound s deep) ws _ y (IsPart (limits s) (w ∷ n ∷ q ∷ v ∷ i ∷ ws) y.0 y.1) e4
    (λ f cs read e5.
    after_mark mark.OpenBrace s.end cs _ y (λ (k : List Token). IsExpression (limits s) ws f k → IsPart (limits s) (w ∷ n ∷ q ∷ v ∷ i ∷ ws) y.0 y.1)
    (omega arith) e5 (λ o ds iso e6 read.
    after_read (Braced (IsShow (limits s))) (reading.many s.end (reading.show_by s) (length ds))
    (many_sound (IsShow (limits s)) s.end (reading.show_by s) (show_by_sound s deep) (length ds)) ds _ y
    (IsPart (limits s) (w ∷ n ∷ q ∷ v ∷ i ∷ ws) y.0 y.1) e6 (λ shows rest r e7.
    given (λ (z : Part × List Token). IsPart (limits s) (w ∷ n ∷ q ∷ v ∷ i ∷ ws) z.0 z.1) (part.Table w.line name variable f shows, rest) y e7
    (a_table w n q v i o r.close name variable ws ds rest f shows is named isq called isi read iso r.are r.closes))) read)))))

part_by_sound : (s : Bounds) → 0 < s.depth → (w : Token) (ts : List Token) (y : Part × List Token) (m : Mark) → mark_of w.kind ≡ m →
    reading.part_by s w ts m ≡ Ok y → IsPart (limits s) (w ∷ ts) y.0 y.1
unfolding reading.part_by
part_by_sound s deep w ts y mark.Show is e =
    let (x, ex, e1) = ok_then (reading.show s w ts) (λ x. Ok (part.Show x.0, x.1)) y e in
    given (λ (z : Part × List Token). IsPart (limits s) (w ∷ ts) z.0 z.1) (part.Show x.0, x.1) y e1
    (one_show (w ∷ ts) x.1 x.0 (show_sound s deep w (spelled w.kind mark.Show is (omega arith)) ts x ex))
part_by_sound s deep w ts y mark.Table is e = table_sound s deep w (spelled w.kind mark.Table is (omega arith)) ts y e
part_by_sound s deep w ts y _ is e = let wrong : ⊥ = cc in absurd wrong

pub view_sound : (s : Bounds) → 0 < s.depth → (w : Token) → w.kind ≡ spelling mark.View → (ts : List Token) (y : View × List Token) →
    reading.view s w ts ≡ Ok y → IsView (limits s) (w ∷ ts) y.0 y.1
unfolding reading.view
view_sound s deep w is ts y e =
    after_name s.end ts _ y (λ (k : List Token). IsView (limits s) (w ∷ k) y.0 y.1) e (λ n name xs named e1.
    after_read InParentheses (reading.parameters s) (parameters_sound s) xs _ y (IsView (limits s) (w ∷ n ∷ xs) y.0 y.1) e1 (λ ps us listed e2.
    allow_sound s deep us _ y (IsView (limits s) (w ∷ n ∷ xs) y.0 y.1) e2 (λ a vs allowed e3.
    after_mark mark.OpenBrace s.end vs _ y (λ (k : List Token). Maybe (IsAllow (limits s)) us a k → IsView (limits s) (w ∷ n ∷ xs) y.0 y.1) (omega arith) e3
    (λ o ds iso e4 allowed.
    after_read (Braced (IsPart (limits s))) (reading.many s.end (reading.part_by s) (length ds))
    (many_sound (IsPart (limits s)) s.end (reading.part_by s) (part_by_sound s deep) (length ds)) ds _ y (IsView (limits s) (w ∷ n ∷ xs) y.0 y.1) e4
    (λ parts rest r e5.
    given (λ (z : View × List Token). IsView (limits s) (w ∷ n ∷ xs) z.0 z.1) (
      record { line = w.line; name = name; parameters = ps; allow = a; parts = parts },
      rest,
    ) y e5
    (a_view w n o r.close name xs us ds rest ps a parts is named listed allowed iso r.are r.closes))) allowed)))

-- ---- declarations

-- the declarations that end a text in which so many object columns are open
pub data Rest (l : Limits) (b : ℕ) : ℕ → List Token → List Declaration → Type 0 where
  outermost : (ts : List Token) (ds : List Declaration) → AreDeclarations l b ts ds → Rest l b zero ts ds
  inside : (k : ℕ) (ts us : List Token) (c : Token) (ds es : List Declaration) → AreColumns l (suc k) ts ds (c ∷ us) → c.kind ≡ spelling mark.CloseBrace →
      Rest l b k us es → Rest l b (suc k) ts (ds ++ es)

column_before : (l : Limits) (b k : ℕ) (ts us : List Token) (ds es : List Declaration) → IsColumn l k ts ds us → Rest l b k us es → Rest l b k ts (ds ++ es)
column_before l b _ ts _ ds _ c (outermost us es r) = outermost ts (ds ++ es) (more_declarations ts us ds es (a_column ts us ds c) r)
column_before l b _ ts _ ds _ c (inside k us vs t es fs cs ist r) =
    subst (λ all. Rest l b (suc k) ts all) (append_assoc ds es fs) (inside k ts vs t (ds ++ es) fs (more_columns (suc k) ts us (t ∷ vs) ds es c cs) ist r)

object_before : (s : Bounds) (b k : ℕ) (w : Token) → w.kind ≡ spelling mark.Object → (ts : List Token) (y : Column × List Token) →
    reading.object_column s k w ts ≡ Ok y → (es : List Declaration) → Rest (limits s) b (suc k) y.1 es
    → Rest (limits s) b k (w ∷ ts) (declaration.Column y.0 ∷ es)
object_before s b k w is ts y e _ (inside _ _ us c ds es cs isc r) =
    column_before (limits s) b k (w ∷ ts) us (declaration.Column y.0 ∷ ds) es (an_object s (limits s) k w is ts y e ds c us cs isc) r

found_ok : (n : ℕ) (r : Answer (Column × List Token)) (x : Turn) → reading.column_found n r ≡ Ok x →
    (c : Column × List Token) × (◌≡◌ {A = Answer (Column × List Token)} r (Ok c)) × (x ≡ (Some (declaration.Column c.0), n, c.1))
found_ok n (Ok c) x e = (c, refl, cc)
found_ok n (Err d) x e = let wrong : ⊥ = cc in absurd wrong

abbrev Goes : Limits → ℕ → ℕ → List Token → Turn → Type 0
Goes l b k ts x = (es : List Declaration) → Rest l b x.1 x.2 es → Rest l b k ts (reading.found_list x.0 ++ es)

outermost_goes : (s : Bounds) → 0 < s.depth → (b : ℕ) (w : Token) (ts : List Token) (m : Mark) → mark_of w.kind ≡ m → (x : Turn) →
    reading.outermost_by s b w ts m ≡ Ok x → Goes (limits s) b zero (w ∷ ts) x
unfolding reading.outermost_by
outermost_goes s deep b w ts mark.Callers is x e =
    let (p, ep, e1) = ok_then (reading.path s ts) (λ p. Ok (Some (declaration.Callers w.line p.0), 0, p.1)) x e in
    given (Goes (limits s) b zero (w ∷ ts)) (Some (declaration.Callers w.line p.0), 0, p.1) x e1
    (before (declaration.Callers w.line p.0) p.1 (the_callers w ts p.1 p.0 (spelled w.kind mark.Callers is (omega arith)) (path_sound s ts p ep))) where
      before : (d : Declaration) (us : List Token) → IsDeclaration (limits s) b (w ∷ ts) (d ∷ []) us → (es : List Declaration) → Rest (limits s) b zero us es →
          Rest (limits s) b zero (w ∷ ts) (d ∷ es)
      before d _ is _ (outermost us es r) = outermost (w ∷ ts) (d ∷ es) (more_declarations (w ∷ ts) us (d ∷ []) es is r)
outermost_goes s deep b w ts mark.Procedure is x e =
    let (p, ep, e1) = ok_then (reading.procedure s b w ts) (λ p. Ok (Some (declaration.Procedure p.0), 0, p.1)) x e in
    given (Goes (limits s) b zero (w ∷ ts)) (Some (declaration.Procedure p.0), 0, p.1) x e1
    (before (declaration.Procedure p.0) p.1
    (one_procedure (w ∷ ts) p.1 p.0 (procedure_sound s deep b w (spelled w.kind mark.Procedure is (omega arith)) ts p ep))) where
      before : (d : Declaration) (us : List Token) → IsDeclaration (limits s) b (w ∷ ts) (d ∷ []) us → (es : List Declaration) → Rest (limits s) b zero us es →
          Rest (limits s) b zero (w ∷ ts) (d ∷ es)
      before d _ is _ (outermost us es r) = outermost (w ∷ ts) (d ∷ es) (more_declarations (w ∷ ts) us (d ∷ []) es is r)
outermost_goes s deep b w ts mark.View is x e =
    let (p, ep, e1) = ok_then (reading.view s w ts) (λ v. Ok (Some (declaration.View v.0), 0, v.1)) x e in
    given (Goes (limits s) b zero (w ∷ ts)) (Some (declaration.View p.0), 0, p.1) x e1
    (before (declaration.View p.0) p.1 (one_view (w ∷ ts) p.1 p.0 (view_sound s deep w (spelled w.kind mark.View is (omega arith)) ts p ep))) where
      before : (d : Declaration) (us : List Token) → IsDeclaration (limits s) b (w ∷ ts) (d ∷ []) us → (es : List Declaration) → Rest (limits s) b zero us es →
          Rest (limits s) b zero (w ∷ ts) (d ∷ es)
      before d _ is _ (outermost us es r) = outermost (w ∷ ts) (d ∷ es) (more_declarations (w ∷ ts) us (d ∷ []) es is r)
outermost_goes s deep b w ts _ is x e = let wrong : ⊥ = cc in absurd wrong

outside_goes : (s : Bounds) → 0 < s.depth → (b k : ℕ) (w : Token) (ts : List Token) (m : Mark) → mark_of w.kind ≡ m → (x : Turn) →
    reading.outside s b k w ts m ≡ Ok x → Goes (limits s) b k (w ∷ ts) x
outside_goes s deep b zero w ts m is x e = outermost_goes s deep b w ts m is x e
outside_goes s deep b (suc k) w ts m is x e = let wrong : ⊥ = cc in absurd wrong

closing_goes : (l : Limits) (b k : ℕ) (w : Token) → w.kind ≡ spelling mark.CloseBrace → (ts : List Token) (x : Turn) → reading.closing k w ts ≡ Ok x →
    Goes l b k (w ∷ ts) x
closing_goes l b zero w is ts x e = let wrong : ⊥ = cc in absurd wrong
closing_goes l b (suc k) w is ts x e =
    given (Goes l b (suc k) (w ∷ ts)) (None, k, ts) x e (λ es r. inside k (w ∷ ts) ts w [] es (no_columns (suc k) (w ∷ ts)) is r)

turn_goes : (s : Bounds) → 0 < s.depth → (b k : ℕ) (w : Token) (ts : List Token) (m : Mark) → mark_of w.kind ≡ m → (x : Turn) →
    reading.turn_by s b k w ts m ≡ Ok x → Goes (limits s) b k (w ∷ ts) x
unfolding reading.turn_by
turn_goes s deep b k w ts mark.Object is x e =
    let (c, ec, same) = found_ok (suc k) (reading.object_column s k w ts) x e in
    subst (Goes (limits s) b k (w ∷ ts)) (sym same) (object_before s b k w (spelled w.kind mark.Object is (omega arith)) ts c ec)
turn_goes s deep b k w ts mark.State is x e =
    let (c, ec, same) = found_ok k (reading.state_column s k w ts) x e in
    subst (Goes (limits s) b k (w ∷ ts)) (sym same)
    (λ es r. column_before (limits s) b k (w ∷ ts) c.1 (declaration.Column c.0 ∷ []) es
    (state_sound s (limits s) k w (spelled w.kind mark.State is (omega arith)) ts c ec) r)
turn_goes s deep b k w ts mark.Formula is x e =
    let (c, ec, same) = found_ok k (reading.formula_column s k w ts) x e in
    subst (Goes (limits s) b k (w ∷ ts)) (sym same)
    (λ es r. column_before (limits s) b k (w ∷ ts) c.1 (declaration.Column c.0 ∷ []) es
    (formula_column_sound s deep k w (spelled w.kind mark.Formula is (omega arith)) ts c ec) r)
turn_goes s deep b k w ts mark.CloseBrace is x e = closing_goes (limits s) b k w (spelled w.kind mark.CloseBrace is (omega arith)) ts x e
turn_goes s deep b k w ts m is x e = outside_goes s deep b k w ts m is x e

all_ok : (front : List Declaration) (r : Answer (List Declaration)) (ds : List Declaration) → reading.all_before front r ≡ Ok ds →
    (es : List Declaration) × (◌≡◌ {A = Answer (List Declaration)} r (Ok es)) × (ds ≡ front ++ es)
all_ok front (Ok es) ds e = (es, refl, cc)
all_ok front (Err d) ds e = let wrong : ⊥ = cc in absurd wrong

ended_rest : (l : Limits) (b end k : ℕ) (ds : List Declaration) → reading.ended end k ≡ Ok ds → Rest l b k [] ds
ended_rest l b end zero ds e = given (λ ds. Rest l b zero [] ds) [] ds e (outermost [] [] no_declarations)
ended_rest l b end (suc k) ds e = let wrong : ⊥ = cc in absurd wrong

pub declarations_sound : (s : Bounds) → 0 < s.depth → (b n k : ℕ) (ts : List Token) (ds : List Declaration) → reading.declarations s b n k ts ≡ Ok ds →
    Rest (limits s) b k ts ds
unfolding reading.declarations
declarations_sound s deep b n k [] ds e = ended_rest (limits s) b s.end k ds e
declarations_sound s deep b zero k (t ∷ ts) ds e = let wrong : ⊥ = cc in absurd wrong
declarations_sound s deep b (suc n) k (t ∷ ts) ds e =
    let (x, ex, e1) =
    ok_then (reading.turn_by s b k t ts (mark_of t.kind)) (λ x. reading.all_before (reading.found_list x.0) (reading.declarations s b n x.1 x.2)) ds e in
    let (es, ee, same) = all_ok (reading.found_list x.0) (reading.declarations s b n x.1 x.2) ds e1 in
    subst (λ all. Rest (limits s) b k (t ∷ ts) all) (sym same)
    (turn_goes s deep b k t ts (mark_of t.kind) refl x ex es (declarations_sound s deep b n x.1 x.2 es ee))

pub whole_sound : (end : ℕ) (ts : List Token) (ds : List Declaration) → reading.whole_definition end ts ≡ Ok ds →
    AreDeclarations (record { depth = 32; nest = 32 }) 16 ts ds
unfolding reading.whole_definition
whole_sound end ts ds e = by (declarations_sound (reading.usual end) (omega arith) 16 (length ts) 0 ts ds e) where
  by : Rest (record { depth = 32; nest = 32 }) 16 zero ts ds → AreDeclarations (record { depth = 32; nest = 32 }) 16 ts ds
  by (outermost _ _ r) = r
