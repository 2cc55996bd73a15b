-- Procedures, views and whole definitions that stand there by the productions are read.
use Rattle.std.proofs.Common.{◌≡◌, ℕ, ℤ, zero, suc, ◌+◌, ◌-◌, ◌<◌, ◌≤◌, List, [], ◌∷◌, ◌++◌, length, true, false, Some, None, Ok, Err, refl, sym, ap, ◌∙◌}
use Rattle.std.proofs.Common.{subst, arith, append_assoc}
use Rattle.std.specs.Prelude.{Bool, Option, if◌then◌else◌}
use Rattle.sheet_syntax_trees.specs.declared.token.Token.{Token}
use Rattle.sheet_syntax_trees.specs.declared.token.TokenKind.{TokenKind}
use Rattle.sheet_syntax_trees.specs.declared.token.TokenKind.TheVariants as kind
use Rattle.sheet_syntax_trees.specs.declared.token.SyntaxRefusal.TheVariants.{Expected}
use Rattle.sheet_syntax_trees.specs.declared.sign.Sign.TheVariants as sign
use Rattle.sheet_syntax_trees.specs.declared.tree.Tree.{Tree}
use Rattle.sheet_syntax_trees.specs.declared.tree.Formed.{Formed}
use Rattle.sheet_syntax_trees.specs.Signs.{sign_of}
use Rattle.sheet_syntax_trees.specs.Grammar.{Produces, form, expression, postfix, atom, no_step}
use Rattle.sheet_syntax_trees.specs.Reading as trees
use Rattle.sheet_syntax_trees.specs.Reading.{Answer, ◌>>=◌, offset, line_of, or_expected, name_at, formula_at, within, setting, step_of, made}
use Rattle.sheet_define_data.specs.declared.definition.Path.{Path}
use Rattle.sheet_define_data.specs.declared.definition.TypeName.{TypeName}
use Rattle.sheet_define_data.specs.declared.definition.TypeName.TheVariants as type
use Rattle.sheet_define_data.specs.declared.definition.Literal.{Literal}
use Rattle.sheet_define_data.specs.declared.definition.Literal.TheVariants as literal
use Rattle.sheet_define_data.specs.declared.definition.Column.{Column}
use Rattle.sheet_define_data.specs.declared.definition.Content.TheVariants as content
use Rattle.sheet_define_data.specs.declared.definition.Parameter.{Parameter}
use Rattle.sheet_define_data.specs.declared.definition.Procedure.{Procedure}
use Rattle.sheet_define_data.specs.declared.definition.Show.{Show}
use Rattle.sheet_define_data.specs.declared.definition.Part.{Part}
use Rattle.sheet_define_data.specs.declared.definition.Part.TheVariants as part
use Rattle.sheet_define_data.specs.declared.definition.View.{View}
use Rattle.sheet_define_data.specs.declared.definition.Declaration.{Declaration}
use Rattle.sheet_define_data.specs.declared.definition.Declaration.TheVariants as declaration
use Rattle.sheet_define_data.specs.declared.statement.Target.{Target}
use Rattle.sheet_define_data.specs.declared.statement.Statement.{Statement}
use Rattle.sheet_define_data.specs.declared.statement.Statement.TheVariants as statement
use Rattle.sheet_define_data.specs.Grammar.{Limits, IsFormulaOf, IsExpression, Maybe, left_out, stated, Repeated, none, one_more, AreNames, one_name}
use Rattle.sheet_define_data.specs.Grammar.{more_names, IsPath, a_path, IsType, numbers, texts, truths, objects, IsLiteral, a_number, a_negative_number, a_text}
use Rattle.sheet_define_data.specs.Grammar.{a_true, a_false, IsOne, any_count, just_one, IsFirst, a_first, IsDeclared, a_declared, IsAllow, an_allow, IsColumn}
use Rattle.sheet_define_data.specs.Grammar.{an_object_column, a_state_column, a_formula_column, AreColumns, no_columns, more_columns, IsParameter, a_parameter}
use Rattle.sheet_define_data.specs.Grammar.{AreParameters, one_parameter, more_parameters, InParentheses, no_parameters, some_parameters, IsTarget, of_root}
use Rattle.sheet_define_data.specs.Grammar.{of_object, IsStatement, a_let, an_assignment, an_add, a_remove, a_new, a_delete, a_check, a_reply, an_if}
use Rattle.sheet_define_data.specs.Grammar.{an_if_else, a_for, AreStatements, no_statements, more_statements, IsBlock, a_block, IsProcedure, a_procedure}
use Rattle.sheet_define_data.specs.Grammar.{IsShow, a_show, IsPart, one_show, a_table, IsView, a_view, IsDeclaration, the_callers, a_column, one_procedure}
use Rattle.sheet_define_data.specs.Grammar.{one_view, AreDeclarations, no_declarations, more_declarations}
use Rattle.sheet_define_reading.specs.declared.mark.Mark.{Mark}
use Rattle.sheet_define_reading.specs.declared.mark.Mark.TheVariants as mark
use Rattle.sheet_define_reading.specs.Marks.{mark_of, mark_rank, same_mark}
use Rattle.sheet_define_reading.specs.Reading as reading
use Rattle.sheet_define_reading.specs.Reading.{Bounds, Reader, Turn, after, expect, with_front, alone}
use Rattle.sheet_syntax_trees.specs.Reading.{sign_at, with_rest}
use Rattle.sheet_syntax_trees.proofs.Binding.{binding}
use Rattle.sheet_define_reading.specs.Reading.{mark_at}
use Rattle.sheet_define_reading.proofs.MarkLemmas.{spelling, same_self}
use Rattle.sheet_define_reading.proofs.Clearing.{begins, clear, clear_at, clear_binding, clear_other, clear_after, begins_clear, begins_open, marked, other_at}
use Rattle.sheet_define_reading.proofs.Clearing.{after_other, then_given, after_given, expect_given, name_given}
use Rattle.sheet_define_reading.proofs.Soundness.{limits}
use Rattle.sheet_define_reading.proofs.Completeness.{formula_given, path_given, object_given, state_given, formula_column_given, parameters_given, target_given}
use Rattle.sheet_define_reading.proofs.Lengths.{statement_short, show_short, part_short, column_short, declaration_short}
use Rattle.sheet_define_reading.proofs.StatementCompleteness.{Opens, opens, opens_clear, close_clear, loose, first_of, many_given, block_given, bounds}

-- ---- procedures and views

allow_left : (s : Bounds) (o : Token) (ts : List Token) → o.kind ≡ spelling mark.OpenBrace →
    reading.optional (reading.formula s) (o ∷ ts) (after mark.Allow (o ∷ ts)) ≡ Ok (None, o ∷ ts)
allow_left s o ts iso = ap (reading.optional (reading.formula s) (o ∷ ts)) (after_other o ts mark.OpenBrace mark.Allow iso refl)

allow_given : (s : Bounds) (o : Token) (ts us vs : List Token) (a : Option Tree) → o.kind ≡ spelling mark.OpenBrace → vs ≡ o ∷ us →
    Maybe (IsAllow (limits s)) ts a vs → reading.optional (reading.formula s) ts (after mark.Allow ts) ≡ Ok (a, vs)
allow_given s o _ us _ _ iso split (left_out ts) =
    subst (λ l. reading.optional (reading.formula s) l (after mark.Allow l) ≡ Ok (None, l)) (sym split) (allow_left s o us iso)
allow_given s o _ us _ _ iso split (stated _ _ _ (an_allow w ts vs e isw read)) =
    ap (reading.optional (reading.formula s) (w ∷ ts)) (after_given mark.Allow w ts isw)
    ∙ ap (λ r. r >>= (λ x. Ok (Some x.0, x.1)))
    (formula_given s ts vs e read (subst (λ l. 6 < binding (sign_at l)) (sym split) (loose o us (spelling mark.OpenBrace) iso (omega arith))))

record Brace (ts : List Token) : Type 0 where
  first : Token
  others : List Token
  is : ts ≡ first ∷ others
  spelled_so : first.kind ≡ spelling mark.OpenBrace

block_brace : (l : Limits) (b : ℕ) (ts us : List Token) (xs : List Statement) → IsBlock l b ts xs us → Brace ts
block_brace l _ _ _ _ (a_block b o c ts rest xs iso q isc) = record { first = o; others = ts; is = refl; spelled_so = iso }

procedure_given : (s : Bounds) (b : ℕ) (w n : Token) (name : List ℕ) (ps ts bs rest : List Token) (parameters : List Parameter) (allow : Option Tree)
    (body : List Statement) → n.kind ≡ kind.Name name → InParentheses ps parameters ts
    → Maybe (IsAllow (limits s)) ts allow bs → IsBlock (limits s) b bs body rest
    → reading.procedure s b w (n ∷ ps) ≡ Ok (record { line = w.line; name = name; parameters = parameters; allow = allow; body = body }, rest)
unfolding reading.procedure
procedure_given s b w n name ps ts bs rest parameters allow body named listed allowed blocked =
    let o = block_brace (limits s) b bs rest body blocked in
    then_given (name_at s.end (n ∷ ps)) (name, ps)
    (λ name. reading.parameters s
    name.1 >>= (λ ps.
    reading.optional (reading.formula s) ps.1 (after mark.Allow ps.1) >>= (λ allow.
    reading.block s b allow.1 >>= (λ body. Ok (record { line = w.line; name = name.0; parameters = ps.0; allow = allow.0; body = body.0 }, body.1))))) _
    (name_given s.end n name ps named)
    (then_given (reading.parameters s ps) (parameters, ts)
    (λ ps. reading.optional (reading.formula s) ps.1 (after mark.Allow ps.1) >>= (λ allow.
    reading.block s b allow.1 >>= (λ body. Ok (record { line = w.line; name = name; parameters = ps.0; allow = allow.0; body = body.0 }, body.1)))) _
    (parameters_given s ps ts parameters listed)
    (then_given (reading.optional (reading.formula s) ts (after mark.Allow ts)) (allow, bs)
    (λ allow. reading.block s b allow.1 >>= (λ body. Ok (
      record { line = w.line; name = name; parameters = parameters; allow = allow.0; body = body.0 },
      body.1,
    ))) _
    (allow_given s o.first ts o.others bs allow o.spelled_so o.is allowed)
    (then_given (reading.block s b bs) (body, rest)
    (λ body. Ok (record { line = w.line; name = name; parameters = parameters; allow = allow; body = body.0 }, body.1)) _
    (block_given s.end (limits s) b bs rest body blocked) refl)))

show_word : (s : Bounds) (w n e : Token) (name : List ℕ) (ts rest : List Token) (f : Tree) → n.kind ≡ kind.Name name → e.kind ≡ spelling mark.Equals →
    IsExpression (limits s) ts f rest → clear_at rest ≡ true
    → reading.show s w (n ∷ e ∷ ts) ≡ Ok (record { line = w.line; name = name; shown = f }, rest)
unfolding reading.show
show_word s w n e name ts rest f named ise read h =
    then_given (name_at s.end (n ∷ e ∷ ts)) (name, e ∷ ts)
    (λ name. expect s.end mark.Equals name.1 >>= (λ a. reading.formula s a >>= (λ f. Ok (record { line = w.line; name = name.0; shown = f.0 }, f.1)))) _
    (name_given s.end n name (e ∷ ts) named)
    (then_given (expect s.end mark.Equals (e ∷ ts)) ts (λ a. reading.formula s a >>= (λ f. Ok (record { line = w.line; name = name; shown = f.0 }, f.1))) _
    (expect_given s.end mark.Equals e ts ise)
    (then_given (reading.formula s ts) (f, rest) (λ f. Ok (record { line = w.line; name = name; shown = f.0 }, f.1)) _
    (formula_given s ts rest f read (clear_binding rest h)) refl))

show_opens : (l : Limits) (ts us : List Token) (x : Show) → IsShow l ts x us → Opens ts
show_opens l _ _ _ (a_show w n e name ts rest f a1 a2 a3 g) = opens w _ mark.Show a1 refl

show_given : (s : Bounds) (ts us : List Token) (x : Show) → IsShow (limits s) ts x us → clear_at us ≡ true → first_of (reading.show_by s) ts ≡ Ok (x, us)
unfolding reading.show_by
show_given s _ _ _ (a_show w n e name ts rest f a1 a2 a3 g) h =
    ap (reading.show_by s w (n ∷ e ∷ ts)) (marked w.kind mark.Show a1) ∙ show_word s w n e name ts rest f a2 a3 g h

table_given : (s : Bounds) (w n e v i o c : Token) (name variable : List ℕ) (ts us rest : List Token) (f : Tree) (shows : List Show) → n.kind ≡ kind.Name name →
    e.kind ≡ spelling mark.Equals → v.kind ≡ kind.Name variable → i.kind ≡ spelling mark.In
    → IsExpression (limits s) ts f (o ∷ us) → o.kind ≡ spelling mark.OpenBrace → Repeated (IsShow (limits s)) us shows (c ∷ rest) →
    c.kind ≡ spelling mark.CloseBrace
    → reading.table s w (n ∷ e ∷ v ∷ i ∷ ts) ≡ Ok (part.Table w.line name variable f shows, rest)
unfolding reading.table
table_given s w n e v i o c name variable ts us rest f shows named ise called isi read iso listed isc =
    then_given (name_at s.end (n ∷ e ∷ v ∷ i ∷ ts)) (name, e ∷ v ∷ i ∷ ts)
    (λ name. expect s.end mark.Equals
    name.1 >>= (λ a.
    name_at s.end a >>= (λ variable.
    expect s.end mark.In
    variable.1 >>= (λ c.
    reading.formula s
    c >>= (λ f. expect s.end mark.OpenBrace
    f.1 >>= (λ d. reading.many s.end (reading.show_by s) (length d) d >>= (λ shows. Ok (part.Table w.line name.0 variable.0 f.0 shows.0, shows.1)))))))) _
    (name_given s.end n name (e ∷ v ∷ i ∷ ts) named)
    (then_given (expect s.end mark.Equals (e ∷ v ∷ i ∷ ts)) (v ∷ i ∷ ts)
    (λ a. name_at s.end
    a >>= (λ variable.
    expect s.end mark.In
    variable.1 >>= (λ c.
    reading.formula s
    c >>= (λ f. expect s.end mark.OpenBrace
    f.1 >>= (λ d. reading.many s.end (reading.show_by s) (length d) d >>= (λ shows. Ok (part.Table w.line name variable.0 f.0 shows.0, shows.1))))))) _
    (expect_given s.end mark.Equals e (v ∷ i ∷ ts) ise)
    (then_given (name_at s.end (v ∷ i ∷ ts)) (variable, i ∷ ts)
    (λ variable. expect s.end mark.In
    variable.1 >>= (λ c.
    reading.formula s
    c >>= (λ f. expect s.end mark.OpenBrace
    f.1 >>= (λ d. reading.many s.end (reading.show_by s) (length d) d >>= (λ shows. Ok (part.Table w.line name variable.0 f.0 shows.0, shows.1)))))) _
    (name_given s.end v variable (i ∷ ts) called)
    (then_given (expect s.end mark.In (i ∷ ts)) ts
    (λ c. reading.formula s
    c >>= (λ f. expect s.end mark.OpenBrace
    f.1 >>= (λ d. reading.many s.end (reading.show_by s) (length d) d >>= (λ shows. Ok (part.Table w.line name variable f.0 shows.0, shows.1))))) _
    (expect_given s.end mark.In i ts isi)
    (then_given (reading.formula s ts) (f, o ∷ us)
    (λ f. expect s.end mark.OpenBrace
    f.1 >>= (λ d. reading.many s.end (reading.show_by s) (length d) d >>= (λ shows. Ok (part.Table w.line name variable f.0 shows.0, shows.1)))) _
    (formula_given s ts (o ∷ us) f read (loose o us (spelling mark.OpenBrace) iso (omega arith)))
    (then_given (expect s.end mark.OpenBrace (o ∷ us)) us
    (λ d. reading.many s.end (reading.show_by s) (length d) d >>= (λ shows. Ok (part.Table w.line name variable f shows.0, shows.1))) _
    (expect_given s.end mark.OpenBrace o us iso)
    (then_given (reading.many s.end (reading.show_by s) (length us) us) (shows, rest) (λ shows. Ok (part.Table w.line name variable f shows.0, shows.1)) _
    (many_given (IsShow (limits s)) s.end (reading.show_by s) (show_opens (limits s)) (show_short (limits s)) (show_given s) c rest isc (length us) us
    (c ∷ rest) shows refl listed (omega arith)) refl))))))

part_opens : (l : Limits) (ts us : List Token) (x : Part) → IsPart l ts x us → Opens ts
part_opens l _ _ _ (one_show ts rest x p) = show_opens l ts rest x p
part_opens l _ _ _ (a_table w n e v i o c name variable ts us rest f shows a1 a2 a3 a4 a5 g a6 q a7) = opens w _ mark.Table a1 refl

part_given : (s : Bounds) (ts us : List Token) (x : Part) → IsPart (limits s) ts x us → clear_at us ≡ true → first_of (reading.part_by s) ts ≡ Ok (x, us)
unfolding reading.part_by
part_given s _ _ _ (one_show _ _ _ (a_show w n e name ts rest f a1 a2 a3 g)) h =
    ap (reading.part_by s w (n ∷ e ∷ ts)) (marked w.kind mark.Show a1)
    ∙ ap (λ r. r >>= (λ x. Ok (part.Show x.0, x.1))) (show_word s w n e name ts rest f a2 a3 g h)
part_given s _ _ _ (a_table w n e v i o c name variable ts us rest f shows a1 a2 a3 a4 a5 g a6 q a7) h =
    ap (reading.part_by s w (n ∷ e ∷ v ∷ i ∷ ts)) (marked w.kind mark.Table a1) ∙ table_given s w n e v i o c name variable ts us rest f shows a2 a3 a4 a5 g a6
    q a7

view_given : (s : Bounds) (w n o c : Token) (name : List ℕ) (ps ts us rest : List Token) (parameters : List Parameter) (allow : Option Tree)
    (parts : List Part) → n.kind ≡ kind.Name name → InParentheses ps parameters ts
    → Maybe (IsAllow (limits s)) ts allow (o ∷ us) → o.kind ≡ spelling mark.OpenBrace → Repeated (IsPart (limits s)) us parts (c ∷ rest) →
    c.kind ≡ spelling mark.CloseBrace
    → reading.view s w (n ∷ ps) ≡ Ok (record { line = w.line; name = name; parameters = parameters; allow = allow; parts = parts }, rest)
unfolding reading.view
view_given s w n o c name ps ts us rest parameters allow parts named listed allowed iso held isc =
    then_given (name_at s.end (n ∷ ps)) (name, ps)
    (λ name. reading.parameters s
    name.1 >>= (λ ps.
    reading.optional (reading.formula s) ps.1 (after mark.Allow ps.1) >>= (λ allow.
    expect s.end mark.OpenBrace
    allow.1 >>= (λ a.
    reading.many s.end (reading.part_by s) (length a)
    a >>= (λ parts. Ok (record { line = w.line; name = name.0; parameters = ps.0; allow = allow.0; parts = parts.0 }, parts.1)))))) _
    (name_given s.end n name ps named)
    (then_given (reading.parameters s ps) (parameters, ts)
    (λ ps. reading.optional (reading.formula s) ps.1 (after mark.Allow ps.1) >>= (λ allow.
    expect s.end mark.OpenBrace
    allow.1 >>= (λ a.
    reading.many s.end (reading.part_by s) (length a)
    a >>= (λ parts. Ok (record { line = w.line; name = name; parameters = ps.0; allow = allow.0; parts = parts.0 }, parts.1))))) _
    (parameters_given s ps ts parameters listed)
    (then_given (reading.optional (reading.formula s) ts (after mark.Allow ts)) (allow, o ∷ us)
    (λ allow. expect s.end mark.OpenBrace
    allow.1 >>= (λ a.
    reading.many s.end (reading.part_by s) (length a)
    a >>= (λ parts. Ok (record { line = w.line; name = name; parameters = parameters; allow = allow.0; parts = parts.0 }, parts.1)))) _
    (allow_given s o ts us (o ∷ us) allow iso refl allowed)
    (then_given (expect s.end mark.OpenBrace (o ∷ us)) us
    (λ a. reading.many s.end (reading.part_by s) (length a)
    a >>= (λ parts. Ok (record { line = w.line; name = name; parameters = parameters; allow = allow; parts = parts.0 }, parts.1))) _
    (expect_given s.end mark.OpenBrace o us iso)
    (then_given (reading.many s.end (reading.part_by s) (length us) us) (parts, rest)
    (λ parts. Ok (record { line = w.line; name = name; parameters = parameters; allow = allow; parts = parts.0 }, parts.1)) _
    (many_given (IsPart (limits s)) s.end (reading.part_by s) (part_opens (limits s)) (part_short (limits s)) (part_given s) c rest isc (length us) us
    (c ∷ rest) parts refl held (omega arith)) refl))))

-- ---- declarations

pub none_before : (r : Answer (List Declaration)) → reading.all_before [] r ≡ r
none_before (Ok ds) = refl
none_before (Err e) = refl

both_before : (a b : List Declaration) (r : Answer (List Declaration)) → reading.all_before a (reading.all_before b r) ≡ reading.all_before (a ++ b) r
both_before a b (Ok ds) = ap Ok (sym (append_assoc a b ds))
both_before a b (Err e) = refl

-- what is read of the tokens are these declarations, and then what is read of those behind them
record Declared (s : Bounds) (b n k : ℕ) (ts us : List Token) (ds : List Declaration) : Type 0 where
  turns : ℕ
  enough : length us ≤ turns
  is : reading.declarations s b n k ts ≡ reading.all_before ds (reading.declarations s b turns k us)

turn_more : (s : Bounds) (b n k : ℕ) (t : Token) (ts us : List Token) (m : Mark) (found : Option Declaration) (j : ℕ) → t.kind ≡ spelling m →
    reading.turn_by s b k t ts m ≡ Ok (found, j, us)
    → reading.declarations s b (suc n) k (t ∷ ts) ≡ reading.all_before (reading.found_list found) (reading.declarations s b n j us)
unfolding reading.declarations
turn_more s b n k t ts us m found j is e =
    then_given (reading.turn_by s b k t ts (mark_of t.kind)) (found, j, us)
    (λ x. reading.all_before (reading.found_list x.0) (reading.declarations s b n x.1 x.2)) _ (ap (reading.turn_by s b k t ts) (marked t.kind m is) ∙ e)
    refl

one_declared : (s : Bounds) (b n k : ℕ) (t : Token) (ts us : List Token) (m : Mark) (d : Declaration) → t.kind ≡ spelling m → length us ≤ n →
    reading.turn_by s b k t ts m ≡ Ok (Some d, k, us) → Declared s b (suc n) k (t ∷ ts) us (d ∷ [])
one_declared s b n k t ts us m d is enough e = record { turns = n; enough = enough; is = turn_more s b n k t ts us m (Some d) k is e }

column_turn : (s : Bounds) (b k : ℕ) (w : Token) (ts : List Token) →
    (reading.turn_by s b k w ts mark.Object ≡ reading.column_found (suc k) (reading.object_column s k w ts))
    × (reading.turn_by s b k w ts mark.State ≡ reading.column_found k (reading.state_column s k w ts)) × (reading.turn_by s b k w ts
    mark.Formula ≡ reading.column_found k (reading.formula_column s k w ts))
    × (reading.turn_by s b (suc k) w ts mark.CloseBrace ≡ Ok (None, k, ts))
unfolding reading.turn_by
column_turn s b k w ts = (refl, refl, refl, refl)

column_opens : (l : Limits) (k : ℕ) (ts us : List Token) (ds : List Declaration) → IsColumn l k ts ds us → Opens ts
column_opens l _ _ _ _ (an_object_column k w n o c name ts us ds a1 a2 a3 q a4) = opens w _ mark.Object a1 refl
column_opens l _ _ _ _ (a_state_column k w n c name ts us vs rest t one first a1 a2 a3 p q r) = opens w _ mark.State a1 refl
column_opens l _ _ _ _ (a_formula_column k w n e name ts us rest t f a1 a2 p a3 q) = opens w _ mark.Formula a1 refl

columns_clear : (l : Limits) (k : ℕ) (c : Token) (us : List Token) → c.kind ≡ spelling mark.CloseBrace → (ts vs : List Token) (ds : List Declaration) →
    vs ≡ c ∷ us → AreColumns l k ts ds vs → clear_at ts ≡ true
columns_clear l _ c us is _ _ _ split (no_columns k ts) = ap clear_at split ∙ close_clear c us is
columns_clear l _ c us is _ _ _ split (more_columns k ts vs ws ds es p q) = opens_clear ts (column_opens l k ts vs ds p)

mutual
  column_given : (end : ℕ) (l : Limits) (b k : ℕ) (ts us : List Token) (ds : List Declaration) → IsColumn l k ts ds us → clear_at us ≡ true → (n : ℕ) →
      length ts ≤ n → Declared (bounds end l) b n k ts us ds
  column_given end l b _ _ us _ p h zero short = let k2 = column_short l _ _ us _ p in absurd (omega arith)
  column_given end l b _ _ _ _ (a_state_column k w n c name ts us vs rest t one first a1 a2 a3 p q r) h (suc m) short =
      let k2 = column_short l k (w ∷ n ∷ c ∷ ts) rest _ (a_state_column k w n c name ts us vs rest t one first a1 a2 a3 p q r) in
      one_declared (bounds end l) b m k w (n ∷ c ∷ ts) rest mark.State _ a1 (omega arith) ((column_turn (bounds end l) b k w (n ∷ c ∷ ts)).1
      ∙ ap (reading.column_found k) (state_given (bounds end l) k w n c name ts us vs rest t one first a2 a3 p q r h))
  column_given end l b _ _ _ _ (a_formula_column k w n e name ts us rest t f a1 a2 p a3 q) h (suc m) short =
      let k2 = column_short l k (w ∷ n ∷ ts) rest _ (a_formula_column k w n e name ts us rest t f a1 a2 p a3 q) in
      one_declared (bounds end l) b m k w (n ∷ ts) rest mark.Formula _ a1 (omega arith) ((column_turn (bounds end l) b k w (n ∷ ts)).2
      ∙ ap (reading.column_found k) (formula_column_given (bounds end l) k w n e name ts us rest t f a2 p a3 q h))
  column_given end l b _ _ _ _ (an_object_column k w n o c name ts us ds a1 a2 a3 q a4) h (suc m) short =
      let first = turn_more (bounds end l) b m k w (n ∷ o ∷ ts) ts mark.Object
      (Some (declaration.Column (record { depth = k; line = w.line; name = name; content = content.Object }))) (suc k) a1
      ((column_turn (bounds end l) b k w (n ∷ o ∷ ts)).0 ∙ ap (reading.column_found (suc k)) (object_given (bounds end l) k w n o name ts a2 a3)) in
      let inner = columns_given end l b (suc k) c us a4 ts (c ∷ us) ds refl q m (omega arith) in
      let enough = inner.enough in
      let more : inner.turns ≡ suc (inner.turns - 1) = omega arith in
      let last = turn_more (bounds end l) b (inner.turns - 1) (suc k) c us us mark.CloseBrace None k a4 ((column_turn (bounds end l) b k c us).3) in
      let column = declaration.Column (record { depth = k; line = w.line; name = name; content = content.Object }) in
      let closed : reading.declarations (bounds end l) b inner.turns (suc k) (c ∷ us) ≡ reading.declarations (bounds end l) b (inner.turns - 1) k us =
      ap (λ n. reading.declarations (bounds end l) b n (suc k) (c ∷ us)) more ∙ last
      ∙ none_before (reading.declarations (bounds end l) b (inner.turns - 1) k us) in
      record {
        turns = inner.turns - 1;
        enough = omega arith;
        is = first ∙ ap (reading.all_before (column ∷ [])) (inner.is ∙ ap (reading.all_before ds) closed)
            ∙ both_before (column ∷ []) ds (reading.declarations (bounds end l) b (inner.turns - 1) k us);
      }

  columns_given : (end : ℕ) (l : Limits) (b k : ℕ) (c : Token) (us : List Token) → c.kind ≡ spelling mark.CloseBrace →
      (ts vs : List Token) (ds : List Declaration) → vs ≡ c ∷ us → AreColumns l k ts ds vs → (n : ℕ) → length ts ≤ n → Declared (bounds end l) b n k ts vs ds
  columns_given end l b _ c us is _ _ _ split (no_columns k ts) n short =
      record { turns = n; enough = short; is = sym (none_before (reading.declarations (bounds end l) b n k ts)) }
  columns_given end l b _ c us is _ _ _ split (more_columns k ts vs ws ds es p q) n short =
      let a = column_given end l b k ts vs ds p (columns_clear l k c us is vs ws es split q) n short in
      let r = columns_given end l b k c us is vs ws es split q a.turns a.enough in
      record {
        turns = r.turns;
        enough = r.enough;
        is = a.is ∙ ap (reading.all_before ds) r.is
            ∙ both_before ds es (reading.declarations (bounds end l) b r.turns k ws);
      }

outermost_turn : (s : Bounds) (b : ℕ) (w : Token) (ts : List Token) →
    (reading.turn_by s b 0 w ts mark.Callers ≡ (reading.path s ts >>= (λ p. Ok (Some (declaration.Callers w.line p.0), 0, p.1))))
    × (reading.turn_by s b 0 w ts mark.Procedure ≡ (reading.procedure s b w ts >>= (λ p. Ok (Some (declaration.Procedure p.0), 0, p.1)))) ×
    (reading.turn_by s b 0 w ts mark.View ≡ (reading.view s w ts >>= (λ v. Ok (Some (declaration.View v.0), 0, v.1))))
unfolding reading.turn_by reading.outermost_by
outermost_turn s b w ts = (refl, refl, refl)

declaration_opens : (l : Limits) (b : ℕ) (ts us : List Token) (ds : List Declaration) → IsDeclaration l b ts ds us → Opens ts
declaration_opens l b _ _ _ (the_callers w ts rest p a1 q) = opens w _ mark.Callers a1 refl
declaration_opens l b _ _ _ (a_column ts rest ds p) = column_opens l 0 ts rest ds p
declaration_opens l b _ _ _ (one_procedure _ _ _ (a_procedure w n name ps ts bs rest parameters allow body a1 a2 p q r)) = opens w _ mark.Procedure a1 refl
declaration_opens l b _ _ _ (one_view _ _ _ (a_view w n o c name ps ts us rest parameters allow parts a1 a2 p q a3 r a4)) = opens w _ mark.View a1 refl

declaration_given : (s : Bounds) (b : ℕ) (ts us : List Token) (ds : List Declaration) → IsDeclaration (limits s) b ts ds us → clear_at us ≡ true → (n : ℕ) →
    length ts ≤ n → Declared s b n 0 ts us ds
declaration_given s b _ us _ p h zero short = let l = declaration_short (limits s) b _ us _ p in absurd (omega arith)
declaration_given s b _ _ _ (the_callers w ts rest p a1 q) h (suc n) short =
    let l = declaration_short (limits s) b (w ∷ ts) rest _ (the_callers w ts rest p a1 q) in
    one_declared s b n 0 w ts rest mark.Callers _ a1 (omega arith)
    ((outermost_turn s b w ts).0
    ∙ ap (λ r. r >>= (λ p. Ok (Some (declaration.Callers w.line p.0), 0, p.1))) (path_given s ts rest p q (clear_other mark.Dot refl (omega arith) rest h)))
declaration_given s b _ _ _ (a_column ts rest ds p) h (suc n) short = column_given s.end (limits s) b 0 ts rest ds p h (suc n) short
declaration_given s b _ _ _ (one_procedure _ _ _ (a_procedure w n name ps ts bs rest parameters allow body a1 a2 p q r)) h (suc m) short =
    let l = declaration_short (limits s) b (w ∷ n ∷ ps) rest _ (one_procedure _ _ _ (a_procedure w n name ps ts bs rest parameters allow body a1 a2 p q r)) in
    one_declared s b m 0 w (n ∷ ps) rest mark.Procedure _ a1 (omega arith)
    ((outermost_turn s b w (n ∷ ps)).1
    ∙ ap (λ r. r >>= (λ p. Ok (Some (declaration.Procedure p.0), 0, p.1))) (procedure_given s b w n name ps ts bs rest parameters allow body a2 p q r))
declaration_given s b _ _ _ (one_view _ _ _ (a_view w n o c name ps ts us rest parameters allow parts a1 a2 p q a3 r a4)) h (suc m) short =
    let l = declaration_short (limits s) b (w ∷ n ∷ ps) rest _ (one_view _ _ _ (a_view w n o c name ps ts us rest parameters allow parts a1 a2 p q a3 r a4)) in
    one_declared s b m 0 w (n ∷ ps) rest mark.View _ a1 (omega arith)
    ((outermost_turn s b w (n ∷ ps)).2
    ∙ ap (λ r. r >>= (λ v. Ok (Some (declaration.View v.0), 0, v.1))) (view_given s w n o c name ps ts us rest parameters allow parts a2 p q a3 r a4))

declarations_clear : (l : Limits) (b : ℕ) (ts : List Token) (ds : List Declaration) → AreDeclarations l b ts ds → clear_at ts ≡ true
declarations_clear l b _ _ no_declarations = refl
declarations_clear l b _ _ (more_declarations ts us ds es p q) = opens_clear ts (declaration_opens l b ts us ds p)

nothing_read : (s : Bounds) (b n : ℕ) → reading.declarations s b n 0 [] ≡ Ok []
unfolding reading.declarations
nothing_read s b n = refl

pub declarations_given : (s : Bounds) (b : ℕ) (ts : List Token) (ds : List Declaration) → AreDeclarations (limits s) b ts ds → (n : ℕ) → length ts ≤ n →
    reading.declarations s b n 0 ts ≡ Ok ds
declarations_given s b _ _ no_declarations n short = nothing_read s b n
declarations_given s b _ _ (more_declarations ts us ds es p q) n short =
    let a = declaration_given s b ts us ds p (declarations_clear (limits s) b us es q) n short in
    a.is ∙ ap (reading.all_before ds) (declarations_given s b us es q a.turns a.enough)

pub whole_given : (end : ℕ) (ts : List Token) (ds : List Declaration) → AreDeclarations (record { depth = 32; nest = 32 }) 16 ts ds →
    reading.whole_definition end ts ≡ Ok ds
unfolding reading.whole_definition
whole_given end ts ds a = declarations_given (reading.usual end) 16 ts ds a (length ts) (omega arith)
