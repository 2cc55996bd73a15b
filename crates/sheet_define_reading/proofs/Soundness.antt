-- What is read stands at the front of the tokens by the productions.
use Rattle.std.proofs.Common.{◌≡◌, ℕ, ℤ, zero, suc, ◌+◌, ◌-◌, ◌<◌, ◌≤◌, List, [], ◌∷◌, ◌++◌, length, true, false, Some, None, Ok, Err, refl, sym, ap, ◌∙◌}
use Rattle.std.proofs.Common.{subst, arith, append_assoc}
use Rattle.std.specs.Prelude.{Bool, Option, if◌then◌else◌}
use Rattle.sheet_syntax_trees.specs.declared.token.Token.{Token}
use Rattle.sheet_syntax_trees.specs.declared.token.TokenKind.{TokenKind}
use Rattle.sheet_syntax_trees.specs.declared.token.TokenKind.TheVariants as kind
use Rattle.sheet_syntax_trees.specs.declared.token.SyntaxRefusal.TheVariants.{Expected}
use Rattle.sheet_syntax_trees.specs.declared.sign.Sign.TheVariants as sign
use Rattle.sheet_syntax_trees.specs.declared.tree.Tree.{Tree}
use Rattle.sheet_syntax_trees.specs.declared.tree.Formed.{Formed}
use Rattle.sheet_syntax_trees.specs.Signs.{sign_of}
use Rattle.sheet_syntax_trees.specs.Grammar.{Produces, form, expression, postfix, atom, no_step}
use Rattle.sheet_syntax_trees.specs.Reading as trees
use Rattle.sheet_syntax_trees.specs.Reading.{Answer, ◌>>=◌, offset, line_of, or_expected, name_at, formula_at, within, setting, step_of, made}
use Rattle.sheet_syntax_trees.proofs.Answering.{ok_then, expected_ok, made_ok, name_ok as name_told, name_some as trees_name}
use Rattle.sheet_syntax_trees.proofs.Soundness.{Stands, within_sound, atom_sound, step_produced, nonempty}
use Rattle.sheet_define_data.specs.declared.definition.Path.{Path}
use Rattle.sheet_define_data.specs.declared.definition.TypeName.{TypeName}
use Rattle.sheet_define_data.specs.declared.definition.TypeName.TheVariants as type
use Rattle.sheet_define_data.specs.declared.definition.Literal.{Literal}
use Rattle.sheet_define_data.specs.declared.definition.Literal.TheVariants as literal
use Rattle.sheet_define_data.specs.declared.definition.Column.{Column}
use Rattle.sheet_define_data.specs.declared.definition.Content.TheVariants as content
use Rattle.sheet_define_data.specs.declared.definition.Parameter.{Parameter}
use Rattle.sheet_define_data.specs.declared.definition.Procedure.{Procedure}
use Rattle.sheet_define_data.specs.declared.definition.Show.{Show}
use Rattle.sheet_define_data.specs.declared.definition.Part.{Part}
use Rattle.sheet_define_data.specs.declared.definition.Part.TheVariants as part
use Rattle.sheet_define_data.specs.declared.definition.View.{View}
use Rattle.sheet_define_data.specs.declared.definition.Declaration.{Declaration}
use Rattle.sheet_define_data.specs.declared.definition.Declaration.TheVariants as declaration
use Rattle.sheet_define_data.specs.declared.statement.Target.{Target}
use Rattle.sheet_define_data.specs.declared.statement.Statement.{Statement}
use Rattle.sheet_define_data.specs.declared.statement.Statement.TheVariants as statement
use Rattle.sheet_define_data.specs.Grammar.{Limits, IsFormulaOf, IsExpression, Maybe, left_out, stated, Repeated, none, one_more, AreNames, one_name}
use Rattle.sheet_define_data.specs.Grammar.{more_names, IsPath, a_path, IsType, numbers, texts, truths, objects, IsLiteral, a_number, a_negative_number, a_text}
use Rattle.sheet_define_data.specs.Grammar.{a_true, a_false, IsOne, any_count, just_one, IsFirst, a_first, IsDeclared, a_declared, IsAllow, an_allow, IsColumn}
use Rattle.sheet_define_data.specs.Grammar.{an_object_column, a_state_column, a_formula_column, AreColumns, no_columns, more_columns, IsParameter, a_parameter}
use Rattle.sheet_define_data.specs.Grammar.{AreParameters, one_parameter, more_parameters, InParentheses, no_parameters, some_parameters, IsTarget, of_root}
use Rattle.sheet_define_data.specs.Grammar.{of_object, IsStatement, a_let, an_assignment, an_add, a_remove, a_new, a_delete, a_check, a_reply, an_if}
use Rattle.sheet_define_data.specs.Grammar.{an_if_else, a_for, AreStatements, no_statements, more_statements, IsBlock, a_block, IsProcedure, a_procedure}
use Rattle.sheet_define_data.specs.Grammar.{IsShow, a_show, IsPart, one_show, a_table, IsView, a_view, IsDeclaration, the_callers, a_column, one_procedure}
use Rattle.sheet_define_data.specs.Grammar.{one_view, AreDeclarations, no_declarations, more_declarations}
use Rattle.sheet_define_reading.specs.declared.mark.Mark.{Mark}
use Rattle.sheet_define_reading.specs.declared.mark.Mark.TheVariants as mark
use Rattle.sheet_define_reading.specs.Marks.{mark_of, mark_rank, same_mark}
use Rattle.sheet_define_reading.specs.Reading as reading
use Rattle.sheet_define_reading.specs.Reading.{Bounds, Reader, Turn, after, expect, with_front, alone}
use Rattle.sheet_define_reading.proofs.MarkLemmas.{spelling, spelled, same_is}
use Rattle.sheet_define_reading.proofs.Answering.{Sound, given, after_read, after_mark, after_name, after_optional, after_told, front_ok, alone_ok}

-- the limits of the bounds
abbrev pub limits : Bounds → Limits
limits s = record { depth = s.depth; nest = s.nest }

pub formula_sound : (s : Bounds) → 0 < s.depth → Sound (IsExpression (limits s)) (reading.formula s)
unfolding reading.formula formula_at
formula_sound s deep ts y e =
    let (x, ex, e1) = ok_then (formula_at s.depth s.nest s.end ts) (λ x. Ok (x.0.tree, x.1)) y e in
    let r = within_sound s.depth s.end deep (length ts + 1) s.nest ts x ex in
    given (λ (z : Tree × List Token). IsExpression (limits s) ts z.0 z.1) (x.0.tree, x.1) y e1
    (record { front = r.front; depth = x.0.depth; nest = r.nest; split = r.split; produced = r.produced; shallow = r.shallow; narrow = r.narrow })

-- ---- paths, types and first values

names_sound : (end : ℕ) (t : Token) (name : List ℕ) (ts : List Token) (y : List (List ℕ) × List Token) → t.kind ≡ kind.Name name →
    reading.more_names end ts ≡ Ok y → AreNames (t ∷ ts) (name ∷ y.0) y.1
unfolding reading.more_names
names_sound end t name [] y named e = given (λ (z : List (List ℕ) × List Token). AreNames (t ∷ []) (name ∷ z.0) z.1) ([], []) y e (one_name t name [] named)
names_sound end t name (d ∷ []) y named e = by (same_mark (mark_of d.kind) mark.Dot) e where
  by : (b : Bool) → ◌≡◌ {A = Answer (List (List ℕ) × List Token)} (if b then Err (Expected end) else Ok ([], d ∷ [])) (Ok y) →
      AreNames (t ∷ d ∷ []) (name ∷ y.0) y.1
  by true h = let wrong : ⊥ = cc in absurd wrong
  by false h = given (λ (z : List (List ℕ) × List Token). AreNames (t ∷ d ∷ []) (name ∷ z.0) z.1) ([], d ∷ []) y h (one_name t name (d ∷ []) named)
names_sound end t name (d ∷ u ∷ ts) y named e =
    names_by end t name d u ts y named (λ n z is h. names_sound end u n ts z is h) (same_mark (mark_of d.kind) mark.Dot) refl e where
      names_by : (end : ℕ) (t : Token) (name : List ℕ) (d u : Token) (ts : List Token) (y : List (List ℕ) × List Token) → t.kind ≡ kind.Name name
          → ((n : List ℕ) (z : List (List ℕ) × List Token) → u.kind ≡ kind.Name n → reading.more_names end ts ≡ Ok z → AreNames (u ∷ ts) (n ∷ z.0) z.1) →
          (b : Bool) → same_mark (mark_of d.kind) mark.Dot ≡ b
          → ◌≡◌ {A = Answer (List (List ℕ) × List Token)}
          (if b then or_expected u.start (trees.name_of u.kind) >>= (λ n. with_front (n ∷ []) (reading.more_names end ts)) else Ok ([], d ∷ u ∷ ts)) (Ok y)
          → AreNames (t ∷ d ∷ u ∷ ts) (name ∷ y.0) y.1
      names_by end t name d u ts y named again true test h =
          let (n, en, h1) = ok_then (or_expected u.start (trees.name_of u.kind)) (λ n. with_front (n ∷ []) (reading.more_names end ts)) y h in
          let (z, ez, is) = front_ok (n ∷ []) (reading.more_names end ts) y h1 in
          let P : List (List ℕ) × List Token → Type 0 = λ w. AreNames (t ∷ d ∷ u ∷ ts) (name ∷ w.0) w.1 in
          subst P (sym is) (more_names t d name (n ∷ z.0) (u ∷ ts) z.1 named (spelled d.kind mark.Dot (same_is (mark_of d.kind) mark.Dot test) (omega arith))
          (again n z (trees_name u.kind n (expected_ok u.start (trees.name_of u.kind) n en)) ez))
      names_by end t name d u ts y named again false test h =
          given (λ (z : List (List ℕ) × List Token). AreNames (t ∷ d ∷ u ∷ ts) (name ∷ z.0) z.1) ([], d ∷ u ∷ ts) y h (one_name t name (d ∷ u ∷ ts) named)

pub path_sound : (s : Bounds) → Sound IsPath (reading.path s)
unfolding reading.path
path_sound s ts y e =
    let (name, en, e1) =
    ok_then (name_at s.end ts) (λ name. reading.more_names s.end name.1 >>= (λ more. Ok (record { line = line_of ts; names = name.0 ∷ more.0 }, more.1))) y
    e in
    let (more, em, e2) = ok_then (reading.more_names s.end name.1) (λ more. Ok (record { line = line_of ts; names = name.0 ∷ more.0 }, more.1)) y e1 in
    let (t, is, named) = name_told s.end ts name en in
    let P : List Token → Type 0 = λ l. AreNames l (name.0 ∷ more.0) more.1 in
    given (λ (z : Path × List Token). IsPath ts z.0 z.1) (record { line = line_of ts; names = name.0 ∷ more.0 }, more.1) y e2
    (a_path ts more.1 (name.0 ∷ more.0) (subst P (sym is) (names_sound s.end t name.0 name.1 more named em)))

type_by_sound : (s : Bounds) (t : Token) (ts : List Token) (y : TypeName × List Token) (m : Mark) → mark_of t.kind ≡ m → reading.type_by s t ts m ≡ Ok y →
    IsType (t ∷ ts) y.0 y.1
type_by_sound s t ts y mark.Number is e =
    given (λ (z : TypeName × List Token). IsType (t ∷ ts) z.0 z.1) (type.Number, ts) y e (numbers t ts (spelled t.kind mark.Number is (omega arith)))
type_by_sound s t ts y mark.Text is e =
    given (λ (z : TypeName × List Token). IsType (t ∷ ts) z.0 z.1) (type.Text, ts) y e (texts t ts (spelled t.kind mark.Text is (omega arith)))
type_by_sound s t ts y mark.Truth is e =
    given (λ (z : TypeName × List Token). IsType (t ∷ ts) z.0 z.1) (type.Truth, ts) y e (truths t ts (spelled t.kind mark.Truth is (omega arith)))
type_by_sound s t ts y _ is e =
    after_read IsPath (reading.path s) (path_sound s) (t ∷ ts) (λ p. Ok (type.Object p.0, p.1)) y (IsType (t ∷ ts) y.0 y.1) e
    (λ p us h r. given (λ (z : TypeName × List Token). IsType (t ∷ ts) z.0 z.1) (type.Object p, us) y r (objects (t ∷ ts) us p h))

pub type_sound : (s : Bounds) → Sound IsType (reading.type_at s)
unfolding reading.type_at
type_sound s [] y e = let wrong : ⊥ = cc in absurd wrong
type_sound s (t ∷ ts) y e = type_by_sound s t ts y (mark_of t.kind) refl e

truth_by_sound : (t : Token) (ts : List Token) (m : Mark) → mark_of t.kind ≡ m → (v : Literal) → reading.truth_by t.line m ≡ Some v → IsLiteral (t ∷ ts) v ts
truth_by_sound t ts mark.True is v e =
    let same : literal.Truth t.line true ≡ v = cc in
    subst (λ v. IsLiteral (t ∷ ts) v ts) same (a_true t ts (spelled t.kind mark.True is (omega arith)))
truth_by_sound t ts mark.False is v e =
    let same : literal.Truth t.line false ≡ v = cc in
    subst (λ v. IsLiteral (t ∷ ts) v ts) same (a_false t ts (spelled t.kind mark.False is (omega arith)))
truth_by_sound t ts _ is v e = let wrong : ⊥ = cc in absurd wrong

literal_of_sound : (t : Token) (ts : List Token) (k : TokenKind) → t.kind ≡ k → (v : Literal) → reading.literal_of t.line k ≡ Some v → IsLiteral (t ∷ ts) v ts
literal_of_sound t ts (kind.Name name) is v e = let wrong : ⊥ = cc in absurd wrong
literal_of_sound t ts (kind.Reserved word) is v e = truth_by_sound t ts (mark_of (kind.Reserved word)) (ap mark_of is) v e
literal_of_sound t ts (kind.Number n) is v e =
    let same : literal.Number t.line n ≡ v = cc in
    subst (λ v. IsLiteral (t ∷ ts) v ts) same (a_number t n ts is)
literal_of_sound t ts (kind.Text text) is v e =
    let same : literal.Text t.line text ≡ v = cc in
    subst (λ v. IsLiteral (t ∷ ts) v ts) same (a_text t text ts is)
literal_of_sound t ts (kind.Symbol symbol) is v e = let wrong : ⊥ = cc in absurd wrong

number_some : (k : TokenKind) (n : ℤ) → reading.number_of k ≡ Some n → k ≡ kind.Number n
number_some (kind.Name name) n e = let wrong : ⊥ = cc in absurd wrong
number_some (kind.Reserved word) n e = let wrong : ⊥ = cc in absurd wrong
number_some (kind.Number m) n e = cc
number_some (kind.Text text) n e = let wrong : ⊥ = cc in absurd wrong
number_some (kind.Symbol symbol) n e = let wrong : ⊥ = cc in absurd wrong

pub text_some : (k : TokenKind) (text : List ℕ) → reading.text_of k ≡ Some text → k ≡ kind.Text text
text_some (kind.Name name) n e = let wrong : ⊥ = cc in absurd wrong
text_some (kind.Reserved word) n e = let wrong : ⊥ = cc in absurd wrong
text_some (kind.Number m) n e = let wrong : ⊥ = cc in absurd wrong
text_some (kind.Text text) n e = cc
text_some (kind.Symbol symbol) n e = let wrong : ⊥ = cc in absurd wrong

negative_sound : (s : Bounds) (m : Token) → m.kind ≡ spelling mark.Minus → (ts : List Token) (y : Literal × List Token) → reading.negative s m ts ≡ Ok y →
    IsLiteral (m ∷ ts) y.0 y.1
unfolding reading.negative
negative_sound s m is [] y e = let wrong : ⊥ = cc in absurd wrong
negative_sound s m is (t ∷ ts) y e =
    let (n, en, e1) = ok_then (or_expected t.start (reading.number_of t.kind)) (λ n. Ok (literal.Negative m.line n, ts)) y e in
    given (λ (z : Literal × List Token). IsLiteral (m ∷ t ∷ ts) z.0 z.1) (literal.Negative m.line n, ts) y e1
    (a_negative_number m t n ts is (number_some t.kind n (expected_ok t.start (reading.number_of t.kind) n en)))

literal_or_sound : (s : Bounds) (t : Token) (ts : List Token) (y : Literal × List Token) (o : Option Literal) → reading.literal_of t.line t.kind ≡ o →
    reading.literal_or s t ts o ≡ Ok y → IsLiteral (t ∷ ts) y.0 y.1
literal_or_sound s t ts y (Some v) is e = given (λ (z : Literal × List Token). IsLiteral (t ∷ ts) z.0 z.1) (v, ts) y e (literal_of_sound t ts t.kind refl v is)
literal_or_sound s t ts y None is e = by (same_mark (mark_of t.kind) mark.Minus) refl e where
  by : (b : Bool) → same_mark (mark_of t.kind) mark.Minus ≡ b →
      ◌≡◌ {A = Answer (Literal × List Token)} (if b then reading.negative s t ts else Err (Expected t.start)) (Ok y) → IsLiteral (t ∷ ts) y.0 y.1
  by true test h = negative_sound s t (spelled t.kind mark.Minus (same_is (mark_of t.kind) mark.Minus test) (omega arith)) ts y h
  by false test h = let wrong : ⊥ = cc in absurd wrong

pub literal_sound : (s : Bounds) → Sound IsLiteral (reading.literal_at s)
unfolding reading.literal_at
literal_sound s [] y e = let wrong : ⊥ = cc in absurd wrong
literal_sound s (t ∷ ts) y e = literal_or_sound s t ts y (reading.literal_of t.line t.kind) refl e

-- ---- columns

pub an_object : (s : Bounds) (l : Limits) (depth : ℕ) (w : Token) → w.kind ≡ spelling mark.Object → (ts : List Token) (y : Column × List Token) →
    reading.object_column s depth w ts ≡ Ok y
    → (ds : List Declaration) (c : Token) (us : List Token) → AreColumns l (suc depth) y.1 ds (c ∷ us) → c.kind ≡ spelling mark.CloseBrace →
    IsColumn l depth (w ∷ ts) (declaration.Column y.0 ∷ ds) us
unfolding reading.object_column
an_object s l depth w is ts y e ds c us columns isc =
    after_name s.end ts _ y (λ (k : List Token). IsColumn l depth (w ∷ k) (declaration.Column y.0 ∷ ds) us) e (λ n name xs named e1.
    after_mark mark.OpenBrace s.end xs _ y (λ (k : List Token). IsColumn l depth (w ∷ n ∷ k) (declaration.Column y.0 ∷ ds) us) (omega arith) e1 (λ o bs iso e2.
    let same : (record { depth = depth; line = w.line; name = name; content = content.Object }, bs) ≡ y = cc in
    let P : Column × List Token → Type 0 = λ z. AreColumns l (suc depth) z.1 ds (c ∷ us) → IsColumn l depth (w ∷ n ∷ o ∷ bs) (declaration.Column z.0 ∷ ds) us in
    subst P same (λ cs. an_object_column depth w n o c name bs us ds is named iso cs isc) columns))

one_sound : (ts : List Token) (o : Option (List Token)) → after mark.One ts ≡ o → IsOne ts (reading.one_or ts o).0 (reading.one_or ts o).1
one_sound ts None e = any_count ts
one_sound [] (Some rest) e = let wrong : ⊥ = cc in absurd wrong
one_sound (t ∷ ts) (Some rest) e = by (same_mark (mark_of t.kind) mark.One) refl e where
  by : (b : Bool) → same_mark (mark_of t.kind) mark.One ≡ b → (if b then Some ts else None) ≡ Some rest → IsOne (t ∷ ts) true rest
  by true test h =
      let same : ts ≡ rest = cc in
      subst (λ k. IsOne (t ∷ ts) true k) same (just_one t ts (spelled t.kind mark.One (same_is (mark_of t.kind) mark.One test) (omega arith)))
  by false test h = let wrong : ⊥ = cc in absurd wrong

pub state_sound : (s : Bounds) (l : Limits) (depth : ℕ) (w : Token) → w.kind ≡ spelling mark.State → (ts : List Token) (y : Column × List Token) →
    reading.state_column s depth w ts ≡ Ok y
    → IsColumn l depth (w ∷ ts) (declaration.Column y.0 ∷ []) y.1
unfolding reading.state_column
state_sound s l depth w is ts y e =
    after_name s.end ts _ y (λ (k : List Token). IsColumn l depth (w ∷ k) (declaration.Column y.0 ∷ []) y.1) e (λ n name xs named e1.
    after_mark mark.Colon s.end xs _ y (λ (k : List Token). IsColumn l depth (w ∷ n ∷ k) (declaration.Column y.0 ∷ []) y.1) (omega arith) e1 (λ c bs isc e2.
    after_read IsType (reading.type_at s) (type_sound s) bs _ y (IsColumn l depth (w ∷ n ∷ c ∷ bs) (declaration.Column y.0 ∷ []) y.1) e2 (λ t us typed e3.
    let one = reading.one_or us (after mark.One us) in
    let ones = one_sound us (after mark.One us) refl in
    let P : Column × List Token → Type 0 = λ z. IsColumn l depth (w ∷ n ∷ c ∷ bs) (declaration.Column z.0 ∷ []) z.1 in
    after_optional IsLiteral (reading.literal_at s) (literal_sound s) mark.Equals (omega arith) one.1 _ y (P y) e3
    (λ e4. given P (record { depth = depth; line = w.line; name = name; content = content.State t one.0 None }, one.1) y e4
    (a_state_column depth w n c name bs us one.1 one.1 t one.0 None is named isc typed ones (left_out one.1)))
    (λ q vs v rest same isq first e4.
    given P (record { depth = depth; line = w.line; name = name; content = content.State t one.0 (Some v) }, rest) y e4
    (a_state_column depth w n c name bs us one.1 rest t one.0 (Some v) is named isc typed ones
    (stated one.1 rest v (subst (λ k. IsFirst k v rest) (sym same) (a_first q vs rest v isq first))))))))

pub formula_column_sound : (s : Bounds) → 0 < s.depth → (depth : ℕ) (w : Token) → w.kind ≡ spelling mark.Formula → (ts : List Token) (y : Column × List Token) →
    reading.formula_column s depth w ts ≡ Ok y
    → IsColumn (limits s) depth (w ∷ ts) (declaration.Column y.0 ∷ []) y.1
unfolding reading.formula_column
formula_column_sound s deep depth w is ts y e =
    after_name s.end ts _ y (λ (k : List Token). IsColumn (limits s) depth (w ∷ k) (declaration.Column y.0 ∷ []) y.1) e (λ n name xs named e1.
    after_optional IsType (reading.type_at s) (type_sound s) mark.Colon (omega arith) xs _ y
    (IsColumn (limits s) depth (w ∷ n ∷ xs) (declaration.Column y.0 ∷ []) y.1) e1
    (λ e2.
    after_mark mark.Equals s.end xs _ y (λ (k : List Token). IsColumn (limits s) depth (w ∷ n ∷ k) (declaration.Column y.0 ∷ []) y.1) (omega arith) e2
    (λ q us isq e3.
    after_read (IsExpression (limits s)) (reading.formula s) (formula_sound s deep) us _ y
    (IsColumn (limits s) depth (w ∷ n ∷ q ∷ us) (declaration.Column y.0 ∷ []) y.1) e3 (λ f rest read e4.
    given (λ (z : Column × List Token). IsColumn (limits s) depth (w ∷ n ∷ q ∷ us) (declaration.Column z.0 ∷ []) z.1)
    (record { depth = depth; line = w.line; name = name; content = content.Formula None f }, rest) y e4
    (a_formula_column depth w n q name (q ∷ us) us rest None f is named (left_out (q ∷ us)) isq read))))
    (λ c bs t us same isc typed e2.
    after_mark mark.Equals s.end us _ y (λ (k : List Token). us ≡ k → IsColumn (limits s) depth (w ∷ n ∷ xs) (declaration.Column y.0 ∷ []) y.1) (omega arith) e2
    (λ q vs isq e3 split.
    after_read (IsExpression (limits s)) (reading.formula s) (formula_sound s deep) vs _ y
    (IsColumn (limits s) depth (w ∷ n ∷ xs) (declaration.Column y.0 ∷ []) y.1) e3 (λ f rest read e4.
    given (λ (z : Column × List Token). IsColumn (limits s) depth (w ∷ n ∷ xs) (declaration.Column z.0 ∷ []) z.1)
    (record { depth = depth; line = w.line; name = name; content = content.Formula (Some t) f }, rest) y e4
    (a_formula_column depth w n q name xs vs rest (Some t) f is named
    (stated xs (q ∷ vs) t (subst (λ k. IsDeclared k t (q ∷ vs)) (sym same) (a_declared c bs (q ∷ vs) t isc (subst (λ k. IsType bs t k) split typed)))) isq
    read))) refl))

-- ---- parameters

pub parameter_sound : (s : Bounds) → Sound IsParameter (reading.parameter s)
unfolding reading.parameter
parameter_sound s ts y e =
    after_name s.end ts _ y (λ (k : List Token). ts ≡ k → IsParameter k y.0 y.1) e (λ n name xs named e1 whole.
    after_mark mark.Colon s.end xs _ y (λ (k : List Token). IsParameter (n ∷ k) y.0 y.1) (omega arith) e1 (λ c bs isc e2.
    after_read IsType (reading.type_at s) (type_sound s) bs _ y (IsParameter (n ∷ c ∷ bs) y.0 y.1) e2 (λ t us typed e3.
    let first : line_of ts ≡ n.line = ap line_of whole in
    given (λ (z : Parameter × List Token). IsParameter (n ∷ c ∷ bs) z.0 z.1) (record { line = line_of ts; name = name; values = t }, us) y e3
    (subst (λ (line : ℕ). IsParameter (n ∷ c ∷ bs) (record { line = line; name = name; values = t }) us) (sym first)
    (a_parameter n c name bs us t named isc typed))))) refl

-- parameters up to a closing parenthesis, at most so many
record Closes (ts : List Token) (ps : List Parameter) (us : List Token) (room : ℕ) : Type 0 where
  close : Token
  are : AreParameters ts ps (close ∷ us)
  closes : close.kind ≡ spelling mark.Close
  few : length ps ≤ suc room

closed_sound : (s : Bounds) (room : ℕ) (p : Parameter) (ts xs : List Token) → IsParameter ts p xs → (y : List Parameter × List Token) →
    reading.closed s xs ≡ Ok y → Closes ts (p ∷ y.0) y.1 room
closed_sound s room p ts xs is y e =
    after_mark mark.Close s.end xs (λ rest. Ok ([], rest)) y (λ (k : List Token). IsParameter ts p k → Closes ts (p ∷ y.0) y.1 room) (omega arith) e
    (λ c us isc e1 here. given (λ (z : List Parameter × List Token). Closes ts (p ∷ z.0) z.1 room) ([], us) y e1
    (record { close = c; are = one_parameter ts (c ∷ us) p here; closes = isc; few = omega arith })) is

more_sound : (s : Bounds) (room : ℕ) (p : Parameter) (ts xs : List Token) → IsParameter ts p xs → (y : List Parameter × List Token) →
    reading.more_parameters s room xs ≡ Ok y → Closes ts (p ∷ y.0) y.1 room
unfolding reading.more_parameters
more_sound s zero p ts xs is y e = closed_sound s zero p ts xs is y e
more_sound s (suc room) p ts xs is y e =
    more_by_sound s room p ts xs is y (after mark.Comma xs) refl (λ rest. reading.more_parameters s room rest)
    (λ q us vs here z h. more_sound s room q us vs here z h) e where
      more_by_sound : (s : Bounds) (room : ℕ) (p : Parameter) (ts xs : List Token) → IsParameter ts p xs → (y : List Parameter × List Token) →
          (o : Option (List Token)) → after mark.Comma xs ≡ o → (more : Reader (List Parameter))
          → ((q : Parameter) (us vs : List Token) → IsParameter us q vs → (z : List Parameter × List Token) →
          ◌≡◌ {A = Answer (List Parameter × List Token)} (more vs) (Ok z) → Closes us (q ∷ z.0) z.1 room)
          → reading.more_by s xs o more ≡ Ok y → Closes ts (p ∷ y.0) y.1 (suc room)
      more_by_sound s room p ts xs is y None missing more again h = closed_sound s (suc room) p ts xs is y h
      more_by_sound s room p ts xs is y (Some rest) some more again h =
          let (k, split, isk) = after_told mark.Comma (omega arith) xs rest some in
          after_read IsParameter (reading.parameter s) (parameter_sound s) rest (λ q. with_front (q.0 ∷ []) (more q.1)) y (Closes ts (p ∷ y.0) y.1 (suc room)) h
          (λ q vs here h1.
          let (z, ez, same) = front_ok (q ∷ []) (more vs) y h1 in
          let r = again q rest vs here z ez in
          let P : List Parameter × List Token → Type 0 = λ w. Closes ts (p ∷ w.0) w.1 (suc room) in
          subst P (sym same) (record {
            close = r.close;
            are = more_parameters ts rest (r.close ∷ z.1) k p (q ∷ z.0) (subst (λ l. IsParameter ts p l) split is) isk r.are;
            closes = r.closes;
            few = (let f = r.few in omega arith);
          }))

pub parameters_sound : (s : Bounds) → Sound InParentheses (reading.parameters s)
unfolding reading.parameters
parameters_sound s ts y e =
    after_mark mark.Open s.end ts _ y (λ (k : List Token). InParentheses k y.0 y.1) (omega arith) e
    (λ o xs iso e1. by o iso xs (after mark.Close xs) refl e1) where
      by : (o : Token) → o.kind ≡ spelling mark.Open → (xs : List Token) (c : Option (List Token)) → after mark.Close xs ≡ c →
          reading.parameters_or s xs c ≡ Ok y → InParentheses (o ∷ xs) y.0 y.1
      by o iso xs (Some rest) some h =
          let (c, split, isc) = after_told mark.Close (omega arith) xs rest some in
          given (λ (z : List Parameter × List Token). InParentheses (o ∷ xs) z.0 z.1) ([], rest) y h
          (subst (λ l. InParentheses (o ∷ l) [] rest) (sym split) (no_parameters o c rest iso isc))
      by o iso xs None missing h =
          after_read IsParameter (reading.parameter s) (parameter_sound s) xs (λ q. with_front (q.0 ∷ []) (reading.more_parameters s 15 q.1)) y
          (InParentheses (o ∷ xs) y.0 y.1) h (λ q vs here h1.
          let (z, ez, same) = front_ok (q ∷ []) (reading.more_parameters s 15 vs) y h1 in
          let r = more_sound s 15 q xs vs here z ez in
          let P : List Parameter × List Token → Type 0 = λ w. InParentheses (o ∷ xs) w.0 w.1 in
          subst P (sym same) (some_parameters o r.close xs z.1 (q ∷ z.0) iso r.are r.few r.closes))

-- ---- targets

last_sound : (s : Bounds) (n at : ℕ) (h : Token) (hs : List Token) (f : Formed) (nest : ℕ) → Produces postfix (h ∷ hs) (form f.tree f.depth nest) →
    f.depth ≤ s.depth → nest ≤ s.nest → (ts : List Token) (y : Target × List Token)
    → reading.last_step s n at h.line f ts ≡ Ok y → IsTarget (limits s) (h ∷ (hs ++ ts)) y.0 y.1
unfolding reading.last_step
last_sound s zero at h hs f nest p deep narrow ts y e = let wrong : ⊥ = cc in absurd wrong
last_sound s (suc n) at h hs f nest p deep narrow ts y e =
    after_mark mark.Dot s.end ts _ y (λ (k : List Token). IsTarget (limits s) (h ∷ (hs ++ k)) y.0 y.1) (omega arith) e
    (λ d xs isd e1. step_sound s at h hs f nest p deep narrow d xs isd y (λ g rest. reading.last_step s n at h.line g rest)
    (λ us g q fits vs z r. last_sound s n at h us g nest q fits narrow vs z r) (alone xs) refl e1) where
      step_sound : (s : Bounds) (at : ℕ) (h : Token) (hs : List Token) (f : Formed) (nest : ℕ) → Produces postfix (h ∷ hs) (form f.tree f.depth nest) →
          f.depth ≤ s.depth → nest ≤ s.nest → (d : Token) (xs : List Token) → d.kind ≡ spelling mark.Dot
          → (y : Target × List Token) (more : Formed → Reader Target)
          → ((us : List Token) (g : Formed) → Produces postfix (h ∷ us) (form g.tree g.depth nest) → g.depth ≤ s.depth →
          (vs : List Token) (z : Target × List Token) → ◌≡◌ {A = Answer (Target × List Token)} (more g vs) (Ok z)
          → IsTarget (limits s) (h ∷ (us ++ vs)) z.0 z.1)
          → (o : Option (List ℕ × List Token)) → alone xs ≡ o → reading.step_by s at h.line f xs o more ≡ Ok y →
          IsTarget (limits s) (h ∷ (hs ++ d ∷ xs)) y.0 y.1
      step_sound s at h hs f nest p deep narrow d xs isd y more again (Some x) some r =
          let (t, split, named) = alone_ok xs x some in
          given (λ (z : Target × List Token). IsTarget (limits s) (h ∷ (hs ++ d ∷ xs)) z.0 z.1) (
            record { line = h.line; object = Some f.tree; column = x.0 },
            x.1,
          ) y r
          (of_object d t x.0 (h ∷ (hs ++ d ∷ xs)) x.1 f.tree
          (record { front = h ∷ hs; depth = f.depth; nest = nest; split = ap (λ l. h ∷ (hs ++ d ∷ l)) split; produced = p; shallow = deep; narrow = narrow })
          isd named)
      step_sound s at h hs f nest p deep narrow d [] isd y more again None missing r = let wrong : ⊥ = cc in absurd wrong
      step_sound s at h hs f nest p deep narrow d (t ∷ ts) isd y more again None missing r =
          let (e, ee, r1) = ok_then (or_expected t.start (step_of h.line f.tree t.kind)) (λ form. made s.depth at form f.depth >>= (λ g. more g ts)) y r in
          let (g, eg, r2) = ok_then (made s.depth at e f.depth) (λ g. more g ts) y r1 in
          let (fits, is) = made_ok s.depth at e f.depth g eg in
          let dot : sign_of d.kind ≡ sign.Dot = ap sign_of isd in
          let q = step_produced h d t hs f nest e p dot (expected_ok t.start (step_of h.line f.tree t.kind) e ee) in
          let Q : Formed → Type 0 = λ z. Produces postfix (h ∷ (hs ++ d ∷ t ∷ [])) (form z.tree z.depth nest) in
          let D : Formed → Type 0 = λ z. z.depth ≤ s.depth in
          let S : List Token → Type 0 = λ l. IsTarget (limits s) (h ∷ l) y.0 y.1 in
          subst S (append_assoc hs (d ∷ t ∷ []) ts) (again (hs ++ d ∷ t ∷ []) g (subst Q (sym is) q) (subst D (sym is) (omega arith)) ts y r2)

pub target_sound : (s : Bounds) → 0 < s.depth → Sound (IsTarget (limits s)) (reading.target s)
unfolding reading.target
target_sound s deep ts y e = by (alone ts) refl e where
  by : (o : Option (List ℕ × List Token)) → alone ts ≡ o → reading.target_by s ts o ≡ Ok y → IsTarget (limits s) ts y.0 y.1
  by (Some x) some h =
      let (t, split, named) = alone_ok ts x some in
      let P : Target × List Token → Type 0 = λ z. IsTarget (limits s) ts z.0 z.1 in
      let Q : List Token → Type 0 = λ l. IsTarget (limits s) l (record { line = line_of l; object = None; column = x.0 }) x.1 in
      given P (record { line = line_of ts; object = None; column = x.0 }, x.1) y h (subst Q (sym split) (of_root t x.0 x.1 named))
  by None missing h =
      let (x, ex, h1) =
      ok_then (trees.atom (setting s.depth s.end (length ts + 1) s.nest) ts) (λ x. reading.last_step s (length x.1) (offset s.end ts) (line_of ts) x.0 x.1)
      y h in
      let r = atom_sound (setting s.depth s.end (length ts + 1) s.nest) deep (within_sound s.depth s.end deep (length ts + 1) (s.nest - 1)) ts x ex in
      let b = nonempty atom r.front (form x.0.tree x.0.depth r.nest) r.produced in
      let whole : ts ≡ b.first ∷ (b.others ++ x.1) = r.split ∙ ap (λ l. l ++ x.1) b.is in
      let P : List Token → Type 0 = λ l. Produces postfix l (form x.0.tree x.0.depth r.nest) in
      let S : List Token → Type 0 = λ l. IsTarget (limits s) l y.0 y.1 in
      let E : ℕ → Type 0 = λ line. reading.last_step s (length x.1) (offset s.end ts) line x.0 x.1 ≡ Ok y in
      subst S (sym whole)
      (last_sound s (length x.1) (offset s.end ts) b.first b.others x.0 r.nest (subst P b.is (no_step r.front (form x.0.tree x.0.depth r.nest) r.produced))
      r.shallow r.narrow x.1 y (subst E (ap line_of whole) h1))
