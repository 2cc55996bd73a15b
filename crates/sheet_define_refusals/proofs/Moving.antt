-- What stands at the front of tokens by the productions stands there before any others, within any greater limits.
use Rattle.std.proofs.Common.{◌≡◌, ℕ, zero, suc, ◌≤◌, max, List, [], ◌∷◌, ◌++◌, length, true, false, Some, None, refl, sym, ap, ◌∙◌, subst, arith, append_assoc}
use Rattle.std.specs.Prelude.{Bool, Option}
use Rattle.sheet_syntax_trees.specs.declared.token.Token.{Token}
use Rattle.sheet_syntax_trees.specs.declared.tree.Tree.{Tree}
use Rattle.sheet_syntax_trees.specs.Grammar.{expression, postfix}
use Rattle.sheet_syntax_trees.specs.Reading.{line_of}
use Rattle.sheet_define_data.specs.declared.definition.Path.{Path}
use Rattle.sheet_define_data.specs.declared.definition.TypeName.{TypeName}
use Rattle.sheet_define_data.specs.declared.definition.TypeName.TheVariants as type
use Rattle.sheet_define_data.specs.declared.definition.Literal.{Literal}
use Rattle.sheet_define_data.specs.declared.definition.Parameter.{Parameter}
use Rattle.sheet_define_data.specs.declared.definition.Procedure.{Procedure}
use Rattle.sheet_define_data.specs.declared.definition.Show.{Show}
use Rattle.sheet_define_data.specs.declared.definition.Part.{Part}
use Rattle.sheet_define_data.specs.declared.definition.Part.TheVariants as part
use Rattle.sheet_define_data.specs.declared.definition.View.{View}
use Rattle.sheet_define_data.specs.declared.definition.Declaration.{Declaration}
use Rattle.sheet_define_data.specs.declared.statement.Target.{Target}
use Rattle.sheet_define_data.specs.declared.statement.Statement.{Statement}
use Rattle.sheet_syntax_trees.specs.Grammar.{Nonterminal}
use Rattle.sheet_define_data.specs.Grammar.{IsSymbol, Limits, IsFormulaOf, Maybe, left_out, stated, Repeated, none, one_more, AreNames, one_name, more_names}
use Rattle.sheet_define_data.specs.Grammar.{IsPath, a_path, IsType, numbers, texts, truths, objects, IsLiteral, a_number, a_negative_number, a_text, a_true}
use Rattle.sheet_define_data.specs.Grammar.{a_false, IsOne, any_count, just_one, IsFirst, a_first, IsDeclared, a_declared, IsAllow, an_allow, IsColumn}
use Rattle.sheet_define_data.specs.Grammar.{IsParameter, a_parameter, AreParameters, one_parameter, more_parameters, InParentheses, no_parameters}
use Rattle.sheet_define_data.specs.Grammar.{some_parameters, IsTarget, of_root, of_object, IsStatement, a_let, an_assignment, an_add, a_remove, a_new, a_delete}
use Rattle.sheet_define_data.specs.Grammar.{a_check, a_reply, an_if, an_if_else, a_for, AreStatements, no_statements, more_statements, IsBlock, a_block}
use Rattle.sheet_define_data.specs.Grammar.{IsProcedure, a_procedure, IsShow, a_show, IsPart, one_show, a_table, IsView, a_view}

-- limits that are all one number
abbrev pub lim : ℕ → Limits
lim m = record { depth = m; nest = m }

-- it stands before any others, within all limits from these on
pub record Moved (P : ℕ → List Token → List Token → Type 0) (ts us : List Token) : Type 0 where
  pub front : List Token
  pub split : ts ≡ front ++ us
  pub least : ℕ
  pub again : (m : ℕ) → least ≤ m → (vs : List Token) → P m (front ++ vs) vs

-- tokens, and then it
pub moved_front : (P Q : ℕ → List Token → List Token → Type 0) (k ts us : List Token) → Moved Q ts us →
    ((m : ℕ) (xs ws : List Token) → Q m xs ws → P m (k ++ xs) ws) → Moved P (k ++ ts) us
moved_front P Q k ts us q h =
    record {
      front = k ++ q.front;
      split = ap (λ l. k ++ l) q.split ∙ sym (append_assoc k q.front us);
      least = q.least;
      again = λ m some vs. subst (λ l. P m l vs) (sym (append_assoc k q.front vs)) (h m (q.front ++ vs) vs (q.again m some vs));
    }

-- one, tokens, and another
pub moved_join : (P Q R : ℕ → List Token → List Token → Type 0) (k ts mid us : List Token) → Moved Q ts (k ++ mid) → Moved R mid us →
    ((m : ℕ) (xs vs ws : List Token) → Q m xs (k ++ vs) → R m vs ws → P m xs ws) → Moved P ts us
moved_join P Q R k ts mid us q r h =
    record {
      front = q.front ++ (k ++ r.front);
      split = q.split ∙ ap (λ l. q.front ++ (k ++ l)) r.split ∙ ap (λ l. q.front ++ l) (sym (append_assoc k r.front us))
          ∙ sym (append_assoc q.front (k ++ r.front) us);
      least = max q.least r.least;
      again = λ m some vs.
          subst (λ l. P m l vs) (ap (λ l. q.front ++ l) (sym (append_assoc k r.front vs)) ∙ sym (append_assoc q.front (k ++ r.front) vs))
          (h m (q.front ++ (k ++ (r.front ++ vs))) (r.front ++ vs) vs (q.again m (omega (arith, some)) (k ++ (r.front ++ vs)))
          (r.again m (omega (arith, some)) vs));
    }

-- the same in other words
pub moved_as : (P Q : ℕ → List Token → List Token → Type 0) (ts us : List Token) → Moved Q ts us → ((m : ℕ) (xs ws : List Token) → Q m xs ws → P m xs ws) →
    Moved P ts us
moved_as P Q ts us q h = record { front = q.front; split = q.split; least = q.least; again = λ m some vs. h m (q.front ++ vs) vs (q.again m some vs) }

-- tokens alone
pub moved_tokens : (P : ℕ → List Token → List Token → Type 0) (k us : List Token) → ((m : ℕ) (vs : List Token) → P m (k ++ vs) vs) → Moved P (k ++ us) us
moved_tokens P k us h = record { front = k; split = refl; least = 0; again = λ m some vs. h m vs }

-- ---- formulas, paths and types

-- each holds within all limits from so many on
abbrev pub FormOf : Nonterminal → ℕ → List Token → List Token → Type 0
FormOf n m ts us = (l : ℕ) → m ≤ l → (e : Tree) × IsFormulaOf (lim l) n ts e us

abbrev pub Expr : ℕ → List Token → List Token → Type 0
Expr = FormOf expression

pub form_moved : (l : Limits) (n : Nonterminal) (ts us : List Token) (e : Tree) → IsFormulaOf l n ts e us → Moved (FormOf n) ts us
form_moved l n ts us e f =
    record {
      front = f.front;
      split = f.split;
      least = max f.depth f.nest;
      again = λ m some vs k more. (
        e,
        record {
          front = f.front;
          depth = f.depth;
          nest = f.nest;
          split = refl;
          produced = f.produced;
          shallow = omega (arith, some, more);
          narrow = omega (arith, some, more);
        },
      );
    }

abbrev pub Names : ℕ → List Token → List Token → Type 0
Names m ts us = (names : List (List ℕ)) × AreNames ts names us

names_moved : (ts us : List Token) (names : List (List ℕ)) → AreNames ts names us → Moved Names ts us
names_moved _ _ _ (one_name t name ts named) = moved_tokens Names (t ∷ []) ts (λ m vs. (name ∷ [], one_name t name vs named))
names_moved _ _ _ (more_names t d name names ts us named dotted more) =
    moved_front Names Names (t ∷ d ∷ []) ts us (names_moved ts us names more) (λ m xs ws q. (name ∷ q.0, more_names t d name q.0 xs ws named dotted q.1))

abbrev pub APath : ℕ → List Token → List Token → Type 0
APath m ts us = (p : Path) × IsPath ts p us

pub path_moved : (ts us : List Token) (p : Path) → IsPath ts p us → Moved APath ts us
path_moved _ _ _ (a_path ts us names are) =
    moved_as APath Names ts us (names_moved ts us names are) (λ m xs ws q. (record { line = line_of xs; names = q.0 }, a_path xs ws q.0 q.1))

abbrev pub AType : ℕ → List Token → List Token → Type 0
AType m ts us = (t : TypeName) × IsType ts t us

pub type_moved : (ts us : List Token) (t : TypeName) → IsType ts t us → Moved AType ts us
type_moved _ _ _ (numbers t ts is) = moved_tokens AType (t ∷ []) ts (λ m vs. (type.Number, numbers t vs is))
type_moved _ _ _ (texts t ts is) = moved_tokens AType (t ∷ []) ts (λ m vs. (type.Text, texts t vs is))
type_moved _ _ _ (truths t ts is) = moved_tokens AType (t ∷ []) ts (λ m vs. (type.Truth, truths t vs is))
type_moved _ _ _ (objects ts us p is) = moved_as AType APath ts us (path_moved ts us p is) (λ m xs ws q. (type.Object q.0, objects xs ws q.0 q.1))

abbrev pub ALiteral : ℕ → List Token → List Token → Type 0
ALiteral m ts us = (v : Literal) × IsLiteral ts v us

pub literal_moved : (ts us : List Token) (v : Literal) → IsLiteral ts v us → Moved ALiteral ts us
literal_moved _ _ _ (a_number t n ts is) = moved_tokens ALiteral (t ∷ []) ts (λ m vs. (_, a_number t n vs is))
literal_moved _ _ _ (a_negative_number m t n ts ism is) = moved_tokens ALiteral (m ∷ t ∷ []) ts (λ k vs. (_, a_negative_number m t n vs ism is))
literal_moved _ _ _ (a_text t text ts is) = moved_tokens ALiteral (t ∷ []) ts (λ m vs. (_, a_text t text vs is))
literal_moved _ _ _ (a_true t ts is) = moved_tokens ALiteral (t ∷ []) ts (λ m vs. (_, a_true t vs is))
literal_moved _ _ _ (a_false t ts is) = moved_tokens ALiteral (t ∷ []) ts (λ m vs. (_, a_false t vs is))

abbrev pub AOne : ℕ → List Token → List Token → Type 0
AOne m ts us = (one : Bool) × IsOne ts one us

one_moved : (ts us : List Token) (one : Bool) → IsOne ts one us → Moved AOne ts us
one_moved _ _ _ (any_count ts) = moved_tokens AOne [] ts (λ m vs. (false, any_count vs))
one_moved _ _ _ (just_one t ts is) = moved_tokens AOne (t ∷ []) ts (λ m vs. (true, just_one t vs is))

abbrev pub AFirst : ℕ → List Token → List Token → Type 0
AFirst m ts us = (v : Option Literal) × Maybe IsFirst ts v us

first_moved : (ts us : List Token) (v : Option Literal) → Maybe IsFirst ts v us → Moved AFirst ts us
first_moved _ _ _ (left_out ts) = moved_tokens AFirst [] ts (λ m vs. (None, left_out vs))
first_moved _ _ _ (stated _ _ _ (a_first e ts us v is lit)) =
    moved_front AFirst ALiteral (e ∷ []) ts us (literal_moved ts us v lit) (λ m xs ws q. (Some q.0, stated (e ∷ xs) ws q.0 (a_first e xs ws q.0 is q.1)))

abbrev pub ADeclared : ℕ → List Token → List Token → Type 0
ADeclared m ts us = (t : Option TypeName) × Maybe IsDeclared ts t us

pub declared_moved : (ts us : List Token) (t : Option TypeName) → Maybe IsDeclared ts t us → Moved ADeclared ts us
declared_moved _ _ _ (left_out ts) = moved_tokens ADeclared [] ts (λ m vs. (None, left_out vs))
declared_moved _ _ _ (stated _ _ _ (a_declared k ts us t is typed)) =
    moved_front ADeclared AType (k ∷ []) ts us (type_moved ts us t typed) (λ m xs ws q. (Some q.0, stated (k ∷ xs) ws q.0 (a_declared k xs ws q.0 is q.1)))

abbrev pub Allowed : ℕ → List Token → List Token → Type 0
Allowed m ts us = (l : ℕ) → m ≤ l → (e : Option Tree) × Maybe (IsAllow (lim l)) ts e us

pub allow_moved : (l : Limits) (ts us : List Token) (e : Option Tree) → Maybe (IsAllow l) ts e us → Moved Allowed ts us
allow_moved l _ _ _ (left_out ts) = moved_tokens Allowed [] ts (λ m vs l h. (None, left_out vs))
allow_moved l _ _ _ (stated _ _ _ (an_allow w ts us e is read)) =
    moved_front Allowed Expr (w ∷ []) ts us (form_moved l expression ts us e read) (λ m xs ws q k h. let (v, f) = q k h in
    (Some v, stated (w ∷ xs) ws v (an_allow w xs ws v is f)))

-- ---- parameters and targets

abbrev pub AParameter : ℕ → List Token → List Token → Type 0
AParameter m ts us = (p : Parameter) × IsParameter ts p us

pub parameter_moved : (ts us : List Token) (p : Parameter) → IsParameter ts p us → Moved AParameter ts us
parameter_moved _ _ _ (a_parameter n k name ts us t named isk typed) =
    moved_front AParameter AType (n ∷ k ∷ []) ts us (type_moved ts us t typed)
    (λ m xs ws q. (record { line = n.line; name = name; values = q.0 }, a_parameter n k name xs ws q.0 named isk q.1))

-- so many parameters
abbrev pub Listed : ℕ → ℕ → List Token → List Token → Type 0
Listed count m ts us = (ps : List Parameter) × AreParameters ts ps us × (length ps ≡ count)

listed_moved : (ts us : List Token) (ps : List Parameter) → AreParameters ts ps us → Moved (Listed (length ps)) ts us
listed_moved _ _ _ (one_parameter ts us p is) =
    moved_as (Listed 1) AParameter ts us (parameter_moved ts us p is) (λ m xs ws q. (q.0 ∷ [], one_parameter xs ws q.0 q.1, refl))
listed_moved _ _ _ (more_parameters ts us rest k p ps is isk more) =
    moved_join (Listed (length (p ∷ ps))) AParameter (Listed (length ps)) (k ∷ []) ts us rest (parameter_moved ts (k ∷ us) p is) (listed_moved us rest ps more)
    (λ m xs vs ws q r. (q.0 ∷ r.0, more_parameters xs vs ws k q.0 r.0 q.1 isk r.1, (let c = r.2 in omega (arith, c))))

abbrev pub Params : ℕ → List Token → List Token → Type 0
Params m ts us = (ps : List Parameter) × InParentheses ts ps us

pub parameters_moved : (ts us : List Token) (ps : List Parameter) → InParentheses ts ps us → Moved Params ts us
parameters_moved _ _ _ (no_parameters o c ts iso isc) = moved_tokens Params (o ∷ c ∷ []) ts (λ m vs. ([], no_parameters o c vs iso isc))
parameters_moved _ _ _ (some_parameters o c ts us ps iso are few isc) =
    moved_front Params (λ m xs ws. Listed (length ps) m xs (c ∷ ws)) (o ∷ []) ts us
    (moved_join (λ m xs ws. Listed (length ps) m xs (c ∷ ws)) (Listed (length ps)) (λ m xs ws. xs ≡ ws) (c ∷ []) ts us us (listed_moved ts (c ∷ us) ps are)
    (moved_tokens (λ m xs ws. xs ≡ ws) [] us (λ m vs. refl))
    (λ m xs vs ws q r. subst (λ l. Listed (length ps) m xs (c ∷ l)) r q))
    (λ m xs ws q. (q.0, some_parameters o c xs ws q.0 iso q.1 (let n = q.2 in omega (arith, n, few)) isc))

abbrev pub Aim : ℕ → List Token → List Token → Type 0
Aim m ts us = (l : ℕ) → m ≤ l → (t : Target) × IsTarget (lim l) ts t us

-- what ends with tokens
abbrev pub Before : List Token → (ℕ → List Token → List Token → Type 0) → ℕ → List Token → List Token → Type 0
Before k Q m xs ws = Q m xs (k ++ ws)

pub moved_before : (Q : ℕ → List Token → List Token → Type 0) (k ts us : List Token) → Moved Q ts (k ++ us) → Moved (Before k Q) ts us
moved_before Q k ts us q =
    record {
      front = q.front ++ k;
      split = q.split ∙ sym (append_assoc q.front k us);
      least = q.least;
      again = λ m some vs. subst (λ l. Q m l (k ++ vs)) (sym (append_assoc q.front k vs)) (q.again m some (k ++ vs));
    }

pub target_moved : (l : Limits) (ts us : List Token) (t : Target) → IsTarget l ts t us → Moved Aim ts us
target_moved l _ _ _ (of_root n name ts named) = moved_tokens Aim (n ∷ []) ts (λ m vs k h. (_, of_root n name vs named))
target_moved l _ _ _ (of_object d n name ts us e f isd named) =
    moved_as Aim (Before (d ∷ n ∷ []) (FormOf postfix)) ts us (moved_before (FormOf postfix) (d ∷ n ∷ []) ts us (form_moved l postfix ts (d ∷ n ∷ us) e f))
    (λ m xs ws q k h. let (v, g) = q k h in (_, of_object d n name xs ws v g isd named))

-- ---- statements and blocks

-- in which so many blocks may be opened in each other
abbrev pub Stmt : ℕ → List Token → List Token → Type 0
Stmt m ts us = (l : ℕ) → m ≤ l → (x : Statement) × IsStatement (lim l) m ts x us

abbrev pub Stmts : ℕ → List Token → List Token → Type 0
Stmts m ts us = (l : ℕ) → m ≤ l → (xs : List Statement) × AreStatements (lim l) m ts xs us

abbrev pub Blck : ℕ → List Token → List Token → Type 0
Blck m ts us = (l : ℕ) → m ≤ l → (xs : List Statement) × IsBlock (lim l) m ts xs us

-- a block needs room for itself
block_moved_by : (o c : Token) (ts us : List Token) → IsSymbol "{" o → IsSymbol "}" c → Moved Stmts ts (c ∷ us) → Moved Blck (o ∷ ts) us
block_moved_by o c ts us iso isc q =
    record {
      front = o ∷ (q.front ++ c ∷ []);
      split = ap (λ l. o ∷ l) (q.split ∙ sym (append_assoc q.front (c ∷ []) us));
      least = suc q.least;
      again = λ m some vs l h. let r = by m some vs l h in (r.0, subst (λ k. IsBlock (lim l) m (o ∷ k) r.0 vs) (sym (append_assoc q.front (c ∷ []) vs)) r.1);
    } where
      by : (m : ℕ) → suc q.least ≤ m → (vs : List Token) (l : ℕ) → m ≤ l → (xs : List Statement) × IsBlock (lim l) m (o ∷ (q.front ++ c ∷ vs)) xs vs
      by zero some vs l h = absurd (omega (arith, some))
      by (suc m) some vs l h = let (xs, r) = q.again m (omega (arith, some)) (c ∷ vs) l (omega (arith, h)) in
          (xs, a_block m o c (q.front ++ c ∷ vs) vs xs iso r isc)

mutual
  pub statement_moved : (l : Limits) (b : ℕ) (ts us : List Token) (x : Statement) → IsStatement l b ts x us → Moved Stmt ts us
  statement_moved l b _ _ _ (a_let _ w n e name ts rest v a1 a2 a3 f) =
      moved_front Stmt Expr (w ∷ n ∷ e ∷ []) ts rest (form_moved l expression ts rest v f) (λ m xs ws q k h. let (v, g) = q k h in
      (_, a_let m w n e name xs ws v a1 a2 a3 g))
  statement_moved l b _ _ _ (an_assignment _ w e ts us rest t v a1 g a2 f) =
      moved_front Stmt (λ m xs ws. Stmt m (w ∷ xs) ws) (w ∷ []) ts rest
      (moved_join (λ m xs ws. Stmt m (w ∷ xs) ws) Aim Expr (e ∷ []) ts us rest (target_moved l ts (e ∷ us) t g) (form_moved l expression us rest v f)
      (λ m xs vs ws q r k h. let (t, g) = q k h in let (v, f) = r k h in (_, an_assignment m w e xs vs ws t v a1 g a2 f))) (λ m xs ws q. q)
  statement_moved l b _ _ _ (an_add _ w o ts us rest t v a1 f a2 g) =
      moved_front Stmt (λ m xs ws. Stmt m (w ∷ xs) ws) (w ∷ []) ts rest
      (moved_join (λ m xs ws. Stmt m (w ∷ xs) ws) Expr Aim (o ∷ []) ts us rest (form_moved l expression ts (o ∷ us) v f) (target_moved l us rest t g)
      (λ m xs vs ws q r k h. let (v, f) = q k h in let (t, g) = r k h in (_, an_add m w o xs vs ws t v a1 f a2 g))) (λ m xs ws q. q)
  statement_moved l b _ _ _ (a_remove _ w o ts us rest t v a1 f a2 g) =
      moved_front Stmt (λ m xs ws. Stmt m (w ∷ xs) ws) (w ∷ []) ts rest
      (moved_join (λ m xs ws. Stmt m (w ∷ xs) ws) Expr Aim (o ∷ []) ts us rest (form_moved l expression ts (o ∷ us) v f) (target_moved l us rest t g)
      (λ m xs vs ws q r k h. let (v, f) = q k h in let (t, g) = r k h in (_, a_remove m w o xs vs ws t v a1 f a2 g))) (λ m xs ws q. q)
  statement_moved l b _ _ _ (a_new _ w n e name ts rest t a1 a2 a3 g) =
      moved_front Stmt Aim (w ∷ n ∷ e ∷ []) ts rest (target_moved l ts rest t g) (λ m xs ws q k h. let (v, g) = q k h in
      (_, a_new m w n e name xs ws v a1 a2 a3 g))
  statement_moved l b _ _ _ (a_delete _ w ts rest v a1 f) =
      moved_front Stmt Expr (w ∷ []) ts rest (form_moved l expression ts rest v f) (λ m xs ws q k h. let (v, g) = q k h in (_, a_delete m w xs ws v a1 g))
  statement_moved l b _ _ _ (a_check _ w e t message ts rest p a1 f a2 a3) =
      moved_front Stmt (Before (e ∷ t ∷ []) Expr) (w ∷ []) ts rest (moved_before Expr (e ∷ t ∷ []) ts rest (form_moved l expression ts (e ∷ t ∷ rest) p f))
      (λ m xs ws q k h. let (v, g) = q k h in (_, a_check m w e t message xs ws v a1 g a2 a3))
  statement_moved l b _ _ _ (a_reply _ w ts rest v a1 f) =
      moved_front Stmt Expr (w ∷ []) ts rest (form_moved l expression ts rest v f) (λ m xs ws q k h. let (v, g) = q k h in (_, a_reply m w xs ws v a1 g))
  statement_moved l b _ _ _ (an_if _ w ts us rest p body a1 f g) =
      moved_front Stmt (λ m xs ws. Stmt m (w ∷ xs) ws) (w ∷ []) ts rest
      (moved_join (λ m xs ws. Stmt m (w ∷ xs) ws) Expr Blck [] ts us rest (form_moved l expression ts us p f) (block_moved l b us rest body g)
      (λ m xs vs ws q r k h. let (p, f) = q k h in let (body, g) = r k h in (_, an_if m w xs vs ws p body a1 f g))) (λ m xs ws q. q)
  statement_moved l b _ _ _ (an_if_else _ w e ts us vs rest p body other a1 f g a2 g2) =
      moved_front Stmt (λ m xs ws. Stmt m (w ∷ xs) ws) (w ∷ []) ts rest
      (moved_join (λ m xs ws. Stmt m (w ∷ xs) ws) Expr (λ m xs ws. (ys : List Token) → Expr m ys xs →
      Stmt m (w ∷ ys) ws) [] ts us rest (form_moved l expression ts us p f)
      (moved_join (λ m xs ws. (ys : List Token) → Expr m ys xs → Stmt m (w ∷ ys) ws) Blck Blck (e ∷ []) us vs rest (block_moved l b us (e ∷ vs) body g)
      (block_moved l b vs rest other g2)
      (λ m xs vs ws q r ys x k h. let (p, f) = x k h in let (body, g) = q k h in let (other, g2) = r k h in
      (_, an_if_else m w e ys xs vs ws p body other a1 f g a2 g2)))
      (λ m xs vs ws q r. r xs q)) (λ m xs ws q. q)
  statement_moved l b _ _ _ (a_for _ w n i name ts us rest v body a1 a2 a3 f g) =
      moved_front Stmt (λ m xs ws. Stmt m (w ∷ n ∷ i ∷ xs) ws) (w ∷ n ∷ i ∷ []) ts rest
      (moved_join (λ m xs ws. Stmt m (w ∷ n ∷ i ∷ xs) ws) Expr Blck [] ts us rest (form_moved l expression ts us v f) (block_moved l b us rest body g)
      (λ m xs vs ws q r k h. let (v, f) = q k h in let (body, g) = r k h in (_, a_for m w n i name xs vs ws v body a1 a2 a3 f g))) (λ m xs ws q. q)

  statements_moved : (l : Limits) (b : ℕ) (ts us : List Token) (xs : List Statement) → AreStatements l b ts xs us → Moved Stmts ts us
  statements_moved l b _ _ _ (no_statements _ ts) = moved_tokens Stmts [] ts (λ m vs k h. ([], no_statements m vs))
  statements_moved l b _ _ _ (more_statements _ ts us rest x xs p q) =
      moved_join Stmts Stmt Stmts [] ts us rest (statement_moved l b ts us x p) (statements_moved l b us rest xs q)
      (λ m xs vs ws q r k h. let (y, f) = q k h in let (ys, g) = r k h in (y ∷ ys, more_statements m xs vs ws y ys f g))

  pub block_moved : (l : Limits) (b : ℕ) (ts us : List Token) (xs : List Statement) → IsBlock l b ts xs us → Moved Blck ts us
  block_moved l _ _ _ _ (a_block b o c ts rest xs iso q isc) = block_moved_by o c ts rest iso isc (statements_moved l b ts (c ∷ rest) xs q)

-- ---- shows and parts

abbrev pub AShow : ℕ → List Token → List Token → Type 0
AShow m ts us = (l : ℕ) → m ≤ l → (x : Show) × IsShow (lim l) ts x us

pub show_moved : (l : Limits) (ts us : List Token) (x : Show) → IsShow l ts x us → Moved AShow ts us
show_moved l _ _ _ (a_show w n e name ts rest f a1 a2 a3 g) =
    moved_front AShow Expr (w ∷ n ∷ e ∷ []) ts rest (form_moved l expression ts rest f g) (λ m xs ws q k h. let (v, f) = q k h in
    (_, a_show w n e name xs ws v a1 a2 a3 f))

abbrev pub Shows : ℕ → List Token → List Token → Type 0
Shows m ts us = (l : ℕ) → m ≤ l → (xs : List Show) × Repeated (IsShow (lim l)) ts xs us

pub shows_moved : (l : Limits) (ts us : List Token) (xs : List Show) → Repeated (IsShow l) ts xs us → Moved Shows ts us
shows_moved l _ _ _ (none ts) = moved_tokens Shows [] ts (λ m vs k h. ([], none vs))
shows_moved l _ _ _ (one_more ts us vs x xs p q) =
    moved_join Shows AShow Shows [] ts us vs (show_moved l ts us x p) (shows_moved l us vs xs q) (λ m xs vs ws q r k h. let (y, f) = q k h in
    let (ys, g) = r k h in (y ∷ ys, one_more xs vs ws y ys f g))

abbrev pub APart : ℕ → List Token → List Token → Type 0
APart m ts us = (l : ℕ) → m ≤ l → (x : Part) × IsPart (lim l) ts x us

pub part_moved : (l : Limits) (ts us : List Token) (x : Part) → IsPart l ts x us → Moved APart ts us
part_moved l _ _ _ (one_show ts rest x p) =
    moved_as APart AShow ts rest (show_moved l ts rest x p) (λ m xs ws q k h. let (y, f) = q k h in (part.Show y, one_show xs ws y f))
part_moved l _ _ _ (a_table w n e v i o c name variable ts us rest f shows a1 a2 a3 a4 a5 g a6 q a7) =
    moved_front APart (λ m xs ws. APart m (w ∷ n ∷ e ∷ v ∷ i ∷ xs) ws) (w ∷ n ∷ e ∷ v ∷ i ∷ []) ts rest
    (moved_join (λ m xs ws. APart m (w ∷ n ∷ e ∷ v ∷ i ∷ xs) ws) Expr (Before (c ∷ []) Shows) (o ∷ []) ts us rest (form_moved l expression ts (o ∷ us) f g)
    (moved_before Shows (c ∷ []) us rest (shows_moved l us (c ∷ rest) shows q))
    (λ m xs vs ws q r k h. let (f, g) = q k h in let (shows, y) = r k h in (_, a_table w n e v i o c name variable xs vs ws f shows a1 a2 a3 a4 a5 g a6 y a7)))
    (λ m xs ws q. q)

abbrev pub Parts : ℕ → List Token → List Token → Type 0
Parts m ts us = (l : ℕ) → m ≤ l → (xs : List Part) × Repeated (IsPart (lim l)) ts xs us

pub parts_moved : (l : Limits) (ts us : List Token) (xs : List Part) → Repeated (IsPart l) ts xs us → Moved Parts ts us
parts_moved l _ _ _ (none ts) = moved_tokens Parts [] ts (λ m vs k h. ([], none vs))
parts_moved l _ _ _ (one_more ts us vs x xs p q) =
    moved_join Parts APart Parts [] ts us vs (part_moved l ts us x p) (parts_moved l us vs xs q) (λ m xs vs ws q r k h. let (y, f) = q k h in
    let (ys, g) = r k h in (y ∷ ys, one_more xs vs ws y ys f g))

-- ---- columns, procedures and views

-- a column without braces, where so many object columns are open
abbrev pub ACol : ℕ → ℕ → List Token → List Token → Type 0
ACol depth m ts us = (l : ℕ) → m ≤ l → (ds : List Declaration) × IsColumn (lim l) depth ts ds us

abbrev pub Proc : ℕ → List Token → List Token → Type 0
Proc m ts us = (l : ℕ) → m ≤ l → (p : Procedure) × IsProcedure (lim l) m ts p us

pub procedure_moved : (l : Limits) (b : ℕ) (ts us : List Token) (p : Procedure) → IsProcedure l b ts p us → Moved Proc ts us
procedure_moved l b _ _ _ (a_procedure w n name ps ts bs rest parameters allow body a1 a2 p q r) =
    moved_front Proc (λ m xs ws. Proc m (w ∷ n ∷ xs) ws) (w ∷ n ∷ []) ps rest
    (moved_join (λ m xs ws. Proc m (w ∷ n ∷ xs) ws) Params (λ m xs ws. (ys : List Token) → Params m ys xs →
    Proc m (w ∷ n ∷ ys) ws) [] ps ts rest (parameters_moved ps ts parameters p)
    (moved_join (λ m xs ws. (ys : List Token) → Params m ys xs → Proc m (w ∷ n ∷ ys) ws) Allowed Blck [] ts bs rest (allow_moved l ts bs allow q)
    (block_moved l b bs rest body r)
    (λ m xs vs ws q r ys p k h. let (a, f) = q k h in let (body, g) = r k h in (_, a_procedure w n name ys xs vs ws p.0 a body a1 a2 p.1 f g)))
    (λ m xs vs ws q r. r xs q)) (λ m xs ws q. q)

abbrev pub AView : ℕ → List Token → List Token → Type 0
AView m ts us = (l : ℕ) → m ≤ l → (v : View) × IsView (lim l) ts v us

pub view_moved : (l : Limits) (ts us : List Token) (v : View) → IsView l ts v us → Moved AView ts us
view_moved l _ _ _ (a_view w n o c name ps ts us rest parameters allow parts a1 a2 p q a3 r a4) =
    moved_front AView (λ m xs ws. AView m (w ∷ n ∷ xs) ws) (w ∷ n ∷ []) ps rest
    (moved_join (λ m xs ws. AView m (w ∷ n ∷ xs) ws) Params (λ m xs ws. (ys : List Token) → Params m ys xs → AView m (w ∷ n ∷ ys) ws) [] ps ts rest
    (parameters_moved ps ts parameters p)
    (moved_join (λ m xs ws. (ys : List Token) → Params m ys xs → AView m (w ∷ n ∷ ys) ws) Allowed (Before (c ∷ []) Parts) (o ∷ []) ts us rest
    (allow_moved l ts (o ∷ us) allow q) (moved_before Parts (c ∷ []) us rest (parts_moved l us (c ∷ rest) parts r))
    (λ m xs vs ws q r ys p k h. let (a, f) = q k h in let (parts, g) = r k h in (_, a_view w n o c name ys xs vs ws p.0 a parts a1 a2 p.1 f a3 g a4)))
    (λ m xs vs ws q r. r xs q)) (λ m xs ws q. q)
