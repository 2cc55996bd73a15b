-- Columns, procedures and views: what is read stands there, and where it is refused the tokens before begin it.
use Rattle.std.proofs.Common.{◌≡◌, ℕ, ◌≤◌, List, [], ◌∷◌, ◌++◌, length, true, false, Some, None, Ok, refl, sym, ap, subst, arith}
use Rattle.std.specs.Prelude.{Option}
use Rattle.sheet_syntax_trees.specs.declared.token.Token.{Token}
use Rattle.sheet_syntax_trees.specs.declared.token.TokenKind.TheVariants as kind
use Rattle.sheet_syntax_trees.specs.declared.tree.Tree.{Tree}
use Rattle.sheet_syntax_trees.specs.Grammar.{expression}
use Rattle.sheet_syntax_trees.specs.Reading.{◌>>=◌}
use Rattle.sheet_define_data.specs.declared.definition.TypeName.{TypeName}
use Rattle.sheet_define_data.specs.declared.definition.Literal.{Literal}
use Rattle.sheet_define_data.specs.declared.definition.Column.{Column}
use Rattle.sheet_define_data.specs.declared.definition.Content.TheVariants as content
use Rattle.sheet_define_data.specs.declared.definition.Parameter.{Parameter}
use Rattle.sheet_define_data.specs.declared.definition.Procedure.{Procedure}
use Rattle.sheet_define_data.specs.declared.definition.Show.{Show}
use Rattle.sheet_define_data.specs.declared.definition.Part.{Part}
use Rattle.sheet_define_data.specs.declared.definition.Part.TheVariants as part
use Rattle.sheet_define_data.specs.declared.definition.View.{View}
use Rattle.sheet_define_data.specs.declared.statement.Statement.{Statement}
use Rattle.sheet_define_reading.specs.declared.mark.Mark.{Mark}
use Rattle.sheet_define_reading.specs.declared.mark.Mark.TheVariants as mark
use Rattle.sheet_define_reading.specs.Marks.{mark_of}
use Rattle.sheet_define_reading.specs.Reading as reading
use Rattle.sheet_define_reading.specs.Reading.{Bounds, Reader, Turn, after, expect, with_front, optional, mark_at}
use Rattle.sheet_define_reading.proofs.MarkLemmas.{spelling, spelled}
use Rattle.std.specs.Prelude.{codes}
use Rattle.sheet_syntax_trees.proofs.Contexts.{zeros}
use Rattle.sheet_define_data.specs.Grammar.{IsSymbol, IsName, IsExpression, Maybe, left_out, stated, none, one_more, any_count, just_one, a_first, a_declared}
use Rattle.sheet_define_data.specs.Grammar.{IsAllow, an_allow, a_state_column, a_formula_column, no_parameters, a_procedure, a_show, one_show, a_table, a_view}
use Rattle.sheet_define_reading.proofs.Answering.{after_told, after_optional}
use Rattle.sheet_define_reading.proofs.Soundness.{limits, formula_sound, parameters_sound}
use Rattle.sheet_define_refusals.specs.Refusals.{BeginsProcedure, a_head}
use Rattle.sheet_define_refusals.proofs.Moving.{Expr, AType, ALiteral, AFirst, ADeclared, Allowed, Params, Blck, AShow, Shows, APart, Parts, ACol, Proc, AView}
use Rattle.sheet_define_refusals.proofs.Halting.{Sample, Behind, After, name_dummy, word, zero_form}
use Rattle.sheet_define_refusals.proofs.Braces.{Braced, many_meets}
use Rattle.sheet_define_refusals.proofs.Meeting.{Meets, meets_ok, meets_none, meets_mark, meets_name, meets_name_split, meets_part, meets_last, meets_behind}
use Rattle.sheet_define_refusals.proofs.Meeting.{meets_known, meets_optional, formula_meets, type_meets, type_sample, literal_meets, parameters_meets}
use Rattle.sheet_define_refusals.proofs.Bodies.{Crowded, empty_block, block_meets}

-- a brace of a block too many in the procedure that begins there
pub record CrowdedProcedure (k : ℕ) (ts : List Token) (at : ℕ) : Type 0 where
  pub inner : List Token
  pub begins : BeginsProcedure ts inner
  pub crowded : Crowded k inner at

no_params : (m : ℕ) (vs : List Token) → Params m (word mark.Open ∷ word mark.Close ∷ vs) vs
no_params m vs = ([], no_parameters (word mark.Open) (word mark.Close) vs refl refl)

module _ (end : ℕ) where
  abbrev U : Bounds
  U = reading.usual end

  -- ---- columns

  -- a name and a brace
  pub record Head (m : ℕ) (xs ws : List Token) : Type 0 where
    pub name : List ℕ
    pub first : Token
    pub brace : Token
    pub is : xs ≡ first ∷ brace ∷ ws
    pub named : IsName name first
    pub opens : IsSymbol "{" brace

  pub object_meets : (B : ℕ → Type 0) (depth : ℕ) (w : Token) (ts : List Token) → Meets Head B end Column (reading.object_column U depth w ts) ts
  unfolding reading.object_column
  object_meets B depth w ts =
      meets_name Head B end Column ts _
      (record {
        tokens = name_dummy ∷ word mark.OpenBrace ∷ [];
        least = 0;
        whole = λ m some vs. record { name = codes "x"; first = name_dummy; brace = word mark.OpenBrace; is = refl; named = refl; opens = refl };
      })
      (λ n name us named.
      meets_mark (Behind n Head) B end Column mark.OpenBrace (omega arith) us _
      (record {
        tokens = word mark.OpenBrace ∷ [];
        least = 0;
        whole = λ m some vs. record { name = name; first = n; brace = word mark.OpenBrace; is = refl; named = named; opens = refl };
      }) (λ o xs iso.
      meets_ok (Behind o (Behind n Head)) B end Column (record { depth = depth; line = w.line; name = name; content = content.Object }) xs
      (λ m vs. record { name = name; first = n; brace = o; is = refl; named = named; opens = iso })))

  first_meets : (B : ℕ → Type 0) (ts : List Token) → Meets AFirst B end (Option Literal) (optional (reading.literal_at U) ts (after mark.Equals ts)) ts
  first_meets B ts =
      meets_optional AFirst ALiteral B end Literal mark.Equals (omega arith) (reading.literal_at U) ts (λ m vs. (None, left_out vs))
      (λ us. literal_meets end B us)
      (λ t is m us vs q. (Some q.0, stated (t ∷ us) vs q.0 (a_first t us vs q.0 is q.1)))

  declared_meets : (B : ℕ → Type 0) (ts : List Token) → Meets ADeclared B end (Option TypeName) (optional (reading.type_at U) ts (after mark.Colon ts)) ts
  declared_meets B ts =
      meets_optional ADeclared AType B end TypeName mark.Colon (omega arith) (reading.type_at U) ts (λ m vs. (None, left_out vs)) (λ us. type_meets end B us)
      (λ t is m us vs q. (Some q.0, stated (t ∷ us) vs q.0 (a_declared t us vs q.0 is q.1)))

  module _ (B : ℕ → Type 0) (depth : ℕ) (w : Token) where
    abbrev P : ℕ → List Token → List Token → Type 0
    P = Behind w (ACol depth)

    -- a state column of a type, and nothing more
    state_whole : w.kind ≡ spelling mark.State → (n c : Token) (name : List ℕ) → n.kind ≡ kind.Name name → c.kind ≡ spelling mark.Colon →
        (m : ℕ) (vs : List Token) → ACol depth m (w ∷ n ∷ c ∷ name_dummy ∷ vs) vs
    state_whole is n c name named isc m vs l h =
        let (t, typed) = (type_sample end B).whole m (omega arith) vs in
        (_, a_state_column depth w n c name (name_dummy ∷ vs) vs vs vs t false None is named isc typed (any_count vs) (left_out vs))

    behind_meets : w.kind ≡ spelling mark.State → (n c : Token) (name : List ℕ) → n.kind ≡ kind.Name name → c.kind ≡ spelling mark.Colon →
        (t : TypeName) (ts : List Token) (o : Option (List Token)) → after mark.One ts ≡ o
        → Meets (After AType (Behind c (Behind n P))) B end Column (reading.state_behind U depth w name t (reading.one_or ts o)) ts
    behind_meets is n c name named isc t ts None missing =
        meets_last (After AType (Behind c (Behind n P))) AFirst B end (Option Literal) Column ts (optional (reading.literal_at U) ts (after mark.Equals ts))
        (λ v. record { depth = depth; line = w.line; name = name; content = content.State t false v }) (first_meets B ts)
        (λ m us vs q ys y l h. (_, a_state_column depth w n c name ys us us vs y.0 false q.0 is named isc y.1 (any_count us) q.1))
    behind_meets is n c name named isc t ts (Some rest) some =
        let (one, split, isone) = after_told mark.One (omega arith) ts rest some in
        subst (λ l. Meets (After AType (Behind c (Behind n P))) B end Column (reading.state_behind U depth w name t (true, rest)) l) (sym split)
        (meets_behind (After AType (Behind c (Behind n P))) B end Column one rest _
        (meets_last (Behind one (After AType (Behind c (Behind n P)))) AFirst B end (Option Literal) Column rest
        (optional (reading.literal_at U) rest (after mark.Equals rest))
        (λ v. record { depth = depth; line = w.line; name = name; content = content.State t true v }) (first_meets B rest)
        (λ m us vs q ys y l h. (_, a_state_column depth w n c name ys (one ∷ us) us vs y.0 true q.0 is named isc y.1 (just_one one us isone) q.1))))

    pub state_meets : w.kind ≡ spelling mark.State → (ts : List Token) → Meets P B end Column (reading.state_column U depth w ts) ts
    unfolding reading.state_column
    state_meets is ts =
        meets_name P B end Column ts _
        (record {
          tokens = name_dummy ∷ word mark.Colon ∷ name_dummy ∷ [];
          least = 0;
          whole = λ m some vs. state_whole is name_dummy (word mark.Colon) (codes "x") refl refl m vs;
        }) (λ n name us named.
        meets_mark (Behind n P) B end Column mark.Colon (omega arith) us _
        (record { tokens = word mark.Colon ∷ name_dummy ∷ []; least = 0; whole = λ m some vs. state_whole is n (word mark.Colon) name named refl m vs })
        (λ c xs isc.
        meets_part (Behind c (Behind n P)) AType B end TypeName Column xs (reading.type_at U xs) _
        (record {
          tokens = [];
          least = 0;
          whole = λ m some vs ys y l h. (_, a_state_column depth w n c name ys vs vs vs y.0 false None is named isc y.1 (any_count vs) (left_out vs));
        })
        (type_meets end B xs) (λ t vs e. behind_meets is n c name named isc t vs (after mark.One vs) refl)))

    pub formula_column_meets : w.kind ≡ spelling mark.Formula → (ts : List Token) → Meets P B end Column (reading.formula_column U depth w ts) ts
    unfolding reading.formula_column
    formula_column_meets is ts =
        meets_name P B end Column ts _
        (record {
          tokens = name_dummy ∷ word mark.Equals ∷ zeros;
          least = 1;
          whole = λ m some vs l h. let (v, f) = zero_form expression m some vs l h in (
            _,
            a_formula_column depth w name_dummy (word mark.Equals) (codes "x") (word mark.Equals ∷ (zeros ++ vs)) (zeros ++ vs) vs None v is refl
                (left_out (word mark.Equals ∷ (zeros ++ vs))) refl f,
          );
        }) (λ n name us named.
        let sample : Sample (After ADeclared (Behind n P)) =
        record {
          tokens = word mark.Equals ∷ zeros;
          least = 1;
          whole = λ m some vs ys y l h. let (v, f) = zero_form expression m some vs l h in
              (_, a_formula_column depth w n (word mark.Equals) name ys (zeros ++ vs) vs y.0 v is named y.1 refl f);
        } in
        meets_part (Behind n P) ADeclared B end (Option TypeName) Column us (optional (reading.type_at U) us (after mark.Colon us)) _ sample
        (declared_meets B us) (λ t vs e.
        meets_mark (After ADeclared (Behind n P)) B end Column mark.Equals (omega arith) vs _ sample (λ q xs isq.
        meets_last (Behind q (After ADeclared (Behind n P))) Expr B end Tree Column xs (reading.formula U xs)
        (λ f. record { depth = depth; line = w.line; name = name; content = content.Formula t f }) (formula_meets end B xs)
        (λ m us vs x ys y l h. let (v, f) = x l h in (_, a_formula_column depth w n q name ys us vs y.0 v is named y.1 isq f)))))

  -- ---- procedures

  allow_meets : (B : ℕ → Type 0) (ts : List Token) → Meets Allowed B end (Option Tree) (optional (reading.formula U) ts (after mark.Allow ts)) ts
  allow_meets B ts =
      meets_optional Allowed Expr B end Tree mark.Allow (omega arith) (reading.formula U) ts (λ m vs l h. (None, left_out vs)) (λ us. formula_meets end B us)
      (λ t is m us vs q l h. let (v, f) = q l h in (Some v, stated (t ∷ us) vs v (an_allow t us vs v is f)))

  allow_read : (ts us : List Token) (a : Option Tree) → optional (reading.formula U) ts (after mark.Allow ts) ≡ Ok (a, us) → Maybe (IsAllow (limits U)) ts a us
  allow_read ts us a e =
      after_optional (IsExpression (limits U)) (reading.formula U) (formula_sound U (omega arith)) mark.Allow (omega arith) ts (λ x. Ok x) (a, us)
      (Maybe (IsAllow (limits U)) ts a us) (ap (λ r. r >>= (λ x. Ok x)) e)
      (λ h. let both : (None, ts) ≡ (a, us) = cc in subst (λ (p : Option Tree × List Token). Maybe (IsAllow (limits U)) ts p.0 p.1) both (left_out ts))
      (λ t vs x ws split is f h. let both : (Some x, ws) ≡ (a, us) = cc in
      subst (λ (p : Option Tree × List Token). Maybe (IsAllow (limits U)) ts p.0 p.1) both
      (stated ts ws x (subst (λ l. IsAllow (limits U) l x ws) (sym split) (an_allow t vs ws x is f))))

  -- a procedure's block behind its head
  proc_whole : (w n : Token) (name : List ℕ) → w.kind ≡ spelling mark.Procedure → n.kind ≡ kind.Name name → (m : ℕ) → 1 ≤ m → (ys vs : List Token) →
      Params m ys (word mark.OpenBrace ∷ word mark.CloseBrace ∷ vs) → Proc m (w ∷ n ∷ ys) vs
  proc_whole w n name is named m some ys vs p l h =
      let (xs, g) = empty_block m some vs l h in (
        _,
        a_procedure w n name ys (word mark.OpenBrace ∷ word mark.CloseBrace ∷ vs) (word mark.OpenBrace ∷ word mark.CloseBrace ∷ vs) vs p.0 None xs is named
            p.1 (left_out _) g,
      )

  pub procedure_meets : (b : ℕ) (w : Token) → w.kind ≡ spelling mark.Procedure → (ts : List Token) →
      Meets (Behind w Proc) (CrowdedProcedure b (w ∷ ts)) end Procedure (reading.procedure U b w ts) ts
  unfolding reading.procedure
  procedure_meets b w is ts =
      let B : ℕ → Type 0 = CrowdedProcedure b (w ∷ ts) in
      meets_name_split (Behind w Proc) B end Procedure ts _
      (record {
        tokens = name_dummy ∷ word mark.Open ∷ word mark.Close ∷ word mark.OpenBrace ∷ word mark.CloseBrace ∷ [];
        least = 1;
        whole = λ m some vs. proc_whole w name_dummy (codes "x") is refl m some _ vs (no_params m (word mark.OpenBrace ∷ word mark.CloseBrace ∷ vs));
      })
      (λ n name us named split.
      meets_part (Behind n (Behind w Proc)) Params B end (List Parameter) Procedure us (reading.parameters U us) _
      (record { tokens = word mark.OpenBrace ∷ word mark.CloseBrace ∷ []; least = 1; whole = λ m some vs ys p. proc_whole w n name is named m some ys vs p })
      (parameters_meets end B us) (λ ps vs e.
      meets_part (After Params (Behind n (Behind w Proc))) Allowed B end (Option Tree) Procedure vs (optional (reading.formula U) vs (after mark.Allow vs)) _
      (record {
        tokens = word mark.OpenBrace ∷ word mark.CloseBrace ∷ [];
        least = 1;
        whole = λ m some vs ys a zs p l h. let (x, f) = a l h in
            let (xs, g) = empty_block m some vs l h in (_, a_procedure w n name zs ys _ vs p.0 x xs is named p.1 f g);
      })
      (allow_meets B vs) (λ a xs e2.
      meets_last (After Allowed (After Params (Behind n (Behind w Proc)))) Blck B end (List Statement) Procedure xs (reading.block U b xs)
      (λ body. record { line = w.line; name = name; parameters = ps; allow = a; body = body })
      (meets_known Blck (Crowded b xs) B end (List Statement) xs (reading.block U b xs)
      (λ at c. record {
        inner = xs;
        begins =
            subst (λ l. BeginsProcedure (w ∷ l) xs) (sym split)
            (a_head (limits U) w n name us vs xs ps a is named (parameters_sound U us (ps, vs) e) (allow_read vs xs a e2));
        crowded = c;
      }) (block_meets end b xs))
      (λ m us vs k ys a zs p l h. let (x, f) = a l h in let (xs, g) = k l h in (_, a_procedure w n name zs ys us vs p.0 x xs is named p.1 f g)))))

  -- ---- views

  module _ (B : ℕ → Type 0) where
    show_meets : (w : Token) → w.kind ≡ spelling mark.Show → (ts : List Token) → Meets (Behind w AShow) B end Show (reading.show U w ts) ts
    unfolding reading.show
    show_meets w is ts =
        meets_name (Behind w AShow) B end Show ts _ (record {
          tokens = name_dummy ∷ word mark.Equals ∷ zeros;
          least = 1;
          whole = λ m some vs l h. let (v, f) =
              zero_form expression m some vs l h in (_, a_show w name_dummy (word mark.Equals) (codes "x") (zeros ++ vs) vs v is refl refl f);
        })
        (λ n name us named.
        meets_mark (Behind n (Behind w AShow)) B end Show mark.Equals (omega arith) us _
        (record {
          tokens = word mark.Equals ∷ zeros;
          least = 1;
          whole = λ m some vs l h. let (v, f) = zero_form expression m some vs l h in
              (_, a_show w n (word mark.Equals) name (zeros ++ vs) vs v is named refl f);
        }) (λ q xs isq.
        meets_last (Behind q (Behind n (Behind w AShow))) Expr B end Tree Show xs (reading.formula U xs) (λ f. record { line = w.line; name = name; shown = f })
        (formula_meets end B xs) (λ m us vs e l h. let (v, f) = e l h in (_, a_show w n q name us vs v is named isq f))))

    show_sample : Sample AShow
    show_sample = record {
      tokens = word mark.Show ∷ name_dummy ∷ word mark.Equals ∷ zeros;
      least = 1;
      whole = λ m some vs l h. let (v, f) =
          zero_form expression m some vs l h in (_, a_show (word mark.Show) name_dummy (word mark.Equals) (codes "x") (zeros ++ vs) vs v refl refl refl f);
    }

    show_by_meets : (w : Token) (ts : List Token) (m : Mark) → mark_of w.kind ≡ m → Meets AShow B end Show (reading.show_by U w ts m) (w ∷ ts)
    unfolding reading.show_by
    show_by_meets w ts mark.Show is = meets_behind AShow B end Show w ts _ (show_meets w (spelled w.kind mark.Show is (omega arith)) ts)
    show_by_meets w ts _ is = meets_none AShow B end Show (w ∷ ts) w.start refl show_sample

    shows_meet : (ts : List Token) → Meets (Braced Shows) B end (List Show) (reading.many end (reading.show_by U) (length ts) ts) ts
    shows_meet ts =
        many_meets AShow Shows (λ m ts l h. ([], none ts)) (λ m us vs ws s r l h. let (x, f) = s l h in let (xs, g) = r l h in
        (x ∷ xs, one_more us vs ws x xs f g)) end Show (reading.show_by U) (λ ts. B) (λ ts. B) (λ ts at b. b) (λ ts us p at b. b)
        (λ t ts. show_by_meets t ts (mark_of t.kind) refl) (length ts) ts

    -- a table without shows
    table_whole : (w n e v i : Token) (name variable : List ℕ) → w.kind ≡ spelling mark.Table → n.kind ≡ kind.Name name → e.kind ≡ spelling mark.Equals →
        v.kind ≡ kind.Name variable → i.kind ≡ spelling mark.In → (m : ℕ) (ys vs : List Token)
        → Expr m ys (word mark.OpenBrace ∷ word mark.CloseBrace ∷ vs) → APart m (w ∷ n ∷ e ∷ v ∷ i ∷ ys) vs
    table_whole w n e v i name variable is named ise called isi m ys vs x l h =
        let (f, g) = x l h in (
          _,
          a_table w n e v i (word mark.OpenBrace) (word mark.CloseBrace) name variable ys (word mark.CloseBrace ∷ vs) vs f [] is named ise called isi g refl
              (none (word mark.CloseBrace ∷ vs)) refl,
        )

    abbrev braces : List Token
    braces = word mark.OpenBrace ∷ word mark.CloseBrace ∷ []

    table_meets : (w : Token) → w.kind ≡ spelling mark.Table → (ts : List Token) → Meets (Behind w APart) B end Part (reading.table U w ts) ts
    unfolding reading.table
    table_meets w is ts =
        let P : ℕ → List Token → List Token → Type 0 = Behind w APart in
        meets_name P B end Part ts _ (record {
          tokens = name_dummy ∷ word mark.Equals ∷ name_dummy ∷ word mark.In ∷ (zeros ++ braces);
          least = 1;
          whole = λ m some vs. table_whole w name_dummy (word mark.Equals) name_dummy (word mark.In) (codes "x") (codes "x") is refl refl refl refl m _ vs
              (zero_form expression m some (word mark.OpenBrace ∷ word mark.CloseBrace ∷ vs));
        }) (λ n name us named.
        meets_mark (Behind n P) B end Part mark.Equals (omega arith) us _ (record {
          tokens = word mark.Equals ∷ name_dummy ∷ word mark.In ∷ (zeros ++ braces);
          least = 1;
          whole = λ m some vs. table_whole w n (word mark.Equals) name_dummy (word mark.In) name (codes "x") is named refl refl refl m _ vs
              (zero_form expression m some (word mark.OpenBrace ∷ word mark.CloseBrace ∷ vs));
        }) (λ q xs isq.
        meets_name (Behind q (Behind n P)) B end Part xs _ (record {
          tokens = name_dummy ∷ word mark.In ∷ (zeros ++ braces);
          least = 1;
          whole = λ m some vs. table_whole w n q name_dummy (word mark.In) name (codes "x") is named isq refl refl m _ vs
              (zero_form expression m some (word mark.OpenBrace ∷ word mark.CloseBrace ∷ vs));
        }) (λ v variable ys called.
        meets_mark (Behind v (Behind q (Behind n P))) B end Part mark.In (omega arith) ys _ (record {
          tokens = word mark.In ∷ (zeros ++ braces);
          least = 1;
          whole = λ m some vs. table_whole w n q v (word mark.In) name variable is named isq called refl m _ vs
              (zero_form expression m some (word mark.OpenBrace ∷ word mark.CloseBrace ∷ vs));
        }) (λ i zs isi.
        let R : ℕ → List Token → List Token → Type 0 = Behind i (Behind v (Behind q (Behind n P))) in
        let sample : Sample (After Expr R) =
        record { tokens = braces; least = 0; whole = λ m some vs ys x. table_whole w n q v i name variable is named isq called isi m ys vs x } in
        meets_part R Expr B end Tree Part zs (reading.formula U zs) _ sample (formula_meets end B zs) (λ f cs e.
        meets_mark (After Expr R) B end Part mark.OpenBrace (omega arith) cs _ sample (λ o bs iso.
        meets_last (Behind o (After Expr R)) (Braced Shows) B end (List Show) Part bs (reading.many end (reading.show_by U) (length bs) bs)
        (λ shows. part.Table w.line name variable f shows) (shows_meet bs)
        (λ m us vs r ys x l h. let (f, g) = x l h in let (xs, k) = r.holds l h in
        (_, a_table w n q v i o r.brace name variable ys us vs f xs is named isq called isi g iso k r.closes))))))))

    part_by_meets : (w : Token) (ts : List Token) (m : Mark) → mark_of w.kind ≡ m → Meets APart B end Part (reading.part_by U w ts m) (w ∷ ts)
    unfolding reading.part_by
    part_by_meets w ts mark.Show is =
        meets_behind APart B end Part w ts _ (meets_last (Behind w APart) (Behind w AShow) B end Show Part ts (reading.show U w ts) (λ x. part.Show x)
        (show_meets w (spelled w.kind mark.Show is (omega arith)) ts)
        (λ m us vs q l h. let (x, f) = q l h in (part.Show x, one_show (w ∷ us) vs x f)))
    part_by_meets w ts mark.Table is = meets_behind APart B end Part w ts _ (table_meets w (spelled w.kind mark.Table is (omega arith)) ts)
    part_by_meets w ts _ is =
        meets_none APart B end Part (w ∷ ts) w.start refl (record {
          tokens = word mark.Show ∷ name_dummy ∷ word mark.Equals ∷ zeros;
          least = 1;
          whole =
              λ m some vs l h. let (v, f) = zero_form expression m some vs l h in
              (_, one_show _ vs _ (a_show (word mark.Show) name_dummy (word mark.Equals) (codes "x") (zeros ++ vs) vs v refl refl refl f));
        })

    parts_meet : (ts : List Token) → Meets (Braced Parts) B end (List Part) (reading.many end (reading.part_by U) (length ts) ts) ts
    parts_meet ts =
        many_meets APart Parts (λ m ts l h. ([], none ts)) (λ m us vs ws s r l h. let (x, f) = s l h in let (xs, g) = r l h in
        (x ∷ xs, one_more us vs ws x xs f g)) end Part (reading.part_by U) (λ ts. B) (λ ts. B) (λ ts at b. b) (λ ts us p at b. b)
        (λ t ts. part_by_meets t ts (mark_of t.kind) refl) (length ts) ts

    view_whole : (w n : Token) (name : List ℕ) → w.kind ≡ spelling mark.View → n.kind ≡ kind.Name name → (m : ℕ) (ys vs : List Token) →
        Params m ys (word mark.OpenBrace ∷ word mark.CloseBrace ∷ vs) → AView m (w ∷ n ∷ ys) vs
    view_whole w n name is named m ys vs p l h = (
      _,
      a_view w n (word mark.OpenBrace) (word mark.CloseBrace) name ys (word mark.OpenBrace ∷ word mark.CloseBrace ∷ vs) (word mark.CloseBrace ∷ vs) vs p.0
          None [] is named p.1 (left_out _) refl (none (word mark.CloseBrace ∷ vs)) refl,
    )

    pub view_meets : (w : Token) → w.kind ≡ spelling mark.View → (ts : List Token) → Meets (Behind w AView) B end View (reading.view U w ts) ts
    unfolding reading.view
    view_meets w is ts =
        let P : ℕ → List Token → List Token → Type 0 = Behind w AView in
        meets_name P B end View ts _ (record {
          tokens = name_dummy ∷ word mark.Open ∷ word mark.Close ∷ braces;
          least = 0;
          whole = λ m some vs. view_whole w name_dummy (codes "x") is refl m _ vs (no_params m (word mark.OpenBrace ∷ word mark.CloseBrace ∷ vs));
        })
        (λ n name us named.
        meets_part (Behind n P) Params B end (List Parameter) View us (reading.parameters U us) _
        (record { tokens = braces; least = 0; whole = λ m some vs ys p. view_whole w n name is named m ys vs p }) (parameters_meets end B us) (λ ps vs e.
        let R : ℕ → List Token → List Token → Type 0 = After Allowed (After Params (Behind n P)) in
        let sample : Sample R = record {
          tokens = braces;
          least = 0;
          whole = λ m some vs ys a zs p l h. let (x, f) = a l h in (
            _,
            a_view w n (word mark.OpenBrace) (word mark.CloseBrace) name zs ys (word mark.CloseBrace ∷ vs) vs p.0 x [] is named p.1 f refl
                (none (word mark.CloseBrace ∷ vs)) refl,
          );
        } in
        meets_part (After Params (Behind n P)) Allowed B end (Option Tree) View vs (optional (reading.formula U) vs (after mark.Allow vs)) _ sample
        (allow_meets B vs) (λ a xs e2.
        meets_mark R B end View mark.OpenBrace (omega arith) xs _ sample (λ o ys iso.
        meets_last (Behind o R) (Braced Parts) B end (List Part) View ys (reading.many end (reading.part_by U) (length ys) ys)
        (λ parts. record { line = w.line; name = name; parameters = ps; allow = a; parts = parts }) (parts_meet ys)
        (λ m us vs r ys a zs p l h. let (x, f) = a l h in let (xs, g) = r.holds l h in
        (_, a_view w n o r.brace name zs ys us vs p.0 x xs is named p.1 f iso g r.closes))))))
