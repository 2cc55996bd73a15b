-- Procedures and views are read back.
use Rattle.std.proofs.Common.{ℕ, ◌≤◌, List, [], ◌∷◌, map, refl, ap, ◌∙◌, Option, option_map}
use Rattle.std.specs.Prelude.{codes, flat_map}
use Rattle.sheet_syntax_trees.specs.declared.token.Token.{Token}
use Rattle.sheet_syntax_trees.specs.declared.token.TokenKind.TheVariants as kind
use Rattle.sheet_syntax_trees.proofs.Printable.{Good}
use Rattle.sheet_syntax_trees.specs.declared.tree.Tree.{Tree}
use Rattle.sheet_syntax_trees.specs.Grammar.{expression}
use Rattle.sheet_syntax_trees.specs.Texts.{on_one_line}
use Rattle.sheet_define_data.specs.declared.definition.Parameter.{Parameter}
use Rattle.sheet_define_data.specs.declared.definition.Procedure.{Procedure}
use Rattle.sheet_define_data.specs.declared.definition.Show.{Show}
use Rattle.sheet_define_data.specs.declared.definition.Part.{Part}
use Rattle.sheet_define_data.specs.declared.definition.Part.TheVariants as part
use Rattle.sheet_define_data.specs.declared.definition.View.{View}
use Rattle.sheet_define_data.specs.declared.statement.Statement.{Statement}
use Rattle.sheet_define_data.specs.Grammar.{Limits, IsFormulaOf, Maybe, Repeated, none, one_more, IsAllow, InParentheses, IsBlock, IsProcedure, a_procedure}
use Rattle.sheet_define_data.specs.Grammar.{IsShow, a_show, IsPart, one_show, a_table, IsView, a_view}
use Rattle.sheet_define_data.specs.Printing.{inside, procedure_text, show_text, part_text, view_text}
use Rattle.sheet_syntax_print.proofs.Back.{named_word}
use Rattle.sheet_define_readback.specs.Lines.{parameter_on_one_line, statement_on_one_line, procedure_on_one_line, show_on_one_line, part_on_one_line}
use Rattle.sheet_define_readback.specs.Lines.{view_on_one_line}
use Rattle.sheet_define_readback.proofs.Heads.{header_back}
use Rattle.sheet_define_readback.proofs.Pieces.{name_written, expression_back, procedure_piece, view_piece, show_piece, table_piece, in_piece, equals_piece}
use Rattle.sheet_define_readback.proofs.Pieces.{open_brace_piece, close_brace_piece}
use Rattle.sheet_define_readback.proofs.Statements.{block_back, braced_written}
use Rattle.sheet_define_readback.proofs.Written.{Written, Any, Then, then, One, one, Read, both, behind, made, nothing, sure, Blank, no_margin, wider, line}

-- ---- things in a row, each in lines of its own

module _ {A : Type 0} (P : List Token → A → List Token → Type 0) (plain : A → A) (text : A → List ℕ) where
  row_made : (x : A) (xs : List A) (ts us : List Token) → Then (Read P plain x) (Read (Repeated P) (map plain) xs) ts us →
      Read (Repeated P) (map plain) (x ∷ xs) ts us
  row_made x xs _ _ (then ts vs us q r) =
      record {
        thing = q.thing ∷ r.thing;
        stands = one_more ts vs us q.thing r.thing q.stands r.stands;
        same = ap (λ y. y ∷ map plain r.thing) q.same
            ∙ ap (λ l. plain x ∷ l) r.same;
      }

  pub row_back : ((ts us : List Token) (x : A) → P ts x us → Good ts → Good us × Written Any (Read P plain x) (text x)) → (ts us : List Token) (xs : List A) →
      Repeated P ts xs us → Good ts
      → Good us × Written Any (Read (Repeated P) (map plain) xs) (flat_map text xs)
  row_back each _ _ _ (none ts) good = (good, nothing (λ ts. record { thing = []; stands = none ts; same = refl }))
  row_back each _ _ _ (one_more ts us vs x xs p q) good =
      let (good1, w) = each ts us x p good in
      let (good2, v) = row_back each us vs xs q good1 in
      (good2, made (row_made x xs) (behind w v))

-- ---- procedures

module _ (l : Limits) (b n : ℕ) (name : List ℕ) (parameters : List Parameter) (allow : Option Tree) where
  procedure_made : (body : List Statement) (ts us : List Token)
      → Then (Then (One (kind.Reserved (codes "procedure")))
      (Then (Then (One (kind.Name name)) (Read InParentheses (map parameter_on_one_line) parameters))
      (Read (Maybe (IsAllow l)) (option_map on_one_line) allow)))
      (Read (IsBlock l b) (map statement_on_one_line) body) ts us
      → Read (IsProcedure l b) procedure_on_one_line (record { line = n; name = name; parameters = parameters; allow = allow; body = body }) ts us
  procedure_made body _ us (then _ bs _ (then _ _ _ (one w _ iw) (then _ vs _ (then _ _ _ (one x ps is) p) a)) s) =
      record {
        thing = record { line = w.line; name = name; parameters = p.thing; allow = a.thing; body = s.thing };
        stands = a_procedure w x name ps vs bs us p.thing a.thing s.thing iw is p.stands a.stands s.stands;
        same = ap (λ (ps : List Parameter). record {
          line = 1;
          name = name;
          parameters = ps;
          allow = option_map on_one_line a.thing;
          body = map statement_on_one_line s.thing;
        }) p.same
            ∙ ap (λ (e : Option Tree). record {
              line = 1;
              name = name;
              parameters = map parameter_on_one_line parameters;
              allow = e;
              body = map statement_on_one_line s.thing;
            }) a.same
            ∙ ap (λ (xs : List Statement). record {
              line = 1;
              name = name;
              parameters = map parameter_on_one_line parameters;
              allow = option_map on_one_line allow;
              body = xs;
            }) s.same;
      }

  view_made : (parts : List Part) (ts us : List Token)
      → Then (Then (Then
      (Then (One (kind.Reserved (codes "view")))
      (Then (Then (One (kind.Name name)) (Read InParentheses (map parameter_on_one_line) parameters))
      (Read (Maybe (IsAllow l)) (option_map on_one_line) allow))) (One (kind.Symbol (codes "{"))))
      (Read (Repeated (IsPart l)) (map part_on_one_line) parts)) (One (kind.Symbol (codes "}"))) ts us
      → Read (IsView l) view_on_one_line (record { line = n; name = name; parameters = parameters; allow = allow; parts = parts }) ts us
  view_made parts _ us (then _ _ _ (then _ _ _ (then _ _ _ (then _ _ _ (one w _ iw) (then _ vs _ (then _ _ _ (one x ps is) p) a)) (one o xs io)) s)
      (one c _ ic)) =
      record {
        thing = record { line = w.line; name = name; parameters = p.thing; allow = a.thing; parts = s.thing };
        stands = a_view w x o c name ps vs xs us p.thing a.thing s.thing iw is p.stands a.stands io s.stands ic;
        same = ap (λ (ps : List Parameter). record {
          line = 1;
          name = name;
          parameters = ps;
          allow = option_map on_one_line a.thing;
          parts = map part_on_one_line s.thing;
        }) p.same
            ∙ ap (λ (e : Option Tree). record {
              line = 1;
              name = name;
              parameters = map parameter_on_one_line parameters;
              allow = e;
              parts = map part_on_one_line s.thing;
            }) a.same
            ∙ ap (λ (xs : List Part). record {
              line = 1;
              name = name;
              parameters = map parameter_on_one_line parameters;
              allow = option_map on_one_line allow;
              parts = xs;
            }) s.same;
      }

-- ---- parts of views

module _ (l : Limits) where
  show_made : (n : ℕ) (name : List ℕ) (f : Tree) (ts us : List Token) →
      Then (Then (Then (One (kind.Reserved (codes "show"))) (One (kind.Name name))) (One (kind.Symbol (codes "="))))
      (Read (IsFormulaOf l expression) on_one_line f) ts us
      → Read (IsShow l) show_on_one_line (record { line = n; name = name; shown = f }) ts us
  show_made n name f _ us (then _ _ _ (then _ _ _ (then _ _ _ (one w _ iw) (one x _ is)) (one e ts ie)) r) =
      record {
        thing = record { line = w.line; name = name; shown = r.thing };
        stands = a_show w x e name ts us r.thing iw is ie r.stands;
        same = ap (λ (y : Tree). record { line = 1; name = name; shown = y }) r.same;
      }

  one_show_made : (s : Show) (ts us : List Token) → Read (IsShow l) show_on_one_line s ts us → Read (IsPart l) part_on_one_line (part.Show s) ts us
  one_show_made s ts us r = record { thing = part.Show r.thing; stands = one_show ts us r.thing r.stands; same = ap part.Show r.same }

  table_made : (n : ℕ) (name variable : List ℕ) (f : Tree) (shows : List Show) (ts us : List Token)
      → Then (Then (Then
      (Then (Then (Then (Then (Then (One (kind.Reserved (codes "table"))) (One (kind.Name name))) (One (kind.Symbol (codes "="))))
      (One (kind.Name variable))) (One (kind.Reserved (codes "in")))) (Read (IsFormulaOf l expression) on_one_line f))
      (One (kind.Symbol (codes "{")))) (Read (Repeated (IsShow l)) (map show_on_one_line) shows)) (One (kind.Symbol (codes "}"))) ts us
      → Read (IsPart l) part_on_one_line (part.Table n name variable f shows) ts us
  table_made n name variable f shows _ us
      (then _ _ _ (then
      _ _ _ (then _ _ _ (then _ _ _ (then _ _ _ (then _ _ _ (then _ _ _ (then _ _ _ (one w _ iw) (one x _ is)) (one e _ ie)) (one v _ iv)) (one i ts ii)) r)
      (one o vs io)) s) (one c _ ic)) =
      record {
        thing = part.Table w.line name variable r.thing s.thing;
        stands = a_table w x e v i o c name variable ts vs us r.thing s.thing iw is ie iv ii r.stands io s.stands ic;
        same = ap (λ y. part.Table 1 name variable y (map show_on_one_line s.thing)) r.same ∙ ap (part.Table 1 name variable (on_one_line f)) s.same;
      }

module _ (l : Limits) (fits : l.depth ≤ l.nest) where
  show_back : (margin : List ℕ) → Blank margin → (ts us : List Token) (s : Show) → IsShow l ts s us → Good ts →
      Good us × Written Any (Read (IsShow l) show_on_one_line s) (show_text margin s)
  show_back margin m _ _ _ (a_show w n e name ts rest f iw is ie a) good =
      let (word, free) = named_word n.kind name is good.1.0 in
      let (good1, r) = expression_back l fits ts rest f a good.1.1.1 in (
        good1,
        line margin m
            (made (show_made l w.line name f) (behind (both (behind show_piece (name_written name word free)) equals_piece (λ rest d. refl)) r)),
      )

  part_back : (margin : List ℕ) → Blank margin → (ts us : List Token) (p : Part) → IsPart l ts p us → Good ts →
      Good us × Written Any (Read (IsPart l) part_on_one_line p) (part_text margin p)
  part_back margin m _ _ _ (one_show ts rest x a) good = let (good1, w) = show_back margin m ts rest x a good in (good1, made (one_show_made l x) w)
  part_back margin m _ _ _ (a_table w n e v i o c name variable ts us rest f shows iw is ie iv ii a io s ic) good =
      let (word, free) = named_word n.kind name is good.1.0 in
      let (word2, free2) = named_word v.kind variable iv good.1.1.1.0 in
      let (good1, r) = expression_back l fits ts (o ∷ us) f a good.1.1.1.1.1 in
      let (good2, q) = row_back (IsShow l) show_on_one_line (show_text (inside margin)) (show_back (inside margin) (wider margin m)) us (c ∷ rest) shows s
      good1.1 in
      let opening = behind
      (both (behind (both (behind table_piece (name_written name word free)) equals_piece (λ rest d. refl)) (name_written variable word2 free2)) in_piece
      (λ rest d. refl)) r in (
        good2.1,
        made (table_made l w.line name variable f shows)
            (behind (behind (line margin m (sure (both opening open_brace_piece (λ rest d. refl)))) q) (line margin m (sure close_brace_piece))),
      )

  pub procedure_back : (b : ℕ) (ts us : List Token) (p : Procedure) → IsProcedure l b ts p us → Good ts →
      Good us × Written Any (Read (IsProcedure l b) procedure_on_one_line p) (procedure_text p)
  procedure_back b _ _ _ (a_procedure w n name ps ts bs rest parameters allow body iw is a c s) good =
      let (good1, h) = header_back l fits name n ps ts bs parameters allow is a c good.1 in
      let (good2, q) = block_back l fits b bs rest body [] no_margin s good1 in
      (good2, made (procedure_made l b w.line name parameters allow body) (braced_written l b body [] no_margin q (behind procedure_piece h)))

  pub view_back : (ts us : List Token) (v : View) → IsView l ts v us → Good ts → Good us × Written Any (Read (IsView l) view_on_one_line v) (view_text v)
  view_back _ _ _ (a_view w n o c name ps ts us rest parameters allow parts iw is a d io s ic) good =
      let (good1, h) = header_back l fits name n ps ts (o ∷ us) parameters allow is a d good.1 in
      let (good2, q) = row_back (IsPart l) part_on_one_line (part_text (inside [])) (part_back (inside []) (wider [] no_margin)) us (c ∷ rest) parts s
      good1.1 in (
        good2.1,
        made (view_made l 0 w.line name parameters allow parts)
            (behind (behind (line [] no_margin (sure (both (behind view_piece h) open_brace_piece (λ rest d. refl)))) q)
            (line [] no_margin (sure close_brace_piece))),
      )
