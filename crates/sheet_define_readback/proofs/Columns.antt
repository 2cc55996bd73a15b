-- Columns are read back, with the braces of object columns closed where the next declaration is less deep.
use Rattle.std.proofs.Common.{◌≡◌, ℕ, ◌+◌, ◌-◌, ◌≤◌, zero, suc, List, [], ◌∷◌, ◌++◌, map, Bool, refl, sym, ap, ◌∙◌, subst, arith, append_assoc, append-nil}
use Rattle.std.proofs.Common.{Option, option_map}
use Rattle.std.specs.Prelude.{codes}
use Rattle.std.proofs.lemmas.List.{map-append}
use Rattle.sheet_syntax_trees.specs.declared.token.Token.{Token}
use Rattle.sheet_syntax_trees.specs.declared.token.TokenKind.TheVariants as kind
use Rattle.sheet_syntax_trees.proofs.Printable.{Good}
use Rattle.sheet_syntax_trees.specs.declared.tree.Tree.{Tree}
use Rattle.sheet_syntax_trees.specs.Grammar.{expression}
use Rattle.sheet_syntax_trees.specs.Texts.{on_one_line}
use Rattle.sheet_define_data.specs.declared.definition.TypeName.{TypeName}
use Rattle.sheet_define_data.specs.declared.definition.Literal.{Literal}
use Rattle.sheet_define_data.specs.declared.definition.Content.TheVariants as content
use Rattle.sheet_define_data.specs.declared.definition.Column.{Column}
use Rattle.sheet_define_data.specs.declared.definition.Declaration.{Declaration}
use Rattle.sheet_define_data.specs.declared.definition.Declaration.TheVariants as declaration
use Rattle.sheet_define_data.specs.Grammar.{Limits, IsFormulaOf, Maybe, IsType, IsOne, IsFirst, IsDeclared, IsColumn, AreColumns, an_object_column}
use Rattle.sheet_define_data.specs.Grammar.{a_state_column, a_formula_column, no_columns, more_columns}
use Rattle.sheet_define_data.specs.Printing.{line_at, margin, column_text, depth_of, closings, declaration_text, declarations_text, open_inside, open_behind}
use Rattle.sheet_syntax_print.proofs.Back.{named_word}
use Rattle.sheet_define_readback.specs.Lines.{type_on_one_line, literal_on_one_line, declaration_on_one_line}
use Rattle.sheet_define_readback.proofs.Heads.{type_back, declared_back, declared_ends, first_back, first_ends, one_back, one_ends}
use Rattle.sheet_define_readback.proofs.Pieces.{name_written, expression_back, object_piece, state_piece, formula_piece, equals_piece, colon_piece}
use Rattle.sheet_define_readback.proofs.Pieces.{open_brace_piece, close_brace_piece}
use Rattle.sheet_define_readback.proofs.Written.{Written, Any, Then, then, One, one, Read, both, behind, made, nothing, sure, Blank, no_margin, wider, line}

-- ---- the lines that close braces

-- what stands first in the list is at most so deep
abbrev pub Falls : ℕ → List Declaration → Type 0
Falls depth [] = Unit {0}
Falls depth (d ∷ ds) = depth_of d ≤ depth

closings_split : (a b d : ℕ) → closings (a + b) d ≡ closings a (d + b) ++ closings b d
closings_split zero b d = ap (λ n. closings n d) (omega arith)
closings_split (suc a) b d =
    let e : suc a + b ≡ suc (a + b) = omega arith in
    let f : d + (a + b) ≡ d + b + a = omega arith in
    ap (λ n. closings n d) e ∙ ap (λ n. line_at (margin n) (codes "}") ++ closings (a + b) d) f ∙ ap (λ l. line_at (margin (d + b + a)) (codes "}") ++ l)
    (closings_split a b d)
    ∙ sym (append_assoc (line_at (margin (d + b + a)) (codes "}")) (closings a (d + b)) (closings b d))

-- down to one depth by way of another
closings_by : (high mid low : ℕ) → low ≤ mid → mid ≤ high → closings (high - low) low ≡ closings (high - mid) mid ++ closings (mid - low) low
closings_by high mid low a b =
    let e : high - low ≡ (high - mid) + (mid - low) = omega arith in
    let f : low + (mid - low) ≡ mid = omega arith in
    ap (λ n. closings n low) e ∙ closings_split (high - mid) (mid - low) low ∙ ap (λ n. closings (high - mid) n ++ closings (mid - low) low) f

pub fall : (opened depth : ℕ) (es : List Declaration) → depth ≤ opened → Falls depth es →
    declarations_text opened es ≡ closings (opened - depth) depth ++ declarations_text depth es
fall opened depth [] deep falls =
    let e : opened ≡ (opened - depth) + depth = omega arith in
    let f : 0 + depth ≡ depth = omega arith in
    ap (λ n. closings n 0) e ∙ closings_split (opened - depth) depth 0 ∙ ap (λ n. closings (opened - depth) n ++ closings depth 0) f
fall opened depth (e ∷ es) deep falls =
    let k = depth_of e in
    let t = declaration_text e in
    let r = declarations_text (open_behind e) es in
    ap (λ l. (l ++ t) ++ r) (closings_by opened depth k falls deep)
    ∙ ap (λ l. l ++ r) (append_assoc (closings (opened - depth) depth) (closings (depth - k) k) t)
    ∙ append_assoc (closings (opened - depth) depth) (closings (depth - k) k ++ t) r

no_closings : (n d : ℕ) → closings (n - n) d ≡ []
no_closings n d = let e : n - n ≡ 0 = omega arith in ap (λ k. closings k d) e

one_closing : (d : ℕ) → closings (suc d - d) d ≡ line_at (margin d) (codes "}")
one_closing d =
    let e : suc d - d ≡ 1 = omega arith in
    let f : d + 0 ≡ d = omega arith in
    ap (λ k. closings k d) e ∙ append-nil (line_at (margin (d + 0)) (codes "}")) ∙ ap (λ n. line_at (margin n) (codes "}")) f

deeper : (depth : ℕ) (es : List Declaration) → Falls depth es → Falls (suc depth) es
deeper depth [] falls = tt
deeper depth (e ∷ es) falls = omega (arith, falls)

regroup : (a c t e d : List ℕ) → (a ++ c) ++ (t ++ (e ++ d)) ≡ a ++ (((c ++ t) ++ e) ++ d)
regroup a c t e d = simp (append_assoc) refl

margin_blank : (depth : ℕ) → Blank (margin depth)
margin_blank zero = no_margin
margin_blank (suc depth) = wider (margin depth) (margin_blank depth)

-- ---- columns, by the text that they have with the braces that they close

-- What stands first is at the depth; the printed text has the columns' own text behind the braces that are closed before it,
-- and it is read as these columns.
pub record ColumnsBack (l : Limits) (depth : ℕ) (ds : List Declaration) : Type 0 where
  pub text : List ℕ
  pub written : Written Any (Read (AreColumns l depth) (map declaration_on_one_line) ds) text
  pub falls : (es : List Declaration) → Falls depth es → Falls depth (ds ++ es)
  pub shown : (opened : ℕ) (es : List Declaration) → depth ≤ opened → Falls depth es →
      declarations_text opened (ds ++ es) ≡ closings (opened - depth) depth ++ (text ++ declarations_text depth es)

pub record ColumnBack (l : Limits) (depth : ℕ) (ds : List Declaration) : Type 0 where
  pub text : List ℕ
  pub written : Written Any (Read (IsColumn l depth) (map declaration_on_one_line) ds) text
  pub falls : (es : List Declaration) → Falls depth (ds ++ es)
  pub shown : (opened : ℕ) (es : List Declaration) → depth ≤ opened → Falls depth es →
      declarations_text opened (ds ++ es) ≡ closings (opened - depth) depth ++ (text ++ declarations_text depth es)

module _ (l : Limits) where
  state_made : (depth n : ℕ) (name : List ℕ) (t : TypeName) (b : Bool) (v : Option Literal) (ts us : List Token)
      → Then (Then (Then (Then (Then (One (kind.Reserved (codes "state"))) (One (kind.Name name))) (One (kind.Symbol (codes ":"))))
      (Read IsType type_on_one_line t)) (λ ts us. IsOne ts b us)) (Read (Maybe IsFirst) (option_map literal_on_one_line) v) ts us
      → Read (IsColumn l depth) (map declaration_on_one_line)
      (declaration.Column (record { depth = depth; line = n; name = name; content = content.State t b v }) ∷ []) ts us
  state_made depth n name t b v _ us (then _ xs _ (then _ vs _ (then _ _ _ (then _ _ _ (then _ _ _ (one w _ iw) (one x _ is)) (one k ts ik)) q) o) r) =
      record {
        thing = declaration.Column (record { depth = depth; line = w.line; name = name; content = content.State q.thing b r.thing }) ∷ [];
        stands = a_state_column depth w x k name ts vs xs us q.thing b r.thing iw is ik q.stands o r.stands;
        same = ap (λ (y : TypeName).
            declaration.Column (record { depth = depth; line = 1; name = name; content = content.State y b (option_map literal_on_one_line r.thing) }) ∷ [])
            q.same
            ∙ ap (λ (y : Option Literal).
            declaration.Column (record { depth = depth; line = 1; name = name; content = content.State (type_on_one_line t) b y }) ∷ []) r.same;
      }

  worked_made : (depth n : ℕ) (name : List ℕ) (t : Option TypeName) (f : Tree) (ts us : List Token)
      → Then (Then (Then (Then (One (kind.Reserved (codes "formula"))) (One (kind.Name name))) (Read (Maybe IsDeclared) (option_map type_on_one_line) t))
      (One (kind.Symbol (codes "=")))) (Read (IsFormulaOf l expression) on_one_line f) ts us
      → Read (IsColumn l depth) (map declaration_on_one_line)
      (declaration.Column (record { depth = depth; line = n; name = name; content = content.Formula t f }) ∷ []) ts us
  worked_made depth n name t f _ us (then _ vs _ (then _ _ _ (then _ _ _ (then _ _ _ (one w _ iw) (one x ts is)) q) (one e _ ie)) r) =
      record {
        thing = declaration.Column (record { depth = depth; line = w.line; name = name; content = content.Formula q.thing r.thing }) ∷ [];
        stands = a_formula_column depth w x e name ts vs us q.thing r.thing iw is q.stands ie r.stands;
        same = ap (λ (y : Option TypeName).
            declaration.Column (record { depth = depth; line = 1; name = name; content = content.Formula y (on_one_line r.thing) }) ∷ []) q.same
            ∙ ap (λ (y : Tree).
            declaration.Column (record { depth = depth; line = 1; name = name; content = content.Formula (option_map type_on_one_line t) y }) ∷ []) r.same;
      }

  object_made : (depth n : ℕ) (name : List ℕ) (ds : List Declaration) (ts us : List Token)
      → Then (Then (Then (Then (One (kind.Reserved (codes "object"))) (One (kind.Name name))) (One (kind.Symbol (codes "{"))))
      (Read (AreColumns l (suc depth)) (map declaration_on_one_line) ds)) (One (kind.Symbol (codes "}"))) ts us
      → Read (IsColumn l depth) (map declaration_on_one_line)
      (declaration.Column (record { depth = depth; line = n; name = name; content = content.Object }) ∷ ds) ts us
  object_made depth n name ds _ us (then _ _ _ (then _ _ _ (then _ _ _ (then _ _ _ (one w _ iw) (one x _ is)) (one o ts io)) r) (one c _ ic)) =
      record {
        thing = declaration.Column (record { depth = depth; line = w.line; name = name; content = content.Object }) ∷ r.thing;
        stands = an_object_column depth w x o c name ts us r.thing iw is io r.stands ic;
        same = ap (λ l. declaration.Column (record { depth = depth; line = 1; name = name; content = content.Object }) ∷ l) r.same;
      }

  columns_made : (depth : ℕ) (ds es : List Declaration) (ts us : List Token) →
      Then (Read (IsColumn l depth) (map declaration_on_one_line) ds) (Read (AreColumns l depth) (map declaration_on_one_line) es) ts us
      → Read (AreColumns l depth) (map declaration_on_one_line) (ds ++ es) ts us
  columns_made depth ds es _ _ (then ts vs us q r) =
      record {
        thing = q.thing ++ r.thing;
        stands = more_columns depth ts vs us q.thing r.thing q.stands r.stands;
        same = map-append declaration_on_one_line q.thing r.thing ∙ ap (λ l. l ++ map declaration_on_one_line r.thing) q.same
            ∙ ap (λ l. map declaration_on_one_line ds ++ l) r.same ∙ sym (map-append declaration_on_one_line ds es);
      }

-- one column that holds no others
leaf_column : (l : Limits) (depth : ℕ) (c : Column) → c.depth ≡ depth → open_inside c.depth c.content ≡ depth →
    Written Any (Read (IsColumn l depth) (map declaration_on_one_line) (declaration.Column c ∷ [])) (column_text c) →
    ColumnBack l depth (declaration.Column c ∷ [])
leaf_column l depth c here inside w =
    record {
      text = column_text c;
      written = w;
      falls = λ es. omega (arith, here);
      shown = λ opened es deep falls.
          ap (λ n. (closings (opened - n) n ++ column_text c) ++ declarations_text (open_inside c.depth c.content) es) here
          ∙ ap (λ n. (closings (opened - depth) depth ++ column_text c) ++ declarations_text n es) inside
          ∙ append_assoc (closings (opened - depth) depth) (column_text c) (declarations_text depth es);
    }

module _ (l : Limits) (fits : l.depth ≤ l.nest) where
  mutual
    pub column_back : (depth : ℕ) (ts us : List Token) (ds : List Declaration) → IsColumn l depth ts ds us → Good ts → Good us × ColumnBack l depth ds
    column_back _ _ _ _ (an_object_column depth w n o c name ts us ds iw is io a ic) good =
        let (word, free) = named_word n.kind name is good.1.0 in
        let (good1, r) = columns_back (suc depth) ts (c ∷ us) ds a good.1.1.1 in
        let m = margin_blank depth in
        let opening = line_at (margin depth) ((codes "object " ++ name) ++ codes " {") in
        let shut = line_at (margin depth) (codes "}") in (
          good1.1,
          record {
            text = (opening ++ r.text) ++ shut;
            written = made (object_made l depth w.line name ds)
                (behind (behind (line (margin depth) m (sure (both (behind object_piece (name_written name word free)) open_brace_piece (λ rest d. refl))))
                r.written) (line (margin depth) m (sure close_brace_piece)));
            falls = λ es. omega arith;
            shown = λ opened es deep falls.
                let d = declarations_text depth es in
                let same : depth ≤ suc depth = omega arith in
                let here : suc depth ≤ suc depth = omega arith in
                ap (λ t. (closings (opened - depth) depth ++ opening) ++ t)
                (r.shown (suc depth) es here (deeper depth es falls)
                ∙ ap (λ t. t ++ (r.text ++ declarations_text (suc depth) es)) (no_closings (suc depth) (suc depth))
                ∙ ap (λ t. r.text ++ t) (fall (suc depth) depth es same falls ∙ ap (λ t. t ++ d) (one_closing depth)))
                ∙ regroup (closings (opened - depth) depth) opening r.text shut d;
          },
        )
    column_back _ _ _ _ (a_state_column depth w n k name ts us vs rest t b first iw is ik a o f) good =
        let (word, free) = named_word n.kind name is good.1.0 in
        let (good1, p) = type_back ts us t a good.1.1.1 in
        let (good2, q) = one_back us vs b o good1 in
        let (good3, r) = first_back vs rest first f good2 in (
          good3,
          leaf_column l depth (record { depth = depth; line = w.line; name = name; content = content.State t b first }) refl refl
              (line (margin depth) (margin_blank depth) (made (state_made l depth w.line name t b first)
              (both (both (behind (both (behind state_piece (name_written name word free)) colon_piece (λ rest d. refl)) p) q (one_ends b)) r
              (first_ends first)))),
        )
    column_back _ _ _ _ (a_formula_column depth w n e name ts us rest t f iw is a ie b) good =
        let (word, free) = named_word n.kind name is good.1.0 in
        let (good1, p) = declared_back ts (e ∷ us) t a good.1.1 in
        let (good2, q) = expression_back l fits us rest f b good1.1 in (
          good2,
          leaf_column l depth (record { depth = depth; line = w.line; name = name; content = content.Formula t f }) refl refl
              (line (margin depth) (margin_blank depth) (made (worked_made l depth w.line name t f)
              (behind (both (both (behind formula_piece (name_written name word free)) p (declared_ends t)) equals_piece (λ rest d. refl)) q))),
        )

    pub columns_back : (depth : ℕ) (ts us : List Token) (ds : List Declaration) → AreColumns l depth ts ds us → Good ts → Good us × ColumnsBack l depth ds
    columns_back _ _ _ _ (no_columns depth ts) good = (
      good,
      record {
        text = [];
        written = nothing (λ ts. record { thing = []; stands = no_columns depth ts; same = refl });
        falls = λ es f. f;
        shown = λ opened es deep f. fall opened depth es deep f;
      },
    )
    columns_back _ _ _ _ (more_columns depth ts us rest ds es a b) good =
        let (good1, p) = column_back depth ts us ds a good in
        let (good2, q) = columns_back depth us rest es b good1 in (
          good2,
          record {
            text = p.text ++ q.text;
            written = made (columns_made l depth ds es) (behind p.written q.written);
            falls = λ fs f. subst (Falls depth) (sym (append_assoc ds es fs)) (p.falls (es ++ fs));
            shown = λ opened fs deep f.
                let here : depth ≤ depth = omega arith in
                let d = declarations_text depth fs in
                let shut = closings (opened - depth) depth in
                ap (declarations_text opened) (append_assoc ds es fs) ∙ p.shown opened (es ++ fs) deep (q.falls fs f)
                ∙ ap (λ t. shut ++ (p.text ++ t)) (q.shown depth fs here f ∙ ap (λ t. t ++ (q.text ++ d)) (no_closings depth depth))
                ∙ ap (λ t. shut ++ t) (sym (append_assoc p.text q.text d));
          },
        )
