-- A printed definition is read back.
use Rattle.std.proofs.Common.{◌≡◌, ℕ, ◌+◌, ◌≤◌, List, [], ◌∷◌, ◌++◌, map, IsUtf8, refl, sym, ap, ◌∙◌, subst, arith, Ok, Err}
use Rattle.std.specs.Prelude.{codes, Result, IfOk}
use Rattle.std.proofs.lemmas.List.{map-append}
use Rattle.std.proofs.lemmas.Str.{IsUtf8-append, IsUtf8-nil, is_utf8-from_IsUtf8}
use Rattle.sheet_syntax_trees.specs.declared.token.Token.{Token}
use Rattle.sheet_syntax_trees.specs.declared.token.TokenKind.TheVariants as kind
use Rattle.sheet_syntax_trees.specs.Tokens.{tokens_from, with_tokens}
use Rattle.sheet_syntax_trees.proofs.Printable.{Good, lexed_good}
use Rattle.sheet_define_data.specs.declared.definition.Path.{Path}
use Rattle.sheet_define_data.specs.declared.definition.Procedure.{Procedure}
use Rattle.sheet_define_data.specs.declared.definition.View.{View}
use Rattle.sheet_define_data.specs.declared.definition.Declaration.{Declaration}
use Rattle.sheet_define_data.specs.declared.definition.Declaration.TheVariants as declaration
use Rattle.sheet_define_data.specs.declared.definition.Definition.{Definition}
use Rattle.sheet_define_data.specs.Grammar.{Limits, IsPath, IsColumn, IsProcedure, IsView, IsDeclaration, the_callers, a_column, one_procedure, one_view}
use Rattle.sheet_define_data.specs.Grammar.{AreDeclarations, no_declarations, more_declarations, IsDefinition}
use Rattle.sheet_define_data.specs.Printing.{declarations_text, definition_text, printed_size}
use Rattle.sheet_define_readback.specs.Lines.{path_on_one_line, procedure_on_one_line, view_on_one_line, declaration_on_one_line}
use Rattle.sheet_define_readback.specs.Back.{StandsButForLines}
use Rattle.sheet_define_readback.proofs.Columns.{Falls, column_back}
use Rattle.sheet_define_readback.proofs.Heads.{path_back}
use Rattle.sheet_define_readback.proofs.Pieces.{callers_piece}
use Rattle.sheet_define_readback.proofs.Views.{procedure_back, view_back}
use Rattle.sheet_define_readback.proofs.Written.{Written, Any, Then, then, One, one, Read, behind, made, no_margin, line}

-- ---- declarations

module _ (l : Limits) (b : ℕ) where
  callers_made : (n : ℕ) (p : Path) (ts us : List Token) → Then (One (kind.Reserved (codes "callers"))) (Read IsPath path_on_one_line p) ts us →
      Read (IsDeclaration l b) (map declaration_on_one_line) (declaration.Callers n p ∷ []) ts us
  callers_made n p _ us (then _ _ _ (one w ts iw) r) =
      record {
        thing = declaration.Callers w.line r.thing ∷ [];
        stands = the_callers w ts us r.thing iw r.stands;
        same = ap (λ q. declaration.Callers 1 q ∷ []) r.same;
      }

  column_made : (ds : List Declaration) (ts us : List Token) → Read (IsColumn l 0) (map declaration_on_one_line) ds ts us →
      Read (IsDeclaration l b) (map declaration_on_one_line) ds ts us
  column_made ds ts us r = record { thing = r.thing; stands = a_column ts us r.thing r.stands; same = r.same }

  procedure_made : (p : Procedure) (ts us : List Token) → Read (IsProcedure l b) procedure_on_one_line p ts us →
      Read (IsDeclaration l b) (map declaration_on_one_line) (declaration.Procedure p ∷ []) ts us
  procedure_made p ts us r =
      record { thing = declaration.Procedure r.thing ∷ []; stands = one_procedure ts us r.thing r.stands; same = ap (λ q. declaration.Procedure q ∷ []) r.same }

  view_made : (v : View) (ts us : List Token) → Read (IsView l) view_on_one_line v ts us →
      Read (IsDeclaration l b) (map declaration_on_one_line) (declaration.View v ∷ []) ts us
  view_made v ts us r =
      record { thing = declaration.View r.thing ∷ []; stands = one_view ts us r.thing r.stands; same = ap (λ q. declaration.View q ∷ []) r.same }

-- a declaration, with the text that it has where no braces are open
record DeclarationBack (l : Limits) (b : ℕ) (ds : List Declaration) : Type 0 where
  text : List ℕ
  written : Written Any (Read (IsDeclaration l b) (map declaration_on_one_line) ds) text
  falls : (es : List Declaration) → Falls 0 (ds ++ es)
  shown : (es : List Declaration) → Falls 0 es → declarations_text 0 (ds ++ es) ≡ text ++ declarations_text 0 es

declaration_back : (l : Limits) → l.depth ≤ l.nest → (b : ℕ) (ts us : List Token) (ds : List Declaration) → IsDeclaration l b ts ds us → Good ts →
    Good us × DeclarationBack l b ds
declaration_back l fits b _ _ _ (the_callers w ts rest p iw a) good =
    let (good1, r) = path_back ts rest p a good.1 in (
      good1,
      record {
        text = _;
        written = line [] no_margin (made (callers_made l b w.line p) (behind callers_piece r));
        falls = λ es. omega arith;
        shown = λ es falls. refl;
      },
    )
declaration_back l fits b _ _ _ (a_column ts rest ds a) good =
    let (good1, r) = column_back l fits 0 ts rest ds a good in
    (good1, record { text = r.text; written = made (column_made l b ds) r.written; falls = r.falls; shown = λ es falls. r.shown 0 es (omega arith) falls })
declaration_back l fits b _ _ _ (one_procedure ts rest p a) good =
    let (good1, r) = procedure_back l fits b ts rest p a good in
    (good1, record { text = _; written = made (procedure_made l b p) r; falls = λ es. omega arith; shown = λ es falls. refl })
declaration_back l fits b _ _ _ (one_view ts rest v a) good =
    let (good1, r) = view_back l fits ts rest v a good in
    (good1, record { text = _; written = made (view_made l b v) r; falls = λ es. omega arith; shown = λ es falls. refl })

-- ---- whole definitions

-- the text, from this offset and line on up to its end, stands for these declarations
record WholeRead (l : Limits) (b : ℕ) (text : List ℕ) (ds : List Declaration) (at above : ℕ) : Type 0 where
  ts : List Token
  told : tokens_from text at (above + 1) 0 ≡ Ok ts
  back : List Declaration
  stands : AreDeclarations l b ts back
  same : map declaration_on_one_line back ≡ map declaration_on_one_line ds

record WholeBack (l : Limits) (b : ℕ) (ds : List Declaration) : Type 0 where
  encoded : IsUtf8 (declarations_text 0 ds)
  falls : Falls 0 ds
  read : (at above : ℕ) → WholeRead l b (declarations_text 0 ds) ds at above

no_text : (l : Limits) (b at above : ℕ) → WholeRead l b [] [] at above
no_text l b at above = record { ts = []; told = refl; back = []; stands = no_declarations; same = refl }

one_before : (l : Limits) (b : ℕ) (ds es : List Declaration) → DeclarationBack l b ds → WholeBack l b es → WholeBack l b (ds ++ es)
one_before l b ds es d w =
    let text = d.text ++ declarations_text 0 es in
    let shown : declarations_text 0 (ds ++ es) ≡ text = d.shown es w.falls in
    record {
      encoded = subst IsUtf8 (sym shown) (IsUtf8-append d.text (declarations_text 0 es) d.written.encoded w.encoded);
      falls = d.falls es;
      read = λ at above.
          let p = d.written.printed at above (declarations_text 0 es) tt in
          let r = w.read p.lies.to p.lies.below in
          let q = p.reads r.ts in
          subst (λ t. WholeRead l b t (ds ++ es) at above) (sym shown)
          (record {
            ts = p.ts ++ r.ts;
            told = p.lies.told ∙ ap (with_tokens p.ts) r.told;
            back = q.thing ++ r.back;
            stands = more_declarations _ _ _ _ q.stands r.stands;
            same = map-append declaration_on_one_line q.thing r.back ∙ ap (λ x. x ++ map declaration_on_one_line r.back) q.same
                ∙ ap (λ x. map declaration_on_one_line ds ++ x) r.same ∙ sym (map-append declaration_on_one_line ds es);
          });
    }

whole_back : (l : Limits) → l.depth ≤ l.nest → (b : ℕ) (ts : List Token) (ds : List Declaration) → AreDeclarations l b ts ds → Good ts → WholeBack l b ds
whole_back l fits b _ _ no_declarations good = record { encoded = IsUtf8-nil; falls = tt; read = no_text l b }
whole_back l fits b _ _ (more_declarations ts us ds es p q) good =
    let (good1, d) = declaration_back l fits b ts us ds p good in
    one_before l b ds es d (whole_back l fits b us es q good1)

pub reads_back : (text : List ℕ) (d : Definition) → IsDefinition text d → printed_size d ≤ 262144 → StandsButForLines (definition_text d) d
reads_back text d s short =
    let w = whole_back (record { depth = 32; nest = 32 }) (omega arith) 16 s.tokens d.declarations s.produced (lexed_good text s.tokens s.told) in
    let r = w.read 0 0 in
    record {
      back = record { declarations = r.back };
      stands = record { short = short; encoded = is_utf8-from_IsUtf8 (definition_text d) w.encoded; tokens = r.ts; told = r.told; produced = r.stands };
      same = ap (λ (ds : List Declaration). record { declarations = ds }) r.same;
    }

-- the same of a text that a function may give
pub given_back : {X E : Type 0} (items : X → List ℕ) (r : Result X E) (d : Definition) → IfOk r (λ t. items t ≡ definition_text d)
    → IfOk r (λ t. (source : List ℕ) → IsDefinition source d → printed_size d ≤ 262144 → StandsButForLines (items t) d)
given_back items (Ok t) d h = λ source s short. subst (λ l. StandsButForLines l d) (sym h) (reads_back source d s short)
given_back items (Err e) d h = tt
