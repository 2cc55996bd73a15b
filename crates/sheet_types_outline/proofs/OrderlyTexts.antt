-- The definition that a text stands for is orderly.
use Rattle.std.proofs.Common.{ℕ, ◌+◌, ◌<◌, ◌≤◌, suc, List, ◌∷◌, ◌++◌, length, Option, sym, subst, arith, append_assoc}
use Rattle.sheet_syntax_trees.specs.declared.token.Token.{Token}
use Rattle.sheet_syntax_trees.specs.Grammar.{expression}
use Rattle.sheet_define_data.specs.declared.definition.Declaration.{Declaration}
use Rattle.sheet_define_data.specs.declared.definition.Literal.{Literal}
use Rattle.sheet_define_data.specs.declared.definition.Parameter.{Parameter}
use Rattle.sheet_define_data.specs.declared.definition.Procedure.{Procedure}
use Rattle.sheet_define_data.specs.declared.definition.View.{View}
use Rattle.sheet_types_rules.specs.Parameters.{most_parameters}
use Rattle.sheet_define_data.specs.Grammar.{Limits, Maybe, left_out, stated, IsName, IsLiteral, a_number, a_negative_number, a_text, a_true, a_false, IsFirst}
use Rattle.sheet_define_data.specs.Grammar.{a_first, IsColumn, an_object_column, a_state_column, a_formula_column, AreColumns, no_columns, more_columns}
use Rattle.sheet_define_data.specs.Grammar.{InParentheses, no_parameters, some_parameters, IsProcedure, a_procedure, IsView, a_view, IsDeclaration, the_callers}
use Rattle.sheet_define_data.specs.Grammar.{a_column, one_procedure, one_view, AreDeclarations, no_declarations, more_declarations}
use Rattle.sheet_types_outline.specs.Orderly.{IsUnsigned, IsUnsignedIfAny, IsOrderlyFrom}
use Rattle.sheet_types_outline.specs.Texts.{TextsAreOrderly}
use Rattle.sheet_types_outline.proofs.PlainTokens.{IsPlain, ArePlain, lexed_plain, formula_plain, path_plain, type_plain, one_word_plain, first_plain}
use Rattle.sheet_types_outline.proofs.PlainTokens.{declared_plain, procedure_plain, view_plain}

name_short : (t : Token) (name : List ℕ) → IsName name t → IsPlain t.kind → length name ≤ 63
name_short t name is p = subst IsPlain is p

literal_unsigned : (ts us : List Token) (v : Literal) → IsLiteral ts v us → ArePlain ts → IsUnsigned v
literal_unsigned _ _ _ (a_number t n ts is) p = tt
literal_unsigned _ _ _ (a_negative_number m t n ts ism is) p = subst IsPlain is p.1.0
literal_unsigned _ _ _ (a_text t text ts is) p = tt
literal_unsigned _ _ _ (a_true t ts is) p = tt
literal_unsigned _ _ _ (a_false t ts is) p = tt

first_unsigned : (ts us : List Token) (v : Option Literal) → Maybe IsFirst ts v us → ArePlain ts → IsUnsignedIfAny v
first_unsigned _ _ _ (left_out ts) p = tt
first_unsigned _ _ _ (stated _ _ _ (a_first e ts us v is lit)) p = literal_unsigned ts us v lit p.1

-- What stands behind is orderly, however many columns are open, as long as those above are.
pub record IsOrderlyBehind (depth : ℕ) (ds : List Declaration) : Type 0 where
  pub orderly : (count : ℕ) → depth < count → IsOrderlyFrom count ds

-- A column with all in its braces, and the tokens behind it.
pub record IsOrderlyFront (depth : ℕ) (ds : List Declaration) (us : List Token) : Type 0 where
  pub plain : ArePlain us
  pub before : (es : List Declaration) → IsOrderlyBehind depth es → IsOrderlyBehind depth (ds ++ es)

mutual
  column_orderly : (l : Limits) (k : ℕ) (ts us : List Token) (ds : List Declaration) → IsColumn l k ts ds us → ArePlain ts → IsOrderlyFront k ds us
  column_orderly l _ _ _ _ (an_object_column k w n o c name ts us ds a1 named a3 q a4) p =
      let inner = columns_orderly l (suc k) ts (c ∷ us) ds q p.1.1.1 in
      record {
        plain = inner.plain.1;
        before = λ es behind. record {
          orderly = λ count lt. (
            record { short = name_short n name named p.1.0; inside = lt; unsigned = tt },
            (inner.before es (record { orderly = λ m more. behind.orderly m (omega arith) })).orderly (k + 2) (omega arith),
          );
        };
      }
  column_orderly l _ _ _ _ (a_state_column k w n c name ts us vs rest t one first a1 named a3 q r s) p =
      let typed = type_plain ts us t q p.1.1.1 in
      let counted = one_word_plain us vs one r typed in
      record {
        plain = first_plain vs rest first s counted;
        before = λ es behind. record {
          orderly = λ count lt. (
            record { short = name_short n name named p.1.0; inside = lt; unsigned = first_unsigned vs rest first s counted },
            behind.orderly (k + 1) (omega arith),
          );
        };
      }
  column_orderly l _ _ _ _ (a_formula_column k w n e name ts us rest t f a1 named q a3 r) p =
      let declared = declared_plain ts (e ∷ us) t q p.1.1 in
      record {
        plain = formula_plain l expression us rest f r declared.1;
        before = λ es behind. record {
          orderly = λ count lt. (
            record { short = name_short n name named p.1.0; inside = lt; unsigned = tt },
            behind.orderly (k + 1) (omega arith),
          );
        };
      }

  columns_orderly : (l : Limits) (k : ℕ) (ts us : List Token) (ds : List Declaration) → AreColumns l k ts ds us → ArePlain ts → IsOrderlyFront k ds us
  columns_orderly l _ _ _ _ (no_columns k ts) p = record { plain = p; before = λ es behind. behind }
  columns_orderly l _ _ _ _ (more_columns k ts us rest ds es q r) p =
      let front = column_orderly l k ts us ds q p in
      let more = columns_orderly l k us rest es r front.plain in
      record {
        plain = more.plain;
        before = λ fs behind. subst (IsOrderlyBehind k) (sym (append_assoc ds es fs)) (front.before (es ++ fs) (more.before fs behind));
      }

few : (ts us : List Token) (ps : List Parameter) → InParentheses ts ps us → length ps ≤ most_parameters
few _ _ _ (no_parameters o c ts a1 a2) = omega arith
few _ _ _ (some_parameters o c ts us ps a1 q le a2) = le

procedure_few : (l : Limits) (b : ℕ) (ts us : List Token) (x : Procedure) → IsProcedure l b ts x us → length x.parameters ≤ most_parameters
procedure_few l b _ _ _ (a_procedure w n name ps ts bs rest parameters allow body a1 a2 q r s) = few ps ts parameters q

view_few : (l : Limits) (ts us : List Token) (v : View) → IsView l ts v us → length v.parameters ≤ most_parameters
view_few l _ _ _ (a_view w n o c name ps ts us rest parameters allow parts a1 a2 q r a3 s a4) = few ps ts parameters q

declaration_orderly : (l : Limits) (b : ℕ) (ts us : List Token) (ds : List Declaration) → IsDeclaration l b ts ds us → ArePlain ts → IsOrderlyFront 0 ds us
declaration_orderly l b _ _ _ (the_callers w ts rest q a1 r) p =
    record { plain = path_plain ts rest q r p.1; before = λ es behind. record { orderly = λ count lt. (tt, behind.orderly count lt) } }
declaration_orderly l b _ _ _ (a_column ts rest ds q) p = column_orderly l 0 ts rest ds q p
declaration_orderly l b _ _ _ (one_procedure ts rest x q) p =
    record {
      plain = procedure_plain l b ts rest x q p;
      before =
          λ es behind. record { orderly = λ count lt. (procedure_few l b ts rest x q, behind.orderly count lt) };
    }
declaration_orderly l b _ _ _ (one_view ts rest v q) p =
    record { plain = view_plain l ts rest v q p; before = λ es behind. record { orderly = λ count lt. (view_few l ts rest v q, behind.orderly count lt) } }

declarations_orderly : (l : Limits) (b : ℕ) (ts : List Token) (ds : List Declaration) → AreDeclarations l b ts ds → ArePlain ts → IsOrderlyBehind 0 ds
declarations_orderly l b _ _ no_declarations p = record { orderly = λ count lt. tt }
declarations_orderly l b _ _ (more_declarations ts us ds es q r) p =
    let front = declaration_orderly l b ts us ds q p in
    front.before es (declarations_orderly l b us es r front.plain)

pub texts_orderly : TextsAreOrderly
texts_orderly text d is = (declarations_orderly _ _ is.tokens d.declarations is.produced (lexed_plain text is.tokens is.told)).orderly 1 (omega arith)
