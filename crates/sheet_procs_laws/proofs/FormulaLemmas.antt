-- The formulas of a well-typed book's schema are those of its formula columns.
use Rattle.std.proofs.Common.{◌≡◌, ap, sym, ◌∙◌, subst, ℕ, ◌+◌, arith, slice_get, Option, Some, None}
use Rattle.std.specs.List.{enumerate_from}
use Rattle.sheet_columns.specs.Tree.{column_of}
use Rattle.sheet_columns.specs.declared.formula.Core.{Core}
use Rattle.sheet_columns.specs.declared.tree.Column.TheVariants as column
use Rattle.sheet_meaning.specs.declared.workbook.ColumnFormula.{ColumnFormula}
use Rattle.sheet_meaning.proofs.Columns.{from_enumerate}
use Rattle.sheet_meaning.proofs.Members.{IsIn, from_filter_map}
use Rattle.sheet_books.specs.declared.book.Contents.{Contents}
use Rattle.sheet_books.specs.Books.{HasFormula, IsFormulaOf, IsWellTypedFormula, IsWellTyped}
use Rattle.sheet_books.specs.Schemas.{numbered_formula, schema_of}
use Rattle.sheet_books.proofs.Having.{had}

pub formulas_typed : (b : Contents) → IsWellTyped b → (f : ColumnFormula) → IsIn f (schema_of b).formulas → IsWellTypedFormula b.columns f.column f.core
formulas_typed b typed f i k is =
    let x = from_filter_map (λ (y : ℕ × Option Core). numbered_formula y.0 y.1) (enumerate_from 0 b.formulas) f i in
    let at = from_enumerate b.formulas 0 x.0.0 x.0.1 x.1 in
    let here : at.0 ≡ x.0.0 = let h = at.1 in omega arith in
    of_option x.0.0 x.0.1 (ap (slice_get b.formulas) (sym here) ∙ at.2) x.2
  where
    at_column : (c : ℕ) (core : Core) → slice_get b.formulas c ≡ Some (Some core) → column_of b.columns c ≡ Some (column.Formula k) →
        IsFormulaOf b.columns c k core
    at_column c core there at =
        let has = had b.columns 0 b.columns b.formulas c (column.Formula k) typed.formulas at in
        let same : has.formula ≡ Some core = let e : Some has.formula ≡ Some (Some core) = sym has.at ∙ there in cc in
        let none : 0 + c ≡ c = omega arith in
        subst (λ d. IsFormulaOf b.columns d k core) none (subst (λ g. HasFormula b.columns (0 + c) (column.Formula k) g) same has.has)

    of_option : (c : ℕ) (o : Option Core) → slice_get b.formulas c ≡ Some o → numbered_formula c o ≡ Some f → IsFormulaOf b.columns f.column k f.core
    of_option c None there e = cc
    of_option c (Some core) there e =
        let same : record { column = c; core = core } ≡ f = cc in
        subst (λ (g : ColumnFormula). IsFormulaOf b.columns g.column k g.core) same
        (at_column c core there (ap (λ (g : ColumnFormula). column_of b.columns g.column) same ∙ is))
