-- The schema of a well-typed book, and its workbook at the start.
use Rattle.std.proofs.Common.{◌≡◌, refl, ap, ℕ, ◌+◌, List, [], ◌∷◌, Option, Some, None}
use Rattle.std.specs.Prelude.{map}
use Rattle.std.specs.List.{filter_map, cons_option, enumerate_from}
use Rattle.sheet_columns.specs.declared.formula.Core.{Core}
use Rattle.sheet_columns.specs.declared.tree.Column.{Column}
use Rattle.sheet_columns.specs.declared.tree.Column.TheVariants as column
use Rattle.sheet_columns.specs.declared.tree.Node.{Node}
use Rattle.sheet_meaning.specs.WellFormed.{as_formula}
use Rattle.sheet_meaning.specs.declared.workbook.ColumnFormula.{ColumnFormula}
use Rattle.sheet_meaning.proofs.Starting.{starts_are_well_formed, starts_are_filled}
use Rattle.sheet_books.specs.Books.{HasFormula, HaveFormulas}
use Rattle.sheet_books.specs.Schemas.{numbered_formula, schema_of, BooksStartWell}

abbrev numbers : List ColumnFormula → List ℕ
numbers fs = map (λ (f : ColumnFormula). f.column) fs

-- a formula stands for a formula column, and for nothing else
one : (n : List Node) (c : ℕ) (x : Column) (f : Option Core) → HasFormula n c x f → (fs : List ColumnFormula) (ns : List ℕ) → numbers fs ≡ ns
    → numbers (cons_option (numbered_formula c f) fs) ≡ cons_option (as_formula c x) ns
one n c column.Object None h fs ns e = e
one n c column.Object (Some core) h fs ns e = cc
one n c (column.State k o first) None h fs ns e = e
one n c (column.State k o first) (Some core) h fs ns e = cc
one n c (column.Formula k) None h fs ns e = absurd h
one n c (column.Formula k) (Some core) h fs ns e = ap (λ l. c ∷ l) e

all : (n : List Node) (c : ℕ) (ms : List Node) (fs : List (Option Core)) → HaveFormulas n c ms fs
    → numbers (filter_map (λ (x : ℕ × Option Core). numbered_formula x.0 x.1) (enumerate_from c fs)) ≡ filter_map (λ (x : ℕ × Node). as_formula x.0 x.1.column)
    (enumerate_from c ms)
all n c [] [] h = refl
all n c [] (f ∷ fs) h = absurd h
all n c (m ∷ ms) [] h = absurd h
all n c (m ∷ ms) (f ∷ fs) h =
    one n c m.column f h.0 (filter_map (λ (x : ℕ × Option Core). numbered_formula x.0 x.1) (enumerate_from (c + 1) fs))
    (filter_map (λ (x : ℕ × Node). as_formula x.0 x.1.column) (enumerate_from (c + 1) ms)) (all n (c + 1) ms fs h.1)

pub books_start_well : BooksStartWell
books_start_well b typed =
    let formulas = all b.columns 0 b.columns b.formulas typed.formulas in
    record {
      formulas = formulas;
      formed = λ tree. starts_are_well_formed (schema_of b) tree formulas;
      filled = starts_are_filled (schema_of b) typed.first_values;
    }
