-- What a state is with some formulas it is with any.
use Rattle.std.proofs.Common.{◌≡◌, refl, sym, ap, ◌∙◌, subst, ℕ, ◌+◌, Bool, true, false, List, [], ◌∷◌, length, arith, length-append, Some, None}
use Rattle.std.specs.Prelude.{map, if◌then◌else◌}
use Rattle.std.specs.List.{filter_map, flat_map, cons_option, enumerate_from}
use Rattle.sheet_columns.specs.Tree.{above_of, is_number}
use Rattle.sheet_columns.specs.declared.tree.Node.{Node}
use Rattle.sheet_meaning.specs.Workbook.{FormulaCell, formula_cell, cells_of, formula_cells}
use Rattle.sheet_meaning.specs.WellFormed.{as_formula, formula_numbers, HasFormulas, IsWellFormed, cell_count, state_cells, stored_values}
use Rattle.sheet_meaning.specs.declared.workbook.ColumnFormula.{ColumnFormula}
use Rattle.sheet_meaning.specs.declared.workbook.LiveObject.{LiveObject}
use Rattle.sheet_meaning.specs.declared.workbook.Schema.{Schema}
use Rattle.sheet_meaning.specs.declared.workbook.State.{State}
use Rattle.sheet_columns.specs.declared.tree.Column.{Column}
use Rattle.sheet_columns.specs.declared.tree.Column.TheVariants as column
use Rattle.sheet_state.specs.Stored.{as_formula as formula_in, schema_of, book}
use Rattle.sheet_state.specs.Limits.{full_of}
use Rattle.sheet_state.specs.Schemas.{workbook, Carries, FormulasDontMatter, WorldsTellItems}

abbrev numbers : List ColumnFormula → List ℕ
numbers fs = map (λ (f : ColumnFormula). f.column) fs

-- there is a formula for each formula column
pub formulas_there : (nodes : List Node) → HasFormulas (schema_of nodes)
formulas_there nodes = all (enumerate_from 0 nodes)
  where
    one : (k : ℕ) (c : Column) (fs : List ColumnFormula) (ns : List ℕ) → numbers fs ≡ ns →
        numbers (cons_option (formula_in k c) fs) ≡ cons_option (as_formula k c) ns
    one k column.Object fs ns e = e
    one k (column.State kind o first) fs ns e = e
    one k (column.Formula kind) fs ns e = ap (λ l. k ∷ l) e

    all : (xs : List (ℕ × Node)) →
        numbers (filter_map (λ (x : ℕ × Node). formula_in x.0 x.1.column) xs) ≡ filter_map (λ (x : ℕ × Node). as_formula x.0 x.1.column) xs
    all [] = refl
    all (x ∷ xs) = one x.0 x.1.column (filter_map (λ (y : ℕ × Node). formula_in y.0 y.1.column) xs)
        (filter_map (λ (y : ℕ × Node). as_formula y.0 y.1.column) xs) (all xs)

-- formula cells are as many where the formulas' columns are the same
module _ (s t : Schema) (same : s.columns ≡ t.columns) (o c : ℕ) where
  tail : (a b : ℕ) (ms ns : List ℕ) → a ∷ ms ≡ b ∷ ns → (a ≡ b) × (ms ≡ ns)
  tail a b ms ns e = (let h : a ≡ b = cc in h, let h : ms ≡ ns = cc in h)

  counted : (b : Bool) (x y : FormulaCell) (xs ys : List FormulaCell) → length xs ≡ length ys →
      length (cons_option (if b then Some x else None) xs) ≡ length (cons_option (if b then Some y else None) ys)
  counted true x y xs ys e = omega (arith, e)
  counted false x y xs ys e = e

  as_many : (fs gs : List ColumnFormula) → numbers fs ≡ numbers gs → length (filter_map (formula_cell s o c) fs) ≡ length (filter_map (formula_cell t o c) gs)
  as_many [] [] e = refl
  as_many [] (g ∷ gs) e = cc
  as_many (f ∷ fs) [] e = cc
  as_many (f ∷ fs) (g ∷ gs) e =
      let parts = tail f.column g.column (numbers fs) (numbers gs) e in
      let x : FormulaCell = record { object = o; column = f.column; core = f.core } in
      let y : FormulaCell = record { object = o; column = g.column; core = g.core } in
      counted (is_number c (above_of s.columns f.column)) x y (filter_map (formula_cell s o c) fs) (filter_map (formula_cell t o c) gs) (as_many fs gs parts.1)
      ∙ ap (λ cols. length (cons_option (if is_number c (above_of cols f.column) then Some y else None) (filter_map (formula_cell t o c) gs))) same
      ∙ ap (λ n. length (cons_option (if is_number c (above_of t.columns n) then Some y else None) (filter_map (formula_cell t o c) gs))) parts.0

cells_as_many : (s t : Schema) (u : State) → s.columns ≡ t.columns → formula_numbers s ≡ formula_numbers t →
    length (formula_cells (workbook s u)) ≡ length (formula_cells (workbook t u))
cells_as_many s t u same numbered = all u.objects
  where
    all : (xs : List LiveObject) →
        length (flat_map (λ (x : LiveObject). cells_of s x.number x.column) xs) ≡ length (flat_map (λ (x : LiveObject). cells_of t x.number x.column) xs)
    all [] = refl
    all (x ∷ xs) =
        let a = length-append (cells_of s x.number x.column) (flat_map (λ (y : LiveObject). cells_of s y.number y.column) xs) in
        let b = length-append (cells_of t x.number x.column) (flat_map (λ (y : LiveObject). cells_of t y.number y.column) xs) in
        let here = as_many s t same x.number x.column s.formulas t.formulas numbered in
        let rest = all xs in
        omega (arith, a, b, here, rest)

-- another list of formulas
abbrev with_formulas : List Node → List ColumnFormula → Schema
with_formulas nodes fs = record { columns = nodes; formulas = fs }

other_formulas : (nodes : List Node) (fs gs : List ColumnFormula) (u : State) → numbers fs ≡ numbers gs → IsWellFormed (workbook (with_formulas nodes fs) u) →
    IsWellFormed (workbook (with_formulas nodes gs) u)
other_formulas nodes fs gs u e w =
    let same = cells_as_many (with_formulas nodes fs) (with_formulas nodes gs) u refl e in
    let few = w.few_cells in
    record {
      formulas = sym e ∙ w.formulas;
      root = w.root;
      rising = w.rising;
      under = w.under;
      drawn = w.drawn;
      cells = w.cells;
      typed = w.typed;
      few_objects = w.few_objects;
      few_cells = omega (arith, same, few);
      few_values = w.few_values;
      few_numbers = w.few_numbers;
    }

carried : (nodes : List Node) (fs : List ColumnFormula) (u : State) → numbers fs ≡ numbers (schema_of nodes).formulas → Carries nodes (with_formulas nodes fs) u
carried nodes fs u e =
    let gs = (schema_of nodes).formulas in
    let same : cell_count (book nodes u) ≡ cell_count (workbook (with_formulas nodes fs) u) =
    ap (λ n. length (state_cells (book nodes u)) + n) (cells_as_many (with_formulas nodes gs) (with_formulas nodes fs) u refl (sym e)) in
    record {
      well_formed = (other_formulas nodes gs fs u (sym e), other_formulas nodes fs gs u e);
      cells = same;
      full = ap (λ n. full_of (length u.objects) n (stored_values u.cells) u.next) same;
      new_object = λ c p. refl;
    }

pub formulas_dont_matter : FormulasDontMatter
formulas_dont_matter nodes s u is =
    subst (λ (cols : List Node). Carries cols s u) is.columns
    (carried s.columns s.formulas u (is.formulas ∙ sym (formulas_there s.columns)))

pub worlds_tell_items : WorldsTellItems
worlds_tell_items s u worked = record { cell = λ o c. refl; children = λ o c. refl; parent = λ o. refl; live = λ o. refl }
