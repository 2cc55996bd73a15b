-- The formula cells of a workbook: those of an object are found by its column.
use Rattle.std.proofs.Common.{◌≡◌, refl, sym, ap, ◌∙◌, subst, ℕ, true, false, List, [], ◌∷◌, ◌++◌}
use Rattle.std.specs.Prelude.{◌==◌, ◌&&◌, Option, Some, None, if◌then◌else◌}
use Rattle.std.specs.List.{filter_map, cons_option, flat_map}
use Rattle.std.specs.declared.cmp.Ordering.{Ordering}
use Rattle.std.specs.declared.cmp.Ordering.TheVariants.{Less, Equal, Greater}
use Rattle.std.specs.Ordering.{nat_cmp, on, ordering_reverse}
use Rattle.std.specs.Cmp.{IsTotalOrder, nat_cmp_total}
use Rattle.std.proofs.lemmas.Bool.{eqb-true, eqb-false}
use Rattle.sheet_values.specs.Sorted.{IsBelow, IsRising}
use Rattle.sheet_columns.specs.Tree.{above_of, is_number}
use Rattle.sheet_meaning.specs.Workbook.{FormulaCell, object_at, column_in, formula_cell, cells_of}
use Rattle.sheet_meaning.specs.Support.{Cell, cell_at}
use Rattle.sheet_meaning.specs.declared.workbook.Schema.{Schema}
use Rattle.sheet_meaning.specs.declared.workbook.ColumnFormula.{ColumnFormula}
use Rattle.sheet_meaning.specs.declared.workbook.LiveObject.{LiveObject}

-- by number
abbrev pub object_cmp : LiveObject → LiveObject → Ordering
object_cmp = on (λ (x : LiveObject). x.number) nat_cmp

own_reverse : (r : Ordering) → r ≡ ordering_reverse r → r ≡ Equal
own_reverse Less e = cc
own_reverse Equal e = refl
own_reverse Greater e = cc

-- nothing stands before itself
pub equal_itself : {A : Type 0} (cmp : A → A → Ordering) → IsTotalOrder cmp → (x : A) → cmp x x ≡ Equal
equal_itself cmp total x = own_reverse (cmp x x) (total.antisymm x x)

pub less_differs : (m n : ℕ) → nat_cmp m n ≡ Less → (m == n) ≡ false
less_differs m n less =
    elim (m == n) as (λ b. (m == n) ≡ b → b ≡ false) [
      | true ↦ λ e.
          let same : m ≡ n = eqb-true m n e in
          let tied : nat_cmp m n ≡ Equal = subst (λ k. nat_cmp m k ≡ Equal) same (equal_itself nat_cmp nat_cmp_total m) in
          cc
      | false ↦ λ e. refl
    ] refl

-- the first that is there
abbrev or_else : Option FormulaCell → Option FormulaCell → Option FormulaCell
or_else None o = o
or_else (Some f) o = Some f

or_else_none : (o : Option FormulaCell) → or_else o None ≡ o
or_else_none None = refl
or_else_none (Some f) = refl

cell_at-append : (fs gs : List FormulaCell) (x : Cell) → cell_at (fs ++ gs) x ≡ or_else (cell_at fs x) (cell_at gs x)
cell_at-append [] gs x = refl
cell_at-append (f ∷ fs) gs x =
    elim (f.object == x.0 && f.column == x.1) as (λ b. (if b then Some f else cell_at (fs ++ gs) x) ≡ or_else (if b then Some f else cell_at fs x)
    (cell_at gs x)) [
      | true ↦ refl
      | false ↦ cell_at-append fs gs x
    ]

-- another object's cells
module _ (s : Schema) (o c : ℕ) (x : Cell) (other : (o == x.0) ≡ false) where
  not_this : (f : FormulaCell) (fs : List FormulaCell) → f.object ≡ o → cell_at (f ∷ fs) x ≡ cell_at fs x
  not_this f fs e =
      let differs : (f.object == x.0) ≡ false = subst (λ k. (k == x.0) ≡ false) (sym e) other in
      ap (λ b. if b && f.column == x.1 then Some f else cell_at fs x) differs

  none_of : (fs : List ColumnFormula) → cell_at (filter_map (formula_cell s o c) fs) x ≡ None
  none_of [] = refl
  none_of (f ∷ fs) =
      elim (is_number c (above_of s.columns f.column))
      as (λ b. cell_at
      (cons_option (if b then Some (record { object = o; column = f.column; core = f.core }) else None) (filter_map (formula_cell s o c) fs)) x ≡ None) [
        | true ↦ not_this (record { object = o; column = f.column; core = f.core }) (filter_map (formula_cell s o c) fs) refl ∙ none_of fs
        | false ↦ none_of fs
      ]

-- the formula cell of an object of this column
abbrev pub cell_by_column : Schema → Cell → Option ℕ → Option FormulaCell
cell_by_column s x None = None
cell_by_column s x (Some c) = cell_at (cells_of s x.0 c) x

module _ (s : Schema) (x : Cell) where
  abbrev cells_in : List LiveObject → List FormulaCell
  cells_in objects = flat_map (λ (y : LiveObject). cells_of s y.number y.column) objects

  -- no object that stands behind one with the cell's number has it too
  none_behind : (y : LiveObject) (ys : List LiveObject) → y.number ≡ x.0 → IsBelow object_cmp y ys → cell_at (cells_in ys) x ≡ None
  none_behind y [] e below = refl
  none_behind y (z ∷ ys) e below =
      let differs : (z.number == x.0) ≡ false = differ_back y.number z.number x.0 (less_differs y.number z.number below.0) e in
      cell_at-append (cells_of s z.number z.column) (cells_in ys) x
      ∙ ap (λ o. or_else o (cell_at (cells_in ys) x)) (none_of s z.number z.column x differs s.formulas)
      ∙ none_behind y ys e below.1
    where
      differ_back : (a b k : ℕ) → (a == b) ≡ false → a ≡ k → (b == k) ≡ false
      differ_back a b k ne e =
          elim (b == k) as (λ t. (b == k) ≡ t → t ≡ false) [
            | true ↦ λ t. let same : a ≡ b = e ∙ sym (eqb-true b k t) in absurd (eqb-false a b ne same)
            | false ↦ λ t. refl
          ] refl

  pub found_by_column : (objects : List LiveObject) → IsRising object_cmp objects →
      cell_at (cells_in objects) x ≡ cell_by_column s x (column_in (object_at objects x.0))
  found_by_column [] r = refl
  found_by_column (y ∷ ys) r =
      cell_at-append (cells_of s y.number y.column) (cells_in ys) x
      ∙ elim (y.number == x.0) as (λ b. (y.number == x.0) ≡ b →
      or_else (cell_at (cells_of s y.number y.column) x) (cell_at (cells_in ys) x) ≡ cell_by_column s x
      (column_in (if b then Some y else object_at ys x.0))) [
        | true ↦ λ e.
            let same : y.number ≡ x.0 = eqb-true y.number x.0 e in
            ap (or_else (cell_at (cells_of s y.number y.column) x)) (none_behind y ys same r.0)
            ∙ or_else_none (cell_at (cells_of s y.number y.column) x)
            ∙ ap (λ n. cell_at (cells_of s n y.column) x) same
        | false ↦ λ e.
            ap (λ o. or_else o (cell_at (cells_in ys) x)) (none_of s y.number y.column x e s.formulas) ∙ found_by_column ys r.1
      ] refl
