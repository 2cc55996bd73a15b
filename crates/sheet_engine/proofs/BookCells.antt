-- The formula cells of a book's workbook are those of its formula columns.
use Rattle.std.proofs.Common.{◌≡◌, refl, sym, ap, ◌∙◌, subst, ℕ, zero, suc, ◌+◌, ◌<◌, ◌≤◌, length, Bool, true, false, List, [], ◌∷◌, arith, Option, Some, None}
use Rattle.std.specs.Prelude.{◌==◌, ◌&&◌, if◌then◌else◌, is_some, slice_get, option_map}
use Rattle.std.specs.List.{filter_map, cons_option, enumerate_from}
use Rattle.std.proofs.lemmas.Bool.{eq-eqb, eqb-true}
use Rattle.std.proofs.lemmas.Option.{slice_get_past}
use Rattle.sheet_columns.specs.Tree.{IsTree, column_of, above_of, is_number}
use Rattle.sheet_columns.specs.declared.formula.Core.{Core}
use Rattle.sheet_columns.specs.declared.tree.Column.{Column}
use Rattle.sheet_columns.specs.declared.tree.Column.TheVariants as column
use Rattle.sheet_columns.specs.declared.tree.Node.{Node}
use Rattle.sheet_types_rules.specs.Formulas.{is_formula}
use Rattle.sheet_meaning.specs.Support.{Cell, cell_at}
use Rattle.sheet_meaning.specs.Workbook.{FormulaCell, object_at, column_in, formula_cell, formula_cells}
use Rattle.sheet_meaning.specs.declared.workbook.ColumnFormula.{ColumnFormula}
use Rattle.sheet_meaning.specs.declared.workbook.Schema.{Schema}
use Rattle.sheet_meaning.specs.declared.workbook.State.{State}
use Rattle.sheet_meaning.proofs.Members.{both_true}
use Rattle.sheet_meaning.proofs.FormulaCells.{cell_by_column, found_by_column}
use Rattle.sheet_books.specs.Books.{HasFormula, HaveFormulas}
use Rattle.sheet_books.specs.Schemas.{numbered_formula, schema_of}
use Rattle.sheet_books.specs.declared.book.Contents.{Contents}
use Rattle.sheet_books.proofs.Having.{found}
use Rattle.sheet_state.specs.Stored.{Stored}
use Rattle.sheet_engine.specs.Seen.{workbook_of}
use Rattle.sheet_engine.specs.Standings.{is_there, is_below}
use Rattle.sheet_engine.specs.Started.{IsServed}

abbrev numbered : ℕ → List (Option Core) → List ColumnFormula
numbered n fs = filter_map (λ (x : ℕ × Option Core). numbered_formula x.0 x.1) (enumerate_from n fs)

differs : (n c : ℕ) → (n ≡ c → ⊥) → (n == c) ≡ false
differs n c ne = elim (n == c) as (λ b. (n == c) ≡ b → b ≡ false) [ true ↦ λ e. absurd (ne (eqb-true n c e)) | false ↦ λ e. refl ] refl

-- the formula cell of a column with that formula, where the column stands under the object's
abbrev cell_for : ℕ → ℕ → Bool → Option (Option Core) → Option FormulaCell
cell_for o c under None = None
cell_for o c under (Some None) = None
cell_for o c under (Some (Some e)) = if under then Some (record { object = o; column = c; core = e }) else None

module _ (s : Schema) (o k : ℕ) where
  abbrev cells : List ColumnFormula → List FormulaCell
  cells fs = filter_map (formula_cell s o k) fs

  -- another column's cell is passed over
  past_cell : (n c : ℕ) (e : Core) (fs : List FormulaCell) (b : Bool) → (n ≡ c → ⊥) →
      cell_at (cons_option (if b then Some (record { object = o; column = n; core = e }) else None) fs) (o, c) ≡ cell_at fs (o, c)
  past_cell n c e fs false ne = refl
  past_cell n c e fs true ne =
      ap (λ b. if o == o && b then Some (record { object = o; column = n; core = e }) else cell_at fs (o, c)) (differs n c ne)
      ∙ elim (o == o) as (λ b. (if b && false then Some (record { object = o; column = n; core = e }) else cell_at fs (o, c)) ≡ cell_at fs (o, c)) [
        | true ↦ refl
        | false ↦ refl
      ]

  past : (n c : ℕ) (f : Option Core) (fs : List ColumnFormula) → (n ≡ c → ⊥) →
      cell_at (cells (cons_option (numbered_formula n f) fs)) (o, c) ≡ cell_at (cells fs) (o, c)
  past n c None fs ne = refl
  past n c (Some e) fs ne = past_cell n c e (cells fs) (is_number k (above_of s.columns n)) ne

  -- no column from a number on is an earlier one
  none_before : (n c : ℕ) (fs : List (Option Core)) → c < n → cell_at (cells (numbered n fs)) (o, c) ≡ None
  none_before n c [] l = refl
  none_before n c (f ∷ fs) l = past n c f (numbered (n + 1) fs) (λ e. omega arith) ∙ none_before (n + 1) c fs (omega arith)

  here_cell : (n : ℕ) (e : Core) (fs : List FormulaCell) (b : Bool) → cell_at fs (o, n) ≡ None →
      cell_at (cons_option (if b then Some (record { object = o; column = n; core = e }) else None) fs) (o, n) ≡ cell_for o n b (Some (Some e))
  here_cell n e fs false none = none
  here_cell n e fs true none =
      ap (λ b. if b && n == n then Some (record { object = o; column = n; core = e }) else cell_at fs (o, n)) (eq-eqb o o refl)
      ∙ ap (λ b. if b then Some (record { object = o; column = n; core = e }) else cell_at fs (o, n)) (eq-eqb n n refl)

  here : (n : ℕ) (f : Option Core) (fs : List ColumnFormula) → cell_at (cells fs) (o, n) ≡ None →
      cell_at (cells (cons_option (numbered_formula n f) fs)) (o, n) ≡ cell_for o n (is_number k (above_of s.columns n)) (Some f)
  here n None fs none = none
  here n (Some e) fs none = here_cell n e (cells fs) (is_number k (above_of s.columns n)) none

  at_place : (n j : ℕ) (fs : List (Option Core)) →
      cell_at (cells (numbered n fs)) (o, n + j) ≡ cell_for o (n + j) (is_number k (above_of s.columns (n + j))) (slice_get fs j)
  at_place n j [] = refl
  at_place n zero (f ∷ fs) =
      let z : n ≡ n + zero = omega arith in
      subst (λ c. cell_at (cells (numbered n (f ∷ fs))) (o, c) ≡ cell_for o c (is_number k (above_of s.columns c)) (Some f)) z
      (here n f (numbered (n + 1) fs) (none_before (n + 1) n fs (omega arith)))
  at_place n (suc j) (f ∷ fs) =
      let z : (n + 1) + j ≡ n + suc j = omega arith in
      past n (n + suc j) f (numbered (n + 1) fs) (λ e. omega arith)
      ∙ subst (λ c. cell_at (cells (numbered (n + 1) fs)) (o, c) ≡ cell_for o c (is_number k (above_of s.columns c)) (slice_get fs j)) z (at_place (n + 1) j fs)

-- a formula goes with a formula column
formula_here : (n : List Node) (c : ℕ) (x : Column) (e : Core) → HasFormula n c x (Some e) → is_formula (Some x) ≡ true
formula_here n c column.Object e h = cc
formula_here n c (column.State k one first) e h = cc
formula_here n c (column.Formula k) e h = refl

formula_at : (n : List Node) (c : ℕ) (ms : List Node) (fs : List (Option Core)) (j : ℕ) (e : Core) → HaveFormulas n c ms fs → slice_get fs j ≡ Some (Some e) →
    is_formula (column_of ms j) ≡ true
formula_at n c [] [] j e h at = cc
formula_at n c [] (f ∷ fs) j e h at = absurd h
formula_at n c (m ∷ ms) [] j e h at = absurd h
formula_at n c (m ∷ ms) (f ∷ fs) zero e h at =
    let same : f ≡ Some e = cc in
    formula_here n c m.column e (subst (HasFormula n c m.column) same h.0)
formula_at n c (m ∷ ms) (f ∷ fs) (suc j) e h at = formula_at n (c + 1) ms fs j e h.1 at

-- the root has no formula, and no column behind the last one has
pub no_root : (b : Contents) (s : State) (o c : ℕ) (n : List Node) → n ≡ b.columns → IsTree n → c ≡ 0 → false ≡ is_there b s o c
no_root b s o c n same tree zero_is =
    let at : column_of n c ≡ Some column.Object = ap (column_of n) zero_is ∙ ap (option_map (λ (m : Node). m.column)) tree.first in
    sym (ap (λ w. is_formula w && is_below (column_in (object_at s.objects o)) (above_of b.columns c)) (ap (λ m. column_of m c) (sym same) ∙ at))

pub no_column : (b : Contents) (s : State) (o c : ℕ) (n : List Node) → n ≡ b.columns → length n ≤ c → false ≡ is_there b s o c
no_column b s o c n same past =
    sym
    (ap (λ w. is_formula w && is_below (column_in (object_at s.objects o)) (above_of b.columns c))
    (ap (λ m. column_of m c) (sym same) ∙ ap (option_map (λ (m : Node). m.column)) (slice_get_past n c past)))

module _ (b : Contents) (k : Stored) (served : IsServed b k) (x : Cell) where
  abbrev objects_column : Option ℕ
  objects_column = column_in (object_at k.present.state.objects x.0)

  by_column : cell_at (formula_cells (workbook_of b k)) x ≡ cell_by_column (schema_of b) x objects_column
  by_column = found_by_column (schema_of b) x k.present.state.objects served.kept.present.well_formed.rising

  of_column : (c : ℕ) → cell_by_column (schema_of b) x (Some c) ≡ cell_for x.0 x.1 (is_number c (above_of b.columns x.1)) (slice_get b.formulas x.1)
  of_column c =
      let z : 0 + x.1 ≡ x.1 = omega arith in
      subst
      (λ j. cell_at (cells (schema_of b) x.0 c (numbered 0 b.formulas)) (x.0, j) ≡ cell_for x.0 j (is_number c (above_of b.columns j))
      (slice_get b.formulas x.1)) z
      (at_place (schema_of b) x.0 c 0 x.1 b.formulas)

  not_formula : ((e : Core) → slice_get b.formulas x.1 ≡ Some (Some e) → ⊥) → is_formula (column_of b.columns x.1) ≡ false
  not_formula ne =
      elim (is_formula (column_of b.columns x.1)) as (λ t. is_formula (column_of b.columns x.1) ≡ t → t ≡ false) [
        | true ↦ λ e. let f = found b.columns b.formulas x.1 served.typed.formulas e in absurd (ne f.formula f.at)
        | false ↦ λ e. refl
      ] refl

  -- whether there is a formula goes by the column
  formula_of : (f : Option (Option Core)) → slice_get b.formulas x.1 ≡ f → (under : Bool) →
      (is_formula (column_of b.columns x.1) && under) ≡ is_some (cell_for x.0 x.1 under f)
  formula_of (Some (Some e)) at under =
      ap (λ t. t && under) (formula_at b.columns 0 b.columns b.formulas x.1 e served.typed.formulas at)
      ∙ elim under as (λ u. (true && u) ≡ is_some (cell_for x.0 x.1 u (Some (Some e)))) [ true ↦ refl | false ↦ refl ]
  formula_of None at under = ap (λ t. t && under) (not_formula (λ e h. let bad : None ≡ Some (Some e) = sym at ∙ h in cc))
  formula_of (Some None) at under = ap (λ t. t && under) (not_formula (λ e h. let bad : Some None ≡ Some (Some e) = sym at ∙ h in cc))

  -- whether there is such a formula cell
  pub there_is : is_there b k.present.state x.0 x.1 ≡ is_some (cell_at (formula_cells (workbook_of b k)) x)
  there_is =
      elim objects_column as (λ o. (is_formula (column_of b.columns x.1) && is_below o (above_of b.columns x.1)) ≡ is_some (cell_by_column (schema_of b) x o)) [
        | None ↦ elim (is_formula (column_of b.columns x.1)) as (λ t. (t && false) ≡ false) [ true ↦ refl | false ↦ refl ]
        | Some c ↦ formula_of (slice_get b.formulas x.1) refl (is_number c (above_of b.columns x.1)) ∙ ap is_some (sym (of_column c))
      ]
      ∙ ap is_some (sym by_column)

  -- and what its formula is
  pub cell_is : (e : Core) → is_there b k.present.state x.0 x.1 ≡ true → slice_get b.formulas x.1 ≡ Some (Some e) →
      cell_at (formula_cells (workbook_of b k)) x ≡ Some (record { object = x.0; column = x.1; core = e })
  cell_is e there at =
      let below = both_true (is_formula (column_of b.columns x.1)) (is_below objects_column (above_of b.columns x.1)) there in
      by_column
      ∙ elim objects_column as (λ o. is_below o (above_of b.columns x.1) ≡ true →
      cell_by_column (schema_of b) x o ≡ Some (record { object = x.0; column = x.1; core = e })) [
        | None ↦ λ h. cc
        | Some c ↦ λ h.
            of_column c
            ∙ ap (λ u. cell_for x.0 x.1 u (slice_get b.formulas x.1)) h
            ∙ ap (cell_for x.0 x.1 true) at
      ] below.1
