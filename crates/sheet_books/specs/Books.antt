-- Well-typed books.
use Rattle.std.specs.Prelude.{◌≡◌, ℕ, ◌+◌, ◌<◌, ◌^◌, Bool, true, false, List, [], ◌∷◌, length, map, position, bytes_eq, Option, Some, None, is_some}
use Rattle.std.specs.List.{AllByRecursion}
use Rattle.sheet_values.specs.declared.value.Kind.{Kind}
use Rattle.sheet_values.specs.declared.value.Kind.TheVariants as kind
use Rattle.sheet_columns.specs.declared.tree.Column.{Column}
use Rattle.sheet_columns.specs.declared.tree.Column.TheVariants as column
use Rattle.sheet_columns.specs.declared.tree.Node.{Node}
use Rattle.sheet_columns.specs.Firsts.{HasFirstValues}
use Rattle.sheet_columns.specs.Tree.{column_of}
use Rattle.sheet_columns.specs.Statements.{statements_in}
use Rattle.sheet_columns.specs.declared.formula.Core.{Core}
use Rattle.sheet_types_rules.specs.Columns.{is_known, kinds_from, home, IsHeldIn}
use Rattle.sheet_types_rules.specs.Formulas.{kind_in}
use Rattle.sheet_types_rules.specs.Parameters.{AreParametersIn}
use Rattle.sheet_types_rules.specs.Statements.{suits, behind_list, numbered_list}
use Rattle.sheet_types_rules.specs.Views.{are_parts}
use Rattle.sheet_books.specs.declared.body.Procedure.{Procedure}
use Rattle.sheet_books.specs.declared.body.View.{View}
use Rattle.sheet_books.specs.declared.book.Contents.{Contents}

-- a formula, where the positions have these types, whose type serves where that one is wanted
abbrev pub IsTypedAs : Kind → List Node → List Kind → Core → Type 0
IsTypedAs wanted n v e = suits wanted (kind_in e n (kinds_from 0 n) v) ≡ true

-- the formula of the column of that number: position 0 is `this`, an object of the column above
abbrev pub IsFormulaOf : List Node → ℕ → Kind → Core → Type 0
IsFormulaOf n c k e = (is_known k ≡ true) × IsTypedAs k n (kind.Object (home n c) ∷ []) e

-- what goes with a column: a formula where it is a formula column, whose type is known
abbrev pub HasFormula : List Node → ℕ → Column → Option Core → Type 0
HasFormula n c column.Object f = f ≡ None
HasFormula n c (column.State k one first) f = f ≡ None
HasFormula n c (column.Formula k) None = ⊥
HasFormula n c (column.Formula k) (Some e) = IsFormulaOf n c k e

-- what goes with the columns from that number on
abbrev pub HaveFormulas : List Node → ℕ → List Node → List (Option Core) → Type 0
HaveFormulas n c [] [] = Unit {0}
HaveFormulas n c [] (f ∷ fs) = ⊥
HaveFormulas n c (m ∷ ms) [] = ⊥
HaveFormulas n c (m ∷ ms) (f ∷ fs) = HasFormula n c m.column f × HaveFormulas n (c + 1) ms fs

-- the formula of the column of that number, whatever type the column has
abbrev pub IsWellTypedFormula : List Node → ℕ → Core → Type 0
IsWellTypedFormula n c e = (k : Kind) → column_of n c ≡ Some (column.Formula k) → IsFormulaOf n c k e

-- the types of the positions at the start of a body: `caller`, an object of the callers' column, `operator`, then the parameters
abbrev pub kinds_at_start : ℕ → List (List ℕ × Kind) → List Kind
kinds_at_start callers parameters = kind.Object callers ∷ kind.Truth ∷ map (λ (p : List ℕ × Kind). p.1) parameters

-- a procedure: it has 16 parameters at most, its `allow` formula is a truth, and its statements are well typed and numbered from 1
pub record IsWellTypedProcedure (n : List Node) (callers : ℕ) (p : Procedure) : Type 0 where
  pub parameters : AreParametersIn n p.parameters
  pub allow : IsTypedAs kind.Truth n (kinds_at_start callers p.parameters) p.allow
  pub body : is_some (behind_list (statements_in p.body) n (kinds_from 0 n) (kinds_at_start callers p.parameters)) ≡ true
  pub numbers : is_some (numbered_list (statements_in p.body) 1) ≡ true

-- a view: it has 16 parameters at most, its `allow` formula is a truth, and its parts are well typed and numbered from 1
pub record IsWellTypedView (n : List Node) (callers : ℕ) (v : View) : Type 0 where
  pub parameters : AreParametersIn n v.parameters
  pub allow : IsTypedAs kind.Truth n (kinds_at_start callers v.parameters) v.allow
  pub parts : are_parts v.parts n (kinds_from 0 n) (kinds_at_start callers v.parameters) 1 ≡ true

-- all of a book: the callers are objects, types of objects are those of object columns, and each column of one value under the root has a
-- first value
pub record IsWellTyped (b : Contents) : Type 0 where
  pub callers : column_of b.columns b.callers ≡ Some column.Object
  pub columns : AllByRecursion (λ (n : Node). IsHeldIn b.columns n.column) b.columns
  pub first_values : HasFirstValues b.columns
  pub formulas : HaveFormulas b.columns 0 b.columns b.formulas
  pub procedures : AllByRecursion (IsWellTypedProcedure b.columns b.callers) b.procedures
  pub views : AllByRecursion (IsWellTypedView b.columns b.callers) b.views

-- so many procedures and views that numbers of 32 bits count them
pub record IsCountedBook (b : Contents) : Type 0 where
  pub typed : IsWellTyped b
  pub procedures : length b.procedures < 2 ^ 32
  pub views : length b.views < 2 ^ 32

-- the numbers of the first procedure and the first view with that name
abbrev pub procedure_with_name : Contents → List ℕ → Option ℕ
procedure_with_name b name = position (λ (p : Procedure). bytes_eq p.name name) b.procedures

abbrev pub view_with_name : Contents → List ℕ → Option ℕ
view_with_name b name = position (λ (v : View). bytes_eq v.name name) b.views
