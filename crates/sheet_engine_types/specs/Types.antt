-- Sets of values of a type, and what well-typed formulas give.
use Rattle.std.specs.Prelude.{◌≡◌, ℕ, List, [], ◌∷◌, Some, IfOk}
use Rattle.std.specs.List.{AllByRecursion}
use Rattle.sheet_values.specs.Sets.{IsRising}
use Rattle.sheet_values.specs.declared.value.Kind.{Kind}
use Rattle.sheet_values.specs.declared.value.Kind.TheVariants as kind
use Rattle.sheet_values.specs.declared.value.Value.{Value}
use Rattle.sheet_values.specs.declared.value.Value.TheVariants.{Object}
use Rattle.sheet_columns.specs.Tree.{column_of}
use Rattle.sheet_columns.specs.declared.fault.Place.{Place}
use Rattle.sheet_columns.specs.declared.formula.Core.{Core}
use Rattle.sheet_columns.specs.declared.tree.Column.TheVariants as column
use Rattle.sheet_columns.specs.declared.tree.Node.{Node}
use Rattle.sheet_types_rules.specs.Columns.{kinds_from, home}
use Rattle.sheet_types_rules.specs.Formulas.{kind_in, ◌>>◌}
use Rattle.sheet_types_rules.specs.Kinds.{common}
use Rattle.sheet_meaning.specs.Formula.{Variables}
use Rattle.sheet_meaning.specs.Rounds.{outcome_after, meaning, value_of}
use Rattle.sheet_meaning.specs.WellFormed.{HasKind, IsWellFormed}
use Rattle.sheet_meaning.specs.Workbook.{object_at, column_in}
use Rattle.sheet_meaning.specs.declared.workbook.ColumnFormula.{ColumnFormula}
use Rattle.sheet_meaning.specs.declared.workbook.Schema.{Schema}
use Rattle.sheet_meaning.specs.declared.workbook.State.{State}
use Rattle.sheet_meaning.specs.declared.workbook.Workbook.{Workbook}

-- a set of values of a type: rising, without doubles, and of objects live ones of the type's column
abbrev pub IsSetOf : State → Kind → List Value → Type 0
IsSetOf s k set = IsRising set × AllByRecursion (HasKind s k) set

-- a value of a type, where an object that isn't live is of every type of objects
abbrev pub HasKindWhereLive : State → Kind → Value → Type 0
HasKindWhereLive s (kind.Object c) (Object o) = (d : ℕ) → column_in (object_at s.objects o) ≡ Some d → d ≡ c
HasKindWhereLive s k v = HasKind s k v

-- what a variable of a type holds
abbrev pub IsVariableOf : State → Kind → List Value → Type 0
IsVariableOf s k set = IsRising set × AllByRecursion (HasKindWhereLive s k) set

-- there is a variable for each of these types, by position, and it is of the type
abbrev pub HaveKinds : State → List Kind → Variables → Type 0
HaveKinds s [] [] = Unit {0}
HaveKinds s [] (set ∷ sets) = ⊥
HaveKinds s (k ∷ ks) [] = ⊥
HaveKinds s (k ∷ ks) (set ∷ sets) = IsVariableOf s k set × HaveKinds s ks sets

-- a formula column's own formula, where `this` is an object of the column above, has the column's type or none that is known
abbrev pub FitsItsColumn : List Node → ColumnFormula → Type 0
FitsItsColumn n f =
    (k : Kind) → column_of n f.column ≡ Some (column.Formula k) → (kind_in f.core n (kinds_from 0 n) (kind.Object (home n f.column) ∷ []) >> common k) ≡ Some k

-- all formulas do
abbrev pub IsTypedSchema : Schema → Type 0
IsTypedSchema s = AllByRecursion (FitsItsColumn s.columns) s.formulas

-- In a well-formed workbook a formula cell never has a value but a set of its column's type, after any number of rounds.
abbrev pub RoundsHaveKinds : Type 0
RoundsHaveKinds =
    (w : Workbook) (r o c : ℕ) (k : Kind)
    → IsWellFormed w
    → IsTypedSchema w.schema
    → column_of w.schema.columns c ≡ Some (column.Formula k)
    → IfOk (outcome_after w r o c) (IsSetOf w.state k)

-- So has its meaning.
abbrev pub MeaningsHaveKinds : Type 0
MeaningsHaveKinds =
    (w : Workbook) (o c : ℕ) (k : Kind)
    → IsWellFormed w
    → IsTypedSchema w.schema
    → column_of w.schema.columns c ≡ Some (column.Formula k)
    → IfOk (meaning w o c) (IsSetOf w.state k)

-- The value of a well-typed formula over well-typed variables is a set of its type.
abbrev pub ValuesHaveKinds : Type 0
ValuesHaveKinds =
    (w : Workbook) (e : Core) (p : Place) (v : List Kind) (sets : Variables) (k : Kind)
    → IsWellFormed w
    → IsTypedSchema w.schema
    → kind_in e w.schema.columns (kinds_from 0 w.schema.columns) v ≡ Some k
    → HaveKinds w.state v sets
    → IfOk (value_of w e p sets) (IsSetOf w.state k)
