-- The columns and types that an outline tells of are its own.
use Rattle.std.specs.Prelude.{◌≡◌, ℕ, List, [], ◌∷◌, ◌++◌, map, Some, None, Ok}
use Rattle.std.specs.List.{AllByRecursion}
use Rattle.sheet_values.specs.declared.value.Kind.{Kind}
use Rattle.sheet_values.specs.declared.value.Kind.TheVariants as kind
use Rattle.sheet_columns.specs.declared.tree.Column.{Column}
use Rattle.sheet_columns.specs.declared.tree.Column.TheVariants as column
use Rattle.sheet_columns.specs.declared.tree.Node.{Node}
use Rattle.sheet_columns.specs.Firsts.{HasFirstValues}
use Rattle.sheet_columns.specs.Tree.{column_of}
use Rattle.sheet_types_rules.specs.Columns.{IsHeldIn}
use Rattle.sheet_types_rules.specs.Parameters.{AreParametersIn}
use Rattle.sheet_define_data.specs.declared.definition.Declaration.{Declaration}
use Rattle.sheet_define_data.specs.declared.definition.Declaration.TheVariants as declaration
use Rattle.sheet_define_data.specs.declared.definition.Definition.{Definition}
use Rattle.sheet_types_outline.specs.declared.outline.Outline.{Outline}
use Rattle.sheet_types_outline.specs.Naming.{untyped}
use Rattle.sheet_types_outline.specs.Orderly.{IsOrderly}
use Rattle.sheet_types_outline.specs.Outlines.{outlined}

-- a column without its types and its first value
abbrev pub form : Column → Column
form column.Object = column.Object
form (column.State k one first) = column.State kind.Unknown one None
form (column.Formula k) = column.Formula kind.Unknown

-- the form of a declared column
abbrev pub forms_at : Declaration → List Column
forms_at (declaration.Callers line path) = []
forms_at (declaration.Column c) = untyped c.content ∷ []
forms_at (declaration.Procedure p) = []
forms_at (declaration.View v) = []

-- the forms of the declared columns, in the order of the text
abbrev pub forms_in : List Declaration → List Column
forms_in [] = []
forms_in (d ∷ ds) = forms_at d ++ forms_in ds

-- Behind the root stand the declared columns in the order of the text. The callers are of an object column, and so are all types of
-- objects. The columns of one value directly under the root have first values, and procedures and views have 16 parameters at most.
pub record IsWithin (d : Definition) (o : Outline) : Type 0 where
  pub forms : map (λ (n : Node). form n.column) o.columns ≡ column.Object ∷ forms_in d.declarations
  pub callers : column_of o.columns o.callers ≡ Some column.Object
  pub columns : AllByRecursion (λ (n : Node). IsHeldIn o.columns n.column) o.columns
  pub first_values : HasFirstValues o.columns
  pub procedures : AllByRecursion (AreParametersIn o.columns) o.procedures
  pub views : AllByRecursion (AreParametersIn o.columns) o.views

-- So is every outline of an orderly definition.
abbrev pub OutlinesAreWithin : Type 0
OutlinesAreWithin = (d : Definition) (o : Outline) → IsOrderly d.declarations → outlined d ≡ Ok o → IsWithin d o
