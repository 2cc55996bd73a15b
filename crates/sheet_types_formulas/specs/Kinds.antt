-- Parts whose types must agree, and how types are told in refusals.
use Rattle.std.specs.Prelude.{ℕ, if◌then◌else◌, List, option_and_then, ok_or, Ok, Err, codes}
use Rattle.sheet_values.specs.declared.value.Kind.{Kind}
use Rattle.sheet_values.specs.declared.value.Kind.TheVariants.{Unknown, Truth, Number, Text, Object}
use Rattle.sheet_types_rules.specs.Kinds.{common, has_order, objects_in}
use Rattle.sheet_columns.specs.declared.tree.Node.{Node}
use Rattle.sheet_columns.specs.Tree.{above_of, path}
use Rattle.sheet_types_formulas.specs.declared.refusal.TypeRefusal.{TypeRefusal}
use Rattle.sheet_types_formulas.specs.declared.refusal.TypeRefusal.TheVariants.{Mismatch}
use Rattle.sheet_types_formulas.specs.declared.scope.Typed.{Typed}
use Rattle.sheet_types_formulas.specs.Answers.{Answer}

-- how a type is told: a type of objects by the path of its column
abbrev pub kind_text : List Node → Kind → List ℕ
kind_text nodes Unknown = codes "unknown"
kind_text nodes Truth = codes "truth"
kind_text nodes Number = codes "number"
kind_text nodes Text = codes "text"
kind_text nodes (Object c) = path nodes c

-- a part of another type than the one of this text
abbrev pub mismatch : List Node → List ℕ → Typed → TypeRefusal
mismatch nodes wanted part = Mismatch part.line wanted (kind_text nodes part.kind)

-- the type of a part that must agree with the wanted type: the known one of both
unfoldable pub agreed : List Node → Kind → Typed → Answer Kind
agreed nodes wanted part = ok_or (common wanted part.kind) (mismatch nodes (kind_text nodes wanted) part)

-- the type of a part whose values are compared by size
unfoldable pub ordered : List Node → Typed → Answer Kind
ordered nodes part = if has_order part.kind then Ok part.kind else Err (mismatch nodes (codes "number or text") part)

-- the column of a part that must be of objects
unfoldable pub object_column : List Node → Typed → Answer ℕ
object_column nodes part = ok_or (objects_in part.kind) (mismatch nodes (codes "object") part)

-- the column above that of a part that must be of objects below the root
unfoldable pub column_above : List Node → Typed → Answer ℕ
column_above nodes part = ok_or (option_and_then (above_of nodes) (objects_in part.kind)) (mismatch nodes (codes "object below the root") part)
