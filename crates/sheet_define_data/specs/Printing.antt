-- The text that a definition is printed as.
use Rattle.std.specs.Prelude.{ℕ, zero, suc, ◌+◌, ◌-◌, List, [], ◌∷◌, ◌++◌, length, flat_map, Bool, true, false, Option, Some, None, codes}
use Rattle.std.specs.Fmt.{signed_decimal}
use Rattle.std.specs.List.{join_by}
use Rattle.sheet_syntax_trees.specs.declared.tree.Tree.{Tree}
use Rattle.sheet_syntax_trees.specs.Printing.{formula_text, operand, quoted, truth_text, in_parentheses}
use Rattle.sheet_define_data.specs.declared.definition.Path.{Path}
use Rattle.sheet_define_data.specs.declared.definition.TypeName.{TypeName}
use Rattle.sheet_define_data.specs.declared.definition.TypeName.TheVariants as type
use Rattle.sheet_define_data.specs.declared.definition.Literal.{Literal}
use Rattle.sheet_define_data.specs.declared.definition.Literal.TheVariants as literal
use Rattle.sheet_define_data.specs.declared.definition.Content.{Content}
use Rattle.sheet_define_data.specs.declared.definition.Content.TheVariants as content
use Rattle.sheet_define_data.specs.declared.definition.Column.{Column}
use Rattle.sheet_define_data.specs.declared.definition.Parameter.{Parameter}
use Rattle.sheet_define_data.specs.declared.definition.Procedure.{Procedure}
use Rattle.sheet_define_data.specs.declared.definition.Show.{Show}
use Rattle.sheet_define_data.specs.declared.definition.Part.{Part}
use Rattle.sheet_define_data.specs.declared.definition.Part.TheVariants as part
use Rattle.sheet_define_data.specs.declared.definition.View.{View}
use Rattle.sheet_define_data.specs.declared.definition.Declaration.{Declaration}
use Rattle.sheet_define_data.specs.declared.definition.Declaration.TheVariants as declaration
use Rattle.sheet_define_data.specs.declared.definition.Definition.{Definition}
use Rattle.sheet_define_data.specs.declared.statement.Target.{Target}
use Rattle.sheet_define_data.specs.declared.statement.Statement.{Statement, Let, Set, Add, Remove, New, Delete, Check, Reply, If', IfElse', For', Row_of-Statement, end_of-Statement as no_statement, more_of-Statement as more_statements}

-- a line of its own, behind a margin
abbrev pub line_at : List ℕ → List ℕ → List ℕ
line_at margin text = margin ++ text ++ codes "\n"

-- the margin inside one more brace
abbrev pub inside : List ℕ → List ℕ
inside margin = margin ++ codes "  "

-- a line that opens a brace, the lines inside it, and the line that closes it
abbrev pub braced : List ℕ → List ℕ → List ℕ → List ℕ
braced margin opening lines = line_at margin (opening ++ codes " {") ++ lines ++ line_at margin (codes "}")

-- names with dots between them
abbrev pub path_text : Path → List ℕ
path_text p = join_by (λ name. name) (codes ".") p.names

-- how a type is printed
abbrev pub type_text : TypeName → List ℕ
type_text type.Number = codes "number"
type_text type.Text = codes "text"
type_text type.Truth = codes "truth"
type_text (type.Object p) = path_text p

-- how a first value is printed
abbrev pub literal_text : Literal → List ℕ
literal_text (literal.Number line n) = signed_decimal n
literal_text (literal.Negative line n) = codes "-" ++ signed_decimal n
literal_text (literal.Text line content) = quoted content
literal_text (literal.Truth line b) = truth_text b

-- the word of a column of one value
abbrev pub one_text : Bool → List ℕ
one_text true = codes " one"
one_text false = []

-- a first value with its sign
abbrev pub first_text : Option Literal → List ℕ
first_text (Some v) = codes " = " ++ literal_text v
first_text None = []

-- the declared type of a formula column
abbrev pub declared_text : Option TypeName → List ℕ
declared_text (Some t) = codes " : " ++ type_text t
declared_text None = []

-- the margin inside so many braces
abbrev pub margin : ℕ → List ℕ
margin zero = []
margin (suc depth) = inside (margin depth)

-- what stands in the line of a column
abbrev pub content_text : List ℕ → Content → List ℕ
content_text name content.Object = (codes "object " ++ name) ++ codes " {"
content_text name (content.State t one first) = codes "state " ++ name ++ codes " : " ++ type_text t ++ one_text one ++ first_text first
content_text name (content.Formula t f) = codes "formula " ++ name ++ declared_text t ++ codes " = " ++ formula_text f

-- the line of a column; for an object column the line that opens its braces
abbrev pub column_text : Column → List ℕ
column_text c = line_at (margin c.depth) (content_text c.name c.content)

-- how a parameter is printed
abbrev pub parameter_text : Parameter → List ℕ
parameter_text p = p.name ++ codes " : " ++ type_text p.values

-- parameters in their parentheses
abbrev pub parameters_text : List Parameter → List ℕ
parameters_text ps = in_parentheses (join_by parameter_text (codes ", ") ps)

-- who may call or see it
abbrev pub allow_text : Option Tree → List ℕ
allow_text (Some e) = codes " allow " ++ formula_text e
allow_text None = []

-- what stands before the last dot of a target is printed as the operand of that dot
abbrev pub object_text : Option Tree → List ℕ
object_text (Some e) = operand e (formula_text e) ++ codes "."
object_text None = []

-- how a target is printed
abbrev pub target_text : Target → List ℕ
target_text t = object_text t.object ++ t.column

abbrev mutual
  -- a statement, behind a margin
  pub statement_text : Statement → List ℕ → List ℕ
  statement_text (Let line name e) margin = line_at margin (codes "let " ++ name ++ codes " = " ++ formula_text e)
  statement_text (Set line t e) margin = line_at margin (codes "set " ++ target_text t ++ codes " = " ++ formula_text e)
  statement_text (Add line e t) margin = line_at margin (codes "add " ++ formula_text e ++ codes " to " ++ target_text t)
  statement_text (Remove line e t) margin = line_at margin (codes "remove " ++ formula_text e ++ codes " from " ++ target_text t)
  statement_text (New line name t) margin = line_at margin (codes "new " ++ name ++ codes " = " ++ target_text t)
  statement_text (Delete line e) margin = line_at margin (codes "delete " ++ formula_text e)
  statement_text (Check line e message) margin = line_at margin (codes "check " ++ formula_text e ++ codes " else " ++ quoted message)
  statement_text (Reply line e) margin = line_at margin (codes "reply " ++ formula_text e)
  statement_text (If' line e _ body) margin = braced margin (codes "if " ++ formula_text e) (statements_text body (inside margin))
  statement_text (IfElse' line e _ body _ otherwise) margin =
      line_at margin (codes "if " ++ formula_text e ++ codes " {") ++ statements_text body (inside margin)
      ++ braced margin (codes "} else") (statements_text otherwise (inside margin))
  statement_text (For' line name e _ body) margin =
      braced margin (codes "for " ++ name ++ codes " in " ++ formula_text e) (statements_text body (inside margin))

  pub statements_text : {m : _} → Row_of-Statement m → List ℕ → List ℕ
  statements_text no_statement margin = []
  statements_text (more_statements x rest) margin = statement_text x margin ++ statements_text rest margin

-- what stands before the brace of a procedure or a view
abbrev pub header_text : List ℕ → List Parameter → Option Tree → List ℕ
header_text name parameters allow = name ++ parameters_text parameters ++ allow_text allow

-- the lines of a procedure
abbrev pub procedure_text : Procedure → List ℕ
procedure_text p = braced [] (codes "procedure " ++ header_text p.name p.parameters p.allow) (flat_map (λ x. statement_text x (inside [])) p.body)

-- the line of a slot
abbrev pub show_text : List ℕ → Show → List ℕ
show_text margin s = line_at margin (codes "show " ++ s.name ++ codes " = " ++ formula_text s.shown)

-- the lines of a slot or a table
abbrev pub part_text : List ℕ → Part → List ℕ
part_text margin (part.Show s) = show_text margin s
part_text margin (part.Table line name variable source shows) =
    braced margin (codes "table " ++ name ++ codes " = " ++ variable ++ codes " in " ++ formula_text source) (flat_map (show_text (inside margin)) shows)

-- the lines of a view
abbrev pub view_text : View → List ℕ
view_text v = braced [] (codes "view " ++ header_text v.name v.parameters v.allow) (flat_map (part_text (inside [])) v.parts)

-- the lines of a declaration, without those that close the braces of an object column
abbrev pub declaration_text : Declaration → List ℕ
declaration_text (declaration.Callers line path) = line_at [] (codes "callers " ++ path_text path)
declaration_text (declaration.Column c) = column_text c
declaration_text (declaration.Procedure p) = procedure_text p
declaration_text (declaration.View v) = view_text v

-- in how many object columns it stands
abbrev pub depth_of : Declaration → ℕ
depth_of (declaration.Callers line path) = 0
depth_of (declaration.Column c) = c.depth
depth_of (declaration.Procedure p) = 0
depth_of (declaration.View v) = 0

-- how many object columns are open behind it
abbrev pub open_inside : ℕ → Content → ℕ
open_inside depth content.Object = suc depth
open_inside depth (content.State t one first) = depth
open_inside depth (content.Formula t f) = depth

-- how many object columns are open behind a declaration
abbrev pub open_behind : Declaration → ℕ
open_behind (declaration.Callers line path) = 0
open_behind (declaration.Column c) = open_inside c.depth c.content
open_behind (declaration.Procedure p) = 0
open_behind (declaration.View v) = 0

-- the lines that close so many braces, down to that depth
abbrev pub closings : ℕ → ℕ → List ℕ
closings zero depth = []
closings (suc count) depth = line_at (margin (depth + count)) (codes "}") ++ closings count depth

-- the lines of declarations, where so many object columns are open before them
abbrev pub declarations_text : ℕ → List Declaration → List ℕ
declarations_text opened [] = closings opened 0
declarations_text opened (d ∷ ds) = closings (opened - depth_of d) (depth_of d) ++ declaration_text d ++ declarations_text (open_behind d) ds

-- Each column, procedure, view, part and statement stands on a line of its own, with two spaces before it for each brace that is
-- open, and each closing brace too, but for "} else {". Every line ends with LF.
abbrev pub definition_text : Definition → List ℕ
definition_text d = declarations_text 0 d.declarations

-- how many bytes that is
abbrev pub printed_size : Definition → ℕ
printed_size d = length (definition_text d)
