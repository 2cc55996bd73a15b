-- Definitions without a look at their lines: each part is put in line 1.
use Rattle.std.specs.Prelude.{List, [], ◌∷◌, map, option_map}
use Rattle.sheet_syntax_trees.specs.Texts.{on_one_line}
use Rattle.sheet_define_data.specs.declared.definition.Path.{Path}
use Rattle.sheet_define_data.specs.declared.definition.TypeName.{TypeName}
use Rattle.sheet_define_data.specs.declared.definition.TypeName.TheVariants as type
use Rattle.sheet_define_data.specs.declared.definition.Literal.{Literal}
use Rattle.sheet_define_data.specs.declared.definition.Literal.TheVariants as literal
use Rattle.sheet_define_data.specs.declared.definition.Content.{Content}
use Rattle.sheet_define_data.specs.declared.definition.Content.TheVariants as content
use Rattle.sheet_define_data.specs.declared.definition.Column.{Column}
use Rattle.sheet_define_data.specs.declared.definition.Parameter.{Parameter}
use Rattle.sheet_define_data.specs.declared.definition.Procedure.{Procedure}
use Rattle.sheet_define_data.specs.declared.definition.Show.{Show}
use Rattle.sheet_define_data.specs.declared.definition.Part.{Part}
use Rattle.sheet_define_data.specs.declared.definition.Part.TheVariants as part
use Rattle.sheet_define_data.specs.declared.definition.View.{View}
use Rattle.sheet_define_data.specs.declared.definition.Declaration.{Declaration}
use Rattle.sheet_define_data.specs.declared.definition.Declaration.TheVariants as declaration
use Rattle.sheet_define_data.specs.declared.definition.Definition.{Definition}
use Rattle.sheet_define_data.specs.declared.statement.Target.{Target}
use Rattle.sheet_define_data.specs.declared.statement.Statement.{Statement, Let, Set, Add, Remove, New, Delete, Check, Reply, If', IfElse', For', Row_of-Statement, end_of-Statement as no_statement, more_of-Statement as more_statements}
use Rattle.sheet_define_data.specs.declared.statement.Statement.TheVariants as statement

-- the same path, in line 1
abbrev pub path_on_one_line : Path → Path
path_on_one_line p = record { line = 1; names = p.names }

-- the same type, in line 1
abbrev pub type_on_one_line : TypeName → TypeName
type_on_one_line type.Number = type.Number
type_on_one_line type.Text = type.Text
type_on_one_line type.Truth = type.Truth
type_on_one_line (type.Object p) = type.Object (path_on_one_line p)

-- the same first value, in line 1
abbrev pub literal_on_one_line : Literal → Literal
literal_on_one_line (literal.Number line n) = literal.Number 1 n
literal_on_one_line (literal.Negative line n) = literal.Negative 1 n
literal_on_one_line (literal.Text line content) = literal.Text 1 content
literal_on_one_line (literal.Truth line b) = literal.Truth 1 b

-- the same content of a column, in line 1
abbrev pub content_on_one_line : Content → Content
content_on_one_line content.Object = content.Object
content_on_one_line (content.State t one first) = content.State (type_on_one_line t) one (option_map literal_on_one_line first)
content_on_one_line (content.Formula t f) = content.Formula (option_map type_on_one_line t) (on_one_line f)

-- the same column, in line 1
abbrev pub column_on_one_line : Column → Column
column_on_one_line c = record { depth = c.depth; line = 1; name = c.name; content = content_on_one_line c.content }

-- the same parameter, in line 1
abbrev pub parameter_on_one_line : Parameter → Parameter
parameter_on_one_line p = record { line = 1; name = p.name; values = type_on_one_line p.values }

-- the same target, in line 1
abbrev pub target_on_one_line : Target → Target
target_on_one_line t = record { line = 1; object = option_map on_one_line t.object; column = t.column }

abbrev mutual
  pub statement_on_one_line : Statement → Statement
  statement_on_one_line (Let _ name e) = statement.Let 1 name (on_one_line e)
  statement_on_one_line (Set _ t e) = statement.Set 1 (target_on_one_line t) (on_one_line e)
  statement_on_one_line (Add _ e t) = statement.Add 1 (on_one_line e) (target_on_one_line t)
  statement_on_one_line (Remove _ e t) = statement.Remove 1 (on_one_line e) (target_on_one_line t)
  statement_on_one_line (New _ name t) = statement.New 1 name (target_on_one_line t)
  statement_on_one_line (Delete _ e) = statement.Delete 1 (on_one_line e)
  statement_on_one_line (Check _ e message) = statement.Check 1 (on_one_line e) message
  statement_on_one_line (Reply _ e) = statement.Reply 1 (on_one_line e)
  statement_on_one_line (If' _ e _ body) = statement.If 1 (on_one_line e) (statements_on_one_line body)
  statement_on_one_line (IfElse' _ e _ body _ otherwise) = statement.IfElse 1 (on_one_line e) (statements_on_one_line body) (statements_on_one_line otherwise)
  statement_on_one_line (For' _ name e _ body) = statement.For 1 name (on_one_line e) (statements_on_one_line body)

  pub statements_on_one_line : {m : _} → Row_of-Statement m → List Statement
  statements_on_one_line no_statement = []
  statements_on_one_line (more_statements x rest) = statement_on_one_line x ∷ statements_on_one_line rest

-- the same procedure, in line 1
abbrev pub procedure_on_one_line : Procedure → Procedure
procedure_on_one_line p =
    record {
      line = 1;
      name = p.name;
      parameters = map parameter_on_one_line p.parameters;
      allow = option_map on_one_line p.allow;
      body = map statement_on_one_line p.body;
    }

-- the same slot, in line 1
abbrev pub show_on_one_line : Show → Show
show_on_one_line s = record { line = 1; name = s.name; shown = on_one_line s.shown }

-- the same part of a view, in line 1
abbrev pub part_on_one_line : Part → Part
part_on_one_line (part.Show s) = part.Show (show_on_one_line s)
part_on_one_line (part.Table line name variable source shows) = part.Table 1 name variable (on_one_line source) (map show_on_one_line shows)

-- the same view, in line 1
abbrev pub view_on_one_line : View → View
view_on_one_line v =
    record {
      line = 1;
      name = v.name;
      parameters = map parameter_on_one_line v.parameters;
      allow = option_map on_one_line v.allow;
      parts = map part_on_one_line v.parts;
    }

-- the same declaration, in line 1
abbrev pub declaration_on_one_line : Declaration → Declaration
declaration_on_one_line (declaration.Callers line path) = declaration.Callers 1 (path_on_one_line path)
declaration_on_one_line (declaration.Column c) = declaration.Column (column_on_one_line c)
declaration_on_one_line (declaration.Procedure p) = declaration.Procedure (procedure_on_one_line p)
declaration_on_one_line (declaration.View v) = declaration.View (view_on_one_line v)

-- the same definition, with each of its parts in line 1
abbrev pub definition_on_one_line : Definition → Definition
definition_on_one_line d = record { declarations = map declaration_on_one_line d.declarations }
