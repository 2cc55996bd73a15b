-- Statements as a list.
use Rattle.std.specs.Prelude.{List}
use Rattle.sheet_columns.specs.declared.statement.CoreStatement.{CoreStatement}
use Rattle.sheet_columns.specs.declared.statement.Statements.{Statements, out-Statements}

-- the statements in order
abbrev pub statements_in : Statements → List CoreStatement
statements_in s = (out-Statements s).list
