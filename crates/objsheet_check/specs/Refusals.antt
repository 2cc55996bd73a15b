-- The lines that say why a definition is refused. Want of memory has no line.
use Rattle.std.specs.Prelude.{ℕ, List, ◌++◌, codes, Option, Some, None}
use Rattle.std.specs.Fmt.{decimal}
use Rattle.sheet_lines.specs.Lines.{printed}
use Rattle.sheet_syntax_trees.specs.declared.token.SyntaxRefusal.{SyntaxRefusal}
use Rattle.sheet_syntax_trees.specs.declared.token.SyntaxRefusal.TheVariants.{BadToken, NumberTooWide, Expected, TooNested}
use Rattle.sheet_syntax_trees.specs.declared.token.SyntaxRefusal.TheVariants as syntax
use Rattle.sheet_define.specs.declared.read.DefinitionRefusal.{DefinitionRefusal}
use Rattle.sheet_define.specs.declared.read.DefinitionRefusal.TheVariants.{TooLong, NotUtf8, Syntax}
use Rattle.sheet_define.specs.declared.read.DefinitionRefusal.TheVariants as define
use Rattle.sheet_types_formulas.specs.declared.refusal.TypeRefusal.{TypeRefusal}
use Rattle.sheet_types_formulas.specs.declared.refusal.TypeRefusal.TheVariants.{Doubled, TooDeep, TooMany, UnknownName, Mismatch, NeedsFirst, NeedsType, DeclaredOther}
use Rattle.sheet_types_formulas.specs.declared.refusal.TypeRefusal.TheVariants as types

-- a cause, with the line of the text and the offset where it stands
abbrev pub placed : List ℕ → ℕ → ℕ → List ℕ
placed cause line offset = printed (codes "refused: " ++ cause ++ codes ", line " ++ decimal line ++ codes ", offset " ++ decimal offset)

-- a cause, with the line of the text where it stands
abbrev pub on_line : List ℕ → ℕ → List ℕ
on_line cause line = printed (codes "refused: " ++ cause ++ codes ", line " ++ decimal line)

-- a cause, with the path of the column that has it
abbrev pub of_column : List ℕ → List ℕ → List ℕ
of_column cause path = printed (codes "refused: " ++ cause ++ codes ", column " ++ path)

-- on a line, the wanted type and the one found
abbrev pub mismatched : ℕ → List ℕ → List ℕ → List ℕ
mismatched line wanted found = printed (codes "refused: mismatch, line " ++ decimal line ++ codes ", wanted " ++ wanted ++ codes ", found " ++ found)

-- the path of a column, its declared type and the one found
abbrev pub declared_other : List ℕ → List ℕ → List ℕ → List ℕ
declared_other path declared found = printed (codes "refused: column " ++ path ++ codes ", declared " ++ declared ++ codes ", found " ++ found)

-- why the tokens of a text, in that line of it, are no definition
abbrev pub syntax_line : SyntaxRefusal → ℕ → Option (List ℕ)
syntax_line (BadToken offset) line = Some (placed (codes "bad token") line offset)
syntax_line (NumberTooWide offset) line = Some (placed (codes "number too wide") line offset)
syntax_line (Expected offset) line = Some (placed (codes "expected other") line offset)
syntax_line (TooNested offset) line = Some (placed (codes "too nested") line offset)
syntax_line syntax.NoMemory line = None

-- why a text stands for no definition
abbrev pub definition_line : DefinitionRefusal → Option (List ℕ)
definition_line (TooLong length) = Some (printed (codes "refused: too long, limit 262144"))
definition_line (NotUtf8 offset) = Some (printed (codes "refused: not utf-8, offset " ++ decimal offset))
definition_line (Syntax refusal line) = syntax_line refusal line
definition_line define.NoMemory = None

-- why a definition has no book
abbrev pub type_line : TypeRefusal → Option (List ℕ)
type_line (Doubled line) = Some (on_line (codes "doubled name") line)
type_line (TooDeep line) = Some (on_line (codes "too deep") line)
type_line (TooMany line) = Some (on_line (codes "too many columns") line)
type_line (UnknownName line) = Some (on_line (codes "unknown name") line)
type_line (Mismatch line wanted found) = Some (mismatched line wanted found)
type_line (NeedsFirst path) = Some (of_column (codes "needs first value") path)
type_line (NeedsType path) = Some (of_column (codes "needs type") path)
type_line (DeclaredOther path declared found) = Some (declared_other path declared found)
type_line types.NoMemory = None
