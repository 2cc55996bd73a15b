-- The definitions of texts.
use Rattle.std.specs.Prelude.{◌≡◌, ℕ, ◌<◌, ◌+◌, ◌==◌, ◌≤◌, List, length, take, count_by, Result, Ok, Err, IsUtf8}
use Rattle.std.specs.Str.{IsValidUpTo}
use Rattle.sheet_syntax_trees.specs.declared.token.Token.{Token}
use Rattle.sheet_syntax_trees.specs.declared.token.SyntaxRefusal.{SyntaxRefusal}
use Rattle.sheet_syntax_trees.specs.declared.token.SyntaxRefusal.TheVariants.{BadToken, NumberTooWide, Expected, TooNested}
use Rattle.sheet_syntax_trees.specs.declared.token.SyntaxRefusal.TheVariants as syntax
use Rattle.sheet_syntax_trees.specs.Tokens.{lexed}
use Rattle.sheet_define_data.specs.declared.definition.Definition.{Definition}
use Rattle.sheet_define_data.specs.Grammar.{IsDefinition}
use Rattle.sheet_define_reading.specs.Reading.{definition_read}
use Rattle.sheet_define_refusals.specs.Refusals.{IsFirstOfDefinition, IsFirstTooNested}
use Rattle.sheet_define.specs.declared.read.DefinitionRefusal.{DefinitionRefusal}
use Rattle.sheet_define.specs.declared.read.DefinitionRefusal.TheVariants.{TooLong, NotUtf8, Syntax, NoMemory}

-- the line of an offset: 1 more than the LFs before it
abbrev pub line_at : List ℕ → ℕ → ℕ
line_at text offset = 1 + count_by (λ c. c == 10) (take offset text)

-- a refusal of tokens with its line, where want of memory stands apart
abbrev pub Placed : List ℕ → SyntaxRefusal → DefinitionRefusal → Type 0
Placed text (BadToken o) r = r ≡ Syntax (BadToken o) (line_at text o)
Placed text (NumberTooWide o) r = r ≡ Syntax (NumberTooWide o) (line_at text o)
Placed text (Expected o) r = r ≡ Syntax (Expected o) (line_at text o)
Placed text (TooNested o) r = r ≡ Syntax (TooNested o) (line_at text o)
Placed text syntax.NoMemory r = r ≡ NoMemory

-- the text stands for no definition
abbrev pub HasNone : List ℕ → Type 0
HasNone text = (d : Definition) → IsDefinition text d → ⊥

-- at the offset stands the first token of the text such that those up to and with it begin no definition, or the text ends too early
abbrev pub ExpectedAt : List ℕ → ℕ → Type 0
ExpectedAt text o = (tokens : List Token) × (lexed text ≡ Ok tokens) × IsFirstOfDefinition (length text) tokens o

-- at the offset begins what is nested too deeply, and the tokens before begin a definition
abbrev pub NestedAt : List ℕ → ℕ → Type 0
NestedAt text o = (tokens : List Token) × (lexed text ≡ Ok tokens) × IsFirstTooNested (length text) tokens o

-- why the tokens of a text are refused, and the line of the offset
abbrev pub SyntaxRefused : List ℕ → SyntaxRefusal → ℕ → Type 0
SyntaxRefused text (BadToken o) line = (definition_read text ≡ Err (BadToken o)) × (line ≡ line_at text o)
SyntaxRefused text (NumberTooWide o) line = (definition_read text ≡ Err (NumberTooWide o)) × (line ≡ line_at text o)
SyntaxRefused text (Expected o) line = (definition_read text ≡ Err (Expected o)) × (line ≡ line_at text o) × ExpectedAt text o
SyntaxRefused text (TooNested o) line = (definition_read text ≡ Err (TooNested o)) × (line ≡ line_at text o) × NestedAt text o
SyntaxRefused text syntax.NoMemory line = ⊥

-- A definition exactly where the text stands for one, and that one; else why it is refused: its length, where it isn't UTF-8,
-- then its tokens, in this order.
abbrev pub Defines : List ℕ → Result Definition DefinitionRefusal → Type 0
Defines text (Ok d) = IsDefinition text d
Defines text (Err (TooLong n)) = HasNone text × (262144 < length text) × (n ≡ length text)
Defines text (Err (NotUtf8 o)) = HasNone text × (length text ≤ 262144) × IsValidUpTo text o
Defines text (Err (Syntax refusal line)) = HasNone text × (length text ≤ 262144) × IsUtf8 text × SyntaxRefused text refusal line
Defines text (Err NoMemory) = Unit {0}
