-- What `check` writes, and what it leaves of its input.
use Rattle.std.specs.Prelude.{◌≡◌, ℕ, ◌≤◌, ◌⊎◌, List, [], ◌++◌, length, codes, Some, Ok, Err}
use Rattle.std.specs.Fmt.{decimal}
use Rattle.sheet_lines.specs.Lines.{printed}
use Rattle.sheet_lines.specs.Told.{Ends, GainsFront}
use Rattle.sheet_define_data.specs.declared.definition.Definition.{Definition}
use Rattle.sheet_define_data.specs.Grammar.{IsDefinition}
use Rattle.sheet_define.specs.declared.read.DefinitionRefusal.{DefinitionRefusal}
use Rattle.sheet_define.specs.Definitions.{Defines}
use Rattle.sheet_types_formulas.specs.declared.refusal.TypeRefusal.{TypeRefusal}
use Rattle.sheet_books.specs.declared.book.Contents.{Contents}
use Rattle.sheet_types.specs.Elaboration.{elaborated}
use Rattle.objsheet_check.specs.Refusals.{definition_line, type_line}
use Rattle.objsheet_check.specs.declared.checking.Verdict.{Verdict}
use Rattle.objsheet_check.specs.declared.checking.Verdict.TheVariants.{Good, Refused}

-- The text stands for a definition that has this book.
pub record HasBook (text : List ℕ) (book : Contents) : Type 0 where
  pub definition : Definition
  pub stands : IsDefinition text definition
  pub elaborates : elaborated definition ≡ Ok book

-- no definition that the text stands for has a book
abbrev pub HasNoBook : List ℕ → Type 0
HasNoBook text = (book : Contents) → HasBook text book → ⊥

-- how many columns, the root counted, procedures and views a book has
abbrev pub book_line : Contents → List ℕ
book_line b = printed (codes "ok columns=" ++ decimal (length b.columns) ++ codes " procedures=" ++ decimal (length b.procedures) ++ codes " views=" ++ decimal (length b.views))

-- The text has a book, and the line says so.
pub record IsGood (text line : List ℕ) : Type 0 where
  pub book : Contents
  pub has : HasBook text book
  pub says : line ≡ book_line book

-- The text stands for no definition, and the line says why.
pub record IsNoDefinition (text line : List ℕ) : Type 0 where
  pub why : DefinitionRefusal
  pub refused : Defines text (Err why)
  pub says : definition_line why ≡ Some line

-- The text stands for a definition that has no book, and the line says why.
pub record IsNoBook (text line : List ℕ) : Type 0 where
  pub definition : Definition
  pub stands : IsDefinition text definition
  pub why : TypeRefusal
  pub refused : elaborated definition ≡ Err why
  pub says : type_line why ≡ Some line

-- the text is refused, and the line says why
abbrev pub IsRefusedText : List ℕ → List ℕ → Type 0
IsRefusedText text line = IsNoDefinition text line ⊎ IsNoBook text line

-- the line that `check` prints for a text
abbrev pub IsLineOf : List ℕ → List ℕ → Type 0
IsLineOf text line = IsGood text line ⊎ IsRefusedText text line

-- what is found of a definition
abbrev pub FindsInDefinition : Definition → Verdict → Type 0
FindsInDefinition d (Good line) = (book : Contents) × (elaborated d ≡ Ok book) × (line.items ≡ book_line book)
FindsInDefinition d (Refused line) = (why : TypeRefusal) × (elaborated d ≡ Err why) × (type_line why ≡ Some line.items)

-- what is found of a text
abbrev pub FindsInText : List ℕ → Verdict → Type 0
FindsInText text (Good line) = IsGood text line.items
FindsInText text (Refused line) = IsRefusedText text line.items

-- The text is all of the input, or more of it than a definition may have.
pub record ReadsText (text old left : List ℕ) : Type 0 where
  pub read : old ≡ text ++ left
  pub end : length text ≤ 262144 → left ≡ []

-- a piece of the input was added to the text
abbrev pub Adds : List ℕ → List ℕ → List ℕ → List ℕ → Type 0
Adds text text' old left = (piece : List ℕ) × (text' ≡ text ++ piece) × (old ≡ piece ++ left)

-- what is found of the input, which was read to its end where it is good, and has no book where it is refused
abbrev pub FindsInInput : Verdict → List ℕ → List ℕ → Type 0
FindsInInput (Good line) old left = IsGood old line.items × (left ≡ [])
FindsInInput (Refused line) old left = IsRefusedText old line.items × HasNoBook old

-- some bytes were taken from the front of the input
abbrev pub Takes : List ℕ → List ℕ → Type 0
Takes old left = (taken : List ℕ) × (old ≡ taken ++ left)

-- Status 0: the input was read to its end, it has a book, and the line of its book was written.
pub record IsChecked (old new : Ends) : Type 0 where
  pub end : new.left ≡ []
  pub line : List ℕ
  pub good : IsGood old.left line
  pub written : new.written ≡ old.written ++ line

-- the input was read to its end, and it has a book
abbrev pub IsCheckedInput : List ℕ → List ℕ → Type 0
IsCheckedInput input left = (left ≡ []) × (book : Contents) × HasBook input book

-- Status 1: the input is refused, and the line that says why was written.
pub record IsUnfit (old new : Ends) : Type 0 where
  pub line : List ℕ
  pub refused : IsRefusedText old.left line
  pub written : new.written ≡ old.written ++ line

-- Status 4: a front of the line of the input was written.
pub record IsCutOff (old new : Ends) : Type 0 where
  pub line : List ℕ
  pub due : IsLineOf old.left line
  pub front : GainsFront line old.written new.written
