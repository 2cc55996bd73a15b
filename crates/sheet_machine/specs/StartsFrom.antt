-- The start of a definition's book.
use Rattle.std.specs.Prelude.{◌≡◌, ℕ, List, Ok}
use Rattle.sheet_define_data.specs.declared.definition.Definition.{Definition}
use Rattle.sheet_define_data.specs.Grammar.{IsDefinition}
use Rattle.sheet_types.specs.Elaboration.{elaborated}
use Rattle.sheet_books.specs.declared.book.Contents.{Contents}
use Rattle.sheet_machine_laws.specs.Machine.{Holding, start}

-- the text stands for a definition, and what is held is the start of its book, with the operator's key
pub record StartsFrom (text key : List ℕ) (h : Holding) : Type 0 where
  pub definition : Definition
  pub stands : IsDefinition text definition
  pub book : Contents
  pub elaborates : elaborated definition ≡ Ok book
  pub is : h ≡ start book key
