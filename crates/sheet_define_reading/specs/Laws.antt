-- What holds of all definitions.
use Rattle.std.specs.Prelude.{◌≡◌, ℕ, List, Ok}
use Rattle.sheet_syntax_trees.specs.declared.token.Token.{Token}
use Rattle.sheet_define_data.specs.declared.definition.Declaration.{Declaration}
use Rattle.sheet_define_data.specs.declared.definition.Definition.{Definition}
use Rattle.sheet_define_data.specs.Grammar.{AreDeclarations, IsDefinition}
use Rattle.sheet_define_reading.specs.Reading.{whole_definition}

-- a text stands for one definition at most
abbrev pub OneDefinition : Type 0
OneDefinition = (text : List ℕ) (d e : Definition) → IsDefinition text d → IsDefinition text e → d ≡ e

-- what is read of tokens stands there by the productions
abbrev pub ReadsStand : Type 0
ReadsStand = (end : ℕ) (tokens : List Token) (ds : List Declaration) → whole_definition end tokens ≡ Ok ds → AreDeclarations (record { depth = 32; nest = 32 }) 16 tokens ds

-- and what stands there is read
abbrev pub StandingAreRead : Type 0
StandingAreRead = (end : ℕ) (tokens : List Token) (ds : List Declaration) → AreDeclarations (record { depth = 32; nest = 32 }) 16 tokens ds → whole_definition end tokens ≡ Ok ds
