-- Texts of which a definition is read back.
use Rattle.std.specs.Prelude.{◌≡◌, ℕ, List}
use Rattle.sheet_define_data.specs.declared.definition.Definition.{Definition}
use Rattle.sheet_define_data.specs.Grammar.{IsDefinition}
use Rattle.sheet_define_readback.specs.Lines.{definition_on_one_line}

-- The text stands for a definition that is this one but for the lines of its parts.
pub record StandsButForLines (text : List ℕ) (d : Definition) : Type 0 where
  pub back : Definition
  pub stands : IsDefinition text back
  pub same : definition_on_one_line back ≡ definition_on_one_line d
