-- Definitions that a text stands for.
use Rattle.std.specs.Prelude.{ℕ, List}
use Rattle.sheet_define_data.specs.declared.definition.Definition.{Definition}
use Rattle.sheet_define_data.specs.Grammar.{IsDefinition}
use Rattle.sheet_types_outline.specs.Orderly.{IsOrderly}

-- Every definition that a text stands for is orderly.
abbrev pub TextsAreOrderly : Type 0
TextsAreOrderly = (text : List ℕ) (d : Definition) → IsDefinition text d → IsOrderly d.declarations
