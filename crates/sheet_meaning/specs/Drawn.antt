-- Objects that were drawn.
use Rattle.std.specs.Prelude.{ℕ, ◌<◌, List}
use Rattle.std.specs.List.{AllByRecursion}
use Rattle.sheet_values.specs.declared.value.Value.{Value}
use Rattle.sheet_values.specs.declared.value.Value.TheVariants.{Truth, Number, Text, Object}

-- the number of an object lies before the next one that is drawn
abbrev pub IsDrawn : ℕ → Value → Type 0
IsDrawn next (Truth b) = Unit {0}
IsDrawn next (Number n) = Unit {0}
IsDrawn next (Text t) = Unit {0}
IsDrawn next (Object o) = o < next
