-- The values of a set that is made or lent.
use Rattle.std.specs.Prelude.{List}
use Rattle.sheet_values.specs.declared.value.Value.{Value}
use Rattle.sheet_eval_sets.specs.declared.part.Held.{Held}
use Rattle.sheet_eval_sets.specs.declared.part.Held.TheVariants.{Lent, Own}

abbrev pub values : Held → List Value
values (Lent set) = set.now
values (Own set) = set
