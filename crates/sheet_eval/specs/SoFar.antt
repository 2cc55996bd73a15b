-- What a comprehension comes to so far, as it is held.
use Rattle.std.specs.Prelude.{List, [], ◌∷◌, Option, Some, None, Ok, Err}
use Rattle.sheet_values.specs.declared.value.Value.{Value}
use Rattle.sheet_values.specs.declared.value.Value.TheVariants.{Number, Truth}
use Rattle.sheet_columns.specs.declared.fault.Fault.{Fault}
use Rattle.sheet_meaning.specs.Run.{Outcome, outranked}
use Rattle.sheet_eval.specs.declared.total.Aggregate.{Aggregate}
use Rattle.sheet_eval.specs.declared.total.Aggregate.TheVariants as aggregate
use Rattle.sheet_eval.specs.declared.total.SoFar.{SoFar}
use Rattle.sheet_eval.specs.declared.total.SoFar.TheVariants.{Union, Sum, Quantify}

-- how its values are put together
abbrev pub aggregate_of : SoFar → Aggregate
aggregate_of (Union g) = aggregate.Union
aggregate_of (Sum n) = aggregate.Sum
aggregate_of (Quantify q b) = aggregate.Quantify q

-- what it holds, as a set
abbrev pub values_so_far : SoFar → List Value
values_so_far (Union g) = g
values_so_far (Sum n) = Number n ∷ []
values_so_far (Quantify q b) = Truth b ∷ []

-- what is held, unless there is a fault
abbrev pub unless_fault : {A : Type 0} → Option Fault → A → Outcome A
unless_fault None a = Ok a
unless_fault (Some e) a = Err e

-- the fault of the first, unless the second has no outcome
abbrev pub first_of : Option Fault → Option Fault → Option Fault
first_of None f = f
first_of (Some e) None = Some e
first_of (Some e) (Some f) = Some (outranked e f)
