use Rattle.std.proofs.Common.{◌≡◌, ◌++◌, length}
use Rattle.std.specs.Prelude.{map}
use Rattle.sheet_columns.specs.declared.item.Item.TheVariants.{Live}
use Rattle.sheet_meaning.specs.declared.run.Use.TheVariants.{Read}
use Rattle.sheet_meaning.specs.Page.{argument_uses}
use Rattle.plain_meaning.proofs.resting.push_argument_uses.Given as goal

abbrev pub decreases-loop-object : goal.decreases-loop-object
decreases-loop-object l = length l.rest

abbrev pub invariant-loop-object : goal.invariant-loop-object
invariant-loop-object l = l.uses ++ map (λ o. Read (Live o)) l.rest ≡ l.fn.uses ++ argument_uses l.arguments
