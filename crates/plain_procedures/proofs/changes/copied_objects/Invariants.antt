use Rattle.std.proofs.Common.{◌≡◌, ◌++◌, length}
use Rattle.plain_procedures.proofs.changes.copied_objects.Given as goal

abbrev pub decreases-loop-object : goal.decreases-loop-object
decreases-loop-object l = length l.rest

abbrev pub invariant-loop-object : goal.invariant-loop-object
invariant-loop-object l = l.list ++ l.rest ≡ l.objects
