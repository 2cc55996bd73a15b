use Rattle.std.proofs.Common.{length}
use Rattle.test_engine_calls.proofs.guarded.+are_of_kind.Given as goal

abbrev pub decreases-are_of_kind : goal.decreases-are_of_kind
decreases-are_of_kind l = length l.values.now
