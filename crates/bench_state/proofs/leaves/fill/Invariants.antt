use Rattle.sheet_state.specs.Stored.{IsStored}
use Rattle.bench_state.proofs.leaves.fill.Given as goal

abbrev pub invariant-loop : goal.invariant-loop
invariant-loop l = IsStored l.columns l.state
