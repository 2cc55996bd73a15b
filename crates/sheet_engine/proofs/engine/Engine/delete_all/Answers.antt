use Rattle.std.proofs.Common.{◌≡◌, sym, subst, rules}
use Rattle.sheet_state.specs.Stored.{IsStored}
use Rattle.sheet_engine.proofs.engine.Engine.delete_all.Goals as goal

pub delete_all-requires-clause-kept : goal.delete_all-requires-clause-kept
delete_all-requires-clause-kept c =
    let same : c.columns.result.now ≡ c.self.inside.book.value.columns = search rules in
    subst (λ n. IsStored n c.self.inside.state) (sym same) c.self.invariant.served.kept
