use Rattle.std.proofs.Common.{◌≡◌, [], sym, subst, rules}
use Rattle.sheet_engine.specs.Started.{IsServed, IsUnderWay}
use Rattle.sheet_engine.proofs.engine.Engine.work_out.Goals as goal

pub value_of-requires : goal.value_of-requires
value_of-requires g c =
    let same : c.deref.result.now ≡ c.self.inside.book.value = search rules in
    record {
      served = subst (λ b. IsServed b c.self.inside.state) (sym same) c.self.invariant.served;
      under_way = subst (λ b. IsUnderWay b c.self.inside.state c.self.inside.standings []) (sym same) c.self.invariant.found;
    }
