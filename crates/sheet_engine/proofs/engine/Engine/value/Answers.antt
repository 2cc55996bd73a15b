use Rattle.std.proofs.Common.{◌≡◌, [], sym, subst, rules}
use Rattle.sheet_engine.specs.Started.{IsServed, IsUnderWay}
use Rattle.sheet_engine.proofs.engine.Engine.value.Goals as goal

pub settled-requires : goal.settled-requires
settled-requires g c =
    let same : c.deref.result.now ≡ c.self.inside.book.value = search rules in
    record {
      served = subst (λ b. IsServed b c.self.inside.state) (sym same) c.self.invariant.served;
      under_way = subst (λ b. IsUnderWay b c.self.inside.state c.self.inside.standings []) (sym same) c.self.invariant.found;
    }
