use Rattle.std.proofs.Common.{◌≡◌, sym, subst, rules}
use Rattle.sheet_books.specs.declared.book.Contents.{Contents}
use Rattle.sheet_state.specs.Stored.{IsStored}
use Rattle.sheet_engine.specs.Started.{IsServed}
use Rattle.sheet_engine.proofs.Moving.{nothing_started}
use Rattle.sheet_engine.proofs.engine.Engine.new.Goals as goal

pub invariant_of-result : goal.invariant_of-result
invariant_of-result c =
    let same : c.in-Ok.book.value ≡ c.book.inside.contents = search rules in
    let columns : c.columns.result.now ≡ c.book.inside.contents.columns = search rules in
    record {
      served = subst (λ (b : Contents). IsServed b c.in_ok-state.state) (sym same)
          (record { typed = c.book.invariant.typed; kept = subst (λ n. IsStored n c.in_ok-state.state) columns c.in_ok-state.ensures.kept });
      found = nothing_started _ _ _ c.new-in-Ok.ensures;
    }
