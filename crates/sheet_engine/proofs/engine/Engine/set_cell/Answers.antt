use Rattle.std.proofs.Common.{◌≡◌, ◌∙◌, ap, sym, subst, None, rules}
use Rattle.sheet_meaning.specs.Changes.{with_set}
use Rattle.sheet_state.specs.Stored.{IsStored, book as book_of}
use Rattle.sheet_state.specs.Limits.{first_full}
use Rattle.sheet_engine.specs.Seen.{Seen}
use Rattle.sheet_engine.proofs.Moving.{nothing_started}
use Rattle.sheet_engine.proofs.engine.Engine.set_cell.Goals as goal

pub set_cell-requires-clause-kept : goal.set_cell-requires-clause-kept
set_cell-requires-clause-kept c =
    let same : c.columns.result.now ≡ c.self.inside.book.value.columns = search rules in
    subst (λ n. IsStored n c.self.inside.state) (sym same) c.self.invariant.served.kept

pub returns-clause-room : goal.returns-clause-room
returns-clause-room c =
    let same : c.columns.result.now ≡ c.self.inside.book.value.columns = search rules in
    subst (λ n. first_full (book_of n (with_set c.args.self.now.state.present.state c.args.object c.args.column c.args.set)) ≡ None)
    (same ∙ ap (λ (s : Seen). s.book.columns) c.self.view_is)
    (subst (λ (s : Seen). first_full (book_of c.columns.result.now (with_set s.state.present.state c.args.object c.args.column c.args.set)) ≡ None)
    c.self.view_is c.in-Ok.ensures.room)

pub invariant_of-self-2 : goal.invariant_of-self-2
invariant_of-self-2 c =
    let same : c.columns.result.now ≡ c.self.inside.book.value.columns = search rules in
    record {
      served = record { typed = c.self.invariant.served.typed; kept = subst (λ n. IsStored n c.set_cell.new.self) same c.in-Ok.ensures.kept };
      found = nothing_started _ _ _ c.new.ensures;
    }
