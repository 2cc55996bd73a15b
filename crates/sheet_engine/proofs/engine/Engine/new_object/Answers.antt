use Rattle.std.proofs.Common.{◌≡◌, ◌∙◌, ap, sym, subst, None, rules}
use Rattle.sheet_meaning.specs.Changes.{with_object}
use Rattle.sheet_state.specs.Stored.{IsStored, schema_of as columns_alone, book as book_of}
use Rattle.sheet_state.specs.Limits.{first_full, Refuses}
use Rattle.sheet_engine.specs.Seen.{Seen}
use Rattle.sheet_engine.proofs.Moving.{nothing_started}
use Rattle.sheet_engine.proofs.engine.Engine.new_object.Goals as goal

pub new_object-requires-clause-kept : goal.new_object-requires-clause-kept
new_object-requires-clause-kept c =
    let same : c.columns.result.now ≡ c.self.inside.book.value.columns = search rules in
    subst (λ n. IsStored n c.self.inside.state) (sym same) c.self.invariant.served.kept

pub returns-clause-room : goal.returns-clause-room
returns-clause-room c =
    let same : c.columns.result.now ≡ c.self.inside.book.value.columns = search rules in
    subst (λ n. first_full (book_of n (with_object (columns_alone n) c.args.self.now.state.present.state c.args.column c.args.parent)) ≡ None)
    (same ∙ ap (λ (s : Seen). s.book.columns) c.self.view_is)
    (subst
    (λ (s : Seen). first_full (book_of c.columns.result.now (with_object
    (columns_alone c.columns.result.now) s.state.present.state c.args.column c.args.parent))
    ≡ None) c.self.view_is c.in-Ok.ensures.room)

pub returns-in-Err-clause-full : goal.returns-in-Err-clause-full
returns-in-Err-clause-full c =
    let same : c.columns.result.now ≡ c.self.inside.book.value.columns = search rules in
    subst
    (λ n. Refuses (first_full (book_of n (with_object (columns_alone n) c.args.self.now.state.present.state c.args.column c.args.parent))) c.in-Err.refusal)
    (same ∙ ap (λ (s : Seen). s.book.columns) c.self.view_is)
    (subst
    (λ (s : Seen).
    Refuses (first_full (book_of c.columns.result.now (with_object (columns_alone c.columns.result.now) s.state.present.state c.args.column c.args.parent)))
    c.in-Err.refusal)
    c.self.view_is c.in-Err.ensures.full)

pub invariant_of-self-2 : goal.invariant_of-self-2
invariant_of-self-2 c =
    let same : c.columns.result.now ≡ c.self.inside.book.value.columns = search rules in
    record {
      served = record { typed = c.self.invariant.served.typed; kept = subst (λ n. IsStored n c.new_object.new.self) same c.in-Ok.ensures.kept };
      found = nothing_started _ _ _ c.new.ensures;
    }
