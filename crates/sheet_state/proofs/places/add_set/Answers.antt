use Rattle.std.proofs.Common.{◌≡◌, ◌∙◌, sym, Some, length}
use Rattle.std.specs.Prelude.{position}
use Rattle.sheet_state.specs.Rows.{is_set}
use Rattle.sheet_state.proofs.Adding.{one_added}
use Rattle.sheet_state.proofs.Lookups.{first_at, first_within}
use Rattle.sheet_state.proofs.places.add_set.Goals as goal

pub returns-in_ok-insert : goal.returns-in_ok-insert
returns-in_ok-insert c =
    let rows = c.args.rows.now in
    let place = c.in-Some.place in
    let p = is_set c.args.object c.args.column in
    let f = first_at p rows place (sym c.in-Some.ensures) in
    one_added (λ k. position p rows ≡ Some k) (length rows) place c.args.places.now.keys c.insert.new.self.keys c.in_ok-insert.ensures.updates.0
    (first_within p rows place f.0 f.1) (λ k w. let e : Some place ≡ Some k = c.in-Some.ensures ∙ w in cc)
