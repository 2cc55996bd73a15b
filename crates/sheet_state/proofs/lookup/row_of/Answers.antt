use Rattle.std.proofs.Common.{◌≡◌, sym, ap, ◌∙◌, Some, None}
use Rattle.std.specs.Prelude.{if◌then◌else◌, ◌==◌}
use Rattle.sheet_meaning.proofs.Members.{both_true}
use Rattle.sheet_state.specs.Rows.{is_object, object_of, live_object}
use Rattle.sheet_state.proofs.Lookups.{first_at, none_at, first_read, first_passes, object_found, object_missing}
use Rattle.sheet_state.proofs.lookup.row_of.Goals as goal

pub returns-in-Some : goal.returns-in-Some
returns-in-Some c =
    let p = is_object c.args.object in
    let rows = c.args.rows.now in
    let f = first_at p rows c.in-Some.place (sym c.in-Some.ensures) in
    let live = both_true f.0.live (f.0.number == c.args.object) (first_passes p rows c.in-Some.place f.0 f.1) in
    let is : Some (object_of f.0) ≡ live_object f.0 = ap (λ b. if b then Some (object_of f.0) else None) (sym live.0) in
    ap (λ r. Some (object_of r)) (first_read p rows c.in-Some.place f.0 _ f.1) ∙ is ∙ object_found c.args.object rows c.in-Some.place f.0 f.1

pub returns-in-None : goal.returns-in-None
returns-in-None c = sym (object_missing c.args.object c.args.rows.now (none_at (is_object c.args.object) c.args.rows.now (sym c.in-None.ensures)))
