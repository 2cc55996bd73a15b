use Rattle.std.proofs.Common.{sym, ap, ◌∙◌}
use Rattle.sheet_state_rows.specs.declared.row.SetRow.{SetRow}
use Rattle.sheet_state.specs.Rows.{is_set}
use Rattle.sheet_state.proofs.Lookups.{first_at, none_at, first_read, set_found, set_missing}
use Rattle.sheet_state.proofs.state.set_or.Goals as goal

pub returns-in-Some : goal.returns-in-Some
returns-in-Some c =
    let p = is_set c.args.object c.args.column in
    let rows = c.args.rows.now in
    let f = first_at p rows c.in-Some.place (sym c.in-Some.ensures) in
    ap (λ (r : SetRow). r.set) (first_read p rows c.in-Some.place f.0 _ f.1) ∙ sym (set_found c.args.object c.args.column rows c.in-Some.place f.0 f.1)

pub returns-in-None : goal.returns-in-None
returns-in-None c =
    c.requires.nothing
    ∙ sym (set_missing c.args.object c.args.column c.args.rows.now (none_at (is_set c.args.object c.args.column) c.args.rows.now (sym c.in-None.ensures)))
