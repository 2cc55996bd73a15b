use Rattle.sheet_state.specs.Rows.{objects_in}
use Rattle.sheet_meaning.specs.Workbook.{object_at}
use Rattle.sheet_state.proofs.Living.{none_added, one_added, row_tells, no_row_tells}
use Rattle.sheet_state.proofs.state.add_live_object.Goals as goal

pub returns-in_ok-insert-in-Some : goal.returns-in_ok-insert-in-Some
returns-in_ok-insert-in-Some c =
    let xs = objects_in c.args.rows.now in
    let o = c.args.object in
    one_added xs o c.args.live.now.keys c.insert.new.self.keys (row_tells c.row_of.result (object_at xs o) _ c.row_of.ensures c.in-Some.is)
    c.in_ok-insert-in-Some.ensures.updates.0

pub returns-in-None : goal.returns-in-None
returns-in-None c =
    let xs = objects_in c.args.rows.now in
    let o = c.args.object in
    none_added xs o c.args.live.now.keys (no_row_tells c.row_of.result (object_at xs o) c.row_of.ensures c.in-None.is)
