use Rattle.std.proofs.Common.{◌∙◌, ap}
use Rattle.sheet_state.specs.Deaths.{rid_items}
use Rattle.sheet_state.proofs.Back.{back}
use Rattle.sheet_state.proofs.state.take_away.Goals as goal

pub returns-in-Err-clause-err : goal.returns-in-Err-clause-err
returns-in-Err-clause-err c =
    back c.args.tables.now c.be_rid_of.new.tables c.undo_to.new.self c.mark-mark.result c.mark-mark.ensures (c.be_rid_of.ensures.earlier
    ∙ c.in_ok-begin.ensures.ok) c.undo_to.ensures.present c.undo_to.ensures.earlier

pub returns-in-Ok-clause-items : goal.returns-in-Ok-clause-items
returns-in-Ok-clause-items c = c.in-Ok.ensures.items ∙ ap (rid_items c.args.doomed.now) c.begin.ensures.present
