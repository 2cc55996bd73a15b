use Rattle.std.proofs.Common.{◌∙◌}
use Rattle.sheet_state.proofs.Back.{back}
use Rattle.sheet_state.proofs.state.create.Goals as goal

pub returns-in-Err-clause-err : goal.returns-in-Err-clause-err
returns-in-Err-clause-err c =
    back c.args.tables.now c.make.new.tables c.undo_to.new.self c.mark-mark.result c.mark-mark.ensures (c.make.ensures.earlier ∙ c.in_ok-begin.ensures.ok)
    c.undo_to.ensures.present c.undo_to.ensures.earlier
