use Rattle.std.proofs.Common.{◌∙◌}
use Rattle.sheet_state.proofs.Back.{back}
use Rattle.sheet_state.proofs.state.put_row.Goals as goal

pub returns-in-Err-clause-err : goal.returns-in-Err-clause-err
returns-in-Err-clause-err c =
    back c.args.tables.now c.replace_cell.new.self c.undo_to.new.self c.mark-mark.result c.mark-mark.ensures (c.replace_cell.ensures.earlier
    ∙ c.in_ok-begin.ensures.ok) c.undo_to.ensures.present c.undo_to.ensures.earlier
