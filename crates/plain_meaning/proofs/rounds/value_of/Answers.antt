use Rattle.plain_meaning.proofs.Loops.{same_if_ok}
use Rattle.plain_meaning.proofs.TableLemmas.{settled_value}
use Rattle.sheet_meaning.specs.Statements.{workbook}
use Rattle.plain_meaning.proofs.rounds.value_of.Goals as goal

pub returns : goal.returns
returns c =
    same_if_ok c.work_out.result (settled_value (workbook c.args.schema.now c.args.state.now) c.args.cells.now c.args.core.now c.args.place c.args.variables.now
    c.requires) c.work_out.ensures
