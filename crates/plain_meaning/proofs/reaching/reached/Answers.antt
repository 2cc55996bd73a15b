use Rattle.std.proofs.Common.{◌∙◌}
use Rattle.plain_meaning.proofs.Loops.{same_items_if_ok}
use Rattle.plain_meaning.proofs.ReachLemmas.{reached_same}
use Rattle.sheet_meaning.specs.Statements.{workbook}
use Rattle.plain_meaning.proofs.reaching.reached.Goals as goal

pub returns : goal.returns
returns c =
    same_items_if_ok c.reached_by.result (reached_same (workbook c.args.schema.now c.args.state.now) _ (c.as_slice.ensures.value ∙ c.in_ok-runs.ensures)
    c.args.uses.now) c.reached_by.ensures
