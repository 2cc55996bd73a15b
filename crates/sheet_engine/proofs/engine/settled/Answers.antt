use Rattle.std.proofs.Common.{◌∙◌}
use Rattle.sheet_engine.proofs.Results.{result_is, if_ok}
use Rattle.sheet_engine.proofs.engine.settled.Goals as goal

pub returns-clause-value : goal.returns-clause-value
returns-clause-value g c =
    if_ok c.result_of.result
    (λ v e.
    e
    ∙ result_is c.args.book.now c.args.state.now c.requires.served c.settle.new.standings c.in_ok-settle.ensures.under_way.results
    (c.args.object, c.args.column) c.in_ok-settle.ensures.found)
    c.result_of.ensures
