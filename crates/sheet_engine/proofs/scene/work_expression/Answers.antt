use Rattle.sheet_engine.proofs.Results.{expression_comes, if_ok}
use Rattle.sheet_engine.proofs.scene.work_expression.Goals as goal

pub returns-clause-comes : goal.returns-clause-comes
returns-clause-comes g c =
    if_ok c.evaluated.result
    (expression_comes c.args.book.now c.args.state.now c.requires.served c.args.standings.now c.requires.results c.args.core.now c.args.place
    c.args.variables.now)
    c.evaluated.ensures.answer
