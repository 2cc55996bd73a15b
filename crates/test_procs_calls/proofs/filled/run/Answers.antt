use Rattle.test_procs_calls.proofs.Calling.{stays_filled}
use Rattle.test_procs_calls.proofs.filled.run.Goals as goal

pub returns-in-None : goal.returns-in-None
returns-in-None g c =
    stays_filled c.args.procedure _ c.args.arguments.now c.run_procedure.result c.args.engine.now c.run_procedure.new.engine c.run_procedure.ensures.acts
    c.run_procedure.ensures.book c.requires.filled
