use Rattle.std.proofs.Common.{ap, ◌∙◌, Ok}
use Rattle.sheet_procs.proofs.Starting.{admitted}
use Rattle.sheet_procs.proofs.procedure.admit.Goals as goal

pub returns-then-holds-clause-runs : goal.returns-then-holds-clause-runs
returns-then-holds-clause-runs g c =
    admitted c.args.engine.now.book c.args.engine.now.state c.truth_of.new.engine.state c.in_ok-holds.ensures.state c.args.progress.now c.args.allow.now
    (c.in_ok-holds.ensures.comes ∙ ap Ok c.if-holds.true)
