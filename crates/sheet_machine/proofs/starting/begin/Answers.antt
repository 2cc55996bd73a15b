use Rattle.std.proofs.Common.{refl, subst, None}
use Rattle.sheet_columns.specs.Tree.{IsTree}
use Rattle.sheet_machine.proofs.Beginning.{is_ready}
use Rattle.sheet_machine.proofs.starting.begin.Goals as goal

pub returns-clause-ready : goal.returns-clause-ready
returns-clause-ready c =
    is_ready c.args.book _ (record { engine = c.in_ok-engine.engine; callers = c.in_ok-callers.callers; accepted = 0; pending = None; alloc = c.args.alloc }) c.starts_are_sound.ensures
    c.columns.ensures.typed (subst IsTree c.columns.ensures.columns c.count.ensures.tree) c.in_ok-engine.ensures.book c.in_ok-engine.ensures.state
    c.in_ok-engine.ensures.earlier c.in_ok-callers.ensures refl refl
