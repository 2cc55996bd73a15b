use Rattle.sheet_procs.proofs.Changing.{noted_named}
use Rattle.sheet_procs.proofs.changes.take_away.Goals as goal

pub returns-in-Ok-clause-runs : goal.returns-in-Ok-clause-runs
returns-in-Ok-clause-runs c =
    noted_named c.args.engine.now.book c.args.engine.now.state c.delete_all.new.self.state c.args.progress.now c.note_named.new.progress c.requires.formed
    c.note_named.result c.args.set.now c.in-Ok.items c.in-Ok.ensures.state c.in-Ok.ensures.changed c.in-Ok.ensures.earlier c.note_named.ensures.variables
    c.note_named.ensures.reply c.note_named.ensures.noted
