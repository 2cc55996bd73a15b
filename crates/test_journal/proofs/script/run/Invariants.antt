use Rattle.std.proofs.Common.{IsSome, IsTrue}
use Rattle.test_journal.proofs.script.run.Given as goal

abbrev pub invariant-loop-line : goal.invariant-loop-line
invariant-loop-line g l = IsSome l.held → IsTrue (g.D.Disk.is_open l.disk)
