use Rattle.std.proofs.Common.{IsTrue}
use Rattle.test_journal.proofs.script.add_rest.Given as goal

abbrev pub invariant-loop : goal.invariant-loop
invariant-loop g l = IsTrue (g.D.Disk.is_open l.disk)
