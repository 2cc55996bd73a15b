use Rattle.std.proofs.Common.{◌≡◌, None, IsTrue}
use Rattle.bench_journal.proofs.records.read.Given as goal

abbrev pub invariant-loop-count : goal.invariant-loop-count
invariant-loop-count g l = record {
  opened : IsTrue (g.D.Disk.is_open l.disk);
  decided : l.journal.doubt ≡ None;
}
