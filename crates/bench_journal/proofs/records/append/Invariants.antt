use Rattle.std.proofs.Common.{◌≡◌, ◌+◌, ◌*◌, ◌≤◌, None, IsTrue}
use Rattle.bench_journal.proofs.records.append.Given as goal

abbrev pub invariant-loop-done : goal.invariant-loop-done
invariant-loop-done g l = record {
  opened : IsTrue (g.D.Disk.is_open l.disk);
  decided : l.journal.doubt ≡ None;
  room : l.journal.place ≤ 19 + 60 * l.done;
}
