use Rattle.std.proofs.Common.{◌≡◌, None, IsTrue}
use Rattle.test_journal.proofs.images.add_records.Given as goal

abbrev pub invariant-loop : goal.invariant-loop
invariant-loop l = record {
  opened : IsTrue l.disk.is_open;
  decided : l.journal.doubt ≡ None;
}
