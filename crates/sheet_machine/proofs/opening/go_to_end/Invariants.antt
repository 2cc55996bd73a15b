use Rattle.std.proofs.Common.{◌≤◌, ◌-◌, IsTrue}
use Rattle.sheet_outside.specs.Told.{WhereTold}
use Rattle.sheet_machine.specs.OpeningSteps.{IsGoing, Goes}
use Rattle.sheet_machine.proofs.opening.go_to_end.Given as goal

abbrev pub invariant-records : goal.invariant-records
invariant-records g l = record {
  going : IsGoing l.opened;
  found : IsTrue (g.D.Disk.is_open l.disk);
  goes : WhereTold (Goes l.fn.opened l.opened) (g.D.Disk.told l.fn.disk) (g.D.Disk.told l.disk);
  later : g.D.Disk.faults l.fn.disk ≤ g.D.Disk.faults l.disk;
}

abbrev pub decreases-records : goal.decreases-records
decreases-records g l = 9223372036854775808 - l.opened.journal.place
