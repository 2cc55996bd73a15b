use Rattle.sheet_machine.specs.Recovering.{entries_of}
use Rattle.sheet_machine.proofs.Recoveries.{moment_goes_on, recovers_more}
use Rattle.sheet_machine.proofs.law.crashes_are_recovered.Goals as goal

pub returns : goal.returns
returns c entries events before after bytes recovers leads m =
    let g = moment_goes_on before after events m.lines leads m.may in
    record {
      lines = m.lines;
      may = m.may;
      last = g.0;
      goes_on = g.1;
      image = m.image;
      recovers = recovers_more entries (entries_of m.lines) before g.0 recovers g.1;
    }
