use Rattle.sheet_machine.proofs.Leftovers.{all_stand}
use Rattle.sheet_machine.proofs.law.all_records_stand.Goals as goal

pub returns : goal.returns
returns c entries place doubt file there = all_stand entries place doubt file there
