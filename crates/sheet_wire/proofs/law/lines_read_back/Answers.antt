use Rattle.sheet_wire.proofs.Agreed.{read_back}
use Rattle.sheet_wire.proofs.law.lines_read_back.Goals as goal

pub returns : goal.returns
returns c = read_back
