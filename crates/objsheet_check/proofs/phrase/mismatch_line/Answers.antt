use Rattle.std.proofs.Common.{rules, append_assoc}
use Rattle.objsheet_check.proofs.phrase.mismatch_line.Goals as goal

pub returns : goal.returns
returns c = simp (append_assoc) (search rules)
