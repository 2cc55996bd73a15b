use Rattle.std.proofs.Common.{arith, []}
use Rattle.std.proofs.lemmas.Grind.{common_steps}
use Rattle.sheet_define_length.proofs.Sums.{both, none}
use Rattle.sheet_define_length.proofs.definition.count_procedure.Goals as goal

pub returns : goal.returns
returns c =
    let inside = c.count_inside-total.ensures [] (none 0 (omega arith)) in
    grind (arith, both, common_steps)
