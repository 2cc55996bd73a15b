use Rattle.sheet_types_formulas.specs.Names.{reach}
use Rattle.sheet_types_formulas.proofs.Sound.{sound}
use Rattle.sheet_types_formulas.proofs.law.typed_formulas_have_their_kinds.Goals as goal

pub returns : goal.returns
returns c = λ n k v e t h. (sound e (reach n k v) t h).kind_is
