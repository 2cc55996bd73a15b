use Rattle.sheet_state.proofs.Schemas.{worlds_tell_items as law}
use Rattle.sheet_state.proofs.worlds_tell_items.Goals as goal

pub returns : goal.returns
returns c = law
