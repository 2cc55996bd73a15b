use Rattle.sheet_meaning.proofs.Tracks as tracks
use Rattle.sheet_meaning.proofs.uses_suffice.Goals as goal

pub returns : goal.returns
returns c = tracks.uses_suffice
