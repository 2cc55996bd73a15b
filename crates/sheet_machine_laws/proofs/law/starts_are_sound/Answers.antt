use Rattle.sheet_machine_laws.proofs.Soundness as lemmas
use Rattle.sheet_machine_laws.proofs.law.starts_are_sound.Goals as goal

pub returns : goal.returns
returns c = lemmas.starts_are_sound
