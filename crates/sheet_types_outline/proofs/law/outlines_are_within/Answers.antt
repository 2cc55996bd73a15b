use Rattle.sheet_types_outline.proofs.WithinLemmas.{outlines_within}
use Rattle.sheet_types_outline.proofs.law.outlines_are_within.Goals as goal

pub returns : goal.returns
returns c = outlines_within
