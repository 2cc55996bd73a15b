use Rattle.sheet_types_outline.proofs.OrderlyTexts.{texts_orderly}
use Rattle.sheet_types_outline.proofs.law.texts_are_orderly.Goals as goal

pub returns : goal.returns
returns c = texts_orderly
