use Rattle.sheet_books.proofs.WithinLemmas as lemma
use Rattle.sheet_books.proofs.law.kinds_are_within.Goals as goal

pub returns : goal.returns
returns c = lemma.kinds_are_within
