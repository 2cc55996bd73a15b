use Rattle.sheet_books.proofs.SchemaLemmas as lemmas
use Rattle.sheet_books.proofs.law.books_start_well.Goals as goal

pub returns : goal.returns
returns c = lemmas.books_start_well
