use Rattle.sheet_procs_laws.proofs.TypedBooks as lemmas
use Rattle.sheet_procs_laws.proofs.books_are_typed.Goals as goal

pub returns : goal.returns
returns c = lemmas.books_are_typed
