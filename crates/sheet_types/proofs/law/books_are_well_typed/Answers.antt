use Rattle.sheet_types.proofs.BookLemmas.{books_well_typed}
use Rattle.sheet_types.proofs.law.books_are_well_typed.Goals as goal

pub returns : goal.returns
returns c =
    books_well_typed c.outlines_are_within.ensures c.typed_formulas_have_their_kinds.ensures c.kinds_are_within.ensures
    c.resolved_procedures_are_well_typed.ensures c.resolved_views_are_well_typed.ensures
