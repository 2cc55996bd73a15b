use Rattle.sheet_types_formulas.proofs.names.+nearest.Given as goal

abbrev pub decreases-nearest : goal.decreases-nearest
decreases-nearest l = l.column
