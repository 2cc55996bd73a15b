use Rattle.test_eval.proofs.cases.told.Given as goal

abbrev pub ghosts-evaluated : goal.ghosts-evaluated
ghosts-evaluated a = record { name = a.blank.name; parts = a.blank.parts }
