use Rattle.test_engine_random.proofs.counted.Given as goal

abbrev pub ghosts-tried : goal.ghosts-tried
ghosts-tried a = record { name = a.blank.name; parts = a.blank.parts }
