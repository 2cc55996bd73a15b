use Rattle.test_values.proofs.tests.steps_take_no_bytes.Given as goal

abbrev pub ghosts-count_to_three : goal.ghosts-count_to_three
ghosts-count_to_three g a = record { name = a.blank.name; parts = a.blank.parts }
