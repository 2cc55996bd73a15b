use Rattle.objsheet.proofs.trying.try_lines.Given as goal

abbrev pub ghosts-answer_input : goal.ghosts-answer_input
ghosts-answer_input g a = record { name = a.blank.name; parts = a.blank.parts }
