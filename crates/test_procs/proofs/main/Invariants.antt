use Rattle.test_procs.proofs.main.Given as goal

abbrev pub invariant-loop-name : goal.invariant-loop-name
invariant-loop-name l =
    (goal.iterator-loop-name).can_next l.name-iterator ×
    (goal.iterator-loop-name).is_finite l.name-iterator

abbrev pub ghosts-told : goal.ghosts-told
ghosts-told a = record { name = a.blank.name; parts = a.blank.parts }
