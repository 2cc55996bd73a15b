use Rattle.bench_engine.proofs.last_result.Given as goal

abbrev pub ghosts-measured : goal.ghosts-measured
ghosts-measured a = record { name = a.blank.name; parts = a.blank.parts }
