use Rattle.test_state.proofs.exploring.+explore.Given as goal

abbrev pub decreases-explore : goal.decreases-explore
decreases-explore l = l.depth
