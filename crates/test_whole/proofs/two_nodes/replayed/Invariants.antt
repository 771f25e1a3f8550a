use Rattle.test_whole.proofs.two_nodes.replayed.Given as goal

abbrev pub ghosts-replayed_by : goal.ghosts-replayed_by
ghosts-replayed_by g a = record { names = a.blanks }
