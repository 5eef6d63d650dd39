use Rattle.merged_history.proofs.register.Register.join.Given as goal

abbrev pub ghosts-join_seat : goal.ghosts-join_seat
ghosts-join_seat g a = record { own = g.own }
