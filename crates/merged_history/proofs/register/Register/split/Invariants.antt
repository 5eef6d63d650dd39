use Rattle.merged_history.proofs.register.Register.split.Given as goal

abbrev pub ghosts-split_seat : goal.ghosts-split_seat
ghosts-split_seat a = record { actor = a.actor }
