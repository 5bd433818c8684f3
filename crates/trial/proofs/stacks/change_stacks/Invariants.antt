use Rattle.trial.proofs.stacks.change_stacks.Given as goal

abbrev pub ghosts-change_counted : goal.ghosts-change_counted
ghosts-change_counted a = record { name = a.blank.name; parts = a.blank.parts }
