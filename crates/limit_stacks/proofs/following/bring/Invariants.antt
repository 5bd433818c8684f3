use Rattle.limit_stacks.proofs.following.bring.Given as goal

abbrev pub ghosts-bring_counted : goal.ghosts-bring_counted
ghosts-bring_counted a = record { name = a.blank.name; parts = a.blank.parts }
