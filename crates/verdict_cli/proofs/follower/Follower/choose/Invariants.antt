use Rattle.verdict_cli.proofs.follower.Follower.choose.Given as goal

abbrev pub ghosts-change_counted : goal.ghosts-change_counted
ghosts-change_counted a = record { name = a.blank.name; parts = a.blank.parts }
