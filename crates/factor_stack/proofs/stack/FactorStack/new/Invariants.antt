use Rattle.factor_stack.proofs.stack.FactorStack.new.Given as goal

abbrev pub ghosts-compute : goal.ghosts-compute
ghosts-compute a = record { name = a.blank.name; parts = a.blank.parts }
