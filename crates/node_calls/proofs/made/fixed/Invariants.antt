use Rattle.node_calls.proofs.made.fixed.Given as goal

abbrev pub ghosts-fixed_counted : goal.ghosts-fixed_counted
ghosts-fixed_counted a = record { name = a.blank.name; parts = a.blank.parts }
