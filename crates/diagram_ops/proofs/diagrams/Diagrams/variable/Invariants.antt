use Rattle.diagram_ops.proofs.diagrams.Diagrams.variable.Given as goal

abbrev pub ghosts-variable_counted : goal.ghosts-variable_counted
ghosts-variable_counted a = record { name = a.blank.name; parts = a.blank.parts }
