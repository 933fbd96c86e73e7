use Rattle.slice_quad.proofs.unit_matrix.identity.Given as goal

abbrev pub ghosts-identity_counted : goal.ghosts-identity_counted
ghosts-identity_counted a = record { name = a.blank.name; parts = a.blank.parts }
