use Rattle.snapshot.proofs.loading.judged.Given as goal

abbrev pub ghosts-judged_counted : goal.ghosts-judged_counted
ghosts-judged_counted a = record { name = a.blank.name; parts = a.blank.parts }
