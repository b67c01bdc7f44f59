use Rattle.arpki_costs.proofs.call.root_kept.Given as goal

abbrev pub ghosts-keep : goal.ghosts-keep
ghosts-keep a = record { name = a.blank.name; parts = a.blank.parts }
