use Rattle.eb32_core.proofs.keyed.ForestKeyedLists.insert.Given as goal

abbrev pub ghosts-put : goal.ghosts-put
ghosts-put a = record { name = a.blank.name; parts = a.blank.parts }
