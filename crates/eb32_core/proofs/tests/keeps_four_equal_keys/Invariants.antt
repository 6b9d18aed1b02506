use Rattle.eb32_core.proofs.tests.keeps_four_equal_keys.Given as goal

abbrev pub ghosts-filled : goal.ghosts-filled
ghosts-filled g a = record { name = a.blank.name; parts = a.blank.parts }
