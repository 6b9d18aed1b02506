use Rattle.eb32_core.proofs.tests.keeps_keys_in_order.Given as goal

abbrev pub ghosts-filled : goal.ghosts-filled
ghosts-filled g a = record { name = a.blank.name; parts = a.blank.parts }
