use Rattle.eb32_core.proofs.tests.keeps_eight_equal_keys_in_order_of_insertion.Given as goal

abbrev pub ghosts-filled : goal.ghosts-filled
ghosts-filled g a = record { name = a.blank.name; parts = a.blank.parts }
