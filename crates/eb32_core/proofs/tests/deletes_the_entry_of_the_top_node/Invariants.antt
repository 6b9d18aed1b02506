use Rattle.eb32_core.proofs.tests.deletes_the_entry_of_the_top_node.Given as goal

abbrev pub ghosts-filled_without : goal.ghosts-filled_without
ghosts-filled_without g a = record { name = a.blank.name; parts = a.blank.parts }
