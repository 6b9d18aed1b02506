use Rattle.trees_bench.proofs.tests.walks_go_over_the_arena_of_a_forest.Given as goal

abbrev pub ghosts-four_equal : goal.ghosts-four_equal
ghosts-four_equal g a = record { name = a.blank.name; parts = a.blank.parts }
