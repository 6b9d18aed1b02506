use Rattle.eb32_walk.proofs.search.seek.Given as goal

abbrev pub ghosts-descend_uncounted : goal.ghosts-descend_uncounted
ghosts-descend_uncounted a = record { name = a.blank.name; parts = a.blank.parts }
