use Rattle.test_pool.proofs.turns.ended.Given as goal

abbrev pub ghosts-told_of : goal.ghosts-told_of
ghosts-told_of a = record { name = a.blank.name; parts = a.blank.parts }
