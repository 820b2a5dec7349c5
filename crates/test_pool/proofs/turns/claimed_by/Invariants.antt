use Rattle.test_pool.proofs.turns.claimed_by.Given as goal

abbrev pub ghosts-claimed_of : goal.ghosts-claimed_of
ghosts-claimed_of a = record { name = a.blank.name; parts = a.blank.parts }
