use Rattle.test_pool.proofs.play.play_crowd.Given as goal

abbrev pub ghosts-on_pool : goal.ghosts-on_pool
ghosts-on_pool g a = record { name = a.blank.name; parts = a.blank.parts }
