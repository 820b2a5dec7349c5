use Rattle.test_session.proofs.connections.first_other_broken.Given as goal

abbrev pub ghosts-first_other_broken_on : goal.ghosts-first_other_broken_on
ghosts-first_other_broken_on g a = record { name = a.blank.name; parts = a.blank.parts }
