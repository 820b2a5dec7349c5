use Rattle.test_session.proofs.connections.first_other.Given as goal

abbrev pub ghosts-first_other_on : goal.ghosts-first_other_on
ghosts-first_other_on g a = record { name = a.blank.name; parts = a.blank.parts }
