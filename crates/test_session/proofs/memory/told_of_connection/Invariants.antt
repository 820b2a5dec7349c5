use Rattle.test_session.proofs.memory.told_of_connection.Given as goal

abbrev pub ghosts-told_of_connection_on : goal.ghosts-told_of_connection_on
ghosts-told_of_connection_on g a = record { name = a.blank.name; parts = a.blank.parts }
