use Rattle.test_pool.proofs.bench.drive.Given as goal

abbrev pub ghosts-drive_on : goal.ghosts-drive_on
ghosts-drive_on g a = record { name = a.blank.name; parts = a.blank.parts }
