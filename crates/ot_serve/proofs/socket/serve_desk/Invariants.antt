use Rattle.ot_serve.proofs.socket.serve_desk.Given as goal

-- the ledger is the one that is opened
abbrev pub ghosts-run : goal.ghosts-run
ghosts-run g a = record { name = a.blank.name; parts = a.blank.parts }
