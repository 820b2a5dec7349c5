use Rattle.ot_front.proofs.connection.hold_session.Goals as goal

pub returns : goal.returns
returns g c = (c.serve_behind-end.new.book, c.serve_behind-end.ensures, c.lay_back.ensures.laid)
