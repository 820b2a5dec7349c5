use Rattle.ot_c_names.proofs.name.is_taken.Goals as goal

pub returns : goal.returns
returns c = c.is_among.ensures
