use Rattle.std.proofs.lemmas.Slice.Eq.{slice_eq-Decides}
use Rattle.ot_model.proofs.EqualLemmas.{cell-decides}
use Rattle.ot_c_printed.proofs.apart.same_cells.Goals as goal

pub returns : goal.returns
returns c = slice_eq-Decides cell-decides c.args.ones.now c.args.others.now c.eq.result c.eq.ensures
