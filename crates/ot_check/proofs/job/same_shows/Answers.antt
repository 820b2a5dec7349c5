use Rattle.std.proofs.lemmas.Slice.Eq.{slice_eq-Decides}
use Rattle.ot_check.proofs.EqualLemmas.{section-decides}
use Rattle.ot_check.proofs.job.same_shows.Goals as goal

pub returns : goal.returns
returns c = slice_eq-Decides section-decides c.args.one.now c.args.other.now c.eq.result c.eq.ensures
