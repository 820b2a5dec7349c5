use Rattle.ot_check.proofs.RegionLemmas.{stands-told}
use Rattle.ot_check.proofs.standing.Standing.has_children.Goals as goal

pub returns : goal.returns
returns c = λ own opened children decls h.
    stands-told own opened children decls c.args.self.now.region c.args.self.now.tasks h c.is_empty.result c.is_empty.ensures.none c.is_empty.ensures.some
