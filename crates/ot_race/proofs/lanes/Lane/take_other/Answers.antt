use Rattle.std.proofs.Common.{sym, ap}
use Rattle.ot_race.specs.Siblings.{seen_of}
use Rattle.ot_race.proofs.LaneLemmas.{apart_cmp}
use Rattle.ot_race.proofs.lanes.Lane.take_other.Goals as goal

pub returns-in-Some-clause-was : goal.returns-in-Some-clause-was
returns-in-Some-clause-was c = λ m. ap (λ r. seen_of r m) (sym c.in-Some.ensures.value)

pub returns-in-Some-clause-others : goal.returns-in-Some-clause-others
returns-in-Some-clause-others c = λ p apart. c.in-Some.ensures.updates.2 p (apart_cmp c.args.parent p apart)
