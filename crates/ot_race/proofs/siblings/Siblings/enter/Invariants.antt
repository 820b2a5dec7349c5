use Rattle.std.proofs.Common.{take}
use Rattle.ot_race.specs.Siblings.{HaveEntered}
use Rattle.ot_race.proofs.siblings.Siblings.enter.Given as goal

abbrev pub invariant-loop-used : goal.invariant-loop-used
invariant-loop-used l = HaveEntered l.at.ends.now l.at.number l.parent l.child (take l.used-index l.uses) l.initial.self l.self
