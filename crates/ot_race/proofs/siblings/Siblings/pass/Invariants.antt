use Rattle.std.proofs.Common.{take}
use Rattle.ot_race.specs.Siblings.{HavePassed}
use Rattle.ot_race.proofs.siblings.Siblings.pass.Given as goal

abbrev pub invariant-loop-used : goal.invariant-loop-used
invariant-loop-used l = HavePassed l.at.ends.now l.at.number l.parent (take l.used-index l.uses) l.initial.self l.self
