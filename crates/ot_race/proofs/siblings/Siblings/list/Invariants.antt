use Rattle.std.proofs.Common.{◌≡◌, take}
use Rattle.ot_race.specs.Siblings.{seen_by_all}
use Rattle.ot_race.proofs.siblings.Siblings.list.Given as goal

abbrev pub invariant-loop-used : goal.invariant-loop-used
invariant-loop-used l = l.listed.items ≡ seen_by_all l.self l.parent (take l.used-index l.uses)
