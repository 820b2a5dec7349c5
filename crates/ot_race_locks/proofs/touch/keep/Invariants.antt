use Rattle.std.proofs.Common.{take}
use Rattle.ot_race.specs.View.{events_in}
use Rattle.ot_race_locks.specs.Kinds.{AreAllGroups}
use Rattle.ot_race_locks.proofs.touch.keep.Given as goal

-- the uses so far are kept
abbrev pub invariant-loop-used : goal.invariant-loop-used
invariant-loop-used l = AreAllGroups (events_in l.events) l.locks l.number (take l.used-index l.uses) l.kept.rows.items
