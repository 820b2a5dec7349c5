use Rattle.std.proofs.Common.{take}
use Rattle.std.specs.Prelude.{All}
use Rattle.ot_race.specs.View.{events_in}
use Rattle.ot_race_locks.specs.Kinds.{IsBehindAll}
use Rattle.ot_race_locks.proofs.touch.racing.Given as goal

-- each use so far is behind all that is against it
abbrev pub invariant-loop-used : goal.invariant-loop-used
invariant-loop-used l = All (IsBehindAll (events_in l.events) l.locks l.number) (take l.used-index l.uses)
