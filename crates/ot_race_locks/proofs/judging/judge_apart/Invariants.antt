use Rattle.std.proofs.Common.{[]}
use Rattle.ot_race.specs.Stands.{Stands}
use Rattle.ot_race.specs.View.{events_in}
use Rattle.ot_race_locks.specs.Kinds.{AreAllGroups, AreOrdered}
use Rattle.ot_race_locks.proofs.judging.judge_apart.Given as goal

-- what is kept is that of the events so far, which are ordered
abbrev pub invariant-loop-number : goal.invariant-loop-number
invariant-loop-number l =
    record {
      stands : Stands (events_in l.events) l.number l.standings;
      kept : AreAllGroups (events_in l.events) l.locks l.number [] l.kept.rows.items;
      ordered : AreOrdered (events_in l.events) l.locks l.number;
    }
