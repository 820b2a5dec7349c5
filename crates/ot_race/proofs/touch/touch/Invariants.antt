use Rattle.std.proofs.Common.{take}
use Rattle.std.specs.Prelude.{All}
use Rattle.ot_race.specs.Histories.{AreHistories, AllBehind}
use Rattle.ot_race.specs.View.{events_in}
use Rattle.ot_race.proofs.touch.touch.Given as goal

-- the uses so far are kept, and each is behind all that it conflicts with
abbrev pub invariant-loop-used : goal.invariant-loop-used
invariant-loop-used l =
    record {
      histories : AreHistories (events_in l.events) l.number (take l.used-index l.uses) l.histories.rows.items;
      behind : All (AllBehind (events_in l.events) l.number l.known) (take l.used-index l.uses);
    }
