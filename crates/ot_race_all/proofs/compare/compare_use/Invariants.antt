use Rattle.std.proofs.Common.{take}
use Rattle.std.specs.Prelude.{All}
use Rattle.ot_race.specs.View.{events_in}
use Rattle.ot_race_all.specs.Found.{IsFound, IsKept, TouchTold}
use Rattle.ot_race_all.proofs.compare.compare_use.Given as goal

-- the touches so far are told
abbrev pub invariant-loop-touch : goal.invariant-loop-touch
invariant-loop-touch l =
    record {
      found : IsFound (events_in l.events) l.number l.found;
      kept : IsKept l.initial.found l.found;
      told : All (λ t. TouchTold (events_in l.events) l.number l.used l.found t.mode t.number) (take l.touch-index l.touches);
    }
