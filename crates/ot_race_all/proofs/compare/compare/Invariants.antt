use Rattle.std.proofs.Common.{◌≡◌, ◌+◌, take}
use Rattle.std.specs.List.{sum_by}
use Rattle.std.specs.Prelude.{All}
use Rattle.ot_race.specs.View.{events_in}
use Rattle.ot_race_all.specs.AllRaces.{touches_before}
use Rattle.ot_race_all.specs.Found.{IsFound, UseTold}
use Rattle.ot_race_all.proofs.compare.compare.Given as goal

-- the uses so far are told
abbrev pub invariant-loop-used : goal.invariant-loop-used
invariant-loop-used l =
    record {
      found : IsFound (events_in l.events) l.number l.found;
      left : l.initial.left ≡ l.left + sum_by (λ u. touches_before (events_in l.events) l.number u.cell) (take l.used-index l.uses);
      told : All (UseTold (events_in l.events) l.number l.found) (take l.used-index l.uses);
    }
