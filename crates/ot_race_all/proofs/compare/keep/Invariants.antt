use Rattle.std.proofs.Common.{◌≡◌, ◌+◌, length, take}
use Rattle.std.specs.List.{count_by}
use Rattle.ot_model.specs.Cells.{same_cell}
use Rattle.ot_model.specs.declared.expr.Cell.{Cell}
use Rattle.ot_race.specs.View.{events_in}
use Rattle.ot_race_all.specs.AllRaces.{touches_before}
use Rattle.ot_race_all.specs.Found.{AreTouches, touches_at}
use Rattle.ot_race_all.proofs.compare.keep.Given as goal

-- the uses so far are kept
abbrev pub invariant-loop-used : goal.invariant-loop-used
invariant-loop-used l =
    record {
      touches : AreTouches (events_in l.events) l.number (take l.used-index l.uses) l.touched.rows.items;
      counts : (c : Cell) → length (touches_at l.touched.rows.items c)
          ≡ touches_before (events_in l.events) l.number c + count_by (λ u. same_cell c u.cell) (take l.used-index l.uses);
    }
