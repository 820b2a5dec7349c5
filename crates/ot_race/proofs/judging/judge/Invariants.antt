use Rattle.std.proofs.Common.{ℕ, [], ◌≤◌}
use Rattle.ot_model.specs.declared.expr.Cell.{Cell}
use Rattle.ot_race.specs.Histories.{AreHistories}
use Rattle.ot_race.specs.Races.{IsRace}
use Rattle.ot_race.specs.Stands.{Stands}
use Rattle.ot_race.specs.View.{events_in}
use Rattle.ot_race.proofs.judging.judge.Given as goal

-- what is kept is that of the events so far, of which none races with one before it
abbrev pub invariant-loop-number : goal.invariant-loop-number
invariant-loop-number l =
    record {
      stands : Stands (events_in l.events) l.number l.standings;
      histories : AreHistories (events_in l.events) l.number [] l.histories.rows.items;
      none : (c : Cell) (i j : ℕ) → IsRace (events_in l.events) c i j → l.number ≤ j;
    }
