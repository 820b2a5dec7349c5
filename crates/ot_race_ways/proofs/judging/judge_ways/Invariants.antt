use Rattle.std.proofs.Common.{ℕ, ◌<◌}
use Rattle.std.specs.Prelude.{None}
use Rattle.ot_model.specs.View.{stmts_of}
use Rattle.ot_race.specs.Races.{NothingRaces}
use Rattle.ot_race_order.specs.Orders.{ordered_by}
use Rattle.ot_race_ways.specs.Numbered.{events_on}
use Rattle.ot_race_ways.proofs.judging.judge_ways.Given as goal

-- nothing races on the ways judged so far
abbrev pub invariant-loop-way : goal.invariant-loop-way
invariant-loop-way l = (n : ℕ) → n < l.way → NothingRaces (ordered_by l.order (events_on n None 0 1 (stmts_of l.program.body.items) 0))
