use Rattle.ot_race.specs.View.{events_in}
use Rattle.ot_race.specs.declared.order.Standings.{Standings}
use Rattle.ot_race.proofs.SiblingLemmas.{stands_none}
use Rattle.ot_race.proofs.order.Standings.new.Goals as goal

pub returns : goal.returns
returns c =
    let s : Standings = record { tasks = c.new.result; siblings = c.new-2.result; ends = c.in_ok-ends.ends } in
    stands_none (events_in c.args.events.now) s c.new.ensures.items c.new-2.ensures c.in_ok-ends.ensures
