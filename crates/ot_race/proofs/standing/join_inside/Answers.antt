use Rattle.std.proofs.Common.{◌<◌, get_or, length, arith, refl}
use Rattle.ot_race.specs.Order.{IsBy}
use Rattle.ot_race.specs.View.{event_of, events_in}
use Rattle.ot_race.proofs.PlaceLemmas.{place_event}
use Rattle.ot_race.proofs.StandingLemmas.{inside_step}
use Rattle.ot_race.proofs.standing.join_inside.Goals as goal

pub loop-inside-preserved : goal.loop-inside-preserved
loop-inside-preserved c =
    let events = c.args.events.now in
    let at = c.loop-inside.inside in
    let event = get_or events at c.index-events-inside.result in
    let there : at < length events = omega (arith, c.loop-inside-test.true, c.requires.there) in
    let by : IsBy (events_in events) event.task at = record {
      it = event_of event;
      there = place_event event_of events at c.index-events-inside.result there;
      done_by = refl;
    } in
    record {
      within = omega (arith, c.loop-inside-test.true);
      whole = c.in_ok-join_task.ensures.whole;
      joined = λ i.
          inside_step (events_in events) c.args.tasks.now c.args.from at i event.task c.loop-inside.auto.inside by (c.loop-inside.invariant.joined i)
          (c.in_ok-join_task.ensures.joined i);
    }
