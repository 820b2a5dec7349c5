use Rattle.std.proofs.Common.{◌≡◌, get_or, true, sym, subst, arith}
use Rattle.std.specs.Prelude.{◌↔◌}
use Rattle.ot_race.specs.Standings.{IsUpTo}
use Rattle.ot_race.specs.View.{event_of, events_in}
use Rattle.ot_race.proofs.PlaceLemmas.{place_event, place_read}
use Rattle.ot_race.proofs.SiblingLemmas.{doer_there}
use Rattle.ot_race.proofs.StandingLemmas.{known_at, known_up}
use Rattle.ot_race.proofs.order.Standings.up_to.Goals as goal

pub index-requires : goal.index-requires
index-requires c =
    let events = c.args.events.now in
    let n = c.args.number in
    let r = c.index-events-number.result in
    let at = place_event event_of events n r c.requires.there in
    let tasks = c.args.self.now.tasks in
    let there = doer_there (events_in events) n (event_of (get_or events n r)) tasks.items at c.requires.stands.kept in omega (arith, there, tasks.ok.0)

pub returns : goal.returns
returns c = λ i.
    let events = c.args.events.now in
    let es = events_in events in
    let n = c.args.number in
    let it = get_or events n c.index-events-number.result in
    let at = place_event event_of events n c.index-events-number.result c.requires.there in
    let tasks = c.args.self.now.tasks.items in
    let there = doer_there es n (event_of it) tasks at c.requires.stands.kept in
    let is = known_at tasks it.task i c.index.result.now (place_read tasks it.task c.index.result.now there c.index.ensures) in
    subst (λ b. (b ≡ true) ↔ IsUpTo es i n) (sym is) (known_up es n i (event_of it) tasks at c.requires.stands.kept)
