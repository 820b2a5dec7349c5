use Rattle.std.proofs.Common.{◌≡◌, ◌∙◌, ◌-◌, true, ap, subst, inr}
use Rattle.std.specs.Prelude.{◌⊎◌, ◌↔◌, option_map, Some, None}
use Rattle.std.proofs.lemmas.Result.{on_ok_weaker}
use Rattle.ot_race.specs.Events.{Touches, Begins, Awaits, Leaves}
use Rattle.ot_sets.specs.Sets.{has}
use Rattle.ot_race.specs.Siblings.{seen_by_all}
use Rattle.ot_race.specs.Standings.{IsInside, IsOfListed}
use Rattle.ot_race.proofs.PlaceLemmas.{place_map, place_read}
use Rattle.ot_race.specs.View.{deed_of, event_of, events_in}
use Rattle.ot_race.proofs.SiblingLemmas.{listed_children, children_listed, pending_children, children_pending}
use Rattle.ot_race.proofs.StandingLemmas.{nested, is_before, nothing_more, two_more, stands_for}
use Rattle.ot_race.proofs.order.join_before.Goals as goal

pub join_task-requires-clause-nested : goal.join_task-requires-clause-nested
join_task-requires-clause-nested c = nested (events_in c.args.events.now) c.args.number c.args.tasks.now c.requires.kept

pub join_task-requires-in-Begins-clause-nested : goal.join_task-requires-in-Begins-clause-nested
join_task-requires-in-Begins-clause-nested c = nested (events_in c.args.events.now) c.args.number c.args.tasks.now c.requires.kept

pub join_listed-requires-clause-nested : goal.join_listed-requires-clause-nested
join_listed-requires-clause-nested c = nested (events_in c.args.events.now) c.args.number c.args.tasks.now c.requires.kept

pub join_pending-requires-clause-nested : goal.join_pending-requires-clause-nested
join_pending-requires-clause-nested c = nested (events_in c.args.events.now) c.args.number c.args.tasks.now c.requires.kept

pub join_listed-requires-in-Some-clause-nested : goal.join_listed-requires-in-Some-clause-nested
join_listed-requires-in-Some-clause-nested c = nested (events_in c.args.events.now) c.args.number c.args.tasks.now c.requires.kept

pub join_inside-requires-clause-nested : goal.join_inside-requires-clause-nested
join_inside-requires-clause-nested c = nested (events_in c.args.events.now) c.args.number c.args.tasks.now c.requires.kept

pub returns-in-Touches : goal.returns-in-Touches
returns-in-Touches c = λ i.
    let events = c.args.events.now in
    let es = events_in events in
    let n = c.args.number in
    let r = c.index-events-number.result in
    let tasks = c.args.tasks.now in
    let there = place_map event_of events n r (place_read events n r c.requires.there c.index-events-number.is) in
    is_before es n i (event_of r) Touches tasks (has c.args.known.now i) there (ap deed_of c.in-Touches.is) c.requires.kept (c.requires.empty i)
    (c.in_ok-join_task.ensures.joined i) nothing_more

pub returns-in_ok-listed-in-Begins : goal.returns-in_ok-listed-in-Begins
returns-in_ok-listed-in-Begins c =
    let events = c.args.events.now in
    let es = events_in events in
    let n = c.args.number in
    let r = c.index-events-number.result in
    let tasks = c.args.tasks.now in
    let there = place_map event_of events n r (place_read events n r c.requires.there c.index-events-number.is) in
    let p = c.in-Begins.parent in
    let d = c.in-Begins.decl.now in
    let s = c.args.siblings.now in
    let is : c.deref.result.now ≡ seen_by_all s p d = c.deref.ensures.value ∙ c.in_ok-listed-in-Begins.ensures ∙ ap (seen_by_all s p) c.uses.ensures.uses in
    on_ok_weaker c.join_listed.result
    (λ joined i.
    is_before es n i (event_of r) (Begins p d) tasks (has c.args.known.now i) there (ap deed_of c.in-Begins.is) c.requires.kept (c.requires.empty i)
    (c.in_ok-join_task.ensures.joined i)
    (two_more (c.in_ok-join_task-in-Begins.ensures.joined i)
    (stands_for
    (subst (λ list. (has c.join_listed.new.known i ≡ true) ↔ ((has c.join_task-in-Begins.new.known i ≡ true) ⊎ IsOfListed tasks list 0 i)) is (joined i))
    (λ k. (c.in_ok-join_task-in-Begins.ensures.joined i).1 (inr k))
    (listed_children es n p i d tasks s c.requires.siblings) (children_listed es n p i d tasks s c.requires.siblings))))
    c.join_listed.ensures.joined

pub returns-in-None : goal.returns-in-None
returns-in-None c =
    let events = c.args.events.now in
    let es = events_in events in
    let n = c.args.number in
    let r = c.index-events-number.result in
    let tasks = c.args.tasks.now in
    let there = place_map event_of events n r (place_read events n r c.requires.there c.index-events-number.is) in
    on_ok_weaker c.join_pending.result
    (λ joined i.
    is_before es n i (event_of r) (Awaits None) tasks (has c.args.known.now i) there (ap deed_of c.in-Awaits.is ∙ ap (λ w. Awaits (option_map (λ d. d.now) w)) c.in-None.is) c.requires.kept (c.requires.empty i)
    (c.in_ok-join_task.ensures.joined i)
    (stands_for (joined i) (λ k. (c.in_ok-join_task.ensures.joined i).1 (inr k))
    (pending_children es n r.task i tasks c.requires.pending) (children_pending es n r.task i tasks c.requires.pending)))
    c.join_pending.ensures.joined

pub returns-in_ok-listed-in-Some : goal.returns-in_ok-listed-in-Some
returns-in_ok-listed-in-Some c =
    let events = c.args.events.now in
    let es = events_in events in
    let n = c.args.number in
    let r = c.index-events-number.result in
    let tasks = c.args.tasks.now in
    let there = place_map event_of events n r (place_read events n r c.requires.there c.index-events-number.is) in
    let d = c.in-Some.decl.now in
    let s = c.args.siblings.now in
    let is : c.deref-in-Some.result.now ≡ seen_by_all s r.task d =
    c.deref-in-Some.ensures.value ∙ c.in_ok-listed-in-Some.ensures ∙ ap (seen_by_all s r.task) c.uses-in-Some.ensures.uses in
    on_ok_weaker c.join_listed-in-Some.result
    (λ joined i.
    is_before es n i (event_of r) (Awaits (Some d)) tasks (has c.args.known.now i) there (ap deed_of c.in-Awaits.is ∙ ap (λ w. Awaits (option_map (λ d. d.now) w)) c.in-Some.is) c.requires.kept (c.requires.empty i)
    (c.in_ok-join_task.ensures.joined i)
    (stands_for
    (subst (λ list. (has c.join_listed-in-Some.new.known i ≡ true) ↔ ((has c.join_task.new.known i ≡ true) ⊎ IsOfListed tasks list 0 i)) is (joined i))
    (λ k. (c.in_ok-join_task.ensures.joined i).1 (inr k))
    (listed_children es n r.task i d tasks s c.requires.siblings) (children_listed es n r.task i d tasks s c.requires.siblings)))
    c.join_listed-in-Some.ensures.joined

pub returns-in-Leaves : goal.returns-in-Leaves
returns-in-Leaves c =
    let events = c.args.events.now in
    let es = events_in events in
    let n = c.args.number in
    let r = c.index-events-number.result in
    let tasks = c.args.tasks.now in
    let there = place_map event_of events n r (place_read events n r c.requires.there c.index-events-number.is) in
    let from : c.saturating_sub.result ≡ n - c.in-Leaves.count = c.saturating_sub.ensures in
    on_ok_weaker c.join_inside.result
    (λ joined i.
    is_before es n i (event_of r) (Leaves c.in-Leaves.count) tasks (has c.args.known.now i) there (ap deed_of c.in-Leaves.is) c.requires.kept (c.requires.empty i)
    (c.in_ok-join_task.ensures.joined i)
    (subst (λ f. (has c.join_inside.new.known i ≡ true) ↔ ((has c.join_task.new.known i ≡ true) ⊎ IsInside es tasks f n i)) from (joined i)))
    c.join_inside.ensures.joined
