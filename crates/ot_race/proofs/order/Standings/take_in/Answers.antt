use Rattle.std.proofs.Common.{◌≢◌, ◌∙◌, ℕ, List, ap, subst, refl}
use Rattle.ot_model.specs.declared.stmt.Use.{Use}
use Rattle.ot_sets.specs.Sets.{bit_in, has}
use Rattle.ot_race.specs.Events.{Begins}
use Rattle.ot_race.specs.Standings.{Kept, knows}
use Rattle.ot_race.specs.Stands.{SiblingsNote, PendingNote}
use Rattle.ot_race.specs.View.{deed_of, event_of, events_in}
use Rattle.ot_race.specs.declared.order.Standings.{Standings}
use Rattle.ot_race.proofs.NoteLemmas.{pending_moved, pending_same, siblings_same}
use Rattle.ot_race.proofs.PlaceLemmas.{place_map, place_read}
use Rattle.ot_race.proofs.SiblingLemmas.{stands_more}
use Rattle.ot_race.proofs.StandingLemmas.{not_touches, one_more, touch_known}
use Rattle.ot_race.proofs.order.Standings.take_in.Goals as goal

pub returns-in-Touches : goal.returns-in-Touches
returns-in-Touches c =
    let events = c.args.events.now in
    let es = events_in events in
    let n = c.args.number in
    let r = c.index-events-number.result in
    let at = place_map event_of events n r (place_read events n r c.requires.there c.index-events-number.is) in
    let old = c.args.self.now in
    let tasks = old.tasks.items in
    let new : Standings = record { tasks = c.add_touch.new.tasks; siblings = old.siblings; ends = old.ends } in
    let a = c.in_ok-add_touch.ensures in
    let stands = c.requires.stands in
    let free : (p : ℕ) (us : List Use) → deed_of r.deed ≢ Begins p us = λ p us. not_touches (deed_of r.deed) p us (ap deed_of c.in-Touches.is) in
    stands_more es n (event_of r) old new at stands
    (λ i.
    one_more es n i (knows tasks r.task i) (knows new.tasks.items r.task i) (a.known i)
    (touch_known es n i (event_of r) tasks at (ap deed_of c.in-Touches.is) stands.kept))
    a.last (λ t apart. ap (λ (k : Kept). k.known) (a.others t apart)) (λ t apart. ap (λ (k : Kept). k.last) (a.others t apart))
    (pending_moved es n old.ends.items tasks tasks new.tasks.items a.pending (pending_same es n (event_of r) old.ends.items tasks at free))
    (siblings_same es n (event_of r) old.ends.items old.siblings at free) refl

pub returns : goal.returns
returns c =
    let events = c.args.events.now in
    let es = events_in events in
    let n = c.args.number in
    let r = c.index-events-number.result in
    let at = place_map event_of events n r (place_read events n r c.requires.there c.index-events-number.is) in
    let old = c.args.self.now in
    let tasks = old.tasks.items in
    let mid = c.note_pending.new.tasks.items in
    let new : Standings = record { tasks = c.settle.new.tasks; siblings = c.note_siblings.new.siblings; ends = old.ends } in
    let l = c.in_ok-note_pending.ensures in
    let s = c.in_ok-settle.ensures in
    let before = c.join_before.new.known in
    stands_more es n (event_of r) old new at c.requires.stands
    (λ i.
    one_more es n i (has before i) (knows new.tasks.items r.task i) (ap (λ ws. bit_in ws i) s.known ∙ c.in_ok-insert.ensures.put i)
    (c.in_ok-join_before.ensures i))
    s.last (λ t apart. ap (λ (k : Kept). k.known) (s.others t apart) ∙ l.known t) (λ t apart. ap (λ (k : Kept). k.last) (s.others t apart) ∙ l.last t)
    (pending_moved es n old.ends.items tasks mid new.tasks.items s.pending (subst (λ x. PendingNote es n x tasks mid) c.deref-2.ensures.value l.pending))
    (subst (λ x. SiblingsNote es n x old.siblings new.siblings) c.deref-2.ensures.value c.in_ok-note_siblings.ensures) refl
