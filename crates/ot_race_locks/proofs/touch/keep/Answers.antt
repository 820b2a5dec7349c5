use Rattle.std.proofs.Common.{◌≡◌, ◌∙◌, take, get_or, sym, subst}
use Rattle.std.specs.Prelude.{Contains}
use Rattle.std.proofs.lemmas.List.{take_all, take_more}
use Rattle.std.proofs.lemmas.List.Elements.{Contains-get_or}
use Rattle.ot_check.specs.Offences.{use_as}
use Rattle.ot_model.specs.declared.stmt.Mode.{Mode}
use Rattle.ot_model.specs.declared.stmt.Mode.TheVariants.{Reads}
use Rattle.ot_model.specs.declared.stmt.Use.{Use}
use Rattle.ot_race.specs.Races.{IsUsed}
use Rattle.ot_race.specs.View.{event_of, events_in}
use Rattle.ot_race.proofs.PlaceLemmas.{place_map, place_read}
use Rattle.ot_race_locks.specs.Kinds.{kind, groups_at, AreAllGroups, AreGrown, AreFull, KindFits}
use Rattle.ot_race_locks.proofs.GroupLemmas.{all_groups_more, all_groups_next, too_many}
use Rattle.ot_race_locks.proofs.ListLemmas.{among_first}
use Rattle.ot_race_locks.proofs.touch.keep.Goals as goal

abbrev some_use : Use
some_use = record { cell = record { array = 0; index = 0 }; mode = Reads }

pub returns-then-not-branch : goal.returns-then-not-branch
returns-then-not-branch c =
    let es = events_in c.args.events.now in
    let locks = c.args.locks.now in
    let n = c.args.number in
    let r = c.index-events-number.result in
    let uses = c.as_slice-uses.result.now in
    let k = c.loop-used.used-index in
    let u = get_or uses k some_use in
    let old = groups_at c.loop-used.kept.rows.items u.cell in
    let at = place_map event_of c.args.events.now n r (place_read c.args.events.now n r c.requires.there c.index-events-number.is) in
    let used : (mode : Mode) → Contains uses (use_as mode u.cell) → IsUsed es u.cell mode n = λ mode l.
    record { it = event_of r; there = at; uses = subst (λ us. Contains us (use_as mode u.cell)) c.as_slice-uses.ensures.value l } in
    too_many es locks n (take k uses) u old (c.loop-used.invariant u.cell) (λ mode l. used mode (among_first k uses (use_as mode u.cell) l))
    (used u.mode (Contains-get_or uses k some_use c.loop-used-test.true))
    (subst (λ set. AreFull (kind set u.mode) old) c.set_at-set.ensures
    (subst (KindFits (kind c.set_at-set.result u.mode) n c.args.known.now old (groups_at c.add.new.self.rows.items u.cell)) c.if-not-branch.true c.in_ok-add.ensures.there))

pub loop-used-preserved : goal.loop-used-preserved
loop-used-preserved c =
    let es = events_in c.args.events.now in
    let locks = c.args.locks.now in
    let n = c.args.number in
    let uses = c.as_slice-uses.result.now in
    let k = c.loop-used.used-index in
    let u = get_or uses k some_use in
    let known = c.args.known.now in
    let rows = c.loop-used.kept.rows.items in
    let new = c.add.new.self.rows.items in
    let added = c.in_ok-add.ensures in
    subst (λ us. AreAllGroups es locks n us new) (sym (take_more uses k some_use c.loop-used-test.true))
    (all_groups_more es locks n (take k uses) u known rows new c.requires.known c.loop-used.invariant
    (subst (λ set. AreGrown (kind set u.mode) n known (groups_at rows u.cell) (groups_at new u.cell)) c.set_at-set.ensures
    (subst (KindFits (kind c.set_at-set.result u.mode) n known (groups_at rows u.cell) (groups_at new u.cell)) c.if-not-branch.false added.there))
    added.others)

pub returns : goal.returns
returns c =
    let es = events_in c.args.events.now in
    let locks = c.args.locks.now in
    let n = c.args.number in
    let r = c.index-events-number.result in
    let uses = c.as_slice-uses.result.now in
    let rows = c.loop-used.kept.rows.items in
    let all : take c.loop-used.used-index uses ≡ r.uses.items = take_all c.loop-used.used-index uses c.loop-used-test.false ∙ c.as_slice-uses.ensures.value in
    all_groups_next es locks n (event_of r) rows
    (place_map event_of c.args.events.now n r (place_read c.args.events.now n r c.requires.there c.index-events-number.is))
    (subst (λ us. AreAllGroups es locks n us rows) all c.loop-used.invariant)
