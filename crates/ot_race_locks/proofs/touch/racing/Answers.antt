use Rattle.std.proofs.Common.{◌≡◌, ◌∙◌, List, take, get_or, subst}
use Rattle.std.specs.Prelude.{All, Contains}
use Rattle.std.proofs.lemmas.List.{take_all}
use Rattle.std.proofs.lemmas.List.Elements.{All-more, Contains-get_or}
use Rattle.ot_model.specs.declared.stmt.Mode.TheVariants.{Reads}
use Rattle.ot_model.specs.declared.stmt.Use.{Use}
use Rattle.ot_race.specs.Races.{IsUsed}
use Rattle.ot_race.specs.View.{event_of, events_in}
use Rattle.ot_race.proofs.PlaceLemmas.{place_map, place_read}
use Rattle.ot_race_locks.specs.Kinds.{kind, groups_at, NoneMissing, OneMissing, IsBehindAll}
use Rattle.ot_race_locks.specs.declared.group.Group.{Group}
use Rattle.ot_race_locks.proofs.OrderedLemmas.{use_behind, use_races, ordered_next}
use Rattle.ot_race_locks.proofs.touch.racing.Goals as goal

abbrev some_use : Use
some_use = record { cell = record { array = 0; index = 0 }; mode = Reads }

pub racing-requires : goal.racing-requires
racing-requires c = λ g l.
    let u = get_or c.as_slice-uses.result.now c.loop-used.used-index some_use in
    (c.requires.kept u.cell).rising g (subst (λ gs. Contains gs g) c.of-groups.ensures l)

pub returns-in-Some : goal.returns-in-Some
returns-in-Some c =
    let es = events_in c.args.events.now in
    let locks = c.args.locks.now in
    let n = c.args.number in
    let r = c.index-events-number.result in
    let uses = c.as_slice-uses.result.now in
    let u = get_or uses c.loop-used.used-index some_use in
    let known = c.args.known.now in
    let e = c.in-Some.earlier in
    let groups = groups_at c.args.kept.now.rows.items u.cell in
    let used : IsUsed es u.cell u.mode n = record {
      it = event_of r;
      there = place_map event_of c.args.events.now n r (place_read c.args.events.now n r c.requires.there c.index-events-number.is);
      uses = subst (λ us. Contains us u) c.as_slice-uses.ensures.value (Contains-get_or uses c.loop-used.used-index some_use c.loop-used-test.true);
    } in
    use_races es locks n e u known groups c.requires.known (c.requires.kept u.cell)
    (subst (λ set. OneMissing locks groups (kind set u.mode) known e) c.set_at-set.ensures
    (subst (λ (gs : List Group). OneMissing locks gs (kind c.set_at-set.result u.mode) known e) c.of-groups.ensures c.in-Some.ensures))
    used

pub loop-used-preserved : goal.loop-used-preserved
loop-used-preserved c =
    let es = events_in c.args.events.now in
    let locks = c.args.locks.now in
    let n = c.args.number in
    let uses = c.as_slice-uses.result.now in
    let u = get_or uses c.loop-used.used-index some_use in
    let known = c.args.known.now in
    let groups = groups_at c.args.kept.now.rows.items u.cell in
    All-more (IsBehindAll es locks n) uses c.loop-used.used-index some_use c.loop-used-test.true c.loop-used.invariant
    (use_behind es locks n u known groups c.requires.known (c.requires.kept u.cell) c.requires.ordered
    (subst (λ set. NoneMissing locks groups (kind set u.mode) known) c.set_at-set.ensures
    (subst (λ (gs : List Group). NoneMissing locks gs (kind c.set_at-set.result u.mode) known) c.of-groups.ensures c.in_default.ensures)))

pub returns : goal.returns
returns c =
    let es = events_in c.args.events.now in
    let locks = c.args.locks.now in
    let n = c.args.number in
    let r = c.index-events-number.result in
    let uses = c.as_slice-uses.result.now in
    let all : take c.loop-used.used-index uses ≡ r.uses.items = take_all c.loop-used.used-index uses c.loop-used-test.false ∙ c.as_slice-uses.ensures.value in
    ordered_next es locks n (event_of r) (place_map event_of c.args.events.now n r (place_read c.args.events.now n r c.requires.there c.index-events-number.is))
    c.requires.ordered (subst (All (IsBehindAll es locks n)) all c.loop-used.invariant)
