use Rattle.std.proofs.Common.{◌≡◌, ◌∙◌, ◌||◌, ◌==◌, ap, refl}
use Rattle.ot_sets.specs.Sets.{bit_in, has}
use Rattle.ot_race.specs.Standings.{Kept, kept_of, knows, nothing}
use Rattle.ot_race.specs.declared.standing.Standing.{Standing}
use Rattle.ot_race.proofs.PlaceLemmas.{place_read, set_here, set_other}
use Rattle.ot_race.proofs.StandingLemmas.{kept_same, known_at}
use Rattle.ot_race.proofs.standing.add_touch.Goals as goal

pub returns-clause-known : goal.returns-clause-known
returns-clause-known c = λ i.
    let reached = c.reach.new.tasks.items in
    let there = c.in_ok-reach.ensures.there in
    let st = c.index_mut-standing.result.now in
    let new : Standing = record { known = c.insert.new.self; last = c.args.number; pending = st.pending } in
    let old : has st.known i ≡ knows c.args.tasks.now.items c.args.task i =
    known_at reached c.args.task i st (place_read reached c.args.task st there c.index_mut-standing.ensures.value)
    ∙ ap (λ (k : Kept). bit_in k.known i) (c.in_ok-reach.ensures.same c.args.task) in
    ap (λ (k : Kept). bit_in k.known i) (set_here kept_of reached c.args.task new nothing there)
    ∙ c.in_ok-insert.ensures.put i ∙ ap (λ b. b || (i == c.args.number)) old

pub returns-clause-last : goal.returns-clause-last
returns-clause-last c =
    let new : Standing = record { known = c.insert.new.self; last = c.args.number; pending = c.index_mut-standing.result.now.pending } in
    ap (λ (k : Kept). k.last) (set_here kept_of c.reach.new.tasks.items c.args.task new nothing c.in_ok-reach.ensures.there)

pub returns-clause-pending : goal.returns-clause-pending
returns-clause-pending c = λ t.
    let st = c.index_mut-standing.result.now in
    let new : Standing = record { known = c.insert.new.self; last = c.args.number; pending = st.pending } in
    kept_same (λ (k : Kept). k.pending) c.reach.new.tasks.items c.args.task st new c.in_ok-reach.ensures.there c.index_mut-standing.ensures.value refl t
    ∙ ap (λ (k : Kept). k.pending) (c.in_ok-reach.ensures.same t)

pub returns-clause-others : goal.returns-clause-others
returns-clause-others c = λ t apart.
    let new : Standing = record { known = c.insert.new.self; last = c.args.number; pending = c.index_mut-standing.result.now.pending } in
    set_other kept_of c.reach.new.tasks.items c.args.task t new nothing apart ∙ c.in_ok-reach.ensures.same t
