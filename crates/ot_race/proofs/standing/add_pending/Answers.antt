use Rattle.std.proofs.Common.{◌≡◌, ◌∙◌, ℕ, List, [], ◌∷◌, ◌++◌, ap, sym, refl}
use Rattle.ot_race.specs.Standings.{Kept, kept_of, kept_at, nothing}
use Rattle.ot_race.specs.declared.standing.Standing.{Standing}
use Rattle.ot_race.proofs.PlaceLemmas.{set_here, set_other, read_at, place_read}
use Rattle.ot_race.proofs.StandingLemmas.{kept_same}
use Rattle.ot_race.proofs.standing.add_pending.Goals as goal

pub returns-clause-known : goal.returns-clause-known
returns-clause-known c = λ t.
    let st = c.index_mut.result.now in
    let new : Standing = record { known = st.known; last = st.last; pending = c.push.new.self } in
    kept_same (λ (k : Kept). k.known) c.reach.new.tasks.items c.args.parent st new c.in_ok-reach.ensures.there c.index_mut.ensures.value refl t
    ∙ ap (λ (k : Kept). k.known) (c.in_ok-reach.ensures.same t)

pub returns-clause-last : goal.returns-clause-last
returns-clause-last c = λ t.
    let st = c.index_mut.result.now in
    let new : Standing = record { known = st.known; last = st.last; pending = c.push.new.self } in
    kept_same (λ (k : Kept). k.last) c.reach.new.tasks.items c.args.parent st new c.in_ok-reach.ensures.there c.index_mut.ensures.value refl t
    ∙ ap (λ (k : Kept). k.last) (c.in_ok-reach.ensures.same t)

pub returns-clause-there : goal.returns-clause-there
returns-clause-there c =
    let reached = c.reach.new.tasks.items in
    let p = c.args.parent in
    let there = c.in_ok-reach.ensures.there in
    let st = c.index_mut.result.now in
    let new : Standing = record { known = st.known; last = st.last; pending = c.push.new.self } in
    let old : st.pending.items ≡ (kept_at c.args.tasks.now.items p).pending =
    ap (λ (k : Kept). k.pending) (sym (read_at kept_of reached p st nothing (place_read reached p st there c.index_mut.ensures.value)) ∙ c.in_ok-reach.ensures.same p) in
    ap (λ (k : Kept). k.pending) (set_here kept_of reached p new nothing there)
    ∙ c.in_ok-push.ensures.items ∙ ap (λ (cs : List ℕ). cs ++ c.args.child ∷ []) old

pub returns-clause-others : goal.returns-clause-others
returns-clause-others c = λ t apart.
    let st = c.index_mut.result.now in
    let new : Standing = record { known = st.known; last = st.last; pending = c.push.new.self } in
    ap (λ (k : Kept). k.pending) (set_other kept_of c.reach.new.tasks.items c.args.parent t new nothing apart ∙ c.in_ok-reach.ensures.same t)
