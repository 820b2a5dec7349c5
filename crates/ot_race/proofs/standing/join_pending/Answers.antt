use Rattle.std.proofs.Common.{◌≡◌, ◌∙◌, true, sym, subst}
use Rattle.std.specs.Prelude.{◌⊎◌, ◌↔◌}
use Rattle.std.proofs.lemmas.Result.{on_ok_weaker}
use Rattle.ot_sets.specs.Sets.{has}
use Rattle.ot_race.specs.Standings.{IsOfListed}
use Rattle.ot_race.proofs.PlaceLemmas.{place_found}
use Rattle.ot_race.proofs.StandingLemmas.{pending_at}
use Rattle.ot_race.proofs.standing.join_pending.Goals as goal

pub returns-in-Some-clause-joined : goal.returns-in-Some-clause-joined
returns-in-Some-clause-joined c =
    let tasks = c.args.tasks.now in
    let p = c.args.parent in
    let st = c.in-Some.standing.now in
    let is = pending_at tasks p st (place_found tasks p st c.in-Some.ensures.lookup.0 c.in-Some.ensures.lookup.1) in
    on_ok_weaker c.join_listed.result
    (λ joined i.
    subst (λ list. (has c.join_listed.new.known i ≡ true) ↔ ((has c.args.known.now i ≡ true) ⊎ IsOfListed tasks list 0 i)) (c.deref.ensures.value ∙ sym is) (joined i))
    c.join_listed.ensures.joined
