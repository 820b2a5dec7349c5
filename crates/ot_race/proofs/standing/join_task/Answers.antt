use Rattle.std.proofs.Common.{◌∙◌, ◌||◌, ap}
use Rattle.std.proofs.lemmas.Result.{on_ok_weaker}
use Rattle.ot_sets.specs.Sets.{has}
use Rattle.ot_race.proofs.PlaceLemmas.{place_found}
use Rattle.ot_race.proofs.StandingLemmas.{whole_join, known_at}
use Rattle.ot_race.proofs.standing.join_task.Goals as goal

pub returns-in-Some-clause-whole : goal.returns-in-Some-clause-whole
returns-in-Some-clause-whole c =
    let tasks = c.args.tasks.now in
    let t = c.args.task in
    let st = c.in-Some.standing.now in
    on_ok_weaker c.join.result
    (λ joined.
    whole_join tasks c.args.known.now c.join.new.self t c.requires.nested c.requires.whole
    (λ i. joined i ∙ ap (λ b. has c.args.known.now i || b) (known_at tasks t i st (place_found tasks t st c.in-Some.ensures.lookup.0 c.in-Some.ensures.lookup.1))))
    c.join.ensures.put
