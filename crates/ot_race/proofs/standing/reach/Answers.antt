use Rattle.std.proofs.Common.{◌≡◌, map, get_or, ap, ◌∙◌, arith}
use Rattle.ot_race.specs.Standings.{Kept, kept_of, nothing}
use Rattle.ot_race.specs.declared.standing.Standing.{Standing}
use Rattle.ot_race.proofs.PlaceLemmas.{pushed}
use Rattle.ot_race.proofs.standing.reach.Goals as goal

pub loop-preserved : goal.loop-preserved
loop-preserved c =
    let st : Standing = record { known = c.new.result; last = 0; pending = c.new-in-loop.result } in
    let empty : kept_of st ≡ nothing =
    ap (λ ws. let k : Kept = record { known = ws; last = 0; pending = c.new-in-loop.result.items } in k) c.new.ensures.words
    ∙ ap (λ cs. let k : Kept = record { known = nothing.known; last = 0; pending = cs } in k) c.new-in-loop.ensures.items in (
      omega (arith, c.loop.invariant.0, c.in_ok-push.ensures.len, c.push.new.self.ok.0, c.loop.tasks.ok.0),
      λ t.
          ap (λ xs. get_or (map kept_of xs) t nothing) c.in_ok-push.ensures.items ∙ pushed kept_of c.loop.tasks.items st nothing t empty ∙ c.loop.invariant.1 t,
    )
