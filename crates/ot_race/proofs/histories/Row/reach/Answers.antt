use Rattle.std.proofs.Common.{map, get_or, ap, ◌∙◌, arith}
use Rattle.ot_race.specs.Histories.{phases_of, no_phases}
use Rattle.ot_race.proofs.PlaceLemmas.{pushed}
use Rattle.ot_race.proofs.histories.Row.reach.Goals as goal

pub loop-preserved : goal.loop-preserved
loop-preserved c = (
  omega (arith, c.loop.invariant.0, c.in_ok-push.ensures.len, c.push.new.self.ok.0, c.loop.self.histories.ok.0),
  λ i.
      ap (λ xs. get_or (map phases_of xs) i no_phases) c.in_ok-push.ensures.items
      ∙ pushed phases_of c.loop.self.histories.items c.new.result no_phases i c.new.ensures ∙ c.loop.invariant.1 i,
)
