use Rattle.std.proofs.Common.{ap, ◌∙◌, arith}
use Rattle.std.specs.Prelude.{slice_get}
use Rattle.ot_race.specs.Siblings.{seen_of_lane}
use Rattle.ot_race.proofs.LaneLemmas.{lane_pushed}
use Rattle.ot_race.proofs.lanes.Shelf.reach.Goals as goal

pub loop-preserved : goal.loop-preserved
loop-preserved c = (
  omega (arith, c.loop.invariant.0, c.in_ok-push.ensures.len, c.push.new.self.ok.0, c.loop.self.lanes.ok.0),
  λ i p m.
      ap (λ xs. seen_of_lane (slice_get xs i) p m) c.in_ok-push.ensures.items
      ∙ lane_pushed c.loop.self.lanes.items c.new.result i p m (c.new.ensures p m) ∙ c.loop.invariant.1 i p m,
)
