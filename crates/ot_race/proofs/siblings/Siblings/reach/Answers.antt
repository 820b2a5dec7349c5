use Rattle.std.proofs.Common.{ap, ◌∙◌, arith}
use Rattle.std.specs.Prelude.{slice_get}
use Rattle.ot_race.specs.Siblings.{seen_of_shelf}
use Rattle.ot_race.proofs.LaneLemmas.{shelf_pushed}
use Rattle.ot_race.proofs.siblings.Siblings.reach.Goals as goal

pub loop-preserved : goal.loop-preserved
loop-preserved c = (
  omega (arith, c.loop.invariant.0, c.in_ok-push.ensures.len, c.push.new.self.ok.0, c.loop.self.shelves.ok.0),
  λ p u.
      ap (λ xs. seen_of_shelf (slice_get xs u.cell.array) u.cell.index p u.mode) c.in_ok-push.ensures.items
      ∙ shelf_pushed c.loop.self.shelves.items c.new.result u.cell.array u.cell.index p u.mode (c.new.ensures u.cell.index p u.mode) ∙ c.loop.invariant.1 p u,
)
