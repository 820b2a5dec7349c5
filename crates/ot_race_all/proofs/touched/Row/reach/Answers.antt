use Rattle.std.proofs.Common.{map, [], get_or, ap, ◌∙◌, arith}
use Rattle.ot_race_all.specs.Found.{touches_of}
use Rattle.ot_race.proofs.PlaceLemmas.{pushed}
use Rattle.ot_race_all.proofs.touched.Row.reach.Goals as goal

pub loop-preserved : goal.loop-preserved
loop-preserved c = (
  omega (arith, c.loop.invariant.0, c.in_ok-push.ensures.len, c.push.new.self.ok.0, c.loop.self.cells.ok.0),
  λ i.
      ap (λ xs. get_or (map touches_of xs) i []) c.in_ok-push.ensures.items
      ∙ pushed touches_of c.loop.self.cells.items (record { touches = c.new.result }) [] i c.new.ensures.items ∙ c.loop.invariant.1 i,
)
