use Rattle.std.proofs.Common.{map, [], get_or, ap, ◌∙◌, arith}
use Rattle.ot_race_locks.specs.Kinds.{groups_of}
use Rattle.ot_race.proofs.PlaceLemmas.{pushed}
use Rattle.ot_race_locks.proofs.kept.Row.reach.Goals as goal

pub loop-preserved : goal.loop-preserved
loop-preserved c = (
  omega (arith, c.loop.invariant.0, c.in_ok-push.ensures.len, c.push.new.self.ok.0, c.loop.self.lines.ok.0),
  λ i.
      ap (λ xs. get_or (map groups_of xs) i []) c.in_ok-push.ensures.items
      ∙ pushed groups_of c.loop.self.lines.items c.new.result [] i c.new.ensures ∙ c.loop.invariant.1 i,
)
