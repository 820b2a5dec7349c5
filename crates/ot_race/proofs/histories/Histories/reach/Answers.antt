use Rattle.std.proofs.Common.{map, [], get_or, ap, ◌∙◌, arith}
use Rattle.ot_race.specs.Histories.{phases_of, row_of, no_phases}
use Rattle.ot_race.proofs.PlaceLemmas.{pushed}
use Rattle.ot_race.proofs.histories.Histories.reach.Goals as goal

pub loop-preserved : goal.loop-preserved
loop-preserved c = (
  omega (arith, c.loop.invariant.0, c.in_ok-push.ensures.len, c.push.new.self.ok.0, c.loop.self.rows.ok.0),
  λ cell.
      ap (λ xs. get_or (get_or (map row_of xs) cell.array []) cell.index no_phases) c.in_ok-push.ensures.items
      ∙ ap (λ row. get_or row cell.index no_phases)
      (pushed row_of c.loop.self.rows.items (record { histories = c.new.result }) [] cell.array (ap (map phases_of) c.new.ensures.items))
      ∙ c.loop.invariant.1 cell,
)
