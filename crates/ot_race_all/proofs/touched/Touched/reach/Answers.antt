use Rattle.std.proofs.Common.{map, [], get_or, ap, ◌∙◌, arith}
use Rattle.ot_race_all.specs.Found.{touches_of, row_of_touches}
use Rattle.ot_race.proofs.PlaceLemmas.{pushed}
use Rattle.ot_race_all.proofs.touched.Touched.reach.Goals as goal

pub loop-preserved : goal.loop-preserved
loop-preserved c = (
  omega (arith, c.loop.invariant.0, c.in_ok-push.ensures.len, c.push.new.self.ok.0, c.loop.self.rows.ok.0),
  λ cell.
      ap (λ xs. get_or (get_or (map row_of_touches xs) cell.array []) cell.index []) c.in_ok-push.ensures.items
      ∙ ap (λ row. get_or row cell.index [])
      (pushed row_of_touches c.loop.self.rows.items (record { cells = c.new.result }) [] cell.array (ap (map touches_of) c.new.ensures.items))
      ∙ c.loop.invariant.1 cell,
)
