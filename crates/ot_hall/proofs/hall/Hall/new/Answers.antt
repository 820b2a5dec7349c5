use Rattle.std.proofs.Common.{◌≡◌, map, arith}
use Rattle.std.proofs.lemmas.Grind.{common_steps}
use Rattle.ot_hall.specs.Floors.{has_claimable}
use Rattle.ot_hall.proofs.TurnLemmas.{none-at-first}
use Rattle.ot_hall.proofs.hall.Hall.new.Goals as goal

pub invariant_of-result : goal.invariant_of-result
invariant_of-result c =
    let marks : c.in_ok-marks.marks ≡ map has_claimable c.in_ok-jobs.jobs = none-at-first c.args.tenants _ _ c.in_ok-jobs.ensures c.in_ok-marks.ensures in
    grind (arith, common_steps, marks)
