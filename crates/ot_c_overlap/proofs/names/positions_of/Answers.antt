use Rattle.std.proofs.Common.{rules, arith, ◌≡◌, ◌<◌, ◌-◌, ◌+◌, length}
use Rattle.ot_c_overlap.proofs.NameLemmas.{placed_before}
use Rattle.ot_c_overlap.proofs.names.positions_of.Goals as goal

pub loop-position-preserved : goal.loop-position-preserved
loop-position-preserved c =
    let p = c.loop-position.position in
    let low : p - 1 < length c.args.arrays.now = omega (arith, c.loop-position.invariant.0, c.loop-position-test.true) in
    let one : p ≡ (p - 1) + 1 = omega (arith, c.loop-position-test.true) in (
      omega (arith, c.loop-position.invariant.0),
      placed_before c.args.arrays.now p (p - 1) c.index-arrays-position.result _ _ c.loop-position.positions c.insert.new.self low one
          c.loop-position.invariant.1 c.in_ok-insert.ensures.updates (search rules) (search rules),
    )
