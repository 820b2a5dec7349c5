use Rattle.std.proofs.Common.{rules, arith, ◌≡◌, ◌<◌, ◌-◌, ◌+◌, suc, length}
use Rattle.ot_program.proofs.KnownArrays.{known_before}
use Rattle.ot_program.proofs.shape.by_name.Goals as goal

pub loop-position-preserved : goal.loop-position-preserved
loop-position-preserved c =
    let p = c.loop-position.position in
    let low : p - 1 < length c.args.arrays.now = omega (arith, c.loop-position.invariant.0, c.loop-position-test.true) in
    let next : p ≡ suc (p - 1) = omega (arith, c.loop-position-test.true) in
    let one : p ≡ (p - 1) + 1 = omega (arith, c.loop-position-test.true) in (
      omega (arith, c.loop-position.invariant.0),
      known_before c.args.arrays.now p (p - 1) c.index-arrays-position.result _ _ c.loop-position.known c.insert.new.self low next one
          c.loop-position.invariant.1 c.in_ok-insert.ensures.updates (search rules) (search rules),
    )
