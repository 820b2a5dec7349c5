use Rattle.std.proofs.Common.{rules, ◌≡◌, arith, length}
use Rattle.ot_book.proofs.KeptLemmas.{same-more}
use Rattle.ot_book.proofs.kept.same_arrays.Goals as goal

pub loop-i-preserved : goal.loop-i-preserved
loop-i-preserved c =
    let len : length c.args.one.now ≡ length c.args.other.now = grind (arith, c.if-one-other.false) in
    same-more c.args.one.now c.args.other.now c.loop-i.i c.index-one-i.result c.index-other-i.result c.loop-i-test.true (omega (arith, len, c.loop-i-test.true))
    c.index-one-i.is c.index-other-i.is (c.same_array.ensures.name (search rules)) (c.same_array.ensures.len (search rules)) c.loop-i.invariant
