use Rattle.std.proofs.Common.{◌≡◌, ◌+◌, drop, ap, arith}
use Rattle.ot_model.specs.View.{stmt_of, stmts_of}
use Rattle.ot_check.proofs.Cited.{rest_is}
use Rattle.ot_race_ways.specs.Naming.{named_in, named_in_one}
use Rattle.ot_race_ways.proofs.naming.+naming.Goals as goal

pub named_in-loop-stmt-preserved : goal.named_in-loop-stmt-preserved
named_in-loop-stmt-preserved t c =
    let b = c.args.body.now.items in
    let i = c.loop-stmt.stmt-index in
    let rest = rest_is c.deref-stmt-items.result.now b i c.stmt-item.result c.deref-stmt-items.ensures.value c.loop-stmt-test.true c.stmt-item.is in
    let x = stmt_of c.stmt-item.result in
    let more = stmts_of (drop (i + 1) b) in
    let split : named_in (stmts_of (drop i b)) ≡ named_in_one x + named_in more = ap named_in rest in
    (omega (arith, c.both-named.ensures), omega (arith, split, c.both-named.ensures, c.named_in_one.ensures, c.loop-stmt.invariant.1))
