use Rattle.std.proofs.Common.{refl, None}
use Rattle.ot_exec_verdict.proofs.FindingLemmas.{old_or, way_fault}
use Rattle.ot_exec_verdict.proofs.ways.first_limit.Goals as goal

pub returns-then-not-branch : goal.returns-then-not-branch
returns-then-not-branch c =
    let code = c.args.code.now in
    let l = c.args.limits in
    let run = c.in_ok-run.run' in
    let own = way_fault code l c.deref.result.now run run.fault c.in_ok-run.ensures.told refl in
    let last = old_or code l c.loop.last run.fault c.later_of-last.result c.loop.invariant own c.later_of-last.ensures in
    old_or code l c.later_of-last.result None c.unless.result last tt c.unless.ensures

pub loop-preserved : goal.loop-preserved
loop-preserved c =
    let code = c.args.code.now in
    let l = c.args.limits in
    let run = c.in_ok-run.run' in
    let own = way_fault code l c.deref.result.now run run.fault c.in_ok-run.ensures.told refl in
    old_or code l c.loop.last run.fault c.later_of-last.result c.loop.invariant own c.later_of-last.ensures
