use Rattle.ot_check.specs.Offences.{exceeds}
use Rattle.ot_check.proofs.StandingLemmas.{any-at, any-none, any-step}
use Rattle.ot_check.proofs.standing.Region.exceeds.Goals as goal

pub returns-then-use_exceeds : goal.returns-then-use_exceeds
returns-then-use_exceeds c =
    any-at (exceeds c.args.self.now.own) c.uses-used-items.result.now c.args.decl.now c.loop-used.used-index _ c.use_exceeds.result
    c.uses-used-items.ensures.uses c.loop-used-test.true c.use_exceeds.ensures c.if-use_exceeds.true

pub loop-used-preserved : goal.loop-used-preserved
loop-used-preserved c =
    any-step (exceeds c.args.self.now.own) c.uses-used-items.result.now c.loop-used.used-index _ c.use_exceeds.result c.loop-used-test.true
    c.loop-used.invariant c.use_exceeds.ensures c.if-use_exceeds.false

pub returns : goal.returns
returns c =
    any-none (exceeds c.args.self.now.own) c.uses-used-items.result.now c.args.decl.now c.loop-used.used-index
    c.uses-used-items.ensures.uses c.loop-used-test.false c.loop-used.invariant
