use Rattle.ot_check.specs.Offences.{misfits}
use Rattle.ot_check.specs.walk.States.{is_open}
use Rattle.ot_check.proofs.StandingLemmas.{any-at, any-none, any-step}
use Rattle.ot_check.proofs.standing.Region.misfits.Goals as goal

pub returns-then-use_misfits : goal.returns-then-use_misfits
returns-then-use_misfits c =
    any-at (misfits c.args.self.now.own (is_open c.args.self.now.opened)) c.uses-used-items.result.now c.args.decl.now c.loop-used.used-index _ c.use_misfits.result
    c.uses-used-items.ensures.uses c.loop-used-test.true c.use_misfits.ensures c.if-use_misfits.true

pub loop-used-preserved : goal.loop-used-preserved
loop-used-preserved c =
    any-step (misfits c.args.self.now.own (is_open c.args.self.now.opened)) c.uses-used-items.result.now c.loop-used.used-index _ c.use_misfits.result c.loop-used-test.true
    c.loop-used.invariant c.use_misfits.ensures c.if-use_misfits.false

pub returns : goal.returns
returns c =
    any-none (misfits c.args.self.now.own (is_open c.args.self.now.opened)) c.uses-used-items.result.now c.args.decl.now c.loop-used.used-index
    c.uses-used-items.ensures.uses c.loop-used-test.false c.loop-used.invariant
