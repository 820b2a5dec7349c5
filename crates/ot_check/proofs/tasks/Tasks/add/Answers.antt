use Rattle.std.proofs.Common.{refl, subst, ◌∙◌}
use Rattle.ot_check.proofs.StandingLemmas.{use_there, taken}
use Rattle.ot_check.proofs.TaskLemmas.{AreEntered, none-entered, one-entered, entered-at}
use Rattle.ot_check.proofs.tasks.Tasks.add.Goals as goal

pub loop-used-init : goal.loop-used-init
loop-used-init c = (refl, refl, none-entered c.args.self.now.users c.args.self.now.passed)

pub enter-requires : goal.enter-requires
enter-requires c =
    use_there c.loop-used.self.users c.args.self.now.users c.args.decl.now c.uses-used-items.result.now c.loop-used.used-index _
    c.requires.declared c.uses-used-items.ensures.uses c.loop-used.invariant.0 c.loop-used-test.true

pub loop-used-preserved : goal.loop-used-preserved
loop-used-preserved c = (
  c.in_ok-enter.ensures.widths ∙ c.loop-used.invariant.0,
  c.loop-used.invariant.1,
  one-entered c.args.self.now.users c.loop-used.self.users c.enter.new.self c.args.self.now.passed c.uses-used-items.result.now c.loop-used.used-index _ _
      c.loop-used-test.true c.loop-used.invariant.2 refl
      (entered-at c.loop-used.self.users c.enter.new.self _ _
      c.in_ok-enter.ensures.there c.in_ok-enter.ensures.others),
)

pub returns-clause-told : goal.returns-clause-told
returns-clause-told c =
    subst (AreEntered c.args.self.now.users c.loop-used.self.users c.args.self.now.passed)
    (taken c.uses-used-items.result.now c.args.decl.now c.loop-used.used-index c.uses-used-items.ensures.uses c.loop-used-test.false)
    c.loop-used.invariant.2
