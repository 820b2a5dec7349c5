use Rattle.std.proofs.Common.{ap, subst}
use Rattle.std.specs.Prelude.{true}
use Rattle.ot_core.specs.Accounts.{Account, answered_count, LacksRoom, MayAsk}
use Rattle.ot_core.specs.Accounts as asking
use Rattle.ot_hall.proofs.FloorLemmas.{seen}
use Rattle.ot_core.proofs.SceneLemmas.{scene-account, moves-at, has-tenant}
use Rattle.ot_job.proofs.ViewLemmas.{on_err_always}
use Rattle.ot_core.proofs.HandedLemmas.{written-again}
use Rattle.ot_core.proofs.world.World.admit.Goals as goal

pub invariant_of-self-then-branch : goal.invariant_of-self-then-branch
invariant_of-self-then-branch c =
    let does = subst (λ b. asking.AdmitsLine c.in-Some.account.now c.args.line.now b c.admit.new.self) c.if-branch.true c.in_ok-admit.ensures.admitted in
    scene-account _ c.args.tenant c.in-Some.account.now c.admit.new.self c.self.invariant (seen _ _ _ c.in-Some.ensures.item.3.0 c.in-Some.ensures.item.1) c.admit.ensures.sound (ap (λ (a : Account). a.spec) does.1) (ap answered_count does.1)

pub returns-then-branch-clause-stepped : goal.returns-then-branch-clause-stepped
returns-then-branch-clause-stepped c =
    let does = subst (λ b. asking.AdmitsLine c.in-Some.account.now c.args.line.now b c.admit.new.self) c.if-branch.true c.in_ok-admit.ensures.admitted in
    moves-at (λ a b. asking.AdmitsLine a c.args.line.now true b) _ _ c.args.tenant c.in-Some.account.now c.admit.new.self c.self.view_is (seen _ _ _ c.in-Some.ensures.item.3.0 c.in-Some.ensures.item.1) does

pub returns-clause-stepped : goal.returns-clause-stepped
returns-clause-stepped c =
    let does = subst (λ b. asking.AdmitsLine c.in-Some.account.now c.args.line.now b c.admit.new.self) c.if-branch.false c.in_ok-admit.ensures.admitted in (
      has-tenant (λ b. LacksRoom b c.args.line.now) _ _ c.args.tenant _ c.self.view_is (seen _ _ _ c.in-Some.ensures.item.3.0 c.in-Some.ensures.item.1) does.0,
      written-again _ _ c.args.tenant _ c.admit.new.self c.self.view_is c.in-Some.ensures.item.1 does.1,
    )

pub returns-in_err-admit-clause-memory : goal.returns-in_err-admit-clause-memory
returns-in_err-admit-clause-memory c =
    on_err_always c.from_residual.result (
      has-tenant MayAsk _ _ c.args.tenant _ c.self.view_is (seen _ _ _ c.in-Some.ensures.item.3.0 c.in-Some.ensures.item.1) c.in_err-admit.ensures.memory.0,
      written-again _ _ c.args.tenant _ c.admit.new.self c.self.view_is c.in-Some.ensures.item.1 c.in_err-admit.ensures.memory.1,
    )
