use Rattle.std.proofs.Common.{◌≡◌, sym, ◌∙◌, subst, refl, Some, true≢false, slice_get}
use Rattle.ot_core.specs.Accounts as asking
use Rattle.ot_core.specs.Accounts.{IsUnopened, IsAnswered, Waits}
use Rattle.ot_core.specs.Scenes.{IsScene, Moves, with_account}
use Rattle.ot_core.specs.SceneView.{scene_of}
use Rattle.ot_hall.proofs.FloorLemmas.{seen}
use Rattle.ot_core.proofs.SceneLemmas.{scene-answered, scene-opened, answered-lost, moves-at, can-open, cannot-open, starts-job}
use Rattle.ot_job.proofs.ViewLemmas.{on_err_always}
use Rattle.ot_core.proofs.HandedLemmas.{read-again, written-again}
use Rattle.ot_core.proofs.world.World.open.Goals as goal

pub returns-then-not-is_unopened-clause-stepped : goal.returns-then-not-is_unopened-clause-stepped
returns-then-not-is_unopened-clause-stepped c =
    (cannot-open _ _ c.args.tenant _ c.self.view_is (seen _ _ _ c.in-Some.ensures.item.3.0 c.in-Some.ensures.item.1) (λ free. true≢false (sym (c.is_unopened.ensures.1 free) ∙ c.if-not-is_unopened.true)), read-again _ _ c.args.tenant _ c.self.view_is c.in-Some.ensures.item.1)

pub invariant_of-self-in_default-2 : goal.invariant_of-self-in_default-2
invariant_of-self-in_default-2 c =
    let free : IsUnopened c.in-Some.account.now = c.if-not-is_unopened.ensures.0 refl in
    let answered : IsAnswered c.in-Some.account.now c.open.new.self = subst (λ o. asking.OpensNext c.in-Some.account.now o c.open.new.self) c.in_default-2.is c.in_ok-spec.ensures.opened in
    scene-answered _ c.args.tenant _ c.open.new.self c.self.invariant (seen _ _ _ c.in-Some.ensures.item.3.0 c.in-Some.ensures.item.1) free.1 c.open.ensures.sound answered

pub returns-in_default-2-clause-stepped : goal.returns-in_default-2-clause-stepped
returns-in_default-2-clause-stepped c =
    let here : slice_get (scene_of c.self.inside).accounts c.args.tenant ≡ Some c.in-Some.account.now = seen _ _ _ c.in-Some.ensures.item.3.0 c.in-Some.ensures.item.1 in
    let free : IsUnopened c.in-Some.account.now = c.if-not-is_unopened.ensures.0 refl in
    let answered : IsAnswered c.in-Some.account.now c.open.new.self = subst (λ o. asking.OpensNext c.in-Some.account.now o c.open.new.self) c.in_default-2.is c.in_ok-spec.ensures.opened in
    (can-open _ _ c.args.tenant _ c.self.view_is here free, moves-at IsAnswered _ _ c.args.tenant _ c.open.new.self c.self.view_is here answered)

pub invariant_of-self-in_default-submit : goal.invariant_of-self-in_default-submit
invariant_of-self-in_default-submit c =
    let free : IsUnopened c.in-Some.account.now = c.if-not-is_unopened.ensures.0 refl in
    let waits : Waits c.in-Some.account.now c.in-Some-2.spec c.open.new.self = subst (λ o. asking.OpensNext c.in-Some.account.now o c.open.new.self) c.in-Some-2.is c.in_ok-spec.ensures.opened in
    let b = c.close_refused.new.self in
    let answered = answered-lost _ _ b _ waits c.close_refused.ensures.is in
    subst (λ f. IsScene (with_account (scene_of c.self.inside) c.args.tenant b f)) (sym c.in_default-submit.ensures.back.1) (scene-answered _ c.args.tenant _ b c.self.invariant (seen _ _ _ c.in-Some.ensures.item.3.0 c.in-Some.ensures.item.1) free.1 c.close_refused.ensures.sound answered)

pub returns-in_default-submit-clause-stepped : goal.returns-in_default-submit-clause-stepped
returns-in_default-submit-clause-stepped c =
    let here : slice_get (scene_of c.self.inside).accounts c.args.tenant ≡ Some c.in-Some.account.now = seen _ _ _ c.in-Some.ensures.item.3.0 c.in-Some.ensures.item.1 in
    let free : IsUnopened c.in-Some.account.now = c.if-not-is_unopened.ensures.0 refl in
    let waits : Waits c.in-Some.account.now c.in-Some-2.spec c.open.new.self = subst (λ o. asking.OpensNext c.in-Some.account.now o c.open.new.self) c.in-Some-2.is c.in_ok-spec.ensures.opened in
    let b = c.close_refused.new.self in
    let answered = answered-lost _ _ b _ waits c.close_refused.ensures.is in (
      can-open _ _ c.args.tenant _ c.self.view_is here free,
      subst (λ f. Moves IsAnswered c.args.self.now c.args.tenant (with_account (scene_of c.self.inside) c.args.tenant b f)) (sym c.in_default-submit.ensures.back.1) (moves-at IsAnswered _ _ c.args.tenant _ b c.self.view_is here answered),
    )

pub invariant_of-self-2 : goal.invariant_of-self-2
invariant_of-self-2 c =
    let waits : Waits c.in-Some.account.now c.in-Some-2.spec c.open.new.self = subst (λ o. asking.OpensNext c.in-Some.account.now o c.open.new.self) c.in-Some-2.is c.in_ok-spec.ensures.opened in
    scene-opened _ c.args.tenant _ c.open.new.self c.in-Some-2.spec c.submit.new.self c.self.invariant (seen _ _ _ c.in-Some.ensures.item.3.0 c.in-Some.ensures.item.1) (c.if-not-is_unopened.ensures.0 refl).1 c.open.ensures.sound waits c.in-Ok.ensures.begun

pub returns-clause-stepped : goal.returns-clause-stepped
returns-clause-stepped c =
    let here : slice_get (scene_of c.self.inside).accounts c.args.tenant ≡ Some c.in-Some.account.now = seen _ _ _ c.in-Some.ensures.item.3.0 c.in-Some.ensures.item.1 in
    let waits : Waits c.in-Some.account.now c.in-Some-2.spec c.open.new.self = subst (λ o. asking.OpensNext c.in-Some.account.now o c.open.new.self) c.in-Some-2.is c.in_ok-spec.ensures.opened in (
      can-open _ _ c.args.tenant _ c.self.view_is here (c.if-not-is_unopened.ensures.0 refl),
      starts-job _ _ c.args.tenant _ c.open.new.self c.in-Some-2.spec c.submit.new.self c.self.view_is here waits c.in-Ok.ensures.begun,
    )

pub returns-in_err-spec-clause-memory : goal.returns-in_err-spec-clause-memory
returns-in_err-spec-clause-memory c =
    on_err_always c.from_residual.result (
      can-open _ _ c.args.tenant _ c.self.view_is (seen _ _ _ c.in-Some.ensures.item.3.0 c.in-Some.ensures.item.1) (c.if-not-is_unopened.ensures.0 refl),
      written-again _ _ c.args.tenant _ c.open.new.self c.self.view_is c.in-Some.ensures.item.1 c.in_err-spec.ensures.memory,
    )
