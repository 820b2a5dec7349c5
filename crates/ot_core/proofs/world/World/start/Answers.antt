use Rattle.std.proofs.Common.{◌+◌, sym, ◌∙◌, subst}
use Rattle.ot_hall.specs.Floors.{ClaimsOf}
use Rattle.ot_core.specs.SceneView.{scene_of}
use Rattle.ot_job.proofs.ViewLemmas.{on_err_always}
use Rattle.ot_core.proofs.HandedLemmas.{hand-read, hand-free, as-before, taken, cannot-start, may-take}
use Rattle.ot_core.proofs.world.World.start.Goals as goal

pub invariant_of-self : goal.invariant_of-self
invariant_of-self c = (as-before (scene_of c.self.inside) _ c.claim_of.new.self c.self.view_is c.self.invariant c.in_err-piece.ensures.refused.same).0

pub returns-in_err-piece-clause-memory : goal.returns-in_err-piece-clause-memory
returns-in_err-piece-clause-memory c =
    let s = scene_of c.self.inside in
    let free = hand-free s.hands c.args.hand c.index.result.now c.requires c.self.invariant.hands_many c.index.ensures (sym c.is_some.ensures ∙ c.if-is_some.false) in
    on_err_always c.from_residual.result (
      may-take s _ c.args.hand c.args.tenant c.self.view_is free c.in_err-piece.ensures.refused.working c.in_err-piece.ensures.refused.some,
      (as-before s _ c.claim_of.new.self c.self.view_is c.self.invariant c.in_err-piece.ensures.refused.same).1,
    )

pub invariant_of-self-in_default : goal.invariant_of-self-in_default
invariant_of-self-in_default c =
    let claims = subst (λ p. ClaimsOf c.self.inside.hall c.args.tenant c.args.pick (c.args.hand + 1) p c.claim_of.new.self) c.in_default.is c.in_ok-piece.ensures.claimed in
    (as-before (scene_of c.self.inside) _ c.claim_of.new.self c.self.view_is c.self.invariant claims.1).0

pub returns-in_default-clause-stepped : goal.returns-in_default-clause-stepped
returns-in_default-clause-stepped c =
    let claims = subst (λ p. ClaimsOf c.self.inside.hall c.args.tenant c.args.pick (c.args.hand + 1) p c.claim_of.new.self) c.in_default.is c.in_ok-piece.ensures.claimed in (
      cannot-start (scene_of c.self.inside) _ c.args.hand c.args.tenant c.self.view_is claims.0,
      (as-before (scene_of c.self.inside) _ c.claim_of.new.self c.self.view_is c.self.invariant claims.1).1,
    )

pub invariant_of-self-2 : goal.invariant_of-self-2
invariant_of-self-2 c =
    let claims = subst (λ p. ClaimsOf c.self.inside.hall c.args.tenant c.args.pick (c.args.hand + 1) p c.claim_of.new.self) c.in-Some.is c.in_ok-piece.ensures.claimed in
    let free = hand-read _ _ _ _ _ c.requires c.self.invariant.hands_many c.index_mut.ensures.value c.replace.ensures.value c.in_default-replace.is in
    (taken _ _ c.args.hand c.args.tenant c.args.pick _ c.in-Some.piece _ _ c.self.view_is c.self.invariant c.requires free claims c.task-task.ensures c.replace.ensures.after).0

pub returns-clause-stepped : goal.returns-clause-stepped
returns-clause-stepped c =
    let claims = subst (λ p. ClaimsOf c.self.inside.hall c.args.tenant c.args.pick (c.args.hand + 1) p c.claim_of.new.self) c.in-Some.is c.in_ok-piece.ensures.claimed in
    let free = hand-read _ _ _ _ _ c.requires c.self.invariant.hands_many c.index_mut.ensures.value c.replace.ensures.value c.in_default-replace.is in
    (taken _ _ c.args.hand c.args.tenant c.args.pick _ c.in-Some.piece _ _ c.self.view_is c.self.invariant c.requires free claims c.task-task.ensures c.replace.ensures.after).1
