use Rattle.std.proofs.Common.{◌≡◌, ◌<◌, ℕ, ap, ◌∙◌, sym, subst, arith, length}
use Rattle.ot_hall.specs.Floors.{job_of}
use Rattle.ot_core.specs.Scenes.{Scene}
use Rattle.ot_hall.specs.Lively.{LivelyAt}
use Rattle.ot_core.specs.Toil.{moves_left}
use Rattle.ot_core.specs.Draining.{AllAnswered}
use Rattle.ot_core.specs.SceneView.{scene_of}
use Rattle.ot_core.proofs.DrainLemmas.{count-is, all-answered}
use Rattle.ot_core.proofs.world.World.count.Goals as goal

pub returns-clause-is : goal.returns-clause-is
returns-clause-is c =
    count-is _ _ c.loop-tenant.count c.loop-tenant.tenant c.free_hands-free.result c.self.view_is c.self.invariant
    (omega (arith, c.loop-tenant-test.false, c.loop-tenant.auto.tenant-end, c.len-tenant-end.ensures, c.self.inside.tenants.ok.0)) c.loop-tenant.invariant.0 c.free_hands-free.ensures.is

pub returns-clause-answered : goal.returns-clause-answered
returns-clause-answered c = λ none.
    let s = scene_of c.self.inside in
    let all : c.loop-tenant.tenant ≡ length s.accounts = omega (arith, c.loop-tenant-test.false, c.loop-tenant.auto.tenant-end, c.len-tenant-end.ensures, c.self.inside.tenants.ok.0) in
    let lively : (t : ℕ) → t < length s.accounts → LivelyAt (job_of s.floor.jobs t) =
    λ t below. subst (λ (x : Scene). LivelyAt (job_of x.floor.jobs t)) (sym c.self.view_is) (c.loop-tenant.invariant.2 t (omega (arith, below, all))) in
    subst AllAnswered c.self.view_is (all-answered s c.self.invariant lively
    (ap moves_left c.self.view_is ∙ sym (count-is s _ c.loop-tenant.count c.loop-tenant.tenant c.free_hands-free.result c.self.view_is c.self.invariant all c.loop-tenant.invariant.0 c.free_hands-free.ensures.is) ∙ none))
