use Rattle.std.proofs.Common.{sym, ap, ◌∙◌, refl, subst, Some, set}
use Rattle.std.specs.Prelude.{IsSome}
use Rattle.ot_hall.specs.Floors.{job_of}
use Rattle.ot_hall.proofs.IndexLemmas.{at_key, jobs-written, job-at_key}
use Rattle.ot_hall.proofs.live.Jobs.get_mut.Goals as goal

pub returns : goal.returns
returns c =
    let inside = c.self.inside in
    let at = at_key inside.slab inside.keys.items c.args.tenant c.in-Some.key _ (subst (λ jobs. IsSome (job_of jobs c.args.tenant)) (sym c.self.view_is) c.requires) c.index.ensures c.in-Some.is in (
      (refl, λ w. jobs-written inside.slab inside.keys.items c.args.tenant c.in-Some.key w c.self.invariant at.0 at.1 ∙ ap (λ jobs. set jobs c.args.tenant (Some w)) c.self.view_is),
      record { writes_back = tt; value = ap (λ jobs. job_of jobs c.args.tenant) (sym c.self.view_is) ∙ job-at_key inside.slab inside.keys.items c.args.tenant c.in-Some.key at.0 at.1 ∙ c.index_mut.ensures.value },
    )
