use Rattle.std.proofs.Common.{sym, ap, ◌∙◌, subst, None, set}
use Rattle.std.specs.Prelude.{IsSome}
use Rattle.ot_hall.specs.Floors.{job_of}
use Rattle.ot_hall.proofs.IndexLemmas.{at_key, jobs-changed, indexes-fewer, not_others}
use Rattle.ot_hall.proofs.live.Jobs.take.Goals as goal

pub invariant_of-self : goal.invariant_of-self
invariant_of-self c =
    let inside = c.self.inside in
    let at = at_key inside.slab inside.keys.items c.args.tenant c.in-Some.key _ (subst (λ jobs. IsSome (job_of jobs c.args.tenant)) (sym c.self.view_is) c.requires) c.index.ensures c.in-Some.is in
    indexes-fewer _ _ inside.keys.items c.args.tenant c.in-Some.key c.self.invariant at.0 at.1 c.remove.ensures.updates.others

pub returns-clause-left : goal.returns-clause-left
returns-clause-left c =
    let inside = c.self.inside in
    let at = at_key inside.slab inside.keys.items c.args.tenant c.in-Some.key _ (subst (λ jobs. IsSome (job_of jobs c.args.tenant)) (sym c.self.view_is) c.requires) c.index.ensures c.in-Some.is in
    jobs-changed inside.slab c.remove.new.self inside.keys.items c.args.tenant c.in-Some.key None c.remove.ensures.updates.others
    (not_others inside.slab inside.keys.items c.args.tenant c.in-Some.key c.self.invariant at.1)
    ∙ ap (λ jobs. set jobs c.args.tenant None) c.self.view_is
