use Rattle.std.proofs.Common.{◌≡◌, ◌<◌, sym, ap, ◌∙◌, subst, Some, None}
use Rattle.std.specs.Prelude.{slice_get}
use Rattle.slab.specs.Slab.{get}
use Rattle.ot_hall.proofs.IndexLemmas.{jobs-more, indexes-more, within-jobs}
use Rattle.ot_hall.proofs.live.Jobs.enter.Goals as goal

kept : (c : goal.After-self-1) → (k : _) → get c.reserve.new.self k ≡ get c.self.inside.slab k
kept c k = ap (λ s. get s k) c.reserve.ensures.rest_kept

pub index_mut-requires : goal.index_mut-requires
index_mut-requires c =
    let inside = c.self.inside in
    subst (λ len. c.args.tenant < len) (sym inside.keys.ok.0)
    (within-jobs inside.slab inside.keys.items c.args.tenant None (subst (λ jobs. slice_get jobs c.args.tenant ≡ Some None) (sym c.self.view_is) c.requires))

pub invariant_of-self-2 : goal.invariant_of-self-2
invariant_of-self-2 c =
    let inside = c.self.inside in
    let put = c.insert_reserved-key in
    indexes-more inside.slab put.new.self inside.keys.items c.args.tenant put.result _ c.self.invariant (sym (kept c put.result) ∙ put.ensures.was_vacant)
    (within-jobs inside.slab inside.keys.items c.args.tenant None (subst (λ jobs. slice_get jobs c.args.tenant ≡ Some None) (sym c.self.view_is) c.requires))
    put.ensures.updates.changed (λ k other. put.ensures.updates.others k other ∙ kept c k)

pub returns-clause-entered : goal.returns-clause-entered
returns-clause-entered c =
    let inside = c.self.inside in
    let put = c.insert_reserved-key in
    jobs-more inside.slab put.new.self inside.keys.items c.args.tenant put.result _ _ c.self.invariant (sym (kept c put.result) ∙ put.ensures.was_vacant) put.ensures.updates.changed
    (λ k other. put.ensures.updates.others k other ∙ kept c k) c.self.view_is
