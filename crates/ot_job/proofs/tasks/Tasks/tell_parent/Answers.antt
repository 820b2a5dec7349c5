use Rattle.std.proofs.Common.{◌≡◌, ◌<◌, ◌∙◌, ap, sym, subst, arith, ℕ, List, All, length}
use Rattle.ot_job.proofs.Common.{updated, length-updated, IsReady, IsUnfinished, with_finished, LetsTheSame, Region, without, IsRefreshed, is_claimable, members, AreKept, Tells, told_put, at, parent_of}
use Rattle.ot_job.specs.Calls.{MayFinish}
use Rattle.ot_job.proofs.KeepingLemmas.{kept-told, member-told, tells-told}
use Rattle.ot_job.proofs.ClaimableLemmas.{at-here, place-told}
use Rattle.ot_job.proofs.ViewLemmas.{set-changed}
use Rattle.ot_job.proofs.tasks.Tasks.tell_parent.Goals.{After-place_among-parent, After-deref}
use Rattle.ot_job.proofs.tasks.Tasks.tell_parent.Goals as goal

-- the task's place among its siblings, as the code has it
place : (c : After-place_among-parent) → (c.place_among-parent.result.0 ≡ parent_of c.self.inside.tasks.items c.args.i) × (c.place_among-parent.result.1 ≡ (at c.self.inside.tasks.items c.args.i).child)
place c = place-told c.self.inside.tasks.items c.args.i c.index.result.now (omega (arith, c.requires.known, ap length c.self.view_is)) c.index.ensures c.place_among-parent.result c.place_among-parent.ensures

up : (c : After-place_among-parent) → c.place_among-parent.result.0 < length c.self.inside.tasks.items
up c =
    let (parent, child) = place-told c.self.inside.tasks.items c.args.i c.index.result.now (omega (arith, c.requires.known, ap length c.self.view_is)) c.index.ensures c.place_among-parent.result c.place_among-parent.ensures in
    omega (arith, parent, ap (λ (l : List Region). parent_of l c.args.i) c.self.view_is, c.requires.finish.parent, ap length c.self.view_is)

now : (c : After-deref) → c.deref.result.now ≡ updated c.self.inside.tasks.items c.place_among-parent.result.0 (without c.place_among-parent.result.1)
now c = c.deref.ensures.value ∙ set-changed c.self.inside.tasks.items c.place_among-parent.result.0 c.index_mut.result.now c.release_child-waiters.new.self (without c.place_among-parent.result.1) c.index_mut.ensures.value c.release_child-waiters.ensures.released

pub index_mut-requires : goal.index_mut-requires
index_mut-requires c = omega (arith, up (goal.at.index_mut-requires c).After-place_among-parent, c.self.inside.tasks.ok.0)

pub release_child-waiters-requires : goal.release_child-waiters-requires
release_child-waiters-requires c =
    let rs = c.self.inside.tasks.items in
    let at_place = (goal.at.release_child-waiters-requires c).After-place_among-parent in
    let here = at-here rs c.place_among-parent.result.0 c.index_mut.result.now (up at_place) c.index_mut.ensures.value in
    let given = subst (λ (l : List Region). MayFinish l c.args.i) (sym c.self.view_is) c.requires.finish in
    let (ready, unfinished) = subst (λ (r : Region). IsReady r.children c.place_among-parent.result.1 × IsUnfinished r.children c.place_among-parent.result.1) here
    (subst (λ (q : ℕ). IsReady (at rs q).children c.place_among-parent.result.1 × IsUnfinished (at rs q).children c.place_among-parent.result.1) (sym (place at_place).0)
    (subst (λ (n : ℕ). IsReady (at rs (parent_of rs c.args.i)).children n × IsUnfinished (at rs (parent_of rs c.args.i)).children n) (sym (place at_place).1) (given.ready, given.unfinished))) in
    record { ready = ready; unfinished = unfinished }

pub is_claimable-requires : goal.is_claimable-requires
is_claimable-requires c =
    let rs = c.self.inside.tasks.items in
    omega (arith, up (goal.at.is_claimable-requires c).After-place_among-parent, ap length (now (goal.at.is_claimable-requires c).After-deref), length-updated rs c.place_among-parent.result.0 (without c.place_among-parent.result.1))

pub mark-requires : goal.mark-requires
mark-requires c = omega (arith, up (goal.at.mark-requires c).After-place_among-parent, c.self.invariant.numbered.long)

pub refresh_children-requires : goal.refresh_children-requires
refresh_children-requires c =
    let rs = c.self.inside.tasks.items in
    let is = now (goal.at.refresh_children-requires c).After-deref in
    let here = at-here rs c.place_among-parent.result.0 c.index_mut.result.now (up (goal.at.refresh_children-requires c).After-place_among-parent) c.index_mut.ensures.value in
    let same : c.deref-2.result.now ≡ c.deref.result.now = c.deref-2.ensures.value ∙ sym c.deref.ensures.value in
    let tells = tells-told rs c.place_among-parent.result.0 c.place_among-parent.result.1 c.self.inside.roster c.self.invariant c.deref.result.now is in
    let many = ap (λ m. m.kids) (member-told rs c.place_among-parent.result.0 c.place_among-parent.result.1 c.self.inside.roster c.self.invariant c.deref.result.now is c.place_among-parent.result.0) in
    record {
      told = (
        told_put (is_claimable rs) c.place_among-parent.result.0 c.is_claimable.result,
        subst (λ (l : List Region). Tells (length l) (members l) (told_put (is_claimable rs) c.place_among-parent.result.0 c.is_claimable.result) c.mark.new.self) (sym same) (c.mark.ensures _ _ _ tells),
      );
      children = subst (λ (l : List Region). All (λ w. w < length (at l c.place_among-parent.result.0).children) c.deref-3.result.now) (sym same)
          (subst (λ (n : ℕ). All (λ w. w < n) c.deref-3.result.now) (ap (λ (r : Region). length r.children) (sym here) ∙ many)
          (subst (λ (l : List ℕ). All (λ w. w < length c.index_mut.result.now.children) l) (sym c.deref-3.ensures.value) c.release_child-waiters.ensures.known));
    }

pub invariant_of-self : goal.invariant_of-self
invariant_of-self c =
    let rs = c.self.inside.tasks.items in
    let p = c.place_among-parent.result.0 in
    let child = c.place_among-parent.result.1 in
    let is = now (goal.at.invariant_of-self c).After-deref in
    let here = at-here rs p c.index_mut.result.now (up (goal.at.invariant_of-self c).After-place_among-parent) c.index_mut.ensures.value in
    let others = subst (λ (r : Region). LetsTheSame c.release_child-waiters.result.items r.children (with_finished r.children child)) (sym here) c.release_child-waiters.ensures.others in
    let tells = tells-told rs p child c.self.inside.roster c.self.invariant c.deref.result.now is in
    let free = told_put (is_claimable rs) p c.is_claimable.result in
    let refreshed = subst (λ (ws : List ℕ). IsRefreshed c.deref-2.result.now p ws free c.refresh_children.new.roster) c.deref-3.ensures.value
    (c.refresh_children.ensures free (subst (λ (l : List Region). Tells (length l) (members l) free c.mark.new.self) (c.deref.ensures.value ∙ sym c.deref-2.ensures.value) (c.mark.ensures _ _ _ tells))) in
    subst (λ (l : List Region). AreKept l c.refresh_children.new.roster) c.deref.ensures.value
    (kept-told rs p child c.self.inside.roster c.self.invariant c.deref.result.now is c.release_child-waiters.result.items others c.is_claimable.result c.is_claimable.ensures c.refresh_children.new.roster
    (subst (λ (l : List Region). IsRefreshed l p c.release_child-waiters.result.items free c.refresh_children.new.roster) (c.deref-2.ensures.value ∙ sym c.deref.ensures.value) refreshed))

pub returns : goal.returns
returns c =
    let rs = c.self.inside.tasks.items in
    let (parent, child) = place (goal.at.returns c).After-place_among-parent in
    sym c.deref.ensures.value ∙ now (goal.at.returns c).After-deref ∙ ap (λ q. updated rs q (without c.place_among-parent.result.1)) parent ∙ ap (λ n. updated rs (parent_of rs c.args.i) (without n)) child
    ∙ ap (λ (l : List Region). updated l (parent_of l c.args.i) (without (at l c.args.i).child)) c.self.view_is
