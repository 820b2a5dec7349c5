use Rattle.std.proofs.Common.{◌≡◌, ◌∙◌, refl, ap, sym, subst, arith, List, length}
use Rattle.ot_job.proofs.Common.{updated, length-updated, Region, region_stopped, HasPiece, is_claimable, members, AreKept}
use Rattle.ot_job.proofs.KeepingLemmas.{kept-updated}
use Rattle.ot_job.proofs.ViewLemmas.{set-changed}
use Rattle.ot_job.proofs.tasks.Tasks.stop.Goals.{After-stop, After-deref}
use Rattle.ot_job.proofs.tasks.Tasks.stop.Goals as goal

piece : (c : After-stop) → HasPiece c.self.inside.tasks.items c.args.i
piece c = subst (λ (l : List Region). HasPiece l c.args.i) (sym c.self.view_is) c.requires

now : (c : After-deref) → c.deref.result.now ≡ updated c.self.inside.tasks.items c.args.i region_stopped
now c = c.deref.ensures.value ∙ set-changed c.self.inside.tasks.items c.args.i c.index_mut.result.now c.stop.new.self region_stopped c.index_mut.ensures.value c.stop.ensures

pub index_mut-requires : goal.index_mut-requires
index_mut-requires c = omega (arith, c.requires.known, ap length c.self.view_is, c.self.inside.tasks.ok.0)

pub is_claimable-requires : goal.is_claimable-requires
is_claimable-requires c =
    omega (arith, (piece (goal.at.is_claimable-requires c).After-stop).known, ap length (now (goal.at.is_claimable-requires c).After-deref), length-updated c.self.inside.tasks.items c.args.i region_stopped)

pub stop-requires-2 : goal.stop-requires-2
stop-requires-2 c =
    let p = piece (goal.at.stop-requires-2 c).After-stop in
    record { count = _; members = _; test = _; tells = c.self.invariant; known = p.known; holds = p.out }

pub invariant_of-self : goal.invariant_of-self
invariant_of-self c =
    let rs = c.self.inside.tasks.items in
    let p = piece (goal.at.invariant_of-self c).After-stop in
    let is = now (goal.at.invariant_of-self c).After-deref in
    subst (λ (l : List Region). AreKept l c.stop-2.new.self) (sym is ∙ c.deref.ensures.value)
    (kept-updated region_stopped (λ r. refl) rs c.args.i p.known c.stop-2.new.self c.is_claimable.result (c.is_claimable.ensures ∙ ap (λ (l : List Region). is_claimable l c.args.i) is)
    (c.stop-2.ensures (length rs) (members rs) (is_claimable rs) c.self.invariant p.out))

pub returns : goal.returns
returns c = sym c.deref.ensures.value ∙ now (goal.at.returns c).After-deref ∙ ap (λ (l : List Region). updated l c.args.i region_stopped) c.self.view_is
