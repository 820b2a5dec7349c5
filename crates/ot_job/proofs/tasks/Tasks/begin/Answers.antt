use Rattle.std.proofs.Common.{◌≡◌, ◌<◌, ◌∙◌, List, length, false, refl, ap, sym, subst, arith, is_some}
use Rattle.ot_job.proofs.Common.{updated, Region, leading, awake, piece_begun, at, is_claimable, members, AreKept}
use Rattle.ot_job.proofs.ClaimableLemmas.{at-here}
use Rattle.ot_job.proofs.ViewLemmas.{set-changed}
use Rattle.ot_job.proofs.KeepingLemmas.{kept-updated, now-busy}
use Rattle.ot_job.proofs.tasks.Tasks.begin.Goals.{After-begin}
use Rattle.ot_job.proofs.tasks.Tasks.begin.Goals as goal

-- told of the tasks as the field has them
idle : (c : After-begin) → (c.args.i < length c.self.inside.tasks.items) × (is_some (at c.self.inside.tasks.items c.args.i).running ≡ false)
idle c = (omega (arith, c.requires.known, ap length c.self.view_is), ap is_some (ap (λ (l : List Region). (at l c.args.i).running) c.self.view_is ∙ c.requires.idle))

pub begin-requires : goal.begin-requires
begin-requires c =
    let rs = c.self.inside.tasks.items in
    let i = c.args.i in
    let within : i < length rs = omega (arith, c.requires.known, ap length c.self.view_is) in
    c.requires.assigns ∙ sym (ap (λ (l : List Region). leading (awake (at l i)).rest) c.self.view_is)
    ∙ ap (λ r. leading (awake r).rest) (at-here rs i c.index_mut.result.now within c.index_mut.ensures.value)

pub begin-requires-2 : goal.begin-requires-2
begin-requires-2 c =
    let (within, none) = idle (goal.at.begin-requires-2 c).After-begin in
    record { count = _; members = _; test = _; tells = c.self.invariant; known = within; holds = none }

pub invariant_of-self : goal.invariant_of-self
invariant_of-self c =
    let rs = c.self.inside.tasks.items in
    let i = c.args.i in
    let change = piece_begun c.args.running.worker c.args.running.lease in
    let (within, none) = idle (goal.at.invariant_of-self c).After-begin in
    let now = set-changed rs i c.index_mut.result.now c.begin.new.self change c.index_mut.ensures.value c.begin.ensures in
    subst (λ (l : List Region). AreKept l c.begin-2.new.self) (sym now)
    (kept-updated change (λ r. refl) rs i within c.begin-2.new.self false (sym (now-busy change (λ r. refl) rs i within c.begin-2.new.self refl)) (c.begin-2.ensures (length rs) (members rs) (is_claimable rs) c.self.invariant none))

pub returns : goal.returns
returns c =
    set-changed c.self.inside.tasks.items c.args.i c.index_mut.result.now c.begin.new.self (piece_begun c.args.running.worker c.args.running.lease) c.index_mut.ensures.value c.begin.ensures
    ∙ ap (λ (l : List Region). updated l c.args.i (piece_begun c.args.running.worker c.args.running.lease)) c.self.view_is

pub index_mut-requires : goal.index_mut-requires
index_mut-requires c = omega (arith, c.requires.known, ap length c.self.view_is, c.self.inside.tasks.ok.0)
