use Rattle.std.proofs.Common.{rules, ◌≡◌, ◌<◌, ◌∙◌, refl, ap, sym, subst, arith, length, List, option_map}
use Rattle.std.specs.Arc.{arc_value}
use Rattle.ot_job.proofs.Common.{IfOk-from_err, lengths, updated, expr_of, tasks_in-≤-size, lease_of, Owned, leading, awake, piece_begun, Region, Run, Claims, live_of, Live, claimable_in, Taken, IsWell, Working}
use Rattle.ot_job.specs.Dealings.{live_state}
use Rattle.ot_job.proofs.ClaimedLemmas.{AreLent, picked-is, picked-named, may-lend, lends}
use Rattle.ot_job.proofs.CourseLemmas.{counts-few}
use Rattle.ot_job.proofs.DealingsLemmas.{picked-some, picked-working}
use Rattle.ot_job.proofs.InsideLemmas.{IsPicked, picked-here}
use Rattle.ot_job.proofs.ViewLemmas.{on_err_always}
use Rattle.ot_job.proofs.WellLemmas.{claimable-idle}
use Rattle.ot_job.proofs.job.Job.claim.Goals.{In-Some, After-lend-lent, After-begin}
use Rattle.ot_job.proofs.job.Job.claim.Goals as goal

found : (c : In-Some) → IsPicked c.self.inside c.args.pick c.in-Some.task
found c = picked-here c.self.inside _ c.args.pick c.in-Some.task _ c.self.view_is c.pick.ensures c.in-Some.is

working : (c : In-Some) → live_state c.args.self.now ≡ Working
working c = subst (λ (l : Live). live_state l ≡ Working) c.self.view_is (picked-working (live_of c.self.inside) c.args.pick c.in-Some.task (found c).working (found c).is)

some : (c : In-Some) → 0 < length (claimable_in c.args.self.now)
some c = subst (λ (l : Live). 0 < length (claimable_in l)) c.self.view_is (picked-some (live_of c.self.inside) c.args.pick c.in-Some.task (found c).working (found c).is)

-- the job with what the owners have lent
abbrev lent_to : After-lend-lent → Live
lent_to c = record (live_of c.self.inside) {
  regions = updated c.self.inside.tasks c.in-Some.task (piece_begun c.args.worker (lease_of c.lend-lent.result));
  cells = c.lend-lent.new.cells;
  owned = c.lend-lent.new.owners.owned;
}

lent : (c : After-lend-lent)
    → AreLent (live_of c.self.inside) c.get-picked.result.now c.args.pick c.in-Some.task c.args.worker (arc_value c.in_ok-assigns.field-0.decl) c.lend-lent.result (lent_to c)
lent c =
    lends c.self.inside c.self.invariant c.args.pick c.in-Some.task (picked-here c.self.inside _ c.args.pick c.in-Some.task _ c.self.view_is c.pick.ensures c.in-Some.is) c.get-picked.result.now c.get-picked.ensures
    c.args.worker (arc_value c.in_ok-assigns.field-0.decl) c.in_ok-assigns.ensures.held c.in_ok-assigns.ensures.ordered c.in_ok-slip.slip c.in_ok-slip.ensures.slip c.prepare-2.new.self c.prepare-2.ensures.owned
    c.group_passed-passed.result c.group_passed-passed.ensures c.lend-lent.new.cells c.lend-lent.new.owners.owned c.lend-lent.result c.lend-lent.ensures

begun-now : (c : After-begin) → c.begin.new.self ≡ updated c.self.inside.tasks c.in-Some.task (piece_begun c.args.worker (lease_of c.lend-lent.result))
begun-now c = c.begin.ensures ∙ ap (λ (r : Run). updated c.self.inside.tasks c.in-Some.task (piece_begun r.worker r.lease)) c.new.ensures

pub get-picked-requires : goal.get-picked-requires
get-picked-requires c = (found (goal.at.get-picked-requires c).In-Some).known

pub prepare-requires : goal.prepare-requires
prepare-requires c =
    let p = found (goal.at.prepare-requires c).In-Some in
    record { named = (lengths c.self.inside.cells, picked-named c.self.inside c.self.invariant c.args.pick c.in-Some.task p c.get-picked.result.now c.get-picked.ensures) }

pub lend-lent-requires : goal.lend-lent-requires
lend-lent-requires c =
    let p = found (goal.at.lend-lent-requires c).In-Some in
    may-lend c.self.inside c.self.invariant c.args.pick c.in-Some.task p c.get-picked.result.now c.get-picked.ensures c.args.worker (arc_value c.in_ok-assigns.field-0.decl) c.in_ok-assigns.ensures.held c.in_ok-assigns.ensures.ordered
    c.in_ok-slip.slip c.in_ok-slip.ensures.slip c.prepare-2.new.self c.prepare-2.ensures.owned c.group_passed-passed.result c.group_passed-passed.ensures c.in_ok-slip.ensures.last
    (c.in_ok-assigns.ensures.there c.self.inside.cells (picked-named c.self.inside c.self.invariant c.args.pick c.in-Some.task p c.get-picked.result.now c.get-picked.ensures))

pub new-requires : goal.new-requires
new-requires c = (lent (goal.at.new-requires c).After-lend-lent).are ∙ sym c.in_ok-assigns.ensures.room

pub begin-requires-clause-known : goal.begin-requires-clause-known
begin-requires-clause-known c = (found (goal.at.begin-requires-clause-known c).In-Some).known

pub begin-requires-clause-idle : goal.begin-requires-clause-idle
begin-requires-clause-idle c = claimable-idle c.self.inside.tasks c.in-Some.task (found (goal.at.begin-requires-clause-idle c).In-Some).can

pub begin-requires-clause-assigns : goal.begin-requires-clause-assigns
begin-requires-clause-assigns c =
    let p = found (goal.at.begin-requires-clause-assigns c).In-Some in
    ap (λ (r : Run). r.assigns) c.new.ensures ∙ c.in_ok-assigns.ensures.shared ∙ c.in_ok-assigns.ensures.assigns
    ∙ ap (λ (r : Region). leading (awake r).rest) (sym (picked-is c.self.inside c.self.invariant c.args.pick c.in-Some.task p c.get-picked.result.now c.get-picked.ensures))

pub overflow_cast-task : goal.overflow_cast-task
overflow_cast-task c =
    let j : Live = live_of c.self.inside in
    let p = found (goal.at.overflow_cast-task c).In-Some in
    let few = counts-few j (c.self.invariant.course p.working) in
    omega (arith, p.known, c.self.invariant.created, few.0, tasks_in-≤-size j.program.body, c.self.inside.spec.checked.program.few, c.self.inside.spec.checked.program.statements_are)

pub new-requires-2 : goal.new-requires-2
new-requires-2 c =
    (lent (goal.at.new-requires-2 c).After-lend-lent).can c.in_ok-assigns.field-0.assigns (option_map expr_of c.in_ok-assigns.field-0.condition) c.in_ok-assigns.ensures.assigns c.in_ok-assigns.ensures.test

pub invariant_of-self-2 : goal.invariant_of-self-2
invariant_of-self-2 c =
    let at_lent = (goal.at.invariant_of-self-2 c).After-lend-lent in
    subst (λ (l : List Region). let j : Live = record (lent_to at_lent) { regions = l } in IsWell j) (sym (begun-now (goal.at.invariant_of-self-2 c).After-begin)) (lent at_lent).well

pub returns-clause-claimed : goal.returns-clause-claimed
returns-clause-claimed c =
    let at_lent = (goal.at.returns-clause-claimed c).After-lend-lent in
    let seen : List Region → Live = λ regions. record (lent_to at_lent) { regions = regions } in
    let piece : Taken = record { task = c.in-Some.task; assigns = c.in_ok-assigns.field-0.assigns; test = option_map expr_of c.in_ok-assigns.field-0.condition; lent = c.lend-lent.result } in
    subst (λ (p : Taken). Claims c.args.self.now c.args.pick c.args.worker p (seen c.begin.new.self)) (sym c.new-2.ensures)
    (subst (λ (l : Live). Claims l c.args.pick c.args.worker piece (seen c.begin.new.self)) c.self.view_is
    (subst (λ (l : List Region). Claims (live_of c.self.inside) c.args.pick c.args.worker piece (seen l)) (sym (begun-now (goal.at.returns-clause-claimed c).After-begin))
    ((lent at_lent).claims piece.assigns piece.test c.in_ok-assigns.ensures.assigns c.in_ok-assigns.ensures.test)))

pub returns-in_default : goal.returns-in_default
returns-in_default c = record { claimed = search rules; working = tt; some = tt; refused = tt }

pub returns-in_err-assigns : goal.returns-in_err-assigns
returns-in_err-assigns c =
    let told = c.from_residual.result in
    let at_task = (goal.at.returns-in_err-assigns c).In-Some in
    record { claimed = IfOk-from_err told _ c.from_residual.ensures.0; working = on_err_always told (working at_task); some = on_err_always told (some at_task); refused = on_err_always told refl }

pub returns-in_err-slip : goal.returns-in_err-slip
returns-in_err-slip c =
    let told = c.from_residual-in_err-slip.result in
    let at_task = (goal.at.returns-in_err-slip c).In-Some in
    let seen : Owned → Live = λ owned. record (live_of c.self.inside) { owned = owned } in
    record {
      claimed = IfOk-from_err told _ c.from_residual-in_err-slip.ensures.0;
      working = on_err_always told (working at_task);
      some = on_err_always told (some at_task);
      refused = on_err_always told (ap seen c.prepare-2.ensures.owned ∙ c.self.view_is);
    }
