use Rattle.std.proofs.Common.{◌∙◌, ap, sym, subst, arith, length, Bool, [], if◌then◌else◌}
use Rattle.ot_job.proofs.Common.{Live, claimable_of, claimable_in, IsWell, tasks_in-≤-size, live_of}
use Rattle.ot_job.proofs.StuckLemmas.{state-working, has-claimable}
use Rattle.ot_job.proofs.CourseLemmas.{counts-few}
use Rattle.ot_job.proofs.DealingsLemmas.{out-none, claimable-few}
use Rattle.ot_job.proofs.job.Job.claimable.Goals as goal

pub returns-then-self-clause-count : goal.returns-then-self-clause-count
returns-then-self-clause-count c =
    sym (ap (λ (l : Live). length (claimable_in l)) (sym c.self.view_is)
    ∙ ap (λ (b : Bool). length (if b then [] else claimable_of c.self.inside.tasks)) c.if-self.true)

pub returns-clause-never_stuck : goal.returns-clause-never_stuck
returns-clause-never_stuck c = λ is none.
    let j = c.args.self.now in
    let w = subst (λ (l : Live). IsWell l) c.self.view_is c.self.invariant in
    let working = state-working j is in
    let some = has-claimable j w working.0 working.1 (out-none j none) in
    let tasks = ap (λ (l : Live). l.regions) c.self.view_is in
    omega (arith, some, c.claimable.ensures, ap (λ ts. length (claimable_of ts)) tasks)

pub returns-clause-few : goal.returns-clause-few
returns-clause-few c =
    let j : Live = live_of c.self.inside in
    let few = counts-few j (c.self.invariant.course c.if-self.false) in
    omega (arith, claimable-few j.regions, c.claimable.ensures, c.self.invariant.created, few.0, tasks_in-≤-size j.program.body, c.self.inside.spec.checked.program.few, c.self.inside.spec.checked.program.statements_are)
