use Rattle.std.proofs.Common.{◌≡◌, ℕ, ◌+◌, ◌∙◌, ap, ap₂, sym, subst, arith, List, Bool, true}
use Rattle.ot_job.proofs.Common.{Owned, Region, IsBack, live_of, Live, Settles, regions_settled, state_in, Came, IsOut, IsWell, Inside, Working}
use Rattle.ot_job.proofs.DealingsLemmas.{works}
use Rattle.ot_job.proofs.InsideLemmas.{IsSettled, after, found-out, found-as, not-found-out, may-end, may-take-back, fits, units-more, tasks-more, is-settled}
use Rattle.ot_job.proofs.SettleLemmas.{has-piece, has-run, out-here, ok-holds, err-holds}
use Rattle.ot_job.proofs.job.Job.settle.Goals.{After-task-task, After-take_back}
use Rattle.ot_job.proofs.job.Job.settle.Goals as goal

-- the job with these tasks and owners
abbrev seen : Inside → List Region → Owned → Live
seen s regions owned = record (live_of s) { regions = regions; owned = owned }

-- the piece that comes back, by the number of its task that the code has
abbrev came : After-task-task → Came
came c = record c.args.done { task = c.task-task.result }

found : (c : After-task-task) → IsOut c.self.inside.tasks (came c)
found c = found-as c.self.inside c.args.done c.task-task.result c.task-task.ensures _ _ c.all.ensures c.is_out.ensures c.if-not-is_out.false

refused : (c : After-task-task) → IsOut c.args.self.now.regions c.args.done × (state_in c.args.self.now ≡ Working)
refused c =
    let out = found-out c.self.inside c.args.done _ _ c.all.ensures c.is_out.ensures c.if-not-is_out.false in
    subst (λ (l : Live). IsOut l.regions c.args.done × (state_in l ≡ Working)) c.self.view_is (out, works (live_of c.self.inside) c.args.done c.self.invariant out c.if-self.false)

settles : (c : After-take_back) → IsSettled c.self.inside (record c.args.done { task = c.task-task.result }) c.take_back.new.cells c.take_back.new.owners.owned c.settle.new.self c.tasks_next-created.result
    (c.assigns-assigns.result + c.units_next-control.result)
settles c =
    let s : Inside = c.self.inside in
    let d : Came = record c.args.done { task = c.task-task.result } in
    let found = found-as s c.args.done c.task-task.result c.task-task.ensures _ _ c.all.ensures c.is_out.ensures c.if-not-is_out.false in
    let t : Region = c.get-running.result.now in
    let out : IsOut s.tasks d = out-here s.tasks d found t c.get-running.ensures c.worker-worker.result c.worker-worker.ensures in
    let names = fits s.tasks d found t c.get-running.ensures c.group_next.result c.group_next.ensures c.in-Ok.room c.in-Ok.ensures.names in
    let back = subst (λ (o : Owned). IsBack o s.cells c.args.done c.worker-worker.result c.in-Ok.room s.counts.units c.take_back.new.owners.owned c.take_back.new.cells) c.room_for.ensures.owned c.take_back.ensures in
    is-settled s c.self.invariant c.if-self.false d out c.take_back.new.cells c.take_back.new.owners.owned c.in-Ok.room names
    (subst (λ (n : ℕ). IsBack s.owners.owned s.cells (record c.args.done { task = n }) c.worker-worker.result c.in-Ok.room s.counts.units c.take_back.new.owners.owned c.take_back.new.cells) (sym c.task-task.ensures) back)
    (ok-holds c.settle.result (sym c.is_err.ensures.value ∙ c.if-is_err.false) c.settle.ensures.ordered) c.settle.new.self c.tasks_next-created.result (c.assigns-assigns.result + c.units_next-control.result)
    (ok-holds c.settle.result (sym c.is_err.ensures.value ∙ c.if-is_err.false) c.settle.ensures.settled ∙ ap (λ (b : Bool). regions_settled b s.counts.units d.task s.tasks) c.is_taken.ensures)
    (tasks-more s.tasks d found t c.get-running.ensures c.tasks_next-created.result c.tasks_next-created.ensures.exact)
    (units-more s.tasks d found t c.get-running.ensures c.assigns-assigns.result c.units_next-control.result c.assigns-assigns.ensures c.units_next-control.ensures.exact)

pub get-running-requires : goal.get-running-requires
get-running-requires c =
    let at_task = (goal.at.get-running-requires c).After-task-task in
    (has-piece c.self.inside.tasks (came at_task) (found at_task)).known

pub worker-worker-requires : goal.worker-worker-requires
worker-worker-requires c =
    let at_task = (goal.at.worker-worker-requires c).After-task-task in
    has-run c.self.inside.tasks (came at_task) (found at_task) c.get-running.result.now c.get-running.ensures

pub settle-requires : goal.settle-requires
settle-requires c =
    let at_task = (goal.at.settle-requires c).After-task-task in
    may-end c.self.inside c.self.invariant c.if-self.false (came at_task) (found at_task)

pub take_back-requires : goal.take_back-requires
take_back-requires c =
    let s : Inside = c.self.inside in
    let d : Came = came (goal.at.take_back-requires c).After-task-task in
    let found = found (goal.at.take_back-requires c).After-task-task in
    let t : Region = c.get-running.result.now in
    let out : IsOut s.tasks d = out-here s.tasks d found t c.get-running.ensures c.worker-worker.result c.worker-worker.ensures in
    may-take-back s c.self.invariant c.if-self.false d out c.room_for.new.owners c.room_for.ensures.owned c.in-Ok.room c.in-Ok.ensures.openable
    (fits s.tasks d found t c.get-running.ensures c.group_next.result c.group_next.ensures c.in-Ok.room c.in-Ok.ensures.names)

pub overflow_cast-units : goal.overflow_cast-units
overflow_cast-units c = omega (arith, (settles (goal.at.overflow_cast-units c).After-take_back).units-few)

pub overflow_add-units : goal.overflow_add-units
overflow_add-units c = omega (arith, (settles (goal.at.overflow_add-units c).After-take_back).units-few)

pub overflow_add-self-2 : goal.overflow_add-self-2
overflow_add-self-2 c = omega (arith, (settles (goal.at.overflow_add-self-2 c).After-take_back).units-few)

pub overflow_add-self : goal.overflow_add-self
overflow_add-self c = omega (arith, (settles (goal.at.overflow_add-self c).After-take_back).tasks-few)

pub invariant_of-self-2 : goal.invariant_of-self-2
invariant_of-self-2 c = (settles (goal.at.invariant_of-self-2 c).After-take_back).well

pub returns-clause-settled : goal.returns-clause-settled
returns-clause-settled c =
    let units = c.assigns-assigns.result + c.units_next-control.result in
    let new : Live = after c.self.inside c.take_back.new.cells c.take_back.new.owners.owned c.settle.new.self c.tasks_next-created.result units in
    subst (λ (n : ℕ). Settles c.args.self.now (record c.args.done { task = n }) units new) c.task-task.ensures
    (subst (λ (l : Live). Settles l (record c.args.done { task = c.task-task.result }) units new) c.self.view_is (settles (goal.at.returns-clause-settled c).After-take_back).settles)

pub returns-then-not-is_out-clause-refuses : goal.returns-then-not-is_out-clause-refuses
returns-then-not-is_out-clause-refuses c =
    subst (λ (l : Live). IsOut l.regions c.args.done → ⊥) c.self.view_is (not-found-out c.self.inside c.args.done _ _ c.all.ensures c.is_out.ensures c.if-not-is_out.true)

pub returns-then-self-clause-settled : goal.returns-then-self-clause-settled
returns-then-self-clause-settled c =
    tt

pub returns-then-self-clause-refuses : goal.returns-then-self-clause-refuses
returns-then-self-clause-refuses c =
    let out = found-out c.self.inside c.args.done _ _ c.all.ensures c.is_out.ensures c.if-not-is_out.false in
    subst (λ (l : Live). IsOut l.regions c.args.done × (l.failing ≡ true)) c.self.view_is (out, c.if-self.true)

pub invariant_of-self : goal.invariant_of-self
invariant_of-self c =
    subst (λ (o : Owned). IsWell (seen c.self.inside c.self.inside.tasks o)) (sym c.room_for.ensures.owned) c.self.invariant

pub returns-in_default-clause-refused : goal.returns-in_default-clause-refused
returns-in_default-clause-refused c =
    ap (seen c.self.inside c.self.inside.tasks) c.room_for.ensures.owned ∙ c.self.view_is

pub returns-in_default-clause-refuses : goal.returns-in_default-clause-refuses
returns-in_default-clause-refuses c = refused (goal.at.returns-in_default-clause-refuses c).After-task-task

pub returns-then-is_err-clause-refused : goal.returns-then-is_err-clause-refused
returns-then-is_err-clause-refused c =
    let same = err-holds c.settle.result (sym c.is_err.ensures.value ∙ c.if-is_err.true) c.settle.ensures.refused in
    ap₂ (seen c.self.inside) same c.room_for.ensures.owned ∙ c.self.view_is

pub returns-then-is_err-clause-refuses : goal.returns-then-is_err-clause-refuses
returns-then-is_err-clause-refuses c = refused (goal.at.returns-then-is_err-clause-refuses c).After-task-task

pub invariant_of-self-then-is_err : goal.invariant_of-self-then-is_err
invariant_of-self-then-is_err c =
    let same = err-holds c.settle.result (sym c.is_err.ensures.value ∙ c.if-is_err.true) c.settle.ensures.refused in
    subst IsWell (sym (ap₂ (seen c.self.inside) same c.room_for.ensures.owned)) c.self.invariant
