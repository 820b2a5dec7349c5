use Rattle.std.proofs.Common.{◌∷◌, refl, ap, sym, subst, arith, List, true, inl, inr, IsPermutation, option_map}
use Rattle.ot_job.proofs.Common.{loan_of, Region, weight_of, HasPiece, live_of, Live, at, Came, IsOut, IsWell}
use Rattle.ot_job.specs.Dealings.{Fails}
use Rattle.ot_job.proofs.DealingsLemmas.{stands-by}
use Rattle.ot_job.proofs.InsideLemmas.{found-as, not-found-out}
use Rattle.ot_job.proofs.SettleLemmas.{has-piece, has-run, out-here, worker-is}
use Rattle.ot_job.proofs.StartLemmas.{fails-out, fails-well}
use Rattle.ot_job.proofs.WeighingLemmas.{weight-stopped}
use Rattle.ot_job.proofs.job.Job.fail.Goals.{After-task-task, After-worker-worker}
use Rattle.ot_job.proofs.job.Job.fail.Goals as goal

-- the piece that comes back, by the number of its task that the code has
abbrev came : After-task-task → Came
came c = record c.args.done { task = c.task-task.result }

found : (c : After-task-task) → IsOut c.self.inside.tasks (came c)
found c = found-as c.self.inside c.args.done c.task-task.result c.task-task.ensures _ _ c.all.ensures c.is_out.ensures c.if-not-is_out.false

piece : (c : After-task-task) → HasPiece c.self.inside.tasks c.task-task.result
piece c = has-piece c.self.inside.tasks (came c) (found c)

-- it is out to the worker that its task tells
abbrev out : (c : After-worker-worker) → IsOut c.self.inside.tasks (record c.args.done { task = c.task-task.result })
out c =
    out-here c.self.inside.tasks (record c.args.done { task = c.task-task.result }) (found-as c.self.inside c.args.done c.task-task.result c.task-task.ensures _ _ c.all.ensures c.is_out.ensures c.if-not-is_out.false)
    c.get.result.now c.get.ensures c.worker-worker.result c.worker-worker.ensures

pub returns-then-not-is_out-clause-fails : goal.returns-then-not-is_out-clause-fails
returns-then-not-is_out-clause-fails c =
    let d : Came = c.args.done in
    let not_out = not-found-out c.self.inside d _ _ c.all.ensures c.is_out.ensures c.if-not-is_out.true in
    subst (λ (l : Live). Fails l d l) c.self.view_is (inr (not_out, refl))

pub get-requires : goal.get-requires
get-requires c = (piece (goal.at.get-requires c).After-task-task).known

pub worker-worker-requires : goal.worker-worker-requires
worker-worker-requires c =
    let at_task = (goal.at.worker-worker-requires c).After-task-task in
    has-run c.self.inside.tasks (came at_task) (found at_task) c.get.result.now c.get.ensures

pub drop_right-requires : goal.drop_right-requires
drop_right-requires c = fails-out (live_of c.self.inside) (record c.args.done { task = c.task-task.result }) c.self.invariant (out (goal.at.drop_right-requires c).After-worker-worker)

pub stop-requires : goal.stop-requires
stop-requires c = piece (goal.at.stop-requires c).After-task-task

pub invariant_of-self : goal.invariant_of-self
invariant_of-self c =
    let j : Live = live_of c.self.inside in
    let d : Came = record c.args.done { task = c.task-task.result } in
    let seen : List Region → Live = λ regions. record j { owned = c.drop_right.new.owners.owned; regions = regions; failing = true } in
    subst (λ (l : List Region). IsWell (seen l)) (sym c.stop.ensures)
    (fails-well j d c.drop_right.new.owners.owned c.self.invariant (out (goal.at.invariant_of-self c).After-worker-worker) c.drop_right.ensures.ended c.drop_right.ensures.groups)

pub returns-clause-fails : goal.returns-clause-fails
returns-clause-fails c =
    let j : Live = live_of c.self.inside in
    let d : Came = record c.args.done { task = c.task-task.result } in
    let out : IsOut j.regions d = out (goal.at.returns-clause-fails c).After-worker-worker in
    let seen : List Region → Live = λ regions. record j { owned = c.drop_right.new.owners.owned; regions = regions; failing = true } in
    let worker = worker-is (at j.regions d.task) out.0.0 (ap (option_map (λ run. run.worker)) out.0.1) in
    subst (λ n. let e : Came = record c.args.done { task = n } in Fails c.args.self.now e (seen c.stop.new.self)) c.task-task.ensures (subst (λ (l : Live). Fails l d (seen c.stop.new.self)) c.self.view_is (inl (record {
      out = out;
      ended = subst (λ n. IsPermutation j.owned.out (loan_of n d.lent ∷ c.drop_right.new.owners.owned.out)) (sym worker) c.drop_right.ensures.ended;
      groups = c.drop_right.ensures.groups;
      going = stands-by j d c.self.invariant out;
      now = ap seen c.stop.ensures;
    })))

pub returns-clause-weight : goal.returns-clause-weight
returns-clause-weight c =
    let j : Live = live_of c.self.inside in
    let less = weight-stopped j.regions c.task-task.result (piece (goal.at.returns-clause-weight c).After-task-task).known in
    omega (arith, less, ap weight_of c.stop.ensures, ap (λ (l : Live). weight_of l.regions) c.self.view_is)
