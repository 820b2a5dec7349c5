-- A piece that is out.
use Rattle.std.proofs.Common.{◌≡◌, ap, ◌∙◌}
use Rattle.std.specs.Prelude.{Option, Some}
use Rattle.ot_owner.specs.Lending.{Lease}
use Rattle.ot_model.specs.Tree.{Body}
use Rattle.ot_job_task.specs.Pieces.{IsWith}
use Rattle.ot_job_task.specs.Regions.{Run}

pub with-run : (running : Option Run) (run : Run) (assigns : Body) (lease : Lease) → running ≡ Some run → run.assigns ≡ assigns → run.lease ≡ lease → IsWith running assigns lease
with-run running run assigns lease is same held =
    (run.worker, is ∙ ap (λ a. Some (let one : Run = record run { assigns = a } in one)) same ∙ ap (λ l. Some (let one : Run = record { worker = run.worker; assigns = assigns; lease = l } in one)) held)
