-- A job's regions where each piece that is out counts as not begun, and the loans that are out.
use Rattle.std.specs.Prelude.{List, [], ◌∷◌, Option, Some, None, map}
use Rattle.ot_model.specs.Tree.{Body, End, append}
use Rattle.ot_owner.specs.Owning.{Loan}
use Rattle.ot_job_task.specs.Regions.{Region, Run}

abbrev pub assigns_out : Option Run → Body
assigns_out None = End
assigns_out (Some run) = run.assigns

abbrev pub whole_region : Region → Region
whole_region r = record r { rest = append (assigns_out r.running) r.rest; running = None }

abbrev pub wholes : List Region → List Region
wholes rs = map whole_region rs

-- what a piece holds, as it is out to its worker
abbrev pub loan_in : Run → Loan
loan_in run = record { worker = run.worker; lease = run.lease }

abbrev pub with_loan : Option Run → List Loan → List Loan
with_loan None out = out
with_loan (Some run) out = loan_in run ∷ out

abbrev pub loans_out : List Region → List Loan
loans_out [] = []
loans_out (r ∷ rs) = with_loan r.running (loans_out rs)
