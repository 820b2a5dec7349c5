use Rattle.std.proofs.Common.{rules, ◌≡◌, subst}
use Rattle.std.specs.Prelude.{◌↔◌, IsTrue, Some, option_map}
use Rattle.ot_model.specs.View.{expr_of}
use Rattle.ot_owner.specs.Lending.{lease_of}
use Rattle.ot_job_task.specs.Pieces.{test_of}
use Rattle.ot_job_task.specs.Regions.{Region}
use Rattle.ot_job_task.proofs.PieceLemmas.{with-run}
use Rattle.ot_job_task.proofs.task.Task.runs.Goals as goal

pub returns-then-is_of : goal.returns-then-is_of
returns-then-is_of c =
    let is : c.args.self.now.running ≡ Some c.in-Some.running = search rules in
    let same = c.is_of.ensures.0 c.if-is_of.true in
    let test = subst (λ (r : Region). IsTrue c.has_test.result ↔ option_map (λ e. expr_of e.now) c.args.condition ≡ test_of r.rest) c.self.view_is c.has_test.ensures in
    ((λ h. (with-run c.args.self.now.running c.in-Some.running c.args.assigns.now (lease_of c.args.lent.now) is same.0 same.1, test.0 h)), λ runs. test.1 runs.1)
