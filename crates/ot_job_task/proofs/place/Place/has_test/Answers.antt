use Rattle.std.proofs.Common.{◌≡◌, subst}
use Rattle.std.specs.Prelude.{◌↔◌, IsTrue, Option, option_map}
use Rattle.ot_model.specs.Tree.{E}
use Rattle.ot_model.specs.View.{expr_of}
use Rattle.ot_job_task.proofs.place.Place.has_test.Goals as goal

pub returns : goal.returns
returns c = subst (λ (test : Option E). IsTrue c.same_test.result ↔ option_map (λ e. expr_of e.now) c.args.test ≡ test) c.test.ensures c.same_test.ensures
