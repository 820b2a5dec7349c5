use Rattle.std.proofs.Common.{◌∙◌, refl}
use Rattle.std.specs.Prelude.{Some}
use Rattle.ot_why_explain.proofs.SayingLemmas.{on_known}
use Rattle.ot_why_explain.proofs.saying.heading.Goals as goal

pub returns : goal.returns
returns c =
    let known = c.in_ok-sentence.ensures in
    on_known (Some c.args.code) c.as_bytes.result.now c.remarked.result c.args.code refl known.0 (c.as_bytes.ensures.value ∙ known.1) c.remarked.ensures
