use Rattle.std.proofs.Common.{ap, ◌∙◌}
use Rattle.std.proofs.lemmas.Result.{IfOk-weaker}
use Rattle.serde_json.specs.Written.{compact_text, has_float}
use Rattle.ot_file_diagnosis.specs.DiagnosisView.{diagnosis_by}
use Rattle.ot_file_diagnosis.proofs.ValueLemmas.{diagnosis-plain}
use Rattle.ot_file_diagnosis.proofs.format.value_text.Goals as goal

pub returns : goal.returns
returns c =
    let is = c.in_ok-value.ensures in
    IfOk-weaker c.to_string.result _ _ (λ text plain. plain (ap has_float is ∙ diagnosis-plain c.args.name.now (diagnosis_by c.args.one.now)) ∙ ap compact_text is)
    c.to_string.ensures.text
