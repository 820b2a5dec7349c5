use Rattle.std.proofs.Common.{ap, ◌∙◌, ◌∷◌, []}
use Rattle.std.proofs.lemmas.Result.{IfOk-weaker}
use Rattle.ot_model.specs.Programs.{arrays_of}
use Rattle.ot_model.specs.View.{stmts_of}
use Rattle.ot_check.specs.Offences.{code_of}
use Rattle.ot_c_judge.specs.Lacks.{lacks}
use Rattle.ot_c_judge.specs.Reports.{advice, refusal_note}
use Rattle.ot_c_judge.specs.Sites.{site_of}
use Rattle.ot_c_judge.specs.SiteView.{site_by, source_by}
use Rattle.ot_c_judge.proofs.judging.refusal.Goals as goal

pub returns : goal.returns
returns c =
    let known = c.args.known.now in
    let site = site_of (source_by c.args.source.now) c.args.place in
    let arrays = arrays_of c.args.source.now.arrays.now in
    let words = c.as_str.ensures.value ∙ c.in_ok-words.ensures ∙ ap (advice arrays c.args.offence) c.lacking-used.ensures in
    IfOk-weaker c.refused.result _ _
    (λ found h. ap (λ d. d ∷ []) (h ∙ ap (λ s. refusal_note s known c.as_str.result.now c.code.result) c.in_ok-site.ensures
    ∙ ap (λ w. refusal_note site known w c.code.result) words
    ∙ ap (refusal_note site known (advice arrays c.args.offence (lacks (stmts_of c.args.program.now.body.items) c.args.place c.args.offence))) c.code.ensures))
    c.refused.ensures
