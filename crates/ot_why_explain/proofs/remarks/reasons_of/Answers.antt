use Rattle.std.proofs.Common.{◌∙◌, ◌^◌, ◌<◌, rules, sym, ap, subst}
use Rattle.ot_model.specs.Programs.{Arrays}
use Rattle.ot_store.specs.Arrays.{shape_in}
use Rattle.ot_why_reason.specs.Faults.{cells_count}
use Rattle.ot_why_reason.proofs.DueLemmas.{same_cells}
use Rattle.ot_why_explain.proofs.ReasonLemmas.{at_shape, are_reasons}
use Rattle.ot_why_explain.proofs.remarks.reasons_of.Goals as goal

pub reasons-requires : goal.reasons-requires
reasons-requires c =
    subst (λ arrays. cells_count arrays < 2 ^ 32) (sym (c.arrays.ensures.arrays ∙ ap (λ (s : Arrays). s.arrays) c.in_ok-shape.ensures.shape))
    (subst (λ n. n < 2 ^ 32) (sym (same_cells c.store.result.now)) c.in_ok-shape.ensures.sound.few)

pub returns : goal.returns
returns c =
    let book = c.args.book.now in
    are_reasons book c.args.line.now c.args.code c.reasons.result c.reasons.ensures.some
    (λ d refusal value program.
    at_shape _ (shape_in book.limits book.store) c.reasons.result d refusal (search rules) (search rules)
    (c.reasons.ensures.place d refusal (c.in_ok-request.ensures ∙ value) program))
