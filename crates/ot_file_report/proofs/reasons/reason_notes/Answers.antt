use Rattle.std.proofs.Common.{◌∙◌, ◌^◌, ◌<◌, sym, ap, subst}
use Rattle.ot_model.specs.Programs.{Arrays}
use Rattle.ot_why_reason.specs.Faults.{cells_count}
use Rattle.ot_why_reason.proofs.DueLemmas.{same_cells}
use Rattle.ot_file_report.proofs.reasons.reason_notes.Goals as goal

pub reasons-requires : goal.reasons-requires
reasons-requires c =
    subst (λ arrays. cells_count arrays < 2 ^ 32) (sym (c.arrays.ensures.arrays ∙ ap (λ (s : Arrays). s.arrays) c.in_ok-shape.ensures.shape))
    (subst (λ n. n < 2 ^ 32) (sym (same_cells c.store.result.now)) c.in_ok-shape.ensures.sound.few)
