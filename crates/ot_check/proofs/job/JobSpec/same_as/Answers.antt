use Rattle.std.proofs.Common.{◌∙◌, sym, ap, true≢false}
use Rattle.std.specs.Arc.{arc_value}
use Rattle.ot_model.specs.Programs.{expanded_of}
use Rattle.ot_check.specs.declared.checked.Checked.{Checked}
use Rattle.ot_check.specs.Jobs.{Spec}
use Rattle.ot_check.proofs.EqualLemmas.{same-seen}
use Rattle.ot_check.proofs.job.JobSpec.same_as.Goals as goal

pub returns-then-same_program : goal.returns-then-same_program
returns-then-same_program c =
    let one : Spec = record { checked = arc_value c.self.inside.checked; before = arc_value c.self.inside.before } in
    let other : Spec = record { checked = arc_value c.other.inside.checked; before = arc_value c.other.inside.before } in
    let is = ap (λ (q : Checked). expanded_of q.program) c.deref.ensures in
    let is-2 = ap (λ (q : Checked). expanded_of q.program) c.deref-2.ensures in
    let cells = c.deref-then-same_program.ensures in
    let cells-2 = c.deref-then-same_program-2.ensures in (
      (λ yes. same-seen one other _ _ c.self.view_is c.other.view_is
          (record { program = sym is ∙ c.same_program.ensures.0 c.if-same_program.true ∙ is-2; before = sym cells ∙ c.same_cells.ensures.0 yes ∙ cells-2 })),
      λ same. c.same_cells.ensures.1 (cells ∙ (same-seen _ _ one other (sym c.self.view_is) (sym c.other.view_is) same).before ∙ sym cells-2),
    )

pub returns-else-same_program : goal.returns-else-same_program
returns-else-same_program c =
    let one : Spec = record { checked = arc_value c.self.inside.checked; before = arc_value c.self.inside.before } in
    let other : Spec = record { checked = arc_value c.other.inside.checked; before = arc_value c.other.inside.before } in
    let is = ap (λ (q : Checked). expanded_of q.program) c.deref.ensures in
    let is-2 = ap (λ (q : Checked). expanded_of q.program) c.deref-2.ensures in (
      (λ yes. absurd (true≢false (sym yes ∙ c.if-same_program.false))),
      λ same. c.same_program.ensures.1 (is ∙ (same-seen _ _ one other (sym c.self.view_is) (sym c.other.view_is) same).program ∙ sym is-2),
    )
