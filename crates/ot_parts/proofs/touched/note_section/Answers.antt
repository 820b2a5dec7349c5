use Rattle.std.proofs.Common.{◌∙◌}
use Rattle.ot_parts.proofs.TouchedLemmas.{section-one}
use Rattle.ot_parts.proofs.touched.note_section.Goals as goal

pub loop-step-preserved : goal.loop-step-preserved
loop-step-preserved c = λ cell.
    section-one c.args.section c.loop-step.step c.loop-step.held c.add.new.self c.loop-step-test.true c.in_ok-add.ensures cell
    ∙ c.loop-step.invariant cell
