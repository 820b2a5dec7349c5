use Rattle.std.proofs.Common.{[], ◌∷◌, ◌++◌, ap, ◌∙◌}
use Rattle.ot_model.specs.declared.stmt.Mode.TheVariants.{Reads}
use Rattle.ot_check.specs.Offences.{use_as}
use Rattle.ot_race_ways.proofs.FollowLemmas.{section_more}
use Rattle.ot_race_ways.proofs.reads.note_section.Goals as goal

pub loop-step-preserved : goal.loop-step-preserved
loop-step-preserved c =
    section_more c.args.section c.loop-step.step c.args.uses.now.items c.loop-step.uses.items c.note.new.uses.items c.loop-step.invariant
    (c.in_ok-note.ensures ∙ ap (λ x. c.loop-step.uses.items ++ use_as Reads x ∷ []) c.cell_of.ensures)
