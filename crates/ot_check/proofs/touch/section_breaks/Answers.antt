use Rattle.std.proofs.Common.{refl}
use Rattle.ot_model.specs.declared.stmt.Mode.TheVariants.{Reads}
use Rattle.ot_check.specs.Offences.{Touch, use_as}
use Rattle.ot_check.specs.Discipline.{may_break}
use Rattle.ot_check.proofs.StandingLemmas.{section-at, section-step, section-none}
use Rattle.ot_check.proofs.touch.section_breaks.Goals as goal

pub returns-then-read_breaks : goal.returns-then-read_breaks
returns-then-read_breaks c = λ own opened children decls h.
    section-at (λ d. may_break own opened children (Touch (use_as Reads d)) c.args.offence) c.args.section c.loop-place.place c.args.section.len _ c.read_breaks.result
    c.loop-place-test.true refl (c.read_breaks.ensures own opened children decls h) c.if-read_breaks.true

pub loop-place-preserved : goal.loop-place-preserved
loop-place-preserved c = λ own opened children decls h.
    section-step (λ d. may_break own opened children (Touch (use_as Reads d)) c.args.offence) c.args.section c.loop-place.place _ c.read_breaks.result
    refl (c.read_breaks.ensures own opened children decls h) c.if-read_breaks.false (c.loop-place.invariant own opened children decls h)

pub returns : goal.returns
returns c = λ own opened children decls h.
    section-none (λ d. may_break own opened children (Touch (use_as Reads d)) c.args.offence) c.args.section c.loop-place.place c.args.section.len
    c.loop-place.auto.place-end c.loop-place-test.false (c.loop-place.invariant own opened children decls h)
