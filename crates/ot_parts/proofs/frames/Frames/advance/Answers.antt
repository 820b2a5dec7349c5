use Rattle.std.proofs.Common.{rules, arith, ◌++◌, ◌∙◌, ap, refl}
use Rattle.std.specs.Arc.{arc_value}
use Rattle.std.specs.Option.{option_to_list}
use Rattle.std.proofs.lemmas.Grind.{common_steps}
use Rattle.std.proofs.lemmas.Option.{slice_get_past}
use Rattle.ot_parts.specs.Left.{outer_parts}
use Rattle.ot_parts.specs.declared.frames.Frames.{Frames}
use Rattle.ot_parts.proofs.FrameLemmas.{next-drop, not-none, not-over, out-parts, out-steps}
use Rattle.ot_parts.proofs.frames.Frames.advance.Goals as goal

pub returns-then-not-is_over-clause-past : goal.returns-then-not-is_over-clause-past
returns-then-not-is_over-clause-past c = λ p next.
    let self = c.args.self.now in
    ap (λ l. l ++ outer_parts self.outer.items) (next-drop (arc_value self.inner.body).items self.inner.at p next)

pub returns-then-not-is_over-clause-out : goal.returns-then-not-is_over-clause-out
returns-then-not-is_over-clause-out c = λ none.
    let self = c.args.self.now in
    absurd (not-none (arc_value self.inner.body).items self.inner.at (c.is_over.ensures.not (search rules)) none)

pub returns-in-Some-clause-past : goal.returns-in-Some-clause-past
returns-in-Some-clause-past c = λ p next.
    let self = c.args.self.now in
    absurd (not-over (arc_value self.inner.body).items self.inner.at p (c.is_over.ensures.over (search rules)) next)

pub returns-in-Some-clause-out : goal.returns-in-Some-clause-out
returns-in-Some-clause-out c = λ none.
    let self = c.args.self.now in
    let new : Frames = record { inner = c.in-Some.frame; outer = c.pop.new.self } in
    out-parts self new c.pop.new.self.items (c.pop.ensures.items ∙ ap (λ o. c.pop.new.self.items ++ option_to_list o) c.in-Some.is) refl (c.is_over.ensures.over (search rules))

pub returns-in-Some-clause-fewer : goal.returns-in-Some-clause-fewer
returns-in-Some-clause-fewer c = λ some.
    let self = c.args.self.now in
    let new : Frames = record { inner = c.in-Some.frame; outer = c.pop.new.self } in
    out-steps self new c.pop.new.self.items (c.pop.ensures.items ∙ ap (λ o. c.pop.new.self.items ++ option_to_list o) c.in-Some.is) refl

pub returns-in_default-clause-past : goal.returns-in_default-clause-past
returns-in_default-clause-past c = λ p next.
    let self = c.args.self.now in
    absurd (not-over (arc_value self.inner.body).items self.inner.at p (c.is_over.ensures.over (search rules)) next)

pub returns-in_default-clause-fewer : goal.returns-in_default-clause-fewer
returns-in_default-clause-fewer c = λ some.
    let self = c.args.self.now in
    absurd (some (slice_get_past (arc_value self.inner.body).items self.inner.at (c.is_over.ensures.over (search rules))) (grind (arith, common_steps, c.pop.ensures, c.in_default.is, c.in_default.not-Some)))
