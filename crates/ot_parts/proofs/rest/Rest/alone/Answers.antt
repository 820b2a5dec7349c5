use Rattle.std.proofs.Common.{◌≡◌, ◌∙◌, ap, sym}
use Rattle.std.specs.Prelude.{Some, option_map}
use Rattle.ot_parts.specs.Left.{next_at}
use Rattle.ot_parts.specs.Parts.{part_of}
use Rattle.ot_parts.proofs.RestLemmas.{IsAlone, control-left, last-left}
use Rattle.ot_parts.proofs.rest.Rest.alone.Goals.{else-not-has_control-via-then-not-has_control+else-not-is_last, else-not-has_control-via-else-not-has_control}
use Rattle.ot_parts.proofs.rest.Rest.alone.Goals as goal

pub returns-clause-run : goal.returns-clause-run
returns-clause-run c =
    let f = c.self.inside.frames in
    let p = c.in_ok-part.part.now in
    let next : next_at f.inner ≡ Some p = sym c.next.ensures ∙ ap (option_map (λ q. q.now)) c.in_ok-part.was in
    let alone : IsAlone (part_of p) c.args.self.now =
    elim c.else-not-has_control.branch [
      | else-not-has_control-via-then-not-has_control+else-not-is_last w ↦
          last-left c.self.inside.passed f c.args.self.now p c.self.view_is c.if-self.false c.has_control.ensures.part (w.is_last.ensures w.if-not-is_last.false p next)
          (sym c.has_control.ensures.is ∙ w.if-not-has_control.true)
      | else-not-has_control-via-else-not-has_control w ↦
          control-left c.self.inside.passed f c.args.self.now p c.self.view_is c.if-self.false c.has_control.ensures.part next (sym c.has_control.ensures.is ∙ w.if-not-has_control.false)
    ] in
    alone.0

pub returns-clause-condition : goal.returns-clause-condition
returns-clause-condition c =
    let f = c.self.inside.frames in
    let p = c.in_ok-part.part.now in
    let next : next_at f.inner ≡ Some p = sym c.next.ensures ∙ ap (option_map (λ q. q.now)) c.in_ok-part.was in
    let alone : IsAlone (part_of p) c.args.self.now =
    elim c.else-not-has_control.branch [
      | else-not-has_control-via-then-not-has_control+else-not-is_last w ↦
          last-left c.self.inside.passed f c.args.self.now p c.self.view_is c.if-self.false c.has_control.ensures.part (w.is_last.ensures w.if-not-is_last.false p next)
          (sym c.has_control.ensures.is ∙ w.if-not-has_control.true)
      | else-not-has_control-via-else-not-has_control w ↦
          control-left c.self.inside.passed f c.args.self.now p c.self.view_is c.if-self.false c.has_control.ensures.part next (sym c.has_control.ensures.is ∙ w.if-not-has_control.false)
    ] in
    alone.1
