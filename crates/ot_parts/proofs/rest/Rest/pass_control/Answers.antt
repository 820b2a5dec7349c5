use Rattle.std.proofs.Common.{◌∙◌, ap, sym}
use Rattle.ot_parts.specs.Parts.{control_next}
use Rattle.ot_parts.proofs.RestLemmas.{hidden-next, none-past, past-shown}
use Rattle.ot_parts.proofs.rest.Rest.pass_control.Goals as goal

pub returns-in-Some : goal.returns-in-Some
returns-in-Some c =
    c.trim.ensures.same
    ∙ past-shown c.self.inside.passed c.self.inside.frames c.advance.new.self c.args.self.now c.in-Some.field-0.now c.self.view_is c.in-Some.ensures c.advance.ensures.past

pub returns-in_default : goal.returns-in_default
returns-in_default c =
    sym (none-past c.args.self.now (ap control_next (sym c.self.view_is) ∙ hidden-next c.self.inside.passed c.self.inside.frames c.self.invariant c.in_default.ensures))
