use Rattle.std.proofs.Common.{◌∙◌, ap, sym}
use Rattle.ot_parts.specs.Parts.{control_next}
use Rattle.ot_parts.proofs.RestLemmas.{control-shown, hidden-next, match-weaker}
use Rattle.ot_parts.proofs.rest.Rest.next_control.Goals as goal

pub returns : goal.returns
returns c =
    let f = c.self.inside.frames in
    let passed = c.self.inside.passed in
    match-weaker c.shown.result _ _ _ _ (λ h. ap control_next (sym c.self.view_is) ∙ hidden-next passed f c.self.invariant h)
    (λ p shown. control-shown passed f c.args.self.now p.now c.self.view_is shown) c.shown.ensures
