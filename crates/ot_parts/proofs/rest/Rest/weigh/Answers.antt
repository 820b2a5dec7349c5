use Rattle.std.proofs.Common.{◌∙◌, sym, ap, arith}
use Rattle.ot_parts.specs.Left.{parts_left}
use Rattle.ot_parts.specs.Parts.{parts_of, weight}
use Rattle.ot_parts.proofs.WeightLemmas.{weight-left}
use Rattle.ot_parts.proofs.rest.Rest.weigh.Goals as goal

pub weigh-requires : goal.weigh-requires
weigh-requires c = omega (arith, c.requires, ap weight c.self.view_is, weight-left c.self.inside.passed (parts_of (parts_left c.self.inside.frames)))

pub returns : goal.returns
returns c = c.weigh.ensures ∙ sym (weight-left c.self.inside.passed (parts_of (parts_left c.self.inside.frames))) ∙ ap weight c.self.view_is
