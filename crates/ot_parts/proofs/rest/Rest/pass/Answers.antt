use Rattle.std.proofs.Common.{◌∙◌, ap, sym}
use Rattle.ot_parts.specs.Parts.{after_parts, parts_of}
use Rattle.ot_parts.specs.Left.{parts_left}
use Rattle.ot_parts.proofs.RestLemmas.{behind-left}
use Rattle.ot_parts.proofs.rest.Rest.pass.Goals as goal

pub returns : goal.returns
returns c = c.trim.ensures.same ∙ sym (behind-left c.self.inside.passed (parts_of (parts_left c.self.inside.frames))) ∙ ap after_parts c.self.view_is
