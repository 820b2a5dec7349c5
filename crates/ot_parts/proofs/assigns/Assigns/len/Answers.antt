use Rattle.std.proofs.Common.{◌∙◌, sym, ap}
use Rattle.ot_parts.specs.Parts.{leading_len}
use Rattle.ot_parts.proofs.LeadingLemmas.{assigns-len}
use Rattle.ot_parts.proofs.assigns.Assigns.len.Goals as goal

pub returns : goal.returns
returns c = sym (assigns-len c.as_slice.result.now) ∙ ap leading_len c.as_slice.ensures
