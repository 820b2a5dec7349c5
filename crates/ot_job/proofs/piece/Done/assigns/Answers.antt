use Rattle.std.proofs.Common.{◌∙◌, ap}
use Rattle.ot_job.proofs.Common.{leading_len, Came}
use Rattle.ot_job.proofs.piece.Done.assigns.Goals as goal

pub returns : goal.returns
returns c = c.len.ensures ∙ ap (λ (d : Came). leading_len d.assigns) c.self.view_is
