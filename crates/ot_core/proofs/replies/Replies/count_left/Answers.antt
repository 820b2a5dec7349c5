use Rattle.std.proofs.Common.{ap, arith, length}
use Rattle.ot_core.proofs.ReplyLemmas.{length-replies_from}
use Rattle.ot_core.proofs.replies.Replies.count_left.Goals as goal

pub returns : goal.returns
returns c = omega (arith, c.answered.ensures, length-replies_from c.self.inside.tenant.now c.self.inside.place, ap length c.self.view_is)
