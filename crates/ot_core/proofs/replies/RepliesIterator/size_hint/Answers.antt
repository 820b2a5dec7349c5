use Rattle.std.proofs.Common.{arith}
use Rattle.ot_core.proofs.replies.RepliesIterator.size_hint.Goals as goal

pub returns-clause-lower : goal.returns-clause-lower
returns-clause-lower c = λ _. omega (arith, c.count_left-left.ensures)

pub returns-clause-upper : goal.returns-clause-upper
returns-clause-upper c = (tt, omega (arith, c.count_left-left.ensures))
