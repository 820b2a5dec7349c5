use Rattle.std.proofs.Common.{ap, sym, ◌∙◌}
use Rattle.ot_check.specs.walk.Rows.{is_awaited_by}
use Rattle.ot_check.proofs.AwaitedLemmas.{awaited-writes}
use Rattle.ot_check.proofs.block.Block.awaited.Goals as goal

pub returns-in-Writes : goal.returns-in-Writes
returns-in-Writes c = λ j. awaited-writes c.args.self.now j ∙ ap (λ mode. is_awaited_by c.args.self.now mode j) (sym c.in-Writes.is)
