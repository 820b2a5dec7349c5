use Rattle.std.proofs.Common.{◌&&◌, not, ap, ◌∙◌}
use Rattle.ot_sets.specs.Sets.{has}
use Rattle.ot_check.proofs.AwaitedLemmas.{block-awaited}
use Rattle.ot_check.proofs.block.Block.take_awaited.Goals as goal

pub returns : goal.returns
returns c = λ k.
    c.take_bits.ensures k
    ∙ ap (λ b. has c.args.tasks.now k && not b) (block-awaited c.args.self.now c.args.mode k c.awaited.result c.awaited.ensures)
