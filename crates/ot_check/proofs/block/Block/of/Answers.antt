use Rattle.std.proofs.Common.{◌||◌, ap, ◌∙◌}
use Rattle.ot_check.proofs.BlockLemmas.{block-none}
use Rattle.ot_check.proofs.block.Block.of.Goals as goal

pub returns : goal.returns
returns c = λ test. c.insert.ensures test ∙ ap (λ b. b || test c.args.user) (block-none test _ _)
