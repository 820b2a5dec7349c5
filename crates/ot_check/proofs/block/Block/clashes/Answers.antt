use Rattle.std.proofs.Common.{ap, ◌∙◌, arith, not, ◌==◌}
use Rattle.std.specs.Prelude.{bit_and}
use Rattle.ot_sets.specs.Sets.{words_of}
use Rattle.ot_check.proofs.ClashLemmas.{block-clash}
use Rattle.ot_check.proofs.block.Block.clashes.Goals as goal

pub returns : goal.returns
returns c =
    ap (λ among. not (bit_and among c.against.result == 0)) c.word.ensures
    ∙ block-clash (words_of c.args.tasks.now) c.args.self.now c.args.mode c.against.result (omega (arith, c.against.type_inv)) c.against.ensures
