use Rattle.ot_parts.proofs.ByteLemmas.{decided}
use Rattle.ot_parts.proofs.assigns.Assigns.same_as.Goals as goal

pub returns : goal.returns
returns c =
    decided c.same_bytes.result c.as_slice-one.result.now c.as_slice-two.result.now c.args.self.now c.args.other.now c.bytes.result.now c.bytes-2.result.now c.as_slice-one.ensures c.as_slice-two.ensures
    c.bytes.ensures c.bytes-2.ensures c.same_bytes.ensures
