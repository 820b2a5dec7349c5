use Rattle.std.proofs.Common.{◌∙◌, sym}
use Rattle.ot_check.proofs.EqualLemmas.{rows-decide}
use Rattle.ot_check.proofs.job.same_cells.Goals as goal

pub returns : goal.returns
returns c =
    let same = rows-decide c.arrays.result.now c.arrays-2.result.now c.eq.result c.eq.ensures in
    ((λ yes. sym c.arrays.ensures ∙ same.0 yes ∙ c.arrays-2.ensures), λ is. same.1 (c.arrays.ensures ∙ is ∙ sym c.arrays-2.ensures))
