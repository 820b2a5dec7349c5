use Rattle.std.proofs.Common.{◌∙◌, sym}
use Rattle.std.proofs.lemmas.Slice.Eq.{slice_eq-Decides}
use Rattle.ot_model.proofs.EqualLemmas.{use-decides}
use Rattle.ot_model.proofs.stmt.Decl.same_as.Goals as goal

pub returns : goal.returns
returns c =
    let same = slice_eq-Decides use-decides c.as_slice.result.now c.as_slice-2.result.now c.eq.result c.eq.ensures in
    let one = c.as_slice.ensures.value ∙ c.self.view_is in
    let two = c.as_slice-2.ensures.value ∙ c.other.view_is in
    ((λ yes. sym one ∙ same.0 yes ∙ two), λ is. same.1 (one ∙ is ∙ sym two))
