use Rattle.std.proofs.Common.{◌∙◌, ap, subst}
use Rattle.std.specs.Prelude.{IfOk}
use Rattle.ot_c_overlap.specs.Overlaps.{IsFirstIn, writers_first}
use Rattle.ot_c_overlap.proofs.request.first_overlap.Goals as goal

pub returns : goal.returns
returns c =
    subst (λ xs. IfOk c.first_of.result (IsFirstIn xs)) (c.deref-2.ensures.value ∙ c.in_ok-ordered.ensures ∙ ap writers_first (c.deref.ensures.value ∙ c.in_ok-items.ensures))
    c.first_of.ensures
