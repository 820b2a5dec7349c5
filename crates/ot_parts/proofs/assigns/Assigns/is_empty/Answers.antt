use Rattle.std.proofs.Common.{◌≡◌, ◌∙◌, ap, sym, subst}
use Rattle.std.specs.Prelude.{◌↔◌, IsTrue}
use Rattle.ot_model.specs.Tree.{Body, End}
use Rattle.ot_parts.specs.Parts.{leading}
use Rattle.ot_parts.proofs.LeadingLemmas.{leading-assigns, listed-none}
use Rattle.ot_parts.proofs.assigns.Assigns.is_empty.Goals as goal

pub returns-clause-is : goal.returns-clause-is
returns-clause-is c = subst (λ (b : Body). IsTrue c.is_empty.result ↔ b ≡ End) c.as_slice.ensures (listed-none c.is_empty.result c.as_slice.result.now c.is_empty.ensures)

pub returns-clause-only : goal.returns-clause-only
returns-clause-only c = ap leading (sym c.as_slice.ensures) ∙ leading-assigns c.as_slice.result.now ∙ c.as_slice.ensures
