use Rattle.std.proofs.Common.{◌∙◌, sym, ap}
use Rattle.std.specs.Prelude.{Some}
use Rattle.ot_c_overlap.specs.Claims.{claimed_section}
use Rattle.ot_c_overlap.proofs.claims.Claims.has_claimed.Goals as goal

pub returns-in-Some : goal.returns-in-Some
returns-in-Some c = λ same.
    ap (λ k. claimed_section c.args.self.now c.args.item.now.parent c.args.item.now.section.array k) (sym c.from-start.ensures)
    ∙ sym c.in-Some.ensures.value ∙ ap Some (c.are_same.ensures.same same)
