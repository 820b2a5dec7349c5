use Rattle.std.proofs.Common.{List, ℕ, ◌∷◌, ◌∙◌, ap}
use Rattle.ot_why_reason.specs.Places.{texts_of}
use Rattle.ot_why_reason.proofs.program.of_fault.Goals as goal

pub returns : goal.returns
returns c =
    let first = c.in_ok-at_line.ensures in
    let others = texts_of c.in_ok-reasons.reasons.items in (
      first.0,
      others,
      ap texts_of c.in_ok-insert.ensures.items ∙ ap (λ (text : List ℕ). text ∷ others) first.1,
    )
