use Rattle.std.proofs.Common.{◌∙◌, ap, sym}
use Rattle.std.specs.Prelude.{option_map}
use Rattle.ot_parts.specs.Modes.{held_as, piece_touches}
use Rattle.ot_parts.specs.Parts.{condition_of, part_of}
use Rattle.ot_parts.proofs.HoldingLemmas.{held-strongest}
use Rattle.ot_parts.proofs.leading.Leading.of_part.Goals as goal

pub returns-clause-held : goal.returns-clause-held
returns-clause-held c = λ cell.
    let own = option_map (λ o. o.now) c.args.own in
    let m = part_of c.args.part.now in
    c.in_ok-hold.ensures.exact cell ∙ ap (option_map (held_as own cell)) (c.uses.ensures cell)
    ∙ sym (held-strongest own (piece_touches m.run (condition_of m.control)) cell)
