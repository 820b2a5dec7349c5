use Rattle.std.proofs.Common.{◌≡◌, ◌≤◌, ◌∙◌, ap, arith, length}
use Rattle.ot_hall.specs.Floors.{new_floor}
use Rattle.ot_core.proofs.OpeningLemmas.{scene-new, new-is}
use Rattle.ot_core.proofs.world.World.new.Goals as goal

pub invariant_of-result : goal.invariant_of-result
invariant_of-result c =
    let many : c.len.result ≡ length c.args.openings.items = omega (arith, c.len.ensures, c.args.openings.ok.0) in
    let few : length c.args.openings.items ≤ 64 = omega (arith, c.requires.few, c.args.openings.ok.0) in
    scene-new c.args.openings.items c.in_ok-open_books.field-0.items c.in_ok-hall.hall c.in_ok-empty_hands.field-0.items c.in_ok-open_books.ensures.are c.in_ok-open_books.ensures.sound
    (c.in_ok-hall.ensures ∙ ap new_floor many) c.in_ok-empty_hands.ensures few

pub returns : goal.returns
returns c =
    let many : c.len.result ≡ length c.args.openings.items = omega (arith, c.len.ensures, c.args.openings.ok.0) in
    new-is c.args.openings.items c.in_ok-open_books.field-0.items c.in_ok-hall.hall c.in_ok-empty_hands.field-0.items c.in_ok-open_books.ensures.are
    (c.in_ok-hall.ensures ∙ ap new_floor many) c.in_ok-empty_hands.ensures
