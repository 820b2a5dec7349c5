use Rattle.std.proofs.Common.{◌≡◌, ◌∙◌, map, take, ap, sym, subst, arith}
use Rattle.std.specs.Prelude.{option_map}
use Rattle.std.proofs.lemmas.List.{take_all}
use Rattle.ot_model.specs.Cells.{AreInOrder, mode_in}
use Rattle.ot_parts.specs.Modes.{Declared, as_held}
use Rattle.ot_parts.proofs.HoldingLemmas.{held-in_order, held-mode_in}
use Rattle.ot_parts.proofs.holding.held.Goals as goal

pub new-requires : goal.new-requires
new-requires c =
    let own : Declared = option_map (λ o. o.now) c.args.own in
    let all : take c.loop-used.used-index c.uses-uses.result.now ≡ c.uses-uses.result.now = take_all c.loop-used.used-index c.uses-uses.result.now (omega (arith, c.loop-used-test.false)) in
    let is : c.loop-used.held.items ≡ map (as_held own) c.args.uses.now = c.loop-used.invariant ∙ ap (map (as_held own)) (all ∙ c.uses-uses.ensures.uses) in
    subst AreInOrder (sym is) (held-in_order own c.args.uses.now c.uses-uses.ensures.ordered)

pub returns-clause-exact : goal.returns-clause-exact
returns-clause-exact c = λ cell.
    let own : Declared = option_map (λ o. o.now) c.args.own in
    let all : take c.loop-used.used-index c.uses-uses.result.now ≡ c.uses-uses.result.now = take_all c.loop-used.used-index c.uses-uses.result.now (omega (arith, c.loop-used-test.false)) in
    let is : c.loop-used.held.items ≡ map (as_held own) c.args.uses.now = c.loop-used.invariant ∙ ap (map (as_held own)) (all ∙ c.uses-uses.ensures.uses) in
    ap (λ us. mode_in us cell) (c.new.ensures ∙ is) ∙ held-mode_in own c.args.uses.now cell
