use Rattle.std.proofs.Common.{rules, ◌≡◌, ◌∙◌, map, ap, subst}
use Rattle.std.specs.Prelude.{option_map}
use Rattle.std.specs.Arc.{arc_value}
use Rattle.std.proofs.lemmas.Result.{IfOk-weaker}
use Rattle.ot_model.specs.Cells.{mode_in}
use Rattle.ot_model.specs.declared.expr.Cell.{Cell}
use Rattle.ot_parts.specs.Modes.{Declared, as_held, held_as}
use Rattle.ot_parts.proofs.HoldingLemmas.{held-so}
use Rattle.ot_parts.proofs.holding.hold.Goals as goal

pub returns-then-are_held_so-clause-exact : goal.returns-then-are_held_so-clause-exact
returns-then-are_held_so-clause-exact c =
    let own : Declared = option_map (λ o. o.now) c.args.own in
    let us = arc_value c.args.uses.now in
    let is : c.uses.result.now ≡ us = c.uses.ensures.uses ∙ c.deref.ensures in
    let so : map (as_held own) us ≡ us = subst (λ l. map (as_held own) l ≡ l) is (c.are_held_so.ensures (search rules)) in
    IfOk-weaker c.try_clone.result (λ d. arc_value d ≡ us) (λ d. (x : Cell) → mode_in (arc_value d) x ≡ option_map (held_as own x) (mode_in us x))
    (λ d same. λ x. ap (λ l. mode_in l x) same ∙ held-so own us so x) c.try_clone.ensures
