use Rattle.std.proofs.Common.{◌<◌, length, ap, sym, ◌∙◌, subst, get_or, arith}
use Rattle.ot_model.specs.Cells.{AreInOrder}
use Rattle.ot_owner.specs.declared.lent.LentCell.{LentCell}
use Rattle.ot_owner.specs.Lending.{uses_of}
use Rattle.ot_owner.proofs.LentLemmas.{same-from_is_at}
use Rattle.ot_owner.proofs.OrderLemmas.{each_precedes}
use Rattle.ot_owner.proofs.PlaceLemmas.{place-there}
use Rattle.ot_owner.proofs.lent.Lent.place_near.Goals as goal

pub returns-then-eq-clause-place : goal.returns-then-eq-clause-place
returns-then-eq-clause-place c =
    let lent = c.args.self.now in
    let within : c.args.near < length c.self.inside.keyed.cells.items = omega (arith, c.self.inside.keyed.cells.ok.0) in
    let ordered : AreInOrder (uses_of lent) = subst (λ xs. AreInOrder (uses_of xs)) c.self.view_is c.self.invariant in
    place-there (λ (l : LentCell). l.cell) lent c.args.cell c.args.near c.index.result.now (each_precedes lent ordered) (rw (sym c.self.view_is) within)
    (c.index.ensures ∙ ap (λ xs. get_or xs c.args.near c.index.result.now) c.self.view_is)
    (same-from_is_at c.args.cell c.index.result.now (sym c.eq.ensures ∙ c.if-eq.true))
