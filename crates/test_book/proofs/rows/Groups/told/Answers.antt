use Rattle.std.proofs.Common.{◌≡◌, ◌∙◌, sym, subst, arith}
use Rattle.std.specs.Prelude.{All, Any, IsSome}
use Rattle.ot_model.specs.Cells.{cell_of}
use Rattle.ot_model.specs.declared.expr.Cell.{Cell}
use Rattle.ot_owner.specs.Owning.{Summed, without}
use Rattle.test_book.proofs.TwoLemmas.{there, two-inner, two-there, two-closed, outer-open, outer-there}
use Rattle.test_book.proofs.rows.Groups.told.Goals as goal

pub at-requires : goal.at-requires
at-requires c = subst (λ (d : Cell). IsSome (cell_of c.self.inside.cells d)) (sym c.cell-first.ensures) (there c.self.inside.cells 0 c.self.invariant.1 (omega arith))

pub close_group-requires-clause-is_open : goal.close_group-requires-clause-is_open
close_group-requires-clause-is_open c = two-inner c.self.inside.op c.self.inside.owners.owned.groups c.self.invariant.0

pub close_group-requires-clause-there : goal.close_group-requires-clause-there
close_group-requires-clause-there c = two-there c.self.inside.cells 2 c.self.inside.op c.self.inside.owners.owned.groups c.self.invariant.1 c.self.invariant.0

pub close_group-requires-2-clause-is_open : goal.close_group-requires-2-clause-is_open
close_group-requires-2-clause-is_open c =
    let groups = c.self.inside.owners.owned.groups in
    subst (Any (λ (g : Summed). g.group ≡ 1)) (sym c.close_group.ensures.groups) (outer-open c.self.inside.op (without 2 groups) (two-closed c.self.inside.op groups c.self.invariant.0))

pub close_group-requires-2-clause-there : goal.close_group-requires-2-clause-there
close_group-requires-2-clause-there c =
    let groups = c.self.inside.owners.owned.groups in
    let cells = c.close_group.new.cells in
    subst (All (λ (g : Summed). g.group ≡ 1 → All (λ u. IsSome (cell_of cells u.cell)) g.uses)) (sym c.close_group.ensures.groups)
    (outer-there cells 1 c.self.inside.op (without 2 groups) (c.close_group.ensures.lengths ∙ c.self.invariant.1) (two-closed c.self.inside.op groups c.self.invariant.0))
