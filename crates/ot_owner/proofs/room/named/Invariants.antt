use Rattle.std.proofs.Common.{◌≡◌, ◌↔◌, take, All, Contains}
use Rattle.ot_model.specs.Cells.{AreInOrder}
use Rattle.ot_model.specs.declared.expr.Cell.{Cell}
use Rattle.ot_model.specs.declared.stmt.Mode.TheVariants.{Writes}
use Rattle.ot_owner.specs.Owning.{IsNamed}
use Rattle.ot_owner.proofs.room.named.Given as goal

abbrev pub invariant-loop-cell : goal.invariant-loop-cell
invariant-loop-cell l = record {
  ordered : AreInOrder l.uses.items;
  written : All (λ u. u.mode ≡ Writes) l.uses.items;
  named : (c : Cell) → IsNamed l.uses.items c ↔ Contains (take l.cell-index l.cell-items) c;
}
