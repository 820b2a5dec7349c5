use Rattle.std.proofs.Common.{rules, ◌≡◌, sym, subst, true, false, Bool}
use Rattle.std.proofs.lemmas.List.Sorted.{IsPartitionPoint-from_clause}
use Rattle.std.specs.List.Sorted.{IsPartitionedBy, IsPartitionPoint}
use Rattle.ot_model.specs.Cells.{is_before, AreInOrder}
use Rattle.ot_model.specs.declared.stmt.Use.{Use}
use Rattle.ot_model.proofs.OrderLemmas.{each_precedes}
use Rattle.ot_owner.proofs.PlaceLemmas.{parted_by_cell}
use Rattle.ot_owner.proofs.rows.Group.before.Goals as goal

pub returns : goal.returns
returns c =
    let before : Use → Bool = λ (u : Use). is_before u.cell c.args.cell in
    let uses = c.uses.result.now in
    let ordered : AreInOrder uses = subst AreInOrder (sym c.uses.ensures.uses) c.uses.ensures.ordered in
    let parted : IsPartitionedBy before uses = parted_by_cell (λ (u : Use). u.cell) uses c.args.cell (each_precedes uses ordered) in
    subst (λ xs. IsPartitionPoint (λ u. before u ≡ true) (λ u. before u ≡ false) xs c.partition_point.result) c.uses.ensures.uses
    (IsPartitionPoint-from_clause before uses c.partition_point.result c.partition_point.ensures.partitioned parted (λ a r q k. search rules))
