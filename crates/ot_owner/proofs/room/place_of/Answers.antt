use Rattle.std.proofs.Common.{rules, Bool}
use Rattle.std.proofs.lemmas.List.Sorted.{IsPartitionPoint-from_clause}
use Rattle.std.specs.List.Sorted.{IsPartitionedBy}
use Rattle.ot_model.specs.Cells.{is_before}
use Rattle.ot_model.specs.declared.stmt.Use.{Use}
use Rattle.ot_model.proofs.OrderLemmas.{each_precedes}
use Rattle.ot_owner.proofs.PlaceLemmas.{parted_by_cell}
use Rattle.ot_owner.proofs.room.place_of.Goals as goal

pub returns-clause-parts : goal.returns-clause-parts
returns-clause-parts c =
    let before : Use → Bool = λ (u : Use). is_before u.cell c.args.cell in
    let parted : IsPartitionedBy before c.args.uses.now = parted_by_cell (λ (u : Use). u.cell) c.args.uses.now c.args.cell (each_precedes c.args.uses.now c.requires) in
    IsPartitionPoint-from_clause before c.args.uses.now c.partition_point.result c.partition_point.ensures.partitioned parted (λ a r q k. search rules)
