use Rattle.std.proofs.Common.{rules, Bool}
use Rattle.std.proofs.lemmas.List.Sorted.{IsPartitionPoint-from_clause}
use Rattle.std.specs.List.Sorted.{IsPartitionedBy}
use Rattle.ot_model.specs.Cells.{is_before}
use Rattle.ot_model.specs.declared.stmt.Use.{Use}
use Rattle.ot_parts.proofs.UseLemmas.{parted_by_cell}
use Rattle.ot_parts.proofs.held.place_of.Goals as goal

pub returns : goal.returns
returns c =
    let before : Use → Bool = λ (u : Use). is_before u.cell c.args.cell in
    let parted : IsPartitionedBy before c.args.list.now = parted_by_cell c.args.list.now c.args.cell c.requires in (
      c.partition_point.ensures.bound,
      IsPartitionPoint-from_clause before c.args.list.now c.partition_point.result c.partition_point.ensures.partitioned parted (λ a r q k. search rules),
    )
