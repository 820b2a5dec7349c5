use Rattle.std.proofs.Common.{rules}
use Rattle.ot_program.proofs.KeyOrder.{comes, parted, before_is}
use Rattle.std.proofs.lemmas.List.Sorted.{IsPartitionPoint-from_clause}
use Rattle.ot_program.proofs.declaration.place_of.Goals as goal

pub returns : goal.returns
returns c =
    let es = c.args.named.now.items in
    before_is c.args.key es c.partition_point.result (rw c.deref.ensures.value at c.partition_point.ensures.bound)
    (IsPartitionPoint-from_clause (comes c.args.key) es c.partition_point.result (rw c.deref.ensures.value at c.partition_point.ensures.partitioned) (parted c.args.key es c.requires) (λ a r q k. search rules))
