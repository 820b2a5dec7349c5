use Rattle.std.proofs.Common.{rules, arith}
use Rattle.ot_why_fault.proofs.FormLemmas.{size_depth-three}
use Rattle.ot_why_fault.proofs.look.+depth.Goals as goal

pub depth_of_items-returns : goal.depth_of_items-returns
depth_of_items-returns t c =
    rw (size_depth-three c.args.items.now _ _ (search rules) c.one-item.is c.two-item.is) (omega arith)
