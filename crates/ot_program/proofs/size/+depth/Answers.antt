use Rattle.std.proofs.Common.{rules, arith}
use Rattle.ot_program.proofs.SizeForms.{size_depth-three}
use Rattle.ot_program.proofs.size.+depth.Goals as goal

pub depth_of_parts-returns : goal.depth_of_parts-returns
depth_of_parts-returns t c =
    rw (size_depth-three c.args.items.now _ _ (search rules) c.one-item.is c.two-item.is) (omega arith)
