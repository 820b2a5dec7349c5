use Rattle.ot_program.specs.walk.Sizes.{bindings_of}
use Rattle.ot_program.specs.walk.Parts.{clause_of}
use Rattle.ot_program.proofs.Lists.{part_put}
use Rattle.ot_program.proofs.clause.each_clause.Goals as goal

pub loop-item-preserved : goal.loop-item-preserved
loop-item-preserved c =
    rw (c.in_ok-put.ensures, c.read_clause.ensures)
    (part_put (clause_of c.args.scope.now.shape.now c.args.scope.now.profile (bindings_of c.args.scope.now.variables.now)) _ c.args.items.now _ _ _
    c.loop-item-test.true c.item-item.is c.loop-item.invariant)
