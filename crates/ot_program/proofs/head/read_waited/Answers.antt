use Rattle.serde_json.specs.View.{view}
use Rattle.ot_program.specs.walk.Sizes.{bindings_of}
use Rattle.ot_program.proofs.PartsFit.{read_wait_clauses_fit}
use Rattle.ot_program.proofs.head.read_waited.Goals as goal

pub declare-requires : goal.declare-requires
declare-requires c =
    let scope = c.args.scope.now in
    (read_wait_clauses_fit scope.shape.now c.arrays-arrays.ensures.short (bindings_of scope.variables.now) (view c.args.clauses.now)
    c.in_ok-clauses.clauses.items c.in_ok-clauses.ensures)
