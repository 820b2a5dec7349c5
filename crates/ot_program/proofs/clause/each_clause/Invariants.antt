use Rattle.std.proofs.Common.{◌≡◌, drop}
use Rattle.serde_json.specs.View.{items_view}
use Rattle.ot_program.specs.walk.Reading.{each_of}
use Rattle.ot_program.specs.walk.Sizes.{bindings_of}
use Rattle.ot_program.specs.walk.Parts.{clause_of}
use Rattle.ot_program.proofs.Lists.{then_more}
use Rattle.ot_program.proofs.clause.each_clause.Given as goal

-- what was read, with what is left, is all
abbrev pub invariant-loop-item : goal.invariant-loop-item
invariant-loop-item l =
    then_more l.clauses (each_of (clause_of l.scope.shape.now l.scope.profile (bindings_of l.scope.variables.now)) (items_view (drop l.item-index l.items)))
    ≡ each_of (clause_of l.scope.shape.now l.scope.profile (bindings_of l.scope.variables.now)) (items_view l.items)
