use Rattle.std.proofs.Common.{◌+◌, ◌-◌, ◌∷◌, map, drop}
use Rattle.serde_json.specs.View.{view, items_view}
use Rattle.ot_model.specs.View.{stmt_of}
use Rattle.ot_program.specs.walk.Sizes.{bindings_of}
use Rattle.ot_program.specs.walk.Statements.{body_in, all_in, turns}
use Rattle.ot_program.proofs.Fronts.{Front}
use Rattle.ot_program.proofs.statement.+statements.Given as goal

-- a front was read
abbrev pub invariant-read_all-loop-statement : goal.invariant-read_all-loop-statement
invariant-read_all-loop-statement l =
    Front (map stmt_of l.initial.out.items) (map stmt_of l.out.items)
    (all_in l.scope.shape.now l.scope.profile l.scope.level (items_view (drop l.statement-index l.items)) (bindings_of l.scope.variables.now) l.counts)
    (all_in l.scope.shape.now l.scope.profile l.scope.level (items_view l.items) (bindings_of l.scope.variables.now) l.initial.counts)

-- the turns so far were read
abbrev pub invariant-take_turns-loop-number : goal.invariant-take_turns-loop-number
invariant-take_turns-loop-number l =
    Front (map stmt_of l.initial.out.items) (map stmt_of l.out.items)
    (turns (λ number. body_in l.scope.shape.now l.scope.profile (l.scope.level + 1) (view l.body) ((l.range.variable.now, number) ∷ bindings_of l.scope.variables.now))
    l.number (l.range.behind - l.number) l.counts)
    (turns (λ number. body_in l.scope.shape.now l.scope.profile (l.scope.level + 1) (view l.body) ((l.range.variable.now, number) ∷ bindings_of l.scope.variables.now))
    l.range.first (l.range.behind - l.range.first) l.initial.counts)
