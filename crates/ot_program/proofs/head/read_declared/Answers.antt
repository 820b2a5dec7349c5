use Rattle.std.proofs.Common.{rules, sym, ◌∙◌}
use Rattle.std.proofs.lemmas.Result.{err_from_is_err_and}
use Rattle.serde_json.specs.View.{view}
use Rattle.ot_program.specs.walk.Sizes.{bindings_of}
use Rattle.ot_program.specs.walk.Parts.{clauses_of}
use Rattle.ot_program.specs.walk.Statements.{list_of}
use Rattle.ot_program.proofs.PartsFit.{read_clauses_fit}
use Rattle.ot_program.proofs.Joins.{join_reads, join_fails}
use Rattle.ot_program.proofs.head.read_declared.Goals as goal

pub declare-requires : goal.declare-requires
declare-requires c =
    let scope = c.args.scope.now in
    (read_clauses_fit scope.shape.now c.arrays-arrays.ensures.short scope.profile (bindings_of scope.variables.now) (view c.args.clauses.now)
    c.in_ok-clauses.clauses.items
    (join_reads (λ v. v.items) c.read_clauses.result c.map_err-list.result _ (c.in_ok-clauses.clauses, c.in_ok-clauses.field-0-1)
    c.in_ok-clauses.ensures c.read_clauses.ensures))

pub returns-in_err-clauses-clause-reads : goal.returns-in_err-clauses-clause-reads
returns-in_err-clauses-clause-reads c =
    let scope = c.args.scope.now in
    let p = err_from_is_err_and c.from_residual.result c.from_residual.ensures.1 in
    rw (p.1, p.2)
    (join_fails (λ v. v.items) (λ u. u) c.read_clauses.result c.map_err-list.result
    (clauses_of scope.shape.now scope.profile (bindings_of scope.variables.now) (view c.args.clauses.now)) (list_of (view c.args.body.now)) _ _
    (sym c.join.ensures ∙ c.in_err-clauses.was) c.read_clauses.ensures (search rules))
