use Rattle.std.proofs.Common.{rules, sym, ◌∙◌}
use Rattle.std.proofs.lemmas.Result.{err_from_is_err_and}
use Rattle.serde_json.specs.View.{view}
use Rattle.ot_program.specs.walk.Sizes.{bindings_of}
use Rattle.ot_program.specs.walk.Parts.{sections_of}
use Rattle.ot_program.specs.walk.Statements.{list_of}
use Rattle.ot_program.proofs.PartsFit.{read_sections_fit}
use Rattle.ot_program.proofs.Joins.{join_reads, join_fails}
use Rattle.ot_program.proofs.head.read_grouped.Goals as goal

pub sections_cells-requires : goal.sections_cells-requires
sections_cells-requires c =
    let scope = c.args.scope.now in
    rw c.deref-2.ensures.value
    (read_sections_fit scope.shape.now c.arrays-arrays.ensures.short (bindings_of scope.variables.now) (view c.args.sections.now)
    c.in_ok-sections.sections.items
    (join_reads (λ v. v.items) c.read_sections.result c.map_err-list.result _ (c.in_ok-sections.sections, c.in_ok-sections.field-0-1)
    c.in_ok-sections.ensures c.read_sections.ensures))

pub returns-in_err-sections-clause-reads : goal.returns-in_err-sections-clause-reads
returns-in_err-sections-clause-reads c =
    let scope = c.args.scope.now in
    let p = err_from_is_err_and c.from_residual.result c.from_residual.ensures.1 in
    rw (p.1, p.2)
    (join_fails (λ v. v.items) (λ u. u) c.read_sections.result c.map_err-list.result
    (sections_of scope.shape.now (bindings_of scope.variables.now) (view c.args.sections.now)) (list_of (view c.args.body.now)) _ _
    (sym c.join.ensures ∙ c.in_err-sections.was) c.read_sections.ensures (search rules))
