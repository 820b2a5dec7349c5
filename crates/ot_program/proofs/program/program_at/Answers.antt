use Rattle.std.proofs.Common.{[], ◌++◌, List, Ok, rules, sym, ap, ◌∙◌, map}
use Rattle.std.proofs.lemmas.Result.{err_from_is_err_and}
use Rattle.serde_json.specs.View.{view}
use Rattle.ot_model.specs.Programs.{expanded_of}
use Rattle.ot_model.specs.Tree.{S}
use Rattle.ot_model.specs.View.{stmt_of}
use Rattle.ot_program.specs.walk.Parts.{sections_of}
use Rattle.ot_program.specs.walk.Statements.{shows_of, program_expanded, list_of}
use Rattle.ot_program.proofs.Joins.{Fails-then, join_gives, join_fails, gives_refused}
use Rattle.ot_program.proofs.ProgramForms.{program_fails_counts, program_fails_body, program_reads}
use Rattle.ot_program.proofs.ProgramsWalked.{program_counts}
use Rattle.ot_program.proofs.program.program_at.Goals as goal

pub invariant_of-result : goal.invariant_of-result
invariant_of-result c =
    let counts = program_counts c.args.shape.now c.args.profile (view c.args.body.now) _ _ _ _ _ _ c.none.ensures (ap (map stmt_of) c.new-statements.ensures.items)
    c.in_ok-counts.ensures c.in_ok-read_body.ensures in
    record { statements_are = counts.statements; tasks_are = counts.tasks; few = counts.few }

pub returns-in_err-shows : goal.returns-in_err-shows
returns-in_err-shows c =
    let shape = c.args.shape.now in
    let p = err_from_is_err_and c.from_residual.result c.from_residual.ensures.1 in
    rw (p.1, p.2)
    (Fails-then _ (shows_of shape (view c.args.shows.now) (view c.args.body.now)) _
    (join_fails (λ v. v.items) (λ u. u) c.read_sections.result c.map_err-list.result
    (sections_of shape [] (view c.args.shows.now)) (list_of (view c.args.body.now)) _ _
    (sym c.join.ensures ∙ c.in_err-shows.was) c.read_sections.ensures (search rules)))

pub returns-in_err-counts : goal.returns-in_err-counts
returns-in_err-counts c =
    let shape = c.args.shape.now in
    gives_refused expanded_of c.from_residual-in_err-counts.result c.in_err-counts.field-0.0 _ c.from_residual-in_err-counts.ensures.1
    (program_fails_counts shape c.args.profile (view c.args.shows.now) (view c.args.body.now) c.in_ok-shows.shows.items _
    (rw (← c.in_ok-shows.ensures) at (join_gives (λ v. v.items) (λ u. u) c.read_sections.result c.map_err-list.result
    (sections_of shape [] (view c.args.shows.now)) (list_of (view c.args.body.now)) c.read_sections.ensures (search rules)))
    (rw (c.none.ensures, c.cells.ensures, c.deref.ensures.value) at c.in_err-counts.ensures))

pub returns-in_err-read_body : goal.returns-in_err-read_body
returns-in_err-read_body c =
    let shape = c.args.shape.now in
    let p = err_from_is_err_and c.from_residual-in_err-read_body.result c.from_residual-in_err-read_body.ensures.1 in
    rw (p.1, p.2)
    (program_fails_body shape c.args.profile (view c.args.shows.now) (view c.args.body.now) c.in_ok-shows.shows.items c.in_ok-counts.counts _
    (rw (← c.in_ok-shows.ensures) at (join_gives (λ v. v.items) (λ u. u) c.read_sections.result c.map_err-list.result
    (sections_of shape [] (view c.args.shows.now)) (list_of (view c.args.body.now)) c.read_sections.ensures (search rules)))
    (rw (c.none.ensures, c.cells.ensures, c.deref.ensures.value) at c.in_ok-counts.ensures) c.in_err-read_body.ensures)

pub returns : goal.returns
returns c =
    let shape = c.args.shape.now in
    let added = c.in_ok-read_body.ensures in
    let all = sym (added.list ∙ ap (λ (ys : List S). ys ++ added.added) (ap (map stmt_of) c.new-statements.ensures.items)) in
    program_reads shape c.args.profile (view c.args.shows.now) (view c.args.body.now) c.in_ok-shows.shows.items c.in_ok-counts.counts _ _
    (rw (← c.in_ok-shows.ensures) at (join_gives (λ v. v.items) (λ u. u) c.read_sections.result c.map_err-list.result
    (sections_of shape [] (view c.args.shows.now)) (list_of (view c.args.body.now)) c.read_sections.ensures (search rules)))
    (rw (c.none.ensures, c.cells.ensures, c.deref.ensures.value) at c.in_ok-counts.ensures) added.is
    ∙ ap (λ (xs : List S). Ok (program_expanded c.in_ok-shows.shows.items (xs, c.read_body.new.counts))) all
