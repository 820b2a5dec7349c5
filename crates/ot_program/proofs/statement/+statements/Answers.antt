use Rattle.std.proofs.Common.{◌+◌, ◌∷◌, refl, sym, rules, arith}
use Rattle.std.proofs.lemmas.Result.{err_from_is_err_and}
use Rattle.serde_json.specs.View.{view}
use Rattle.serde_json.specs.declared.value.Value.{the_lemmas}
use Rattle.ot_model.specs.Tree.{Task, Group}
use Rattle.ot_program.specs.walk.Sizes.{bindings_of}
use Rattle.ot_program.specs.walk.Statements.{condition_of, declared_of, grouped_of, body_in}
use Rattle.ot_program.proofs.Fronts.{added_behind_none, front_none, all_step, all_fails, all_ends, put_behind}
use Rattle.ot_program.proofs.Seen.{array_seen, stmt_of-If, stmt_of-Task, stmt_of-Group}
use Rattle.ot_program.proofs.Turns.{turns_step, turns_fail, turns_end}
use Rattle.ot_program.proofs.StatementForms.{no_list-body, no_list-one, no_form, form_wait, form_wait_for, form_set, form_add, form_task, form_group, no_form_of_three, form_fold, form_group_by, form_if, no_form_of_four, form_for, no_form_of_five}
use Rattle.ot_program.proofs.Conditions.{adds_refused, for_refused, body_fails_own, body_fails, body_reads, if_fails_condition, if_fails_first, if_fails_second, if_reads}
use Rattle.ot_program.proofs.statement.+statements.Goals as goal

pub read_body-returns-in-Array : goal.read_body-returns-in-Array
unfolding body_in
read_body-returns-in-Array t c = rw (array_seen _ _ _ c.in-Array.is c.deref.ensures.value) c.read_all.ensures

pub read_body-returns-in_default : goal.read_body-returns-in_default
read_body-returns-in_default t c = no_list-body _ _ _ _ _ _ c.in_default.not-Array

pub read_all-loop-statement-init : goal.read_all-loop-statement-init
read_all-loop-statement-init t c = front_none _ _

pub read_all-loop-statement-preserved : goal.read_all-loop-statement-preserved
read_all-loop-statement-preserved t c =
    let scope = c.args.scope.now in
    all_step _ _ _ scope.shape.now scope.profile scope.level (bindings_of scope.variables.now) c.args.items.now _ _ _ _ _
    c.loop-statement-test.true c.statement-item.is c.loop-statement.invariant c.in_default.ensures

pub read_all-returns-in-Err : goal.read_all-returns-in-Err
read_all-returns-in-Err t c =
    let scope = c.args.scope.now in
    all_fails _ _ scope.shape.now scope.profile scope.level (bindings_of scope.variables.now) c.args.items.now _ _ _ _ _
    c.loop-statement-test.true c.statement-item.is c.loop-statement.invariant c.in-Err.ensures

pub read_all-returns : goal.read_all-returns
read_all-returns t c =
    let scope = c.args.scope.now in
    all_ends _ _ scope.shape.now scope.profile scope.level (bindings_of scope.variables.now) c.args.items.now _ _ _
    c.loop-statement-test.false c.loop-statement.invariant

pub read_one-returns-in-Array : goal.read_one-returns-in-Array
read_one-returns-in-Array t c = rw (array_seen _ _ _ c.in-Array.is c.deref.ensures.value) c.read_form.ensures

pub read_one-returns-in_default : goal.read_one-returns-in_default
read_one-returns-in_default t c = no_list-one _ _ _ _ _ _ c.in_default.not-Array

pub read_form-returns-in-len1 : goal.read_form-returns-in-len1
read_form-returns-in-len1 t c =
    let scope = c.args.scope.now in
    rw (form_wait scope.shape.now scope.profile scope.level c.args.items.now (bindings_of scope.variables.now) c.args.counts.now _ (omega arith) c.tag-item.is) c.read_wait.ensures

pub read_form-returns-in-len2 : goal.read_form-returns-in-len2
read_form-returns-in-len2 t c =
    let scope = c.args.scope.now in
    rw (form_wait_for scope.shape.now scope.profile scope.level c.args.items.now (bindings_of scope.variables.now) c.args.counts.now _ _ (omega arith) c.tag-item-then-items-lt3.is c.clauses-item.is)
    c.read_wait_for.ensures

pub read_form-returns : goal.read_form-returns
read_form-returns t c =
    let scope = c.args.scope.now in
    no_form scope.shape.now scope.profile scope.level c.args.items.now (bindings_of scope.variables.now) c.args.counts.now
    (grind arith) (grind arith) c.if-items-eq3.false c.if-items-eq4.false c.if-items-eq5.false

pub take_turns-loop-number-init : goal.take_turns-loop-number-init
take_turns-loop-number-init t c = front_none _ _

pub take_turns-loop-number-preserved : goal.take_turns-loop-number-preserved
take_turns-loop-number-preserved t c =
    let scope = c.args.scope.now in
    turns_step _ _ _ (λ number. body_in scope.shape.now scope.profile (scope.level + 1) (view c.args.body.now) ((c.args.range.variable.now, number) ∷ bindings_of scope.variables.now))
    c.loop-number.number c.args.range.behind _ _ _ c.loop-number-test.true c.loop-number.invariant c.in_default.ensures

pub take_turns-returns-in-Err : goal.take_turns-returns-in-Err
take_turns-returns-in-Err t c =
    let scope = c.args.scope.now in
    turns_fail _ _ (λ number. body_in scope.shape.now scope.profile (scope.level + 1) (view c.args.body.now) ((c.args.range.variable.now, number) ∷ bindings_of scope.variables.now))
    c.loop-number.number c.args.range.behind _ _ _ c.loop-number-test.true c.loop-number.invariant c.in-Err.ensures

pub take_turns-returns : goal.take_turns-returns
take_turns-returns t c =
    let scope = c.args.scope.now in
    turns_end _ _ (λ number. body_in scope.shape.now scope.profile (scope.level + 1) (view c.args.body.now) ((c.args.range.variable.now, number) ∷ bindings_of scope.variables.now))
    c.loop-number.number c.args.range.behind _ _ c.loop-number-test.false c.loop-number.invariant

pub read_inner-returns : goal.read_inner-returns
read_inner-returns t c = added_behind_none c.new-statements.result.items _ _ _ c.new-statements.ensures.items c.in_ok-read_body.ensures

pub read_five-returns-then-not-is_word : goal.read_five-returns-then-not-is_word
read_five-returns-then-not-is_word t c =
    let scope = c.args.scope.now in
    no_form_of_five scope.shape.now scope.profile scope.level c.args.items.now (bindings_of scope.variables.now) c.args.counts.now _ c.requires
    c.tag-item.is (sym c.if-not-is_word.ensures)

pub read_five-returns-in_err-range : goal.read_five-returns-in_err-range
read_five-returns-in_err-range t c =
    let scope = c.args.scope.now in
    adds_refused _ _ _ c.from_residual.result c.in_err-range.field-0.0 _ c.from_residual.ensures.1
    (for_refused scope.shape.now scope.profile scope.level c.args.items.now (bindings_of scope.variables.now) _ _ _ _ _ _ _ c.requires
    c.tag-item.is c.variable-item.is c.first-item.is c.behind-item.is c.body-item.is (sym c.if-not-is_word.ensures) c.in_err-range.ensures.reads)

pub read_five-returns : goal.read_five-returns
read_five-returns t c =
    let scope = c.args.scope.now in
    rw (
      form_for scope.shape.now scope.profile scope.level c.args.items.now (bindings_of scope.variables.now) _ _ _ _ _ _ c.requires
          c.tag-item.is c.variable-item.is c.first-item.is c.behind-item.is c.body-item.is (sym c.if-not-is_word.ensures),
      c.in_ok-range.ensures.reads,
    )
    c.take_turns.ensures

pub read_four-returns-then-two_has : goal.read_four-returns-then-two_has
read_four-returns-then-two_has t c =
    let scope = c.args.scope.now in
    rw (form_fold scope.shape.now scope.profile scope.level c.args.items.now (bindings_of scope.variables.now) c.args.counts.now _ _ _ _ c.requires
    c.tag-item.is c.one-item.is c.two-item.is c.three-item.is (sym c.if-two_has.ensures)) c.fold_by.ensures

pub read_four-returns-then-two_has-2 : goal.read_four-returns-then-two_has-2
read_four-returns-then-two_has-2 t c =
    let scope = c.args.scope.now in
    rw (form_group_by scope.shape.now scope.profile scope.level c.args.items.now (bindings_of scope.variables.now) c.args.counts.now _ _ _ _ c.requires
    c.tag-item.is c.one-item.is c.two-item.is c.three-item.is (sym c.if-two_has.ensures) (sym c.if-two_has-2.ensures)) c.group_by.ensures

pub read_four-returns-then-not-is_word : goal.read_four-returns-then-not-is_word
read_four-returns-then-not-is_word t c =
    let scope = c.args.scope.now in
    no_form_of_four scope.shape.now scope.profile scope.level c.args.items.now (bindings_of scope.variables.now) c.args.counts.now _ c.requires
    c.tag-item.is (sym c.if-two_has.ensures) (sym c.if-two_has-2.ensures) (sym c.if-not-is_word.ensures)

pub read_four-read_inner-requires : goal.read_four-read_inner-requires
read_four-read_inner-requires t c = (search (rules, the_lemmas), c.in_ok-condition.ensures.shallow)

pub read_four-read_inner-requires-2 : goal.read_four-read_inner-requires-2
read_four-read_inner-requires-2 t c = (search (rules, the_lemmas), c.in_ok-condition.ensures.shallow)

pub read_four-returns-in_err-condition : goal.read_four-returns-in_err-condition
read_four-returns-in_err-condition t c =
    let scope = c.args.scope.now in
    let own = condition_of scope.shape.now (bindings_of scope.variables.now) scope.level (view c.one-item.result) (view c.two-item.result) (view c.three-item.result) in
    let one = body_in scope.shape.now scope.profile (scope.level + 1) (view c.two-item.result) (bindings_of scope.variables.now) in
    let two = body_in scope.shape.now scope.profile (scope.level + 1) (view c.three-item.result) (bindings_of scope.variables.now) in
    let p = err_from_is_err_and c.from_residual.result c.from_residual.ensures.1 in
    rw (
      p.1,
      p.2,
      form_if scope.shape.now scope.profile scope.level c.args.items.now (bindings_of scope.variables.now) c.args.counts.now _ _ _ _ c.requires
          c.tag-item.is c.one-item.is c.two-item.is c.three-item.is (sym c.if-two_has.ensures) (sym c.if-two_has-2.ensures) (sym c.if-not-is_word.ensures),
    )
    (if_fails_condition own one two c.args.counts.now _ c.in_err-condition.ensures.reads)

pub read_four-returns-in_err-first : goal.read_four-returns-in_err-first
read_four-returns-in_err-first t c =
    let scope = c.args.scope.now in
    let own = condition_of scope.shape.now (bindings_of scope.variables.now) scope.level (view c.one-item.result) (view c.two-item.result) (view c.three-item.result) in
    let one = body_in scope.shape.now scope.profile (scope.level + 1) (view c.two-item.result) (bindings_of scope.variables.now) in
    let two = body_in scope.shape.now scope.profile (scope.level + 1) (view c.three-item.result) (bindings_of scope.variables.now) in
    let p = err_from_is_err_and c.from_residual-in_err-first.result c.from_residual-in_err-first.ensures.1 in
    rw (
      p.1,
      p.2,
      form_if scope.shape.now scope.profile scope.level c.args.items.now (bindings_of scope.variables.now) c.args.counts.now _ _ _ _ c.requires
          c.tag-item.is c.one-item.is c.two-item.is c.three-item.is (sym c.if-two_has.ensures) (sym c.if-two_has-2.ensures) (sym c.if-not-is_word.ensures),
    )
    (if_fails_first own one two c.args.counts.now _ _ _ c.in_ok-condition.ensures.reads c.in_err-first.ensures)

pub read_four-returns-in_err-second : goal.read_four-returns-in_err-second
read_four-returns-in_err-second t c =
    let scope = c.args.scope.now in
    let own = condition_of scope.shape.now (bindings_of scope.variables.now) scope.level (view c.one-item.result) (view c.two-item.result) (view c.three-item.result) in
    let one = body_in scope.shape.now scope.profile (scope.level + 1) (view c.two-item.result) (bindings_of scope.variables.now) in
    let two = body_in scope.shape.now scope.profile (scope.level + 1) (view c.three-item.result) (bindings_of scope.variables.now) in
    let p = err_from_is_err_and c.from_residual-in_err-second.result c.from_residual-in_err-second.ensures.1 in
    rw (
      p.1,
      p.2,
      form_if scope.shape.now scope.profile scope.level c.args.items.now (bindings_of scope.variables.now) c.args.counts.now _ _ _ _ c.requires
          c.tag-item.is c.one-item.is c.two-item.is c.three-item.is (sym c.if-two_has.ensures) (sym c.if-two_has-2.ensures) (sym c.if-not-is_word.ensures),
    )
    (if_fails_second own one two c.args.counts.now _ _ _ _ _ c.in_ok-condition.ensures.reads c.in_ok-first.ensures c.in_err-second.ensures)

pub read_four-returns : goal.read_four-returns
read_four-returns t c =
    let scope = c.args.scope.now in
    let own = condition_of scope.shape.now (bindings_of scope.variables.now) scope.level (view c.one-item.result) (view c.two-item.result) (view c.three-item.result) in
    let one = body_in scope.shape.now scope.profile (scope.level + 1) (view c.two-item.result) (bindings_of scope.variables.now) in
    let two = body_in scope.shape.now scope.profile (scope.level + 1) (view c.three-item.result) (bindings_of scope.variables.now) in
    rw (
      form_if scope.shape.now scope.profile scope.level c.args.items.now (bindings_of scope.variables.now) c.args.counts.now _ _ _ _ c.requires
          c.tag-item.is c.one-item.is c.two-item.is c.three-item.is (sym c.if-two_has.ensures) (sym c.if-two_has-2.ensures) (sym c.if-not-is_word.ensures),
      if_reads own one two c.args.counts.now _ _ _ _ _ _ c.in_ok-condition.ensures.reads c.in_ok-first.ensures c.in_ok-second.ensures,
    )
    (record { added = _; is = refl; list = put_behind _ _ _ _ c.in_ok-push.ensures.items (stmt_of-If _ _ _) })

pub read_task-returns-in_err-decl : goal.read_task-returns-in_err-decl
read_task-returns-in_err-decl t c =
    let scope = c.args.scope.now in
    let p = err_from_is_err_and c.from_residual.result c.from_residual.ensures.1 in
    rw (p.1, p.2)
    (body_fails_own Task (declared_of scope.shape.now scope.profile (bindings_of scope.variables.now) scope.level (view c.args.clauses.now) (view c.args.body.now))
    (body_in scope.shape.now scope.profile (scope.level + 1) (view c.args.body.now) (bindings_of scope.variables.now)) c.args.counts.now _ c.in_err-decl.ensures.reads)

pub read_task-returns-in_err-inside : goal.read_task-returns-in_err-inside
read_task-returns-in_err-inside t c =
    let scope = c.args.scope.now in
    let p = err_from_is_err_and c.from_residual-in_err-inside.result c.from_residual-in_err-inside.ensures.1 in
    rw (p.1, p.2)
    (body_fails Task (declared_of scope.shape.now scope.profile (bindings_of scope.variables.now) scope.level (view c.args.clauses.now) (view c.args.body.now))
    (body_in scope.shape.now scope.profile (scope.level + 1) (view c.args.body.now) (bindings_of scope.variables.now)) c.args.counts.now _ _ _
    c.in_ok-decl.ensures.reads c.in_err-inside.ensures)

pub read_task-returns : goal.read_task-returns
read_task-returns t c =
    let scope = c.args.scope.now in
    rw (body_reads Task (declared_of scope.shape.now scope.profile (bindings_of scope.variables.now) scope.level (view c.args.clauses.now) (view c.args.body.now))
    (body_in scope.shape.now scope.profile (scope.level + 1) (view c.args.body.now) (bindings_of scope.variables.now)) c.args.counts.now _ _ _ _
    c.in_ok-decl.ensures.reads c.in_ok-inside.ensures)
    (record { added = _; is = refl; list = put_behind _ _ _ _ c.in_ok-push.ensures.items (stmt_of-Task _ _) })

pub read_group-returns-in_err-cells : goal.read_group-returns-in_err-cells
read_group-returns-in_err-cells t c =
    let scope = c.args.scope.now in
    let p = err_from_is_err_and c.from_residual.result c.from_residual.ensures.1 in
    rw (p.1, p.2)
    (body_fails_own (Group c.args.op) (grouped_of scope.shape.now (bindings_of scope.variables.now) scope.level (view c.args.sections.now) (view c.args.body.now))
    (body_in scope.shape.now scope.profile (scope.level + 1) (view c.args.body.now) (bindings_of scope.variables.now)) c.args.counts.now _ c.in_err-cells.ensures.reads)

pub read_group-returns-in_err-inside : goal.read_group-returns-in_err-inside
read_group-returns-in_err-inside t c =
    let scope = c.args.scope.now in
    let p = err_from_is_err_and c.from_residual-in_err-inside.result c.from_residual-in_err-inside.ensures.1 in
    rw (p.1, p.2)
    (body_fails (Group c.args.op) (grouped_of scope.shape.now (bindings_of scope.variables.now) scope.level (view c.args.sections.now) (view c.args.body.now))
    (body_in scope.shape.now scope.profile (scope.level + 1) (view c.args.body.now) (bindings_of scope.variables.now)) c.args.counts.now _ _ _
    c.in_ok-cells.ensures.reads c.in_err-inside.ensures)

pub read_group-returns : goal.read_group-returns
read_group-returns t c =
    let scope = c.args.scope.now in
    rw (body_reads (Group c.args.op) (grouped_of scope.shape.now (bindings_of scope.variables.now) scope.level (view c.args.sections.now) (view c.args.body.now))
    (body_in scope.shape.now scope.profile (scope.level + 1) (view c.args.body.now) (bindings_of scope.variables.now)) c.args.counts.now _ _ _ _
    c.in_ok-cells.ensures.reads c.in_ok-inside.ensures)
    (record { added = _; is = refl; list = put_behind _ _ _ _ c.in_ok-push.ensures.items (stmt_of-Group _ _ _) })

pub read_three-returns-then-is_word : goal.read_three-returns-then-is_word
read_three-returns-then-is_word t c =
    let scope = c.args.scope.now in
    rw (form_set scope.shape.now scope.profile scope.level c.args.items.now (bindings_of scope.variables.now) c.args.counts.now _ _ _ c.requires
    c.tag-item.is c.one-item.is c.two-item.is (sym c.if-is_word.ensures)) c.read_set.ensures

pub read_three-returns-then-is_word-2 : goal.read_three-returns-then-is_word-2
read_three-returns-then-is_word-2 t c =
    let scope = c.args.scope.now in
    rw (form_add scope.shape.now scope.profile scope.level c.args.items.now (bindings_of scope.variables.now) c.args.counts.now _ _ _ c.requires
    c.tag-item.is c.one-item.is c.two-item.is (sym c.if-is_word.ensures) (sym c.if-is_word-2.ensures)) c.read_fold.ensures

pub read_three-returns-then-is_word-3 : goal.read_three-returns-then-is_word-3
read_three-returns-then-is_word-3 t c =
    let scope = c.args.scope.now in
    rw (form_task scope.shape.now scope.profile scope.level c.args.items.now (bindings_of scope.variables.now) c.args.counts.now _ _ _ c.requires
    c.tag-item.is c.one-item.is c.two-item.is (sym c.if-is_word.ensures) (sym c.if-is_word-2.ensures) (sym c.if-is_word-3.ensures)) c.read_task.ensures

pub read_three-returns-then-one_has : goal.read_three-returns-then-one_has
read_three-returns-then-one_has t c =
    let scope = c.args.scope.now in
    rw (form_group scope.shape.now scope.profile scope.level c.args.items.now (bindings_of scope.variables.now) c.args.counts.now _ _ _ c.requires
    c.tag-item.is c.one-item.is c.two-item.is (sym c.if-is_word.ensures) (sym c.if-is_word-2.ensures) (sym c.if-is_word-3.ensures) (sym c.if-one_has.ensures)) c.read_group.ensures

pub read_three-returns : goal.read_three-returns
read_three-returns t c =
    let scope = c.args.scope.now in
    no_form_of_three scope.shape.now scope.profile scope.level c.args.items.now (bindings_of scope.variables.now) c.args.counts.now _ c.requires
    c.tag-item.is (sym c.if-is_word.ensures) (sym c.if-is_word-2.ensures) (sym c.if-is_word-3.ensures) (sym c.if-one_has.ensures)
