use Rattle.std.proofs.Common.{rules, ◌≡◌, ◌∙◌, ℕ, ◌∷◌, ◌-◌, Some, true, length, ap, sym, subst}
use Rattle.std.specs.List.{range_with_len}
use Rattle.std.proofs.lemmas.Result.{err_from_is_err_and}
use Rattle.ot_c_statements.specs.Tree.{For, stmt_of, course_of, body_of, list_of}
use Rattle.ot_c_statements.specs.declared.tree.Stmt.{the_lemmas}
use Rattle.ot_c_scope.specs.Results.{GivesAs}
use Rattle.ot_c_scope.specs.Scopes.{with_turn}
use Rattle.ot_why_place.specs.Spots.{trail_bindings}
use Rattle.ot_c_arrays.specs.Each.{each_or_refused}
use Rattle.ot_c_lines.specs.Lines.{lines_of, none}
use Rattle.ot_c_program.specs.Statements.{bounds_of, source_of, loop_turn}
use Rattle.ot_c_program.specs.Turns.{has_branch, turn_step, turned_from, turns_of}
use Rattle.ot_c_program.proofs.TurnLemmas.{body_more, body_fails, body_last, for_turns, turn_more, turn_fails, turn_last}
use Rattle.ot_c_program.proofs.turns.+turned.Goals as goal

pub turned_body-returns-in_err-lines : goal.turned_body-returns-in_err-lines
turned_body-returns-in_err-lines t c =
    let l = c.loop-stmt in
    let o = source_of c.args.course.now.source in
    let v = trail_bindings c.args.course.now.numbers in
    let p = err_from_is_err_and c.from_residual.result c.from_residual.ensures.1 in
    rw (p.1, p.2) (body_fails o v c.args.scope.now c.args.stmts.now l.stmt-index c.stmt-item.result (lines_of l.lines) (turned_from o v c.args.scope.now none (body_of (list_of c.args.stmts.now))) c.in_err-lines.field-0.0 c.loop-stmt-test.true c.stmt-item.is l.invariant c.in_err-lines.ensures)

pub turned_body-loop-stmt-preserved : goal.turned_body-loop-stmt-preserved
turned_body-loop-stmt-preserved t c =
    let l = c.loop-stmt in
    let o = source_of c.args.course.now.source in
    let v = trail_bindings c.args.course.now.numbers in
    body_more o v c.args.scope.now c.args.stmts.now l.stmt-index c.stmt-item.result (lines_of l.lines) (lines_of c.in_ok-lines.lines) (turned_from o v c.args.scope.now none (body_of (list_of c.args.stmts.now))) c.loop-stmt-test.true c.stmt-item.is l.invariant c.in_ok-lines.ensures

pub turned_body-returns : goal.turned_body-returns
turned_body-returns t c =
    let l = c.loop-stmt in
    let o = source_of c.args.course.now.source in
    let v = trail_bindings c.args.course.now.numbers in
    body_last o v c.args.scope.now c.args.stmts.now l.stmt-index (lines_of l.lines) (turned_from o v c.args.scope.now none (body_of (list_of c.args.stmts.now))) c.loop-stmt-test.false l.invariant

pub looped-returns-in_err-lines : goal.looped-returns-in_err-lines
looped-returns-in_err-lines t c =
    let l = c.loop-number in
    let inner = λ (k : ℕ). turned_from (source_of c.args.course.now.source) ((c.args.whole.name.now, k) ∷ trail_bindings c.args.course.now.numbers) c.args.around.now none (body_of (list_of c.args.stmts.now)) in
    let step = turn_step c.args.course.now.source.words c.args.whole.left (bounds_of c.args.whole.bounds.now) inner in
    let p = err_from_is_err_and c.from_residual.result c.from_residual.ensures.1 in
    rw (p.1, p.2) (turn_fails step l.number c.args.range.1 (lines_of l.lines) (each_or_refused step none (range_with_len c.args.range.0 (c.args.range.1 - c.args.range.0))) c.in_err-lines.field-0.0 c.loop-number-test.true l.invariant c.in_err-lines.ensures)

pub looped-loop-number-preserved : goal.looped-loop-number-preserved
looped-loop-number-preserved t c =
    let l = c.loop-number in
    let inner = λ (k : ℕ). turned_from (source_of c.args.course.now.source) ((c.args.whole.name.now, k) ∷ trail_bindings c.args.course.now.numbers) c.args.around.now none (body_of (list_of c.args.stmts.now)) in
    let step = turn_step c.args.course.now.source.words c.args.whole.left (bounds_of c.args.whole.bounds.now) inner in
    turn_more step l.number c.args.range.1 (lines_of l.lines) (lines_of c.in_ok-lines.lines) (each_or_refused step none (range_with_len c.args.range.0 (c.args.range.1 - c.args.range.0))) c.loop-number-test.true l.invariant c.in_ok-lines.ensures

pub looped-returns : goal.looped-returns
looped-returns t c =
    let l = c.loop-number in
    let inner = λ (k : ℕ). turned_from (source_of c.args.course.now.source) ((c.args.whole.name.now, k) ∷ trail_bindings c.args.course.now.numbers) c.args.around.now none (body_of (list_of c.args.stmts.now)) in
    let step = turn_step c.args.course.now.source.words c.args.whole.left (bounds_of c.args.whole.bounds.now) inner in
    turn_last step l.number c.args.range.1 (lines_of l.lines) (each_or_refused step none (range_with_len c.args.range.0 (c.args.range.1 - c.args.range.0))) c.loop-number-test.false l.invariant

pub turned-returns-in-Some-turns_of : goal.turned-returns-in-Some-turns_of
turned-returns-in-Some-turns_of t c =
    let o = source_of c.args.course.now.source in
    let v = trail_bindings c.args.course.now.numbers in
    let b = body_of (list_of c.in-For.inner.items) in
    let is : stmt_of c.args.stmt.now ≡ For c.in-For.left (course_of c.in-For.turns) b = ap stmt_of c.in-For.is ∙ search (rules, the_lemmas) in
    let known : turns_of (has_branch b) v (bounds_of c.in_ok-bounds-in-For.bounds) ≡ Some c.in-Some-turns_of.range =
    ap (λ ss. turns_of (has_branch (body_of (list_of ss))) v (bounds_of c.in_ok-bounds-in-For.bounds)) (sym c.deref-in-For.ensures.value)
    ∙ ap (λ some. turns_of some v (bounds_of c.in_ok-bounds-in-For.bounds)) (sym c.has_branch.ensures) ∙ sym c.turns_of.ensures.turns ∙ c.in-Some-turns_of.is in
    let around : c.in_ok-around-in-For.around ≡ with_turn c.args.scope.now (loop_turn (course_of c.in-For.turns) true) =
    c.in_ok-around-in-For.ensures ∙ ap (with_turn c.args.scope.now) c.turn_of.ensures in
    subst (GivesAs lines_of c.looped.result)
    (sym (for_turns o v c.args.scope.now c.in_ok-around-in-For.around (stmt_of c.args.stmt.now) c.in-For.left (course_of c.in-For.turns) b
    (bounds_of c.in_ok-bounds-in-For.bounds) c.in-Some-turns_of.range c.text.result.now is around c.text.ensures c.in_ok-bounds-in-For.ensures known))
    (subst
    (λ ss. GivesAs lines_of c.looped.result
    (each_or_refused
    (turn_step c.args.course.now.source.words c.in-For.left (bounds_of c.in_ok-bounds-in-For.bounds)
    (λ k. turned_from o ((c.text.result.now, k) ∷ v) c.in_ok-around-in-For.around none (body_of (list_of ss))))
    none (range_with_len c.in-Some-turns_of.range.0 (c.in-Some-turns_of.range.1 - c.in-Some-turns_of.range.0))))
    c.deref-in-Some-turns_of.ensures.value c.looped.ensures)
