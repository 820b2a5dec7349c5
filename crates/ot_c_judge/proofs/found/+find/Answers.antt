use Rattle.std.proofs.Common.{◌≡◌, ◌+◌, drop, refl, ap, ◌∙◌, subst, inl, inr, arith}
use Rattle.std.specs.Prelude.{option_map, Ok, Err}
use Rattle.ot_model.specs.View.{expr_of, stmt_of, stmts_of}
use Rattle.ot_model.specs.Tree.{size, size_one}
use Rattle.ot_check.specs.Offences.{Declared}
use Rattle.ot_check.proofs.Cited.{stmt_of-Set, stmt_of-Fold, stmt_of-If, stmt_of-Task, stmt_of-Wait, stmt_of-Group, rest_is, rest_none}
use Rattle.ot_c_judge.specs.Lacks.{stood_in_body}
use Rattle.ot_c_judge.specs.Fits.{Fits}
use Rattle.ot_c_judge.proofs.FoundLemmas.{found-here, follows_past, follows_other, found-first, found-next, found-now}
use Rattle.ot_c_judge.proofs.found.+find.Goals as goal

pub find_in-returns-in-Err-clause-found : goal.find_in-returns-in-Err-clause-found
find_in-returns-in-Err-clause-found t c =
    let own : Declared = option_map (λ d. d.now) c.args.own in
    let b = c.args.body.now.items in
    let rest = rest_is c.deref-stmt-items.result.now b c.loop-stmt.stmt-index c.stmt-item.result c.deref-stmt-items.ensures.value c.loop-stmt-test.true c.stmt-item.is in
    let more = stmts_of (drop (c.loop-stmt.stmt-index + 1) b) in
    c.loop-stmt.invariant.found ∙ ap (stood_in_body c.args.goal own c.loop-stmt.next) rest ∙ found-now c.args.goal own c.loop-stmt.next (stmt_of c.stmt-item.result) more _ c.in-Err.ensures.found

pub find_in-loop-stmt-preserved : goal.find_in-loop-stmt-preserved
find_in-loop-stmt-preserved t c =
    let own : Declared = option_map (λ d. d.now) c.args.own in
    let b = c.args.body.now.items in
    let rest = rest_is c.deref-stmt-items.result.now b c.loop-stmt.stmt-index c.stmt-item.result c.deref-stmt-items.ensures.value c.loop-stmt-test.true c.stmt-item.is in
    let x = stmt_of c.stmt-item.result in
    let more = stmts_of (drop (c.loop-stmt.stmt-index + 1) b) in
    let sizes : size (stmts_of (drop c.loop-stmt.stmt-index b)) ≡ size_one x + size more = ap size rest in record {
      next = omega (arith, sizes, c.loop-stmt.invariant.next, c.in-Ok.ensures.next);
      fits = (subst Fits rest c.loop-stmt.invariant.fits).1;
      found = c.loop-stmt.invariant.found
          ∙ ap (stood_in_body c.args.goal own c.loop-stmt.next) rest
          ∙ found-next c.args.goal own c.loop-stmt.next c.in-Ok.behind x more c.in-Ok.ensures.next c.in-Ok.ensures.found;
    }

pub find_in-returns-clause-found : goal.find_in-returns-clause-found
find_in-returns-clause-found t c =
    let own : Declared = option_map (λ d. d.now) c.args.own in
    let none = rest_none c.deref-stmt-items.result.now c.args.body.now.items c.loop-stmt.stmt-index c.deref-stmt-items.ensures.value c.loop-stmt-test.false in
    c.loop-stmt.invariant.found ∙ ap (stood_in_body c.args.goal own c.loop-stmt.next) none

pub find_one-returns-then-place-goal-clause-found : goal.find_one-returns-then-place-goal-clause-found
find_one-returns-then-place-goal-clause-found t c =
    let own : Declared = option_map (λ d. d.now) c.args.own in
    found-here c.args.goal own c.args.place (stmt_of c.args.stmt.now) c.if-place-goal.true

pub find_one-returns-in-Set-clause-found : goal.find_one-returns-in-Set-clause-found
find_one-returns-in-Set-clause-found t c =
    let own : Declared = option_map (λ d. d.now) c.args.own in
    elim c.in-Set.is [
      | inl is ↦ follows_past c.args.goal own c.args.place _ _ (Ok (c.args.place + 1)) c.if-place-goal.false (stmt_of-Set _ _ _ is.2) refl
      | inr is ↦ follows_past c.args.goal own c.args.place _ _ (Ok (c.args.place + 1)) c.if-place-goal.false (stmt_of-Fold _ _ _ _ is.3) refl
    ]

pub find_one-returns-in-Wait-clause-found : goal.find_one-returns-in-Wait-clause-found
find_one-returns-in-Wait-clause-found t c =
    let own : Declared = option_map (λ d. d.now) c.args.own in
    follows_past c.args.goal own c.args.place _ _ (Ok (c.args.place + 1)) c.if-place-goal.false (stmt_of-Wait _ _ c.in-Wait.is) refl

pub find_one-returns-in-Ok-clause-found : goal.find_one-returns-in-Ok-clause-found
find_one-returns-in-Ok-clause-found t c =
    let own : Declared = option_map (λ d. d.now) c.args.own in
    follows_past c.args.goal own c.args.place _ _ c.find_in-in-Ok.result c.if-place-goal.false (stmt_of-If _ _ _ _ c.in-If.is)
    (follows_other c.args.goal own c.args.place c.in-Ok.behind (expr_of c.in-If.field-0) (stmts_of c.in-If.one.items) (stmts_of c.in-If.two.items)
    c.find_in-in-Ok.result c.in-Ok.ensures.next c.in-Ok.ensures.found c.find_in-in-Ok.ensures.found)

pub find_one-returns-in-Err-clause-found : goal.find_one-returns-in-Err-clause-found
find_one-returns-in-Err-clause-found t c =
    let own : Declared = option_map (λ d. d.now) c.args.own in
    follows_past c.args.goal own c.args.place _ _ (Err c.in-Err.stood) c.if-place-goal.false (stmt_of-If _ _ _ _ c.in-If.is)
    (found-first c.args.goal own c.args.place (expr_of c.in-If.field-0) (stmts_of c.in-If.one.items) (stmts_of c.in-If.two.items) _ c.in-Err.ensures.found)

pub find_one-returns-in-Task-clause-found : goal.find_one-returns-in-Task-clause-found
find_one-returns-in-Task-clause-found t c =
    let own : Declared = option_map (λ d. d.now) c.args.own in
    follows_past c.args.goal own c.args.place _ _ c.find_in-in-Task.result c.if-place-goal.false (stmt_of-Task _ _ _ c.in-Task.is) c.find_in-in-Task.ensures.found

pub find_one-returns-in-Group-clause-found : goal.find_one-returns-in-Group-clause-found
find_one-returns-in-Group-clause-found t c =
    let own : Declared = option_map (λ d. d.now) c.args.own in
    follows_past c.args.goal own c.args.place _ _ c.find_in-in-Group.result c.if-place-goal.false (stmt_of-Group _ _ _ _ c.in-Group.is) c.find_in-in-Group.ensures.found
