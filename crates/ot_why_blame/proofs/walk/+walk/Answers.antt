use Rattle.std.proofs.Common.{◌≡◌, ◌+◌, not, IfOk, IfErr, drop, refl, sym, ap, ◌∙◌, subst, inl, inr, arith}
use Rattle.std.specs.Prelude.{◌==◌, Some, Err}
use Rattle.std.specs.Option.{option_or}
use Rattle.ot_model.specs.Tree.{S, If, Task, Wait, Group, size, size_one}
use Rattle.ot_model.specs.View.{expr_of, stmt_of, stmts_of}
use Rattle.ot_check.specs.Offences.{PassesOne, Passes, awaits}
use Rattle.ot_check.proofs.Cited.{if_ok, stmt_of-Set, stmt_of-Fold, stmt_of-If, stmt_of-Task, stmt_of-Wait, stmt_of-Group, rest_is, rest_none}
use Rattle.ot_check.specs.Discipline.{through}
use Rattle.ot_why_blame.specs.Walk.{Pending, pending_of, pending_carried, met_statement, Carries, Arrives, ArrivesOne}
use Rattle.ot_why_blame.proofs.WalkLemmas.{if_err, carries-set, carries-fold, carries-none, carries-first, carries-second, carries-task, carries-made, carries-wait, carries-group, carries-next, arrives-here, arrives-first, arrives-second, arrives-task, arrives-group, arrives-next, arrives-later}
use Rattle.ot_why_blame.proofs.FollowLemmas.{or-cases, if-cases, only-cases, declares_not, met-here, follows_past, follows_still, follows_other, follows_first, carried-next, met-next, met-first}
use Rattle.ot_why_blame.proofs.walk.+walk.Goals as goal

pub walk-returns-in-Err-clause-arrives : goal.walk-returns-in-Err-clause-arrives
walk-returns-in-Err-clause-arrives t c =
    let b = c.args.body.now.items in
    let rest = rest_is c.deref-stmt-items.result.now b c.loop-stmt.stmt-index c.stmt-item.result c.deref-stmt-items.ensures.value c.loop-stmt-test.true c.stmt-item.is in
    let x = stmt_of c.stmt-item.result in
    let more = stmts_of (drop (c.loop-stmt.stmt-index + 1) b) in
    let place = c.args.search.now.place in
    let here = stmt_of c.in-Err.arrived.stmt.now in
    let now = pending_of c.in-Err.arrived.child in
    let p = pending_of c.loop-stmt.behind.child in
    c.loop-stmt.invariant.2 place here now
    (subst (λ body. Arrives c.loop-stmt.behind.next body p place here now) (sym rest)
    (arrives-next c.loop-stmt.behind.next x more p place here now c.in-Err.ensures.arrives))

pub walk-returns-in-Err-clause-within : goal.walk-returns-in-Err-clause-within
walk-returns-in-Err-clause-within t c =
    let b = c.args.body.now.items in
    let rest = rest_is c.deref-stmt-items.result.now b c.loop-stmt.stmt-index c.stmt-item.result c.deref-stmt-items.ensures.value c.loop-stmt-test.true c.stmt-item.is in
    omega (arith, ap size rest, c.loop-stmt.invariant.0, c.in-Err.ensures.within)

pub walk-loop-stmt-preserved : goal.walk-loop-stmt-preserved
walk-loop-stmt-preserved t c =
    let b = c.args.body.now.items in
    let rest = rest_is c.deref-stmt-items.result.now b c.loop-stmt.stmt-index c.stmt-item.result c.deref-stmt-items.ensures.value c.loop-stmt-test.true c.stmt-item.is in
    let x = stmt_of c.stmt-item.result in
    let more = stmts_of (drop (c.loop-stmt.stmt-index + 1) b) in
    let k = c.loop-stmt.behind.next in
    let p = pending_of c.loop-stmt.behind.child in
    let q = pending_of c.in-Ok.now.child in
    let sizes : size (stmts_of (drop c.loop-stmt.stmt-index b)) ≡ size_one x + size more = ap size rest in (
      omega (arith, sizes, c.loop-stmt.invariant.0, c.in-Ok.ensures.place),
      λ now carries. c.loop-stmt.invariant.1 now
          (subst (λ body. Carries (Passes k body) p now) (sym rest)
          (carries-next k x more p q now c.in-Ok.ensures.carries
          (subst (λ n. Carries (Passes n more) q now) c.in-Ok.ensures.place carries))),
      λ place here now arrives. c.loop-stmt.invariant.2 place here now
          (subst (λ body. Arrives k body p place here now) (sym rest)
          (arrives-later k x more p q place here now c.in-Ok.ensures.carries
          (subst (λ n. Arrives n more q place here now) c.in-Ok.ensures.place arrives))),
      c.loop-stmt.invariant.3
          ∙ ap (pending_carried c.args.search.now.child p k) rest
          ∙ carried-next c.args.search.now.child p q k c.in-Ok.now.next x more c.in-Ok.ensures.follows.0 c.in-Ok.ensures.place,
      c.loop-stmt.invariant.4
          ∙ ap (met_statement c.args.search.now.place c.args.search.now.child p k) rest
          ∙ met-next c.args.search.now.place c.args.search.now.child p q k c.in-Ok.now.next x more c.in-Ok.ensures.follows.0 c.in-Ok.ensures.place c.in-Ok.ensures.follows.1,
    )

pub walk_group-returns-in-Ok-clause-carries : goal.walk_group-returns-in-Ok-clause-carries
walk_group-returns-in-Ok-clause-carries t c = λ op cells.
    let b = stmts_of c.args.body.now.items in
    elim (only-cases (λ d. through d b) (pending_of c.args.child) (pending_of c.kept.result) c.kept.ensures) [
      | inl none ↦ subst (λ q. Carries (PassesOne c.args.place (Group op cells b)) (pending_of c.args.child) q) (sym none) (carries-none c.args.place (Group op cells b) (pending_of c.args.child))
      | inr same ↦ subst (λ q. Carries (PassesOne c.args.place (Group op cells b)) (pending_of c.args.child) q) (sym same.0) (carries-group c.args.place op cells b (pending_of c.args.child) same.1)
    ]

pub walk_group-returns-in-Err-clause-arrives : goal.walk_group-returns-in-Err-clause-arrives
walk_group-returns-in-Err-clause-arrives t c = λ op cells.
    arrives-group c.args.place op cells (stmts_of c.args.body.now.items) (pending_of c.args.child) c.args.search.now.place
    (stmt_of c.in-Err.arrived.stmt.now) (pending_of c.in-Err.arrived.child) c.in-Err.ensures.arrives

pub walk_one-returns-then-place-search-clause-arrives : goal.walk_one-returns-then-place-search-clause-arrives
walk_one-returns-then-place-search-clause-arrives t c =
    let x = stmt_of c.args.stmt.now in
    let p = pending_of c.args.child in
    subst (λ place. ArrivesOne c.args.place x p place x p) c.if-place-search.true (arrives-here c.args.place x p)

pub walk_one-returns-in-Task-clause-carries : goal.walk_one-returns-in-Task-clause-carries
walk_one-returns-in-Task-clause-carries t c =
    subst (λ x. IfOk c.walk_task.result (λ behind. Carries (PassesOne c.args.place x) (pending_of c.args.child) (pending_of behind.child)))
    (sym (stmt_of-Task _ _ _ c.in-Task.is)) c.walk_task.ensures.carries

pub walk_one-returns-in-Task-clause-arrives : goal.walk_one-returns-in-Task-clause-arrives
walk_one-returns-in-Task-clause-arrives t c =
    subst (λ x. IfErr c.walk_task.result (λ at. ArrivesOne c.args.place x (pending_of c.args.child) c.args.search.now.place (stmt_of at.stmt.now) (pending_of at.child)))
    (sym (stmt_of-Task _ _ _ c.in-Task.is)) c.walk_task.ensures.arrives

pub walk_one-returns-in-Wait-clause-carries : goal.walk_one-returns-in-Wait-clause-carries
walk_one-returns-in-Wait-clause-carries t c =
    let k = c.args.place in
    let w = c.in-Wait.wait in
    let p = pending_of c.args.child in
    let Behind : S → Pending → Type 0 = λ x q. Carries (PassesOne k x) p q in
    elim (only-cases (λ d. not (awaits w d)) p (pending_of c.passed.result) c.passed.ensures) [
      | inl none ↦ subst (Behind (stmt_of c.args.stmt.now)) (sym none) (carries-none k (stmt_of c.args.stmt.now) p)
      | inr same ↦ subst (λ x. Behind x (pending_of c.passed.result)) (sym (stmt_of-Wait _ w c.in-Wait.is))
          (subst (Behind (Wait w)) (sym same.0) (carries-wait k w p (declares_not (awaits w) p same.1)))
    ]

pub walk_one-returns-in-Group-clause-carries : goal.walk_one-returns-in-Group-clause-carries
walk_one-returns-in-Group-clause-carries t c =
    subst (λ x. IfOk c.walk_group.result (λ behind. Carries (PassesOne c.args.place x) (pending_of c.args.child) (pending_of behind.child)))
    (sym (stmt_of-Group _ _ _ _ c.in-Group.is)) (c.walk_group.ensures.carries c.in-Group.field-0 c.in-Group.field-1.items)

pub walk_one-returns-in-Group-clause-arrives : goal.walk_one-returns-in-Group-clause-arrives
walk_one-returns-in-Group-clause-arrives t c =
    subst (λ x. IfErr c.walk_group.result (λ at. ArrivesOne c.args.place x (pending_of c.args.child) c.args.search.now.place (stmt_of at.stmt.now) (pending_of at.child)))
    (sym (stmt_of-Group _ _ _ _ c.in-Group.is)) (c.walk_group.ensures.arrives c.in-Group.field-0 c.in-Group.field-1.items)

pub walk_one-returns-in-Set-clause-carries : goal.walk_one-returns-in-Set-clause-carries
walk_one-returns-in-Set-clause-carries t c =
    let p = pending_of c.args.child in
    elim c.in-Set.is [
      | inl s ↦ subst (λ x. Carries (PassesOne c.args.place x) p p) (sym (stmt_of-Set _ _ _ s.2)) (carries-set c.args.place s.0 (expr_of s.1) p)
      | inr s ↦ subst (λ x. Carries (PassesOne c.args.place x) p p) (sym (stmt_of-Fold _ _ _ _ s.3)) (carries-fold c.args.place s.0 s.1 (expr_of s.2) p)
    ]

pub walk_task-returns-in-Ok-clause-carries : goal.walk_task-returns-in-Ok-clause-carries
walk_task-returns-in-Ok-clause-carries t c =
    let d = c.args.decl.now in
    let b = stmts_of c.args.body.now.items in
    let p = pending_of c.args.child in
    elim (if-cases (c.args.place == c.args.search.now.child) (Some (c.args.place, d)) p (pending_of c.made.result) c.made.ensures) [
      | inr same ↦ subst (λ q. Carries (PassesOne c.args.place (Task d b)) p q) (sym same) (carries-task c.args.place d b p)
      | inl made ↦ subst (λ q. Carries (PassesOne c.args.place (Task d b)) p q) (sym made) (carries-made c.args.place d b p)
    ]

pub walk_task-returns-in-Err-clause-arrives : goal.walk_task-returns-in-Err-clause-arrives
walk_task-returns-in-Err-clause-arrives t c =
    arrives-task c.args.place c.args.decl.now (stmts_of c.args.body.now.items) (pending_of c.args.child) c.args.search.now.place
    (stmt_of c.in-Err.arrived.stmt.now) (pending_of c.in-Err.arrived.child) c.in-Err.ensures.arrives

pub walk_one-returns-in-Ok-clause-carries : goal.walk_one-returns-in-Ok-clause-carries
walk_one-returns-in-Ok-clause-carries t c =
    let k = c.args.place in
    let e = expr_of c.in-If.field-0 in
    let a = stmts_of c.in-If.one.items in
    let b = stmts_of c.in-If.two.items in
    let p = pending_of c.args.child in
    let r = c.walk_other.result in
    subst (λ x. IfOk r (λ behind. Carries (PassesOne k x) p (pending_of behind.child))) (sym (stmt_of-If _ _ _ _ c.in-If.is))
    (if_ok r _ (λ behind. Carries (PassesOne k (If e a b)) p (pending_of behind.child))
    (λ behind way. elim way [
      | inl same ↦ subst (λ q. Carries (PassesOne k (If e a b)) p q) (sym same)
          (carries-first k e a b p (pending_of c.in-Ok.first.child) c.in-Ok.ensures.carries)
      | inr two ↦ carries-second k e a b p (pending_of behind.child)
          (subst (λ n. Carries (Passes n b) p (pending_of behind.child)) c.in-Ok.ensures.place two)
    ]) c.walk_other.ensures.carries)

pub walk_one-returns-in-Ok-clause-arrives : goal.walk_one-returns-in-Ok-clause-arrives
walk_one-returns-in-Ok-clause-arrives t c =
    let k = c.args.place in
    let e = expr_of c.in-If.field-0 in
    let a = stmts_of c.in-If.one.items in
    let b = stmts_of c.in-If.two.items in
    let p = pending_of c.args.child in
    let place = c.args.search.now.place in
    let r = c.walk_other.result in
    subst (λ x. IfErr r (λ at. ArrivesOne k x p place (stmt_of at.stmt.now) (pending_of at.child))) (sym (stmt_of-If _ _ _ _ c.in-If.is))
    (if_err r _ (λ at. ArrivesOne k (If e a b) p place (stmt_of at.stmt.now) (pending_of at.child))
    (λ at arrives. arrives-second k e a b p place (stmt_of at.stmt.now) (pending_of at.child)
    (subst (λ n. Arrives n b p place (stmt_of at.stmt.now) (pending_of at.child)) c.in-Ok.ensures.place arrives)) c.walk_other.ensures.arrives)

pub walk_one-returns-in-Err-clause-arrives : goal.walk_one-returns-in-Err-clause-arrives
walk_one-returns-in-Err-clause-arrives t c =
    let p = pending_of c.args.child in
    let place = c.args.search.now.place in
    let here = stmt_of c.in-Err.arrived.stmt.now in
    let now = pending_of c.in-Err.arrived.child in
    subst (λ x. ArrivesOne c.args.place x p place here now) (sym (stmt_of-If _ _ _ _ c.in-If.is))
    (arrives-first c.args.place (expr_of c.in-If.field-0) (stmts_of c.in-If.one.items) (stmts_of c.in-If.two.items) p place here now c.in-Err.ensures.arrives)

pub walk_other-returns-in-Ok-clause-carries : goal.walk_other-returns-in-Ok-clause-carries
walk_other-returns-in-Ok-clause-carries t c =
    elim (or-cases (pending_of c.in-Ok.second.child) (pending_of c.args.first.child) (pending_of c.either.result) c.either.ensures) [
      | inr first ↦ inl first
      | inl second ↦ inr (subst (λ q. Carries (Passes c.args.first.next (stmts_of c.args.body.now.items)) (pending_of c.args.child) q) (sym second) c.in-Ok.ensures.carries)
    ]

-- ---- the walk as it is defined

pub walk-returns-clause-follows : goal.walk-returns-clause-follows
walk-returns-clause-follows t c =
    let none = rest_none c.deref-stmt-items.result.now c.args.body.now.items c.loop-stmt.stmt-index c.deref-stmt-items.ensures.value c.loop-stmt-test.false in
    let s = c.args.search.now in
    let p = pending_of c.loop-stmt.behind.child in
    let k = c.loop-stmt.behind.next in
    (sym (c.loop-stmt.invariant.3 ∙ ap (pending_carried s.child p k) none), c.loop-stmt.invariant.4 ∙ ap (met_statement s.place s.child p k) none)

pub walk-returns-in-Err-clause-follows : goal.walk-returns-in-Err-clause-follows
walk-returns-in-Err-clause-follows t c =
    let b = c.args.body.now.items in
    let rest = rest_is c.deref-stmt-items.result.now b c.loop-stmt.stmt-index c.stmt-item.result c.deref-stmt-items.ensures.value c.loop-stmt-test.true c.stmt-item.is in
    let s = c.args.search.now in
    let p = pending_of c.loop-stmt.behind.child in
    let k = c.loop-stmt.behind.next in
    let more = stmts_of (drop (c.loop-stmt.stmt-index + 1) b) in
    c.loop-stmt.invariant.4 ∙ ap (met_statement s.place s.child p k) rest ∙ met-first s.place s.child p k (stmt_of c.stmt-item.result) more _ c.in-Err.ensures.follows

pub walk_one-returns-then-place-search-clause-follows : goal.walk_one-returns-then-place-search-clause-follows
walk_one-returns-then-place-search-clause-follows t c =
    let s = c.args.search.now in
    met-here s.place s.child (pending_of c.args.child) c.args.place (stmt_of c.args.stmt.now) c.if-place-search.true

pub walk_one-returns-in-Set-clause-follows : goal.walk_one-returns-in-Set-clause-follows
walk_one-returns-in-Set-clause-follows t c =
    let s = c.args.search.now in
    let p = pending_of c.args.child in
    elim c.in-Set.is [
      | inl is ↦ follows_still s p c.args.place _ _ (record { next = c.args.place + 1; child = c.args.child }) c.if-place-search.false (stmt_of-Set _ _ _ is.2) refl refl
      | inr is ↦ follows_still s p c.args.place _ _ (record { next = c.args.place + 1; child = c.args.child }) c.if-place-search.false (stmt_of-Fold _ _ _ _ is.3) refl refl
    ]

pub walk_one-returns-in-Ok-clause-follows : goal.walk_one-returns-in-Ok-clause-follows
walk_one-returns-in-Ok-clause-follows t c =
    let s = c.args.search.now in
    let p = pending_of c.args.child in
    follows_past s p c.args.place _ _ c.walk_other.result c.if-place-search.false (stmt_of-If _ _ _ _ c.in-If.is)
    (follows_other s p (pending_of c.in-Ok.first.child) c.args.place c.in-Ok.first.next (expr_of c.in-If.field-0) (stmts_of c.in-If.one.items) (stmts_of c.in-If.two.items)
    c.walk_other.result c.in-Ok.ensures.place c.in-Ok.ensures.follows.0 c.in-Ok.ensures.follows.1 c.walk_other.ensures.follows)

pub walk_one-returns-in-Err-clause-follows : goal.walk_one-returns-in-Err-clause-follows
walk_one-returns-in-Err-clause-follows t c =
    let s = c.args.search.now in
    let p = pending_of c.args.child in
    follows_past s p c.args.place _ _ (Err c.in-Err.arrived) c.if-place-search.false (stmt_of-If _ _ _ _ c.in-If.is)
    (follows_first s p c.args.place (expr_of c.in-If.field-0) (stmts_of c.in-If.one.items) (stmts_of c.in-If.two.items) _ c.in-Err.ensures.follows)

pub walk_one-returns-in-Task-clause-follows : goal.walk_one-returns-in-Task-clause-follows
walk_one-returns-in-Task-clause-follows t c =
    follows_past c.args.search.now (pending_of c.args.child) c.args.place _ _ c.walk_task.result c.if-place-search.false (stmt_of-Task _ _ _ c.in-Task.is) c.walk_task.ensures.follows

pub walk_one-returns-in-Wait-clause-follows : goal.walk_one-returns-in-Wait-clause-follows
walk_one-returns-in-Wait-clause-follows t c =
    follows_still c.args.search.now (pending_of c.args.child) c.args.place _ _ (record { next = c.args.place + 1; child = c.passed.result }) c.if-place-search.false (stmt_of-Wait _ _ c.in-Wait.is) c.passed.ensures refl

pub walk_one-returns-in-Group-clause-follows : goal.walk_one-returns-in-Group-clause-follows
walk_one-returns-in-Group-clause-follows t c =
    follows_past c.args.search.now (pending_of c.args.child) c.args.place _ _ c.walk_group.result c.if-place-search.false (stmt_of-Group _ _ _ _ c.in-Group.is)
    (c.walk_group.ensures.follows c.in-Group.field-0 c.in-Group.field-1.items)

pub walk_other-returns-in-Ok-clause-follows : goal.walk_other-returns-in-Ok-clause-follows
walk_other-returns-in-Ok-clause-follows t c =
    (c.either.ensures ∙ ap (λ p. option_or p (pending_of c.args.first.child)) c.in-Ok.ensures.follows.0, c.in-Ok.ensures.follows.1)

pub walk_task-returns-in-Ok-clause-follows : goal.walk_task-returns-in-Ok-clause-follows
walk_task-returns-in-Ok-clause-follows t c = (c.made.ensures, c.in-Ok.ensures.follows.1)

pub walk_group-returns-in-Ok-clause-follows : goal.walk_group-returns-in-Ok-clause-follows
walk_group-returns-in-Ok-clause-follows t c = λ op cells. (c.kept.ensures, c.in-Ok.ensures.follows.1)

pub walk_group-returns-in-Err-clause-follows : goal.walk_group-returns-in-Err-clause-follows
walk_group-returns-in-Err-clause-follows t c = λ op cells. c.in-Err.ensures.follows
