use Rattle.std.proofs.Common.{inl, inr, ◌≡◌, ◌+◌, ◌++◌, ◌&&◌, true, Some, drop, refl, sym, ap, subst, ◌∙◌, arith}
use Rattle.std.specs.Option.{option_or}
use Rattle.ot_model.specs.View.{expr_of, stmt_of, stmts_of}
use Rattle.ot_model.specs.Tree.{Set, Fold, If, size, size_one}
use Rattle.ot_model.specs.Names.{NamedIn}
use Rattle.ot_check.specs.Discipline.{anyone, behind, behind_one, is_marked, nobody, nothing_open, through, through_one, with_group}
use Rattle.ot_check.specs.walk.Walk.{ending_offence, first, first_one, first_within, leading, offence_at}
use Rattle.ot_sets.specs.Sets.{bit_in, has}
use Rattle.ot_check.specs.walk.States.{IsBehind, Leads, is_open, lens_of}
use Rattle.ot_check.proofs.TellingLemmas.{first_one-parts, or-assoc, or-none}
use Rattle.ot_check.proofs.WalkLemmas.{stmt_of-Set, stmt_of-Fold, stmt_of-If, stmt_of-Task, stmt_of-Wait, stmt_of-Group, leads-as, within-as, rest_is, rest_none}
use Rattle.ot_check.proofs.RegionLemmas.{and_bits, begun-again, behind-here, behind-then, behind-if, behind-child, behind-task, behind-group, behind-same, leads-none, stands-first, stands-grouped}
use Rattle.ot_check.proofs.Bits.{and_one}
use Rattle.ot_check.proofs.walk.+walk.Goals as goal

pub walk-loop-stmt-init : goal.walk-loop-stmt-init
walk-loop-stmt-init t c = (
  refl,
  refl,
  c.requires.named,
  omega arith,
  λ own opened children decls h. (
    children,
    λ d. true,
    behind-here own opened children (λ k d. has c.args.standing.now.region.unawaited k && true) decls c.args.standing.now h
        (λ k d is. sym (and_one (has c.args.standing.now.region.unawaited k))),
    refl,
    λ test. refl,
    λ d. refl,
  ),
)

pub walk-loop-stmt-preserved : goal.walk-loop-stmt-preserved
walk-loop-stmt-preserved t c =
    let b = c.args.body.now.items in
    let rest = rest_is c.deref-stmt-items.result.now b c.loop-stmt.stmt-index c.stmt-item.result c.deref-stmt-items.ensures.value c.loop-stmt-test.true c.stmt-item.is in
    let x = stmt_of c.stmt-item.result in
    let more = stmts_of (drop (c.loop-stmt.stmt-index + 1) b) in
    let both = subst (NamedIn (lens_of c.loop-stmt.standing)) rest c.loop-stmt.invariant.2 in
    let sizes : size (stmts_of (drop c.loop-stmt.stmt-index b)) ≡ size_one x + size more = ap size rest in (
      c.in_ok-one.ensures.lens ∙ c.loop-stmt.invariant.0,
      omega (arith, sizes, c.loop-stmt.invariant.1, c.in_ok-one.ensures.place),
      subst (λ lens. NamedIn lens more) (sym c.in_ok-one.ensures.lens) both.1,
      omega (arith, c.loop-stmt.invariant.3, c.in_ok-one.ensures.counted),
      λ own opened children decls h.
          let q = c.loop-stmt.invariant.4 own opened children decls h in
          let one = c.in_ok-one.ensures.behind own opened q.0 (decls ++ q.2.later) q.2.stands in (
            behind_one q.0 x,
            λ d. q.1 d && through_one d x,
            behind-then own opened q.0 (behind_one q.0 x) (has c.args.standing.now.region.unawaited) q.1 (λ d. through_one d x) decls c.loop-stmt.standing c.walk_one.new.standing q.2 one,
            q.3 ∙ ap (λ r. option_or c.loop-stmt.told (first own opened q.0 c.loop-stmt.next r)) rest
                ∙ sym (or-assoc c.loop-stmt.told (first_one own opened q.0 c.loop-stmt.next x) (first own opened (behind_one q.0 x) (c.loop-stmt.next + size_one x) more))
                ∙ ap (λ o. option_or (option_or c.loop-stmt.told o) (first own opened (behind_one q.0 x) (c.loop-stmt.next + size_one x) more))
                (sym (c.in_ok-one.ensures.told own opened q.0 (decls ++ q.2.later) q.2.stands))
                ∙ ap (λ o. option_or o (first own opened (behind_one q.0 x) (c.loop-stmt.next + size_one x) more)) (sym c.earlier-told.ensures)
                ∙ ap (λ n. option_or c.earlier-told.result (first own opened (behind_one q.0 x) n more)) (sym c.in_ok-one.ensures.place),
            λ test. q.4 test ∙ ap (λ r. behind q.0 r test) rest,
            λ d. q.5 d ∙ ap (λ r. q.1 d && through d r) rest ∙ sym (and_bits (q.1 d) (through_one d x) (through d more)),
          ),
    )

pub walk-returns-clause-told : goal.walk-returns-clause-told
walk-returns-clause-told t c = λ own opened children decls h.
    let none = rest_none c.deref-stmt-items.result.now c.args.body.now.items c.loop-stmt.stmt-index c.deref-stmt-items.ensures.value c.loop-stmt-test.false in
    let q = c.loop-stmt.invariant.4 own opened children decls h in
    sym (q.3 ∙ ap (λ r. option_or c.loop-stmt.told (first own opened q.0 c.loop-stmt.next r)) none ∙ or-none c.loop-stmt.told)

pub walk-returns-clause-behind : goal.walk-returns-clause-behind
walk-returns-clause-behind t c = λ own opened children decls h.
    let b = stmts_of c.args.body.now.items in
    let none = rest_none c.deref-stmt-items.result.now c.args.body.now.items c.loop-stmt.stmt-index c.deref-stmt-items.ensures.value c.loop-stmt-test.false in
    let q = c.loop-stmt.invariant.4 own opened children decls h in
    behind-same own opened q.0 (behind children b) (has c.args.standing.now.region.unawaited) q.1 (λ d. through d b) decls c.loop-stmt.standing
    (λ test. sym (q.4 test ∙ ap (λ r. behind q.0 r test) none))
    (λ d. sym (q.5 d ∙ ap (λ r. q.1 d && through d r) none ∙ and_one (q.1 d))) q.2

pub walk_group-returns-clause-told : goal.walk_group-returns-clause-told
walk_group-returns-clause-told t c = λ own opened children decls h.
    c.in_ok-walked.ensures.told own (with_group opened c.args.op c.args.cells.now) children decls
    (stands-grouped own opened children decls c.args.op c.args.cells.now c.args.standing.now c.begin_group.new.self h
    c.in_ok-outside.ensures.own c.in_ok-outside.ensures.same c.in_ok-outside.ensures.tasks c.in_ok-outside.ensures.entered)

pub walk_group-returns-clause-behind : goal.walk_group-returns-clause-behind
walk_group-returns-clause-behind t c = λ own opened children decls h.
    let b = stmts_of c.args.body.now.items in
    let grouped = with_group opened c.args.op c.args.cells.now in
    let body = c.in_ok-walked.ensures.behind own grouped children decls
    (stands-grouped own opened children decls c.args.op c.args.cells.now c.args.standing.now c.begin_group.new.self h
    c.in_ok-outside.ensures.own c.in_ok-outside.ensures.same c.in_ok-outside.ensures.tasks c.in_ok-outside.ensures.entered) in
    behind-group own opened grouped children (behind children b) (λ d. through d b) decls c.args.standing.now c.walk.new.standing c.end_group.new.self
    c.in_ok-outside.outside.passed c.in_ok-outside.ensures.passed h
    (subst (λ n. IsBehind own grouped (behind children b) (λ k d. has n k && through d b) decls c.walk.new.standing) c.in_ok-outside.ensures.same body)
    c.end_group.ensures.own (λ o cell. ap (λ opened. is_open opened o cell) c.end_group.ensures.opened ∙ c.in_ok-outside.ensures.opened o cell)
    c.end_group.ensures.below c.end_group.ensures.rest c.end_group.ensures.tasks

pub walk_one-returns-clause-told : goal.walk_one-returns-clause-told
walk_one-returns-clause-told t c = λ own opened children decls h.
    let x = stmt_of c.args.stmt.now in
    c.earlier.ensures
    ∙ ap (λ o. option_or o c.in_ok-within.within.first) (c.at.ensures ∙ ap (offence_at c.args.place) (c.own_offence-own.ensures own opened children decls h))
    ∙ ap (option_or (offence_at c.args.place (leading (is_marked own opened children x)))) (c.in_ok-within.ensures.told own opened children decls h)
    ∙ sym (first_one-parts own opened children c.args.place x)

pub walk_task-returns-clause-told : goal.walk_task-returns-clause-told
walk_task-returns-clause-told t c = λ own opened children decls h.
    let b = stmts_of c.args.body.now.items in
    let begun = stands-first (Some c.args.decl.now) decls c.begin_task.new.self c.args.standing.now.tasks c.in_ok-outer.ensures.begun c.begin_task.ensures.tasks h.known in
    let body = c.in_ok-walked.ensures.behind (Some c.args.decl.now) nothing_open nobody decls begun in
    c.earlier.ensures
    ∙ ap (λ o. option_or o c.in_ok-walked.walked.first) (c.at.ensures ∙ ap (offence_at c.args.place) (c.ended.ensures
    ∙ ap ending_offence (c.has_children-left.ensures (Some c.args.decl.now) nothing_open (behind nobody b) (decls ++ body.later) body.stands)))
    ∙ ap (option_or (offence_at c.args.place (ending_offence (behind nobody b anyone))))
    (c.in_ok-walked.ensures.told (Some c.args.decl.now) nothing_open nobody decls begun)

pub walk_task-returns-clause-behind : goal.walk_task-returns-clause-behind
walk_task-returns-clause-behind t c = λ own opened children decls h.
    behind-task own _ opened nothing_open children (behind nobody (stmts_of c.args.body.now.items)) _ c.args.decl.now decls
    c.args.standing.now c.walk.new.standing c.end_task.new.self c.in_ok-outer.outer h
    (c.in_ok-walked.ensures.behind _ nothing_open nobody decls
    (stands-first (Some c.args.decl.now) decls c.begin_task.new.self c.args.standing.now.tasks c.in_ok-outer.ensures.begun c.begin_task.ensures.tasks h.known))
    c.in_ok-outer.ensures.outer
    (λ decls h. behind-child own opened children decls c.args.decl.now c.in_ok-outer.outer c.walk.new.standing.tasks c.end_task.new.self h
    c.end_task.ensures.own c.end_task.ensures.opened c.in_ok-end_task.ensures.child (c.in_ok-end_task.ensures.known decls h.known))

pub walk_within-returns-in_ok-end_other-in-If-clause-told : goal.walk_within-returns-in_ok-end_other-in-If-clause-told
walk_within-returns-in_ok-end_other-in-If-clause-told t c = λ own opened children decls h.
    let a = stmts_of c.in-If.one.items in
    let b = stmts_of c.in-If.two.items in
    let is : stmt_of c.args.stmt.now ≡ If (expr_of c.in-If.field-0) a b = stmt_of-If _ _ _ _ c.in-If.is in
    let way = c.in_ok-first-in-If.ensures.behind own opened children decls h in
    let begun = begun-again own opened children (behind children a) _ decls c.args.standing.now c.walk.new.standing c.begin_other-behind_first.new.self c.in_ok-before-in-If.before h way
    (λ k. ap (λ words. bit_in words k) c.in_ok-before-in-If.ensures) c.begin_other-behind_first.ensures.before in
    c.earlier.ensures
    ∙ ap (λ o. option_or o c.in_ok-second-in-If.second.first) (c.in_ok-first-in-If.ensures.told own opened children decls h)
    ∙ ap (option_or (first own opened children (c.args.place + 1) a))
    (c.in_ok-second-in-If.ensures.told own opened children (decls ++ way.later) begun ∙ ap (λ k. first own opened children k b) c.in_ok-first-in-If.ensures.place)
    ∙ ap (first_within own opened children c.args.place) (sym is)

pub walk_within-returns-in_ok-end_other-in-If-clause-behind : goal.walk_within-returns-in_ok-end_other-in-If-clause-behind
walk_within-returns-in_ok-end_other-in-If-clause-behind t c = λ own opened children decls h.
    let a = stmts_of c.in-If.one.items in
    let b = stmts_of c.in-If.two.items in
    let is : stmt_of c.args.stmt.now ≡ If (expr_of c.in-If.field-0) a b = stmt_of-If _ _ _ _ c.in-If.is in
    subst (λ x. IsBehind own opened (behind_one children x) (λ k d. has c.args.standing.now.region.unawaited k && through_one d x) decls c.end_other.new.self) (sym is)
    (behind-if own opened children (behind children a) (behind children b) (λ d. through d a) (λ d. through d b) decls
    c.args.standing.now c.walk.new.standing c.begin_other-behind_first.new.self c.walk-in-If.new.standing c.end_other.new.self
    c.in_ok-before-in-If.before c.begin_other-behind_first.result h (c.in_ok-first-in-If.ensures.behind own opened children decls h)
    (λ k. ap (λ words. bit_in words k) c.in_ok-before-in-If.ensures) c.begin_other-behind_first.ensures.before
    (λ decls. c.in_ok-second-in-If.ensures.behind own opened children decls) c.begin_other-behind_first.ensures.behind
    c.end_other.ensures.own c.end_other.ensures.opened c.in_ok-end_other-in-If.ensures.both c.end_other.ensures.tasks)

pub walk_within-returns-in-Task-clause-told : goal.walk_within-returns-in-Task-clause-told
walk_within-returns-in-Task-clause-told t c = within-as c.walk_task.result _ _ _ _ (stmt_of-Task _ _ _ c.in-Task.is) c.walk_task.ensures.told

pub walk_within-returns-in-Task-clause-behind : goal.walk_within-returns-in-Task-clause-behind
walk_within-returns-in-Task-clause-behind t c = leads-as c.walk_task.result _ _ _ _ (stmt_of-Task _ _ _ c.in-Task.is) c.walk_task.ensures.behind

pub walk_within-returns-in-Wait-clause-behind : goal.walk_within-returns-in-Wait-clause-behind
walk_within-returns-in-Wait-clause-behind t c =
    let is = stmt_of-Wait _ _ c.in-Wait.is in
    subst (λ x. Leads c.args.standing.now c.await_children.new.self (λ children. behind_one children x) (λ d. through_one d x)) (sym is) c.await_children.ensures.behind

pub walk_within-returns-in-Group-clause-behind : goal.walk_within-returns-in-Group-clause-behind
walk_within-returns-in-Group-clause-behind t c = leads-as c.walk_group.result _ _ _ _ (stmt_of-Group _ _ _ _ c.in-Group.is) c.walk_group.ensures.behind

pub walk_within-returns-in-Set-clause-behind : goal.walk_within-returns-in-Set-clause-behind
walk_within-returns-in-Set-clause-behind t c =
    elim c.in-Set.is [
      | inl p ↦
          let is : stmt_of c.args.stmt.now ≡ Set p.0 (expr_of p.1) = stmt_of-Set _ _ _ p.2 in
          subst (λ x. Leads c.args.standing.now c.args.standing.now (λ children. behind_one children x) (λ d. through_one d x)) (sym is) (leads-none c.args.standing.now)
      | inr p ↦
          let is : stmt_of c.args.stmt.now ≡ Fold p.0 p.1 (expr_of p.2) = stmt_of-Fold _ _ _ _ p.3 in
          subst (λ x. Leads c.args.standing.now c.args.standing.now (λ children. behind_one children x) (λ d. through_one d x)) (sym is) (leads-none c.args.standing.now)
    ]

pub walk_within-returns-in-Set-2-clause-behind : goal.walk_within-returns-in-Set-2-clause-behind
walk_within-returns-in-Set-2-clause-behind t c =
    elim c.in-Set.is [
      | inl p ↦
          let is : stmt_of c.args.stmt.now ≡ Set p.0 (expr_of p.1) = stmt_of-Set _ _ _ p.2 in
          subst (λ x. Leads c.args.standing.now c.args.standing.now (λ children. behind_one children x) (λ d. through_one d x)) (sym is) (leads-none c.args.standing.now)
      | inr p ↦
          let is : stmt_of c.args.stmt.now ≡ Fold p.0 p.1 (expr_of p.2) = stmt_of-Fold _ _ _ _ p.3 in
          subst (λ x. Leads c.args.standing.now c.args.standing.now (λ children. behind_one children x) (λ d. through_one d x)) (sym is) (leads-none c.args.standing.now)
    ]
