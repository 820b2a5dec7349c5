use Rattle.std.proofs.Common.{rules, arith, ◌≡◌, ◌∙◌, ◌<◌, ◌+◌, [], ◌∷◌, ◌++◌, drop, length, get_or, sym, ap, subst}
use Rattle.std.proofs.lemmas.Result.{IfOk-weaker}
use Rattle.ot_model.specs.declared.stmt.Stmt.{the_lemmas}
use Rattle.std.proofs.lemmas.List.{drop_all}
use Rattle.ot_model.specs.Names.{OneNamedIn}
use Rattle.ot_model.specs.Tree.{Next, End, append}
use Rattle.ot_model.specs.View.{expr_of, stmt_of, stmts_of}
use Rattle.ot_parts.specs.Assigns.{assign_of, assigns_of}
use Rattle.ot_parts.specs.Parts.{leading, part_of, parts_of}
use Rattle.ot_parts.specs.declared.assign.Assign.{Assign}
use Rattle.ot_parts.specs.declared.part.Part.{Part}
use Rattle.std.specs.Prelude.{Vec}
use Rattle.std.specs.Global.{Global}
use Rattle.std.specs.Arc.{arc_value}
use Rattle.ot_parts.specs.Modes.{PicksFit, AssignsFit}
use Rattle.ot_parts.proofs.MakeLemmas.{add-assign, add-control, add-step, all-made, condition-fits, fits-one, fits-push, named-at, stmts-drop}
use Rattle.ot_parts.proofs.making.+making.Goals.{parts_of-in-Some+in_ok-push-in-Some, parts_of-in-None+in_ok-part-in-None+in_ok-push-in-None}
use Rattle.ot_parts.proofs.making.+making.Goals as goal

pub part-new-requires-clause-test : goal.part-new-requires-clause-test
part-new-requires-clause-test t c =
    subst PicksFit (sym c.in_ok-copy-in-If.ensures)
    (condition-fits c.requires.named.0 (stmt_of c.args.stmt.now) (expr_of c.in-If.test) (stmts_of c.in-If.one.items) (stmts_of c.in-If.two.items)
    (ap stmt_of c.in-If.is ∙ search (rules, the_lemmas)) c.requires.named.1)

pub parts_of-part-requires : goal.parts_of-part-requires
parts_of-part-requires t c =
    let i = c.loop-stmt.stmt-index in
    let all : c.deref-stmt-items.result.now ≡ c.args.body.now.items = c.deref-stmt-items.ensures.value in
    let within : i < length c.args.body.now.items = subst (λ l. i < length l) all c.loop-stmt-test.true in
    let is : c.stmt-item.result ≡ get_or c.args.body.now.items i c.stmt-item.result = c.stmt-item.is ∙ ap (λ l. get_or l i c.stmt-item.result) all in
    let named : OneNamedIn c.requires.named.0 (stmt_of c.stmt-item.result) = named-at c.requires.named.0 c.args.body.now.items i c.stmt-item.result within is c.requires.named.1 in
    let control : leading (Next (stmt_of c.stmt-item.result) End) ≡ End = rw c.in-None.is at c.in_ok-assign.ensures in
    (search (rules, the_lemmas), ((c.requires.named.0, named), (subst (λ (v : Vec Assign Global). AssignsFit (assigns_of v.items)) (sym c.replace-before.ensures.value) c.loop-stmt.invariant.1, control)))

pub parts_of-loop-stmt-preserved : goal.parts_of-loop-stmt-preserved
parts_of-loop-stmt-preserved t c =
    let i = c.loop-stmt.stmt-index in
    let all : c.deref-stmt-items.result.now ≡ c.args.body.now.items = c.deref-stmt-items.ensures.value in
    let within : i < length c.args.body.now.items = subst (λ l. i < length l) all c.loop-stmt-test.true in
    let is : c.stmt-item.result ≡ get_or c.args.body.now.items i c.stmt-item.result = c.stmt-item.is ∙ ap (λ l. get_or l i c.stmt-item.result) all in
    let left = stmts-drop c.args.body.now.items i c.stmt-item.result within is in
    elim c.match-branch-2.branch [
      | parts_of-in-Some+in_ok-push-in-Some w ↦
          let put : c.match-branch-2.run.items ≡ c.loop-stmt.run.items ++ w.in-Some.assign ∷ [] = ap (λ (v : Vec Assign Global). v.items) w.run-is ∙ w.in_ok-push-in-Some.ensures.items in
          let same : assign_of w.in-Some.assign ≡ stmt_of c.stmt-item.result = rw w.in-Some.is at c.in_ok-assign.ensures in (
            ap (λ (v : Vec Part Global). append (append (parts_of v.items) (assigns_of c.match-branch-2.run.items)) (stmts_of (drop (i + 1) c.args.body.now.items))) w.parts-is
                ∙ add-step _ _ _ _ _ _ (add-assign c.loop-stmt.parts.items c.loop-stmt.run.items c.match-branch-2.run.items w.in-Some.assign (stmt_of c.stmt-item.result) put same) left c.loop-stmt.invariant.0,
            fits-push c.loop-stmt.run.items c.match-branch-2.run.items w.in-Some.assign put c.loop-stmt.invariant.1
                (fits-one c.requires.named.0 w.in-Some.assign (stmt_of c.stmt-item.result) same (named-at c.requires.named.0 c.args.body.now.items i c.stmt-item.result within is c.requires.named.1)),
          )
      | parts_of-in-None+in_ok-part-in-None+in_ok-push-in-None w ↦
          let put : c.match-branch-2.parts.items ≡ c.loop-stmt.parts.items ++ w.in_ok-part-in-None.field-0 ∷ [] =
          ap (λ (v : Vec Part Global). v.items) w.parts-is ∙ w.in_ok-push-in-None.ensures.items in
          let gone : c.match-branch-2.run.items ≡ [] = ap (λ (v : Vec Assign Global). v.items) w.run-is ∙ ap (λ (v : Vec Assign Global). v.items) w.replace-before.ensures.after ∙ w.new.ensures.items in
          let run : (part_of w.in_ok-part-in-None.field-0).run ≡ assigns_of c.loop-stmt.run.items =
          w.in_ok-part-in-None.ensures.run ∙ ap (λ (v : Vec Assign Global). assigns_of v.items) w.replace-before.ensures.value in (
            add-step _ _ _ _ _ _ (add-control c.loop-stmt.parts.items c.match-branch-2.parts.items w.in_ok-part-in-None.field-0 c.loop-stmt.run.items c.match-branch-2.run.items (stmt_of c.stmt-item.result)
                put gone run w.in_ok-part-in-None.ensures.control) left c.loop-stmt.invariant.0,
            subst (λ l. AssignsFit (assigns_of l)) (sym gone) tt,
          )
    ]

pub parts_of-returns : goal.parts_of-returns
parts_of-returns t c =
    let none : drop c.loop-stmt.stmt-index c.args.body.now.items ≡ [] = drop_all c.loop-stmt.stmt-index c.args.body.now.items (omega (arith, c.loop-stmt-test.false, ap length c.deref-stmt-items.ensures.value)) in
    IfOk-weaker c.end.result (λ made. parts_of (arc_value made).items ≡ append (parts_of c.loop-stmt.parts.items) (assigns_of c.loop-stmt.run.items))
    (λ made. parts_of (arc_value made).items ≡ stmts_of c.args.body.now.items)
    (λ made is. all-made _ _ _ _ is (ap stmts_of none) c.loop-stmt.invariant.0) c.end.ensures
