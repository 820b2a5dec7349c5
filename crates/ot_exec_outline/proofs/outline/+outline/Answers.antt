use Rattle.std.proofs.Common.{◌≡◌, ◌+◌, ◌∙◌, sym, ap, drop, arith}
use Rattle.ot_model.specs.View.{stmt_of, stmts_of}
use Rattle.ot_model.specs.Tree.{size, size_one}
use Rattle.ot_check.proofs.Cited.{rest_is, rest_none}
use Rattle.ot_exec_outline.specs.Tree.{Then, outline, outline_one}
use Rattle.ot_exec_outline.specs.View.{steps_in}
use Rattle.ot_exec_outline.specs.Appended.{append_steps}
use Rattle.ot_exec_outline.proofs.StepLemmas.{one_more, append_none}
use Rattle.ot_exec_outline.proofs.outline.+outline.Goals as goal

pub outline-loop-stmt-preserved : goal.outline-loop-stmt-preserved
outline-loop-stmt-preserved t c =
    let b = c.args.body.now.items in
    let i = c.loop-stmt.stmt-index in
    let rest = rest_is c.deref-stmt-items.result.now b i c.stmt-item.result c.deref-stmt-items.ensures.value c.loop-stmt-test.true c.stmt-item.is in
    let x = stmt_of c.stmt-item.result in
    let more = stmts_of (drop (i + 1) b) in
    let v = c.loop-stmt.invariant in
    let n = c.loop-stmt.next in
    let m = c.outline_one.new.next in
    let sizes : size (stmts_of (drop i b)) ≡ size_one x + size more = ap size rest in
    let at : m ≡ n + size_one x = c.in_ok-outline_one.ensures.next in
    let old = c.loop-stmt.steps.items in
    let made = c.in_ok-outline_one.field-0 in (
      ap (λ xs. append_steps (steps_in xs) (outline m more)) c.in_ok-push.ensures.items
          ∙ one_more old made (outline m more)
          ∙ ap (λ y. append_steps (steps_in old) (Then y (outline m more))) c.in_ok-outline_one.ensures.step
          ∙ ap (λ k. append_steps (steps_in old) (Then (outline_one n x) (outline k more))) at
          ∙ sym (ap (λ b. append_steps (steps_in old) (outline n b)) rest)
          ∙ v.0,
      omega (arith, sizes, at, v.1),
    )

pub outline-returns-clause-steps : goal.outline-returns-clause-steps
outline-returns-clause-steps t c =
    let b = c.args.body.now.items in
    let i = c.loop-stmt.stmt-index in
    let none = rest_none c.deref-stmt-items.result.now b i c.deref-stmt-items.ensures.value c.loop-stmt-test.false in
    let xs = steps_in c.loop-stmt.steps.items in
    sym (append_none xs) ∙ sym (ap (λ r. append_steps xs (outline c.loop-stmt.next r)) none) ∙ c.loop-stmt.invariant.0
