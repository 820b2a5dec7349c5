use Rattle.std.proofs.Common.{◌≡◌, ◌∙◌, ◌<◌, ◌^◌, ℕ, List, get_or, [], length, map, ap, refl, sym, subst, arith}
use Rattle.std.proofs.lemmas.List.{get_or_default, length-map}
use Rattle.std.specs.Prelude.{IsSome}
use Rattle.ot_parts.specs.declared.step.Step.{Step}
use Rattle.ot_parts.specs.declared.step.Step.TheVariants as v
use Rattle.ot_parts.specs.Steps.{Deed, deed_of, deeds_of}
use Rattle.ot_owner.specs.Lending.{value_at}
use Rattle.ot_job_task.specs.Copies.{Look}
use Rattle.ot_job_task.specs.Deeds.{copies_made, CanDoAll}
use Rattle.ot_job_task.proofs.DeedLemmas.{can-assign, changed-some, made-assigned, none-left, rest-can, step-can, step-made}
use Rattle.ot_job_task.proofs.assign.assign_all.Goals as goal

pub loop-step-init : goal.loop-step-init
loop-step-init c =
    let lent = c.args.lent.now in
    let body = c.args.assigns.now in
    let steps = c.steps-steps.result.now in
    let is : map deed_of steps ≡ deeds_of body = c.steps-steps.ensures in
    let short : length (deeds_of body) < 2 ^ 64 = omega (arith, ap length is, length-map steps deed_of, c.steps-steps.type_inv) in (
      refl,
      λ cell. ap (λ (ns : List _). copies_made (map deed_of steps) ns (value_at lent) cell) c.new-stack.ensures ∙ ap (λ (ds : List Deed). copies_made ds [] (value_at lent) cell) is
          ∙ ap (λ (f : Look). f cell) (made-assigned body (value_at lent)),
      subst (λ (ns : List _). CanDoAll lent (length ns) (map deed_of steps)) (sym c.new-stack.ensures) (subst (CanDoAll lent 0) (sym is) (can-assign lent body c.requires.can short)),
      λ cell some. some,
    )

-- the step that is made next, and that it stands there
abbrev next : List Step → ℕ → Step
next steps i = get_or steps i (v.Number 0)

stands : (steps : List Step) (i : ℕ) → i < length steps → next steps i ≡ get_or steps i (next steps i)
stands steps i within = get_or_default steps i (v.Number 0) (next steps i) within

pub make-requires : goal.make-requires
make-requires c =
    let steps = c.steps-steps.result.now in
    let i = c.loop-step.step-index in
    (step-can c.loop-step.lent steps i (next steps i) (length c.loop-step.stack) c.loop-step-test.true (stands steps i c.loop-step-test.true) c.loop-step.invariant.2).0

pub loop-step-preserved : goal.loop-step-preserved
loop-step-preserved c =
    let steps = c.steps-steps.result.now in
    let i = c.loop-step.step-index in
    let within = c.loop-step-test.true in
    let is = stands steps i within in
    let look = value_at c.loop-step.lent in (
      c.make.ensures.lease ∙ c.loop-step.invariant.0,
      λ cell. step-made steps i (next steps i) c.loop-step.stack c.make.new.stack look (value_at c.make.new.lent) within is c.make.ensures.stacked c.make.ensures.changed cell
          ∙ c.loop-step.invariant.1 cell,
      rest-can c.loop-step.lent c.make.new.lent steps i (next steps i) c.loop-step.stack c.make.new.stack look within is c.make.ensures.lease c.make.ensures.stacked c.loop-step.invariant.2,
      λ cell some. subst IsSome (sym (c.make.ensures.changed cell)) (changed-some (deed_of (next steps i)) c.loop-step.stack look cell (c.loop-step.invariant.3 cell some)),
    )

pub returns-clause-made : goal.returns-clause-made
returns-clause-made c = λ cell.
    none-left c.steps-steps.result.now c.loop-step.step-index c.loop-step.stack (value_at c.loop-step.lent) cell (omega (arith, c.loop-step-test.false)) ∙ c.loop-step.invariant.1 cell
