use Rattle.std.proofs.Common.{◌≡◌, ◌∙◌, sym, ap, subst}
use Rattle.std.specs.Prelude.{Some, IfOk, OnOk, Vec, option_map}
use Rattle.std.specs.Global.{Global}
use Rattle.std.specs.Arc.{arc_value}
use Rattle.std.proofs.lemmas.Option.{same_Some}
use Rattle.ot_model.specs.Tree.{Task}
use Rattle.ot_model.specs.Cells.{AreInOrder}
use Rattle.ot_parts.specs.Parts.{control_next, past_control, body_in, parts_of}
use Rattle.ot_parts.specs.declared.part.Part.{Part}
use Rattle.ot_parts.proofs.PartLemmas.{task-part}
use Rattle.ot_job_task.specs.Regions.{Region, child_of, with_child, with_rest}
use Rattle.ot_job_task.proofs.StepLemmas.{on_ok_always, part-next, task-after}
use Rattle.ot_job_task.proofs.task.Task.step.Goals as goal

pub returns-in_ok-body-in-Task-clause-stepped : goal.returns-in_ok-body-in-Task-clause-stepped
returns-in_ok-body-in-Task-clause-stepped c =
    let r = c.args.self.now in
    let next : control_next r.rest ≡ Some (Task (arc_value c.in-Task.decl) (body_in c.in-Task.body)) =
    ap (λ (r : Region). control_next r.rest) (sym c.self.view_is) ∙ part-next _ _ _ _ c.in-Some.ensures c.in-Task.is (task-part c.in-Task.field-0 c.in-Task.decl c.in-Task.body) in
    let after = task-after c.args.taken c.args.group r (arc_value c.in-Task.decl) (body_in c.in-Task.body) next in
    subst (λ s. OnOk c.create.result (c.create.new.self ≡ s)) (ap (λ d. with_child d (with_rest (past_control r.rest) r)) c.in_ok-decl-in-Task.ensures ∙ sym after.0) c.create.ensures.created

pub returns-in_ok-body-in-Task-clause-child : goal.returns-in_ok-body-in-Task-clause-child
returns-in_ok-body-in-Task-clause-child c =
    let r = c.args.self.now in
    let i = c.args.number in
    let next : control_next r.rest ≡ Some (Task (arc_value c.in-Task.decl) (body_in c.in-Task.body)) =
    ap (λ (r : Region). control_next r.rest) (sym c.self.view_is) ∙ part-next _ _ _ _ c.in-Some.ensures c.in-Task.is (task-part c.in-Task.field-0 c.in-Task.decl c.in-Task.body) in
    let after = task-after c.args.taken c.args.group r (arc_value c.in-Task.decl) (body_in c.in-Task.body) next in
    subst (λ o. IfOk c.create.result (λ child. child ≡ o))
    (ap (λ d. Some (child_of i r (d, body_in c.in_ok-body-in-Task.body))) c.in_ok-decl-in-Task.ensures
    ∙ ap (λ (v : Vec Part Global). Some (child_of i r (arc_value c.in-Task.decl, parts_of v.items))) c.in_ok-body-in-Task.ensures
    ∙ ap (option_map (child_of i r)) (sym after.1))
    c.create.ensures.child

pub returns-in_ok-body-in-Task-clause-ordered : goal.returns-in_ok-body-in-Task-clause-ordered
returns-in_ok-body-in-Task-clause-ordered c =
    let r = c.args.self.now in
    let next : control_next r.rest ≡ Some (Task (arc_value c.in-Task.decl) (body_in c.in-Task.body)) =
    ap (λ (r : Region). control_next r.rest) (sym c.self.view_is) ∙ part-next _ _ _ _ c.in-Some.ensures c.in-Task.is (task-part c.in-Task.field-0 c.in-Task.decl c.in-Task.body) in
    let after = task-after c.args.taken c.args.group r (arc_value c.in-Task.decl) (body_in c.in-Task.body) next in
    on_ok_always c.create.result (λ child is. subst AreInOrder (ap (λ p. p.0) (same_Some _ _ (sym after.1 ∙ is))) (subst AreInOrder c.deref.ensures c.uses.ensures.ordered))
