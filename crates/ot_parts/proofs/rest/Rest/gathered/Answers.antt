use Rattle.std.proofs.Common.{◌≡◌, ◌∙◌, List, ap, sym}
use Rattle.ot_model.specs.Tree.{End}
use Rattle.ot_parts.specs.Assigns.{assigns_of}
use Rattle.ot_parts.specs.Parts.{control_next, leading, part_of}
use Rattle.ot_parts.specs.declared.assign.Assign.{Assign}
use Rattle.ot_parts.proofs.RestLemmas.{condition-next, next-condition, passed-leading}
use Rattle.ot_parts.proofs.rest.Rest.gathered.Goals as goal

pub returns-then-self-clause-run : goal.returns-then-self-clause-run
returns-then-self-clause-run c =
    ap (λ (l : List Assign). assigns_of l) c.new-run.ensures.items ∙ sym (passed-leading c.self.inside.passed _ c.args.self.now c.self.view_is c.if-self.true)

pub returns-then-self-clause-condition : goal.returns-then-self-clause-condition
returns-then-self-clause-condition c =
    let none : leading c.args.self.now ≡ End = passed-leading c.self.inside.passed _ c.args.self.now c.self.view_is c.if-self.true in
    c.in_ok-condition.ensures ∙ condition-next (λ p. part_of p.now) c.next_control.result (control_next c.args.self.now) c.next_control.ensures ∙ next-condition c.args.self.now none
