use Rattle.std.proofs.Common.{◌≡◌, ◌∙◌, ◌++◌, ◌∷◌, [], List, ap, sym, subst}
use Rattle.std.specs.Arc.{arc_value}
use Rattle.ot_parts.specs.Parts.{parts_of}
use Rattle.ot_job.proofs.Common.{IfOk-from_err, Region, root_region, AreKept}
use Rattle.ot_job.proofs.KeepingLemmas.{root-alone}
use Rattle.ot_job.proofs.tasks.Tasks.root.Goals as goal

pub returns-in_err-tasks : goal.returns-in_err-tasks
returns-in_err-tasks c = IfOk-from_err c.from_residual.result _ c.from_residual.ensures.0

pub returns-in_err-roster : goal.returns-in_err-roster
returns-in_err-roster c = IfOk-from_err c.from_residual-in_err-roster.result _ c.from_residual-in_err-roster.ensures.0

pub invariant_of-result : goal.invariant_of-result
invariant_of-result c =
    let regions : c.push_reserved.new.self.items ≡ root_region (parts_of (arc_value c.args.body).items) ∷ [] =
    c.push_reserved.ensures.items ∙ ap (λ (l : List Region). l ++ c.root.result ∷ []) c.in_ok-tasks.ensures.items ∙ ap (λ (r : Region). r ∷ []) c.root.ensures in
    subst (λ (l : List Region). AreKept l c.in_ok-roster.roster) (sym regions) (c.in_ok-roster.ensures _ _ (root-alone (parts_of (arc_value c.args.body).items)))
