use Rattle.std.proofs.Common.{◌≡◌, ◌∙◌, List, length, ap, sym, subst, arith}
use Rattle.ot_job.proofs.Common.{IfOk-weaker, Region, control_executed, tasks_next, HasPiece, AreKept, at, CreatesInOrder}
use Rattle.std.proofs.lemmas.Result.{on_err_weaker}
use Rattle.ot_job.proofs.KeepingLemmas.{kept-stepped}
use Rattle.ot_job.proofs.StepLemmas.{executed-none}
use Rattle.ot_job.proofs.ViewLemmas.{on_both}
use Rattle.ot_job.proofs.tasks.Tasks.advance.Goals as goal

pub execute-requires : goal.execute-requires
execute-requires c = record { known = omega (arith, c.requires.piece.known, ap length c.self.view_is, c.self.inside.tasks.ok.0) }

pub invariant_of-self : goal.invariant_of-self
invariant_of-self c =
    let rs = c.self.inside.tasks.items in
    let i = c.args.i in
    let keeps = λ (l : List Region). AreKept l c.self.inside.roster in
    let (piece, none) = subst (λ (l : List Region). HasPiece l i × (tasks_next (at l i).rest ≡ 0)) (sym c.self.view_is) (c.requires.piece, c.requires.none) in
    let done = kept-stepped c.args.taken c.args.group rs i c.self.inside.roster piece.known piece.out c.self.invariant in
    on_both c.execute.result c.execute.ensures.executed c.execute.ensures.refused
    (λ is. subst keeps (sym (is ∙ executed-none c.args.taken c.args.group i rs none)) done) (λ same. subst keeps (sym same) c.self.invariant)

pub returns-clause-executed : goal.returns-clause-executed
returns-clause-executed c =
    IfOk-weaker c.execute.result _ _ (λ x is. is ∙ ap (λ (l : List Region). control_executed c.args.taken c.args.group c.args.i l) c.self.view_is) c.execute.ensures.executed

pub returns-clause-ordered : goal.returns-clause-ordered
returns-clause-ordered c =
    IfOk-weaker c.execute.result _ _ (λ x creates. subst (λ (l : List Region). CreatesInOrder (at l c.args.i)) c.self.view_is creates) c.execute.ensures.ordered

pub returns-clause-refused : goal.returns-clause-refused
returns-clause-refused c = on_err_weaker c.execute.result (λ same. same ∙ c.self.view_is) c.execute.ensures.refused
