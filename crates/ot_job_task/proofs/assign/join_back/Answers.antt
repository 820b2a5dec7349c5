use Rattle.std.proofs.Common.{ℕ, List, ◌∷◌, length, ap, sym, ◌∙◌, arith}
use Rattle.ot_parts.specs.Steps.{JoinBack}
use Rattle.ot_job_task.specs.Deeds.{stack_behind}
use Rattle.ot_job_task.proofs.assign.join_back.Goals as goal

pub pop-two-requires : goal.pop-two-requires
pop-two-requires c = let long = ap length c.pop-one.ensures.taken in omega (arith, c.requires)

pub returns : goal.returns
returns c = λ look.
    c.push.ensures ∙ ap (λ (n : ℕ). n ∷ c.pop-two.new.self) c.apply.ensures
    ∙ sym (ap (stack_behind (JoinBack c.args.op) look) (c.pop-one.ensures.taken ∙ ap (λ (ns : List ℕ). c.pop-one.result ∷ ns) c.pop-two.ensures.taken))
