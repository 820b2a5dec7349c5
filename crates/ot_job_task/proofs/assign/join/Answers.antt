use Rattle.std.proofs.Common.{ℕ, List, ◌∷◌, length, ap, sym, ◌∙◌, arith}
use Rattle.ot_parts.specs.Steps.{Join}
use Rattle.ot_job_task.specs.Deeds.{stack_behind}
use Rattle.ot_job_task.proofs.assign.join.Goals as goal

pub pop-one-requires : goal.pop-one-requires
pop-one-requires c = let long = ap length c.pop-two.ensures.taken in omega (arith, c.requires)

pub returns : goal.returns
returns c = λ look.
    c.push.ensures ∙ ap (λ (n : ℕ). n ∷ c.pop-one.new.self) c.apply.ensures
    ∙ sym (ap (stack_behind (Join c.args.op) look) (c.pop-two.ensures.taken ∙ ap (λ (ns : List ℕ). c.pop-two.result ∷ ns) c.pop-one.ensures.taken))
