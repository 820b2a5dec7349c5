use Rattle.std.proofs.Common.{◌≡◌, ◌%◌, ℕ, ◌∷◌, ap, sym, ◌∙◌}
use Rattle.std.specs.Prelude.{unwrap_or}
use Rattle.ot_model.specs.Tree.{cell_at}
use Rattle.ot_parts.specs.Steps.{Choose}
use Rattle.ot_owner.specs.Lending.{value_at}
use Rattle.ot_job_task.specs.Deeds.{stack_behind}
use Rattle.ot_job_task.proofs.assign.pick.Goals as goal

pub returns : goal.returns
returns c =
    let look = value_at c.args.lent.now in
    let number : c.number_at.result ≡ unwrap_or (look (cell_at c.args.section (c.pop.result % c.args.section.len))) 0 =
    c.number_at.ensures ∙ ap (λ m. unwrap_or (look (cell_at c.args.section (c.pop.result % m))) 0) c.from.ensures in
    c.push.ensures ∙ ap (λ (n : ℕ). n ∷ c.pop.new.self) number ∙ sym (ap (stack_behind (Choose c.args.section) look) c.pop.ensures.taken)
