use Rattle.std.proofs.Common.{rules, ◌≡◌, ℕ, List, ◌∷◌, length, ap, ◌∙◌, arith}
use Rattle.ot_job_task.proofs.StackLemmas.{length-piled, pushed}
use Rattle.ot_job_task.proofs.stack.Stack.push.Goals as goal

pub returns : goal.returns
returns c =
    let s = c.self.inside in
    let long : length s.numbers ≡ 64 = search rules in
    let high = length-piled s.height s.numbers in
    let same = ap length c.self.view_is in
    pushed s.height s.numbers c.args.number (omega (arith, c.requires)) ∙ ap (λ (ns : List ℕ). c.args.number ∷ ns) c.self.view_is
