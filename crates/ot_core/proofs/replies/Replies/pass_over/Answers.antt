use Rattle.std.proofs.Common.{◌≡◌, ◌+◌, ◌-◌, min, ap, ◌∙◌, arith, drop}
use Rattle.ot_core.specs.Accounts.{answered_count, replies_from}
use Rattle.ot_core.proofs.ReplyLemmas.{replies-behind}
use Rattle.ot_core.proofs.replies.Replies.pass_over.Goals as goal

pub overflow_add-self : goal.overflow_add-self
overflow_add-self c = omega (arith, c.min.ensures, c.answered.ensures, c.answered.type_inv, c.self.invariant)

pub invariant_of-self : goal.invariant_of-self
invariant_of-self c = omega (arith, c.min.ensures, c.answered.ensures, c.self.invariant)

pub returns : goal.returns
returns c =
    let a = c.self.inside.tenant.now in
    let n = c.self.inside.place in
    let few : c.min.result ≡ min c.args.count (answered_count a - n) = omega (arith, c.min.ensures, c.answered.ensures) in
    ap (λ m. replies_from a (n + m)) few ∙ replies-behind a n c.args.count ∙ ap (drop c.args.count) c.self.view_is
