use Rattle.std.proofs.Common.{sym, ap, ◌∙◌, arith, length}
use Rattle.ot_book.specs.ReplyView.{reply_of}
use Rattle.ot_core.proofs.ReplyLemmas.{replies-step, replies-end}
use Rattle.ot_core.proofs.replies.RepliesIterator.next.Goals as goal

pub returns-in_default-clause-steps : goal.returns-in_default-clause-steps
returns-in_default-clause-steps c =
    let none = sym c.self.view_is ∙ replies-end c.self.inside.tenant.now c.self.inside.place c.in_default.ensures in
    (none, none)

pub invariant_of-self : goal.invariant_of-self
invariant_of-self c = omega (arith, (replies-step c.self.inside.tenant.now c.self.inside.place (reply_of c.in-Some.reply) c.in-Some.ensures).0)

pub returns-clause-steps : goal.returns-clause-steps
returns-clause-steps c = sym c.self.view_is ∙ (replies-step c.self.inside.tenant.now c.self.inside.place (reply_of c.in-Some.reply) c.in-Some.ensures).1

pub returns-clause-goes : goal.returns-clause-goes
returns-clause-goes c =
    let steps = sym c.self.view_is ∙ (replies-step c.self.inside.tenant.now c.self.inside.place (reply_of c.in-Some.reply) c.in-Some.ensures).1 in
    record { on = λ finite. (tt, tt, omega (arith, ap length steps)); keeps = tt; rests = λ _. tt }
