use Rattle.ot_client_mirror.proofs.RemarksLemmas.{on_last}
use Rattle.ot_client_mirror.proofs.remarks.remarks_on_refusal.Goals as goal

pub returns-then-is_last : goal.returns-then-is_last
returns-then-is_last c = on_last c.in_ok-book.book c.args.refusal.code c.remarks_on.result (c.is_last.ensures c.if-is_last.true) c.remarks_on.ensures
