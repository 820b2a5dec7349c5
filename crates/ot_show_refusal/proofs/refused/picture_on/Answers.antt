use Rattle.std.proofs.Common.{rules}
use Rattle.ot_show_refusal.proofs.DrawnLemmas.{draws_last}
use Rattle.ot_show_refusal.proofs.refused.picture_on.Goals as goal

pub returns-in-Offends : goal.returns-in-Offends
returns-in-Offends c =
    draws_last c.drawn.result c.args.book.now c.in-Some.entry.now.line.items c.in-Offends.offence c.in-Offends.place (search rules) c.drawn.ensures
