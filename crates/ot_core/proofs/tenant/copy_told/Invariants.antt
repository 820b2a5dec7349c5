use Rattle.std.proofs.Common.{◌≡◌, take, map}
use Rattle.ot_book.specs.ReplyView.{told_of}
use Rattle.ot_book.specs.BookView.{entries_of}
use Rattle.ot_core.proofs.tenant.copy_told.Given as goal

abbrev pub invariant-loop-entry : goal.invariant-loop-entry
invariant-loop-entry l = map told_of l.copies.items ≡ map (λ e. e.1) (entries_of (take l.entry-index l.entries))
