-- A desk may be shared, and the books on it may go from thread to thread.
use denote.Param.Send.{IsSend, IsSync, sendable}
use Rattle.std.proofs.Crossing.{crosses}
use Rattle.ot_model.proofs.expr.Expr.TheLaws.TheKnot.{send-Expr, sync-Expr}
use Rattle.ot_model.proofs.stmt.Stmt.TheLaws.TheKnot.{send-Stmt, sync-Stmt}
use Rattle.ot_parts.proofs.SendLemmas.{part-send, part-sync}
use Rattle.ot_check.specs.contracts.checked.Checked as checked
use Rattle.ot_store.specs.contracts.store.Store as store
use Rattle.ot_book.specs.contracts.kept.Kept as kept
use Rattle.ot_book.specs.contracts.shelf.Shelf as shelf
use Rattle.ot_book.specs.contracts.book.Entry as entry
use Rattle.ot_book.specs.contracts.book.Pending as pending
use Rattle.ot_book.specs.contracts.book.Book as book
use Rattle.ot_front.specs.contracts.desk.Desk as desk

checked-send : IsSend checked.the_row
checked-send = search (sendable, crosses, send-Expr, send-Stmt, part-send, part-sync) depth 80 fits 20000

checked-sync : IsSync checked.the_row
checked-sync = search (sendable, crosses, sync-Expr, sync-Stmt, part-send, part-sync) depth 80 fits 20000

kept-send : IsSend kept.the_row
kept-send = search (sendable, crosses, checked-send, checked-sync) depth 80 fits 20000

shelf-send : IsSend shelf.the_row
shelf-send = search (sendable, crosses, kept-send) depth 80 fits 20000

store-send : IsSend store.the_row
store-send = search (sendable, crosses) depth 80 fits 20000

entry-send : IsSend entry.the_row
entry-send = search (sendable, crosses) depth 80 fits 20000

pending-send : IsSend pending.the_row
pending-send = search (sendable, crosses) depth 80 fits 20000

book-send : IsSend book.the_row
book-send = search (sendable, crosses, shelf-send, store-send, entry-send, pending-send) depth 80 fits 20000

pub desk-sync : IsSync desk.the_row
desk-sync = search (sendable, crosses, book-send) depth 80 fits 20000
