use Rattle.ot_book.proofs.BookLemmas.{answers-append, replies-append}
use Rattle.ot_book.proofs.laws.replies_go_on.Goals as goal

pub returns-clause-answers : goal.returns-clause-answers
returns-clause-answers c = answers-append

pub returns-clause-replies : goal.returns-clause-replies
returns-clause-replies c = replies-append
