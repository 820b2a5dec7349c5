use Rattle.ot_book.proofs.RoomLemmas.{takes-free, free-takes}
use Rattle.ot_book.proofs.laws.takes_where_free.Goals as goal

pub returns : goal.returns
returns c = λ b line closed. (takes-free b line closed, free-takes b line)
