use Rattle.ot_book.proofs.RoomLemmas.{room-logged}
use Rattle.ot_book.proofs.laws.room_goes_on.Goals as goal

pub returns : goal.returns
returns c = room-logged
