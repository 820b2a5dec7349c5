-- Sessions that stop, told by their results alone.
use Rattle.std.proofs.Common.{ℕ, List, ◌++◌}
use Rattle.std.specs.Prelude.{Option, Result, Ok, Err}
use Rattle.ot_book.specs.Books.{Register}
use Rattle.ot_session.specs.Session.{Session}
use Rattle.ot_session.specs.declared.fault.End.{End}
use Rattle.ot_session.specs.declared.fault.End.TheVariants as end
use Rattle.ot_session.specs.declared.fault.FrontFault.{FrontFault}
use Rattle.ot_session.specs.declared.fault.FrontFault.TheVariants as fault
use Rattle.ot_session.specs.declared.stop.Stop.TheVariants as stop
use Rattle.ot_session.proofs.SessionLemmas.{session_more}

-- a session may stop so with bytes behind it
abbrev pub Stops : Result End FrontFault → Type 0
Stops (Ok end.EndOfInput) = ⊥
Stops (Err fault.ReadFailed) = ⊥
Stops (Err fault.TooManyTurns) = ⊥
Stops (Err fault.SocketFailed) = ⊥
Stops result = Unit {0}

-- more bytes behind those in which it stopped
pub session_longer : (first : Register) (start : Option (List ℕ)) (bytes more : List ℕ) (book : Register) (held : Option (List ℕ)) (result : Result End FrontFault) → Stops result →
    Session first book bytes start held result → Session first book (bytes ++ more) start held result
session_longer first start bytes more book held (Ok end.Bye) stops s = session_more first start bytes more book held stop.Bye s
session_longer first start bytes more book held (Ok end.Full) stops s = session_more first start bytes more book held stop.Full s
session_longer first start bytes more book held (Ok end.LongLine) stops s = session_more first start bytes more book held stop.LongLine s
session_longer first start bytes more book held (Ok end.Closed) stops s = session_more first start bytes more book held stop.Closed s
session_longer first start bytes more book held (Err fault.WriteFailed) stops s = session_more first start bytes more book held stop.WriteFailed s
session_longer first start bytes more book held (Err fault.Memory) stops s = session_more first start bytes more book held stop.Memory s
session_longer first start bytes more book held (Err fault.Stranger) stops s = session_more first start bytes more book held stop.Stranger s
session_longer first start bytes more book held result stops s = absurd stops
