-- How a server begins, and the faults that it comes to.
use Rattle.std.specs.Prelude.{◌≡◌, [], ◌≤◌, ℕ, List, ⊤, length, ◌<◌, true, false, Result, Ok, Err}
use Rattle.ot_store.specs.Refusals.{usual_limits}
use Rattle.ot_book.specs.Books.{Register, new_register}
use Rattle.ot_serve.specs.declared.fault.Fault.{Fault}
use Rattle.ot_serve.specs.declared.fault.Fault.TheVariants.{Memory, Stranger, SocketFailed, NoThread, BadTenantName, TooManyTenants}
use Rattle.ot_serve.specs.declared.fault.Fault.TheVariants as of
use Rattle.ot_session.specs.declared.fault.FrontFault.{FrontFault}
use Rattle.ot_session.specs.declared.fault.FrontFault.TheVariants as front
use Rattle.ot_pool.specs.declared.crew.NotStarted.{NotStarted}
use Rattle.ot_pool.specs.declared.crew.NotStarted.TheVariants as start
use Rattle.ot_serve.specs.Serving.{are_tenants}

-- the book of a tenant whom nobody has served: it has the usual limits and no arrays
abbrev pub newcomer : List ℕ → Register
newcomer name = new_register name usual_limits []

-- the faults of a server whose tenants have names, before it prints
abbrev pub IsLate : Fault → Type 0
IsLate Memory = ⊤
IsLate Stranger = ⊤
IsLate SocketFailed = ⊤
IsLate NoThread = ⊤
IsLate _ = ⊥

-- what is told of them: first whether they can be names of tenants, then whether they are too many
abbrev pub TellsOf : {T : Type 0} → List (List ℕ) → Result T Fault → Type 0
TellsOf names (Ok _) = (are_tenants names ≡ true) × (length names ≤ 64)
TellsOf names (Err BadTenantName) = are_tenants names ≡ false
TellsOf names (Err TooManyTenants) = (are_tenants names ≡ true) × (64 < length names)
TellsOf names (Err _) = ⊥

-- the program's fault where a session, or the sessions at a socket, ended with one
abbrev pub front_fault : FrontFault → Fault
front_fault front.ReadFailed = of.ReadFailed
front_fault front.WriteFailed = of.WriteFailed
front_fault front.Memory = of.Memory
front_fault front.Stranger = of.Stranger
front_fault front.TooManyTurns = of.TooManyReads
front_fault front.SocketFailed = of.SocketFailed

-- the program's fault where not every worker was started
abbrev pub fault_of_start : NotStarted → Fault
fault_of_start start.Memory = of.Memory
fault_of_start start.NoThread = of.NoThread
