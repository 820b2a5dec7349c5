-- Why a call on the arrays is refused, and the codes.
use Rattle.std.specs.Prelude.{◌≡◌, ℕ, Result, Err}
use Rattle.ot_store.specs.declared.fault.StoreRefusal.{StoreRefusal}
use Rattle.ot_store.specs.declared.fault.StoreRefusal.TheVariants.{UnknownArray, NameTaken, OutOfRange, TooManyCells, TooManyArrays}
use Rattle.ot_store.specs.declared.fault.StoreFault.{StoreFault}
use Rattle.ot_store.specs.declared.fault.StoreFault.TheVariants.{Memory, Refused}
use Rattle.ot_store.specs.declared.limits.Limits.{Limits}

-- the number that a client is told
abbrev pub code_of : StoreRefusal → ℕ
code_of UnknownArray = 412
code_of NameTaken = 413
code_of OutOfRange = 414
code_of TooManyCells = 415
code_of TooManyArrays = 416

-- a call that failed tells the refusal that is due; want of memory says nothing of the arrays
abbrev pub Fails : {A : Type 0} → StoreFault → Result A StoreRefusal → Type 0
Fails Memory due = Unit {0}
Fails (Refused refusal) due = due ≡ Err refusal

-- The usual limits of a tenant.

abbrev pub usual_limits : Limits
usual_limits = record { arrays = 16; cells = 65536; tasks = 1024; log = 4096 }
