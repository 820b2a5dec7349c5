-- What is printed when a server ends.
use Rattle.std.specs.Prelude.{◌≡◌, [], ◌≤◌, ℕ, List, Option, None, Some, length, ◌&&◌, Bool, true, not, if◌then◌else◌, ◌∷◌, codes, ◌++◌, sum}
use Rattle.std.specs.Io.KnownBytes.{Appends}
use Rattle.ot_serve.specs.declared.fault.Fault.{Fault}
use Rattle.ot_serve.specs.declared.serve.Serve.{Serve}
use Rattle.std.specs.List.{list_any}
use Rattle.std.specs.Str.{bytes_eq}
use Rattle.ot_program.specs.Meanings.{is_name}
use Rattle.ot_serve.specs.declared.fault.Fault.TheVariants as of
use Rattle.std.specs.Fmt.{decimal}

-- the line of one tenant
abbrev pub usage_line : List ℕ → ℕ → List ℕ
usage_line name units = codes "usage " ++ name ++ codes " " ++ decimal units ++ codes "\n"

-- the lines of tenants, each with its units
abbrev pub usage_lines : List (List ℕ) → List ℕ → List ℕ
usage_lines (name ∷ names) (units ∷ more) = usage_line name units ++ usage_lines names more
usage_lines _ _ = []

-- and behind them the line of all
abbrev pub usage_text : List (List ℕ) → List ℕ → List ℕ
usage_text names units = usage_lines names units ++ codes "total " ++ decimal (sum units) ++ codes "\n"

-- What a server is asked for, what it prints, and why it may fail.

abbrev pub IsFrom1To : ℕ → ℕ → Type 0
IsFrom1To most n = (1 ≤ n) × (n ≤ most)

-- the numbers are in their ranges
pub record IsInRange (s : Serve) : Type 0 where
  pub workers : IsFrom1To 16 s.workers
  pub sessions : IsFrom1To 16 s.sessions
  pub count : (n : ℕ) → s.count ≡ Some n → IsFrom1To 1000000 n

-- what is printed in the end: the units of each tenant, and their sum
abbrev pub Prints : List (List ℕ) → Option (List ℕ) → Option (List ℕ) → Type 0
Prints names old new = (units : List ℕ) × (length units ≡ length names) × Appends old new (usage_text names units)

-- Which names tenants may have.

-- each has the form of a name, and none is among those behind it
abbrev pub are_tenants : List (List ℕ) → Bool
are_tenants [] = true
are_tenants (name ∷ names) = is_name name && not (list_any (bytes_eq name) names) && are_tenants names

-- the first that hasn't the form of a name, or is among those behind it
abbrev pub first_bad : List (List ℕ) → Option (List ℕ)
first_bad [] = None
first_bad (name ∷ names) = if is_name name && not (list_any (bytes_eq name) names) then first_bad names else Some name

-- What the program tells of a fault.

-- the line on standard error
abbrev pub stderr_line : Fault → List ℕ
stderr_line of.ReadFailed = codes "omptaskd: read failed"
stderr_line of.WriteFailed = codes "omptaskd: write failed"
stderr_line of.Memory = codes "omptaskd: no memory"
stderr_line of.Stranger = codes "omptaskd: stranger"
stderr_line of.TooManyReads = codes "omptaskd: too many reads"
stderr_line of.LineTooLong = codes "omptaskd: line too long"
stderr_line of.BadTenantName = codes "omptaskd: bad tenant name"
stderr_line of.TooManyTenants = codes "omptaskd: too many tenants"
stderr_line of.SocketFailed = codes "omptaskd: socket failed"
stderr_line of.NoThread = codes "omptaskd: no thread"

-- the exit status
abbrev pub status_of : Fault → ℕ
status_of fault = 1
