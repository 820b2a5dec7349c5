-- Why arrays refuse a request, with the numbers that are compared.
use Rattle.std.specs.Prelude.{◌≡◌, ℕ, ◌+◌, List, length, map, sum, bytes_eq, nat_le, nat_lt, if◌then◌else◌, Option, Some, None, option_map}
use Rattle.std.specs.Map.{lookup}
use Rattle.ot_store.specs.Arrays.{Named, arrays_listed}
use Rattle.ot_store.specs.declared.limits.Limits.{Limits}
use Rattle.ot_book.specs.Answers.{Step, Now, Runs, perform_step, Told, Refused, Offends}
use Rattle.ot_book.specs.Requests.{Request, New, Free, Put, Get, Run}
use Rattle.ot_why_reason.specs.declared.fault.Fault as code
use Rattle.ot_why_reason.specs.declared.fault.Fault.TheVariants as v

-- names and lengths
abbrev pub Lengths : Type 0
Lengths = List (List ℕ × ℕ)

pub data Fault : Type 0 where
  -- no array has this name
  Unknown : List ℕ → Fault
  -- the array with this name has so many cells
  Taken : List ℕ → ℕ → Fault
  -- of the array with this name, from a cell on so many cells, where it has so many
  Beyond : List ℕ → ℕ → ℕ → ℕ → Fault
  -- all arrays have so many cells, so many more are asked for, and so many may be
  TooManyCells : ℕ → ℕ → ℕ → Fault
  -- there are so many arrays, and so many may be
  TooManyArrays : ℕ → ℕ → Fault

-- how many cells all arrays have
abbrev pub cells_count : Lengths → ℕ
cells_count arrays = sum (map (λ a. a.1) arrays)

-- the faults of each request, where the array that it names has so many cells, or isn't there
abbrev pub new_fault : Limits → Lengths → List ℕ → ℕ → Option ℕ → Option Fault
new_fault limits arrays name len (Some has) = Some (Taken name has)
new_fault limits arrays name len None =
    if nat_le limits.arrays (length arrays) then Some (TooManyArrays (length arrays) limits.arrays)
    else (if nat_lt limits.cells (cells_count arrays + len) then Some (TooManyCells (cells_count arrays) len limits.cells) else None)

abbrev pub free_fault : List ℕ → Option ℕ → Option Fault
free_fault name (Some has) = None
free_fault name None = Some (Unknown name)

abbrev pub reach_fault : List ℕ → ℕ → ℕ → Option ℕ → Option Fault
reach_fault name start count (Some has) = if nat_le (start + count) has then None else Some (Beyond name start count has)
reach_fault name start count None = Some (Unknown name)

-- why these arrays refuse a request, where they do; nothing is said of a program
abbrev pub fault_in : Limits → Lengths → Request → Option Fault
fault_in limits arrays (New name len) = new_fault limits arrays name len (lookup (bytes_eq name) arrays)
fault_in limits arrays (Free name) = free_fault name (lookup (bytes_eq name) arrays)
fault_in limits arrays (Put name start values) = reach_fault name start (length values) (lookup (bytes_eq name) arrays)
fault_in limits arrays (Get name start len) = reach_fault name start len (lookup (bytes_eq name) arrays)
fault_in limits arrays request = None

-- the code that is told of a fault
abbrev pub fault_code : Fault → ℕ
fault_code (Unknown name) = 412
fault_code (Taken name has) = 413
fault_code (Beyond name start count has) = 414
fault_code (TooManyCells has more may) = 415
fault_code (TooManyArrays has may) = 416

-- ---- the book refuses where there is a fault

-- the code of a refusal
abbrev pub refusal_in : Told → Option ℕ
refusal_in (Refused code) = Some code
refusal_in (Offends code place) = Some code
refusal_in other = None

-- a request that is answered at once is refused by this code, or isn't refused
abbrev pub IsRefusedBy : Option ℕ → Step → Type 0
IsRefusedBy code (Now told arrays) = refusal_in told ≡ code
IsRefusedBy code (Runs program) = ⊥

abbrev pub IsDue : Limits → List Named → ℕ → Request → Type 0
IsDue limits arrays used (Run text) = Unit {0}
IsDue limits arrays used request = IsRefusedBy (option_map fault_code (fault_in limits (arrays_listed arrays) request)) (perform_step limits arrays used request)

-- so of every request over any arrays, after done replies of so many units
abbrev pub FaultsAreDue : Type 0
FaultsAreDue = (limits : Limits) (arrays : List Named) (used : ℕ) (request : Request) → IsDue limits arrays used request

-- The fault that a value of the code stands for.

abbrev pub fault_by : code.Fault → Fault
fault_by (v.Unknown name) = Unknown name.now
fault_by (v.Taken name has) = Taken name.now has
fault_by (v.Beyond name start count has) = Beyond name.now start count has
fault_by (v.TooManyCells has more may) = TooManyCells has more may
fault_by (v.TooManyArrays has may) = TooManyArrays has may
