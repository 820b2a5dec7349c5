-- What is missing in a set of events.
use Rattle.std.specs.Prelude.{◌≡◌, ℕ, true, false, List, All, Contains, Option, Some, None}
use Rattle.ot_sets.specs.Sets.{has}
use Rattle.ot_sets.specs.declared.numbers.Numbers.{Numbers}

-- what is told is one of these events that isn't in the set, and nothing is where there is none
abbrev pub IsMissing : List ℕ → Numbers → Option ℕ → Type 0
IsMissing events known None = All (λ e. has known e ≡ true) events
IsMissing events known (Some e) = Contains events e × (has known e ≡ false)
