-- Arguments, as `clap` sees them.
use Rattle.std.specs.Prelude.{ℕ, Some, true, codes, pos, ◌≡◌, ◌&&◌, Bool, false, nat_le, if◌then◌else◌, List, Option, None, option_map}
use Rattle.clap.specs.Words.{Rule, Text, Row}
use Rattle.clap.specs.Lexer.{usize_max}
use Rattle.clap.specs.Simple.{new_rule}
use Rattle.clap.specs.declared.builder.action.ArgAction.TheVariants.{SetTrue}
use Rattle.clap.specs.declared.builder.value_parser.ValueParser.TheVariants.{Signed}
use Rattle.std.specs.Str.Parse.{digits_value, without_leading_plus}
use Rattle.clap.specs.Values.{IsUnsignedIn}

-- a flag
unfoldable pub flag_rule : Text → Rule
flag_rule id = record (new_rule id) { long = Some id; action = Some SetTrue }

-- a number from 1 to `most` may be given
unfoldable pub number_rule : Text → ℕ → Rule
number_rule id most = record (new_rule id) { long = Some id; value_names = 1; parser = Some (Signed (pos 1) (pos most)) }

-- the path of a socket, which has to be given
unfoldable pub socket_rule : Rule
socket_rule = record (new_rule (codes "socket")) { long = Some (codes "socket"); value_names = 1; required = true }

-- one word or more
unfoldable pub names_rule : Text → Rule
names_rule id = record (new_rule id) { value_names = 1; range = Some (record { start_inclusive = 1; end_inclusive = usize_max }); required = true }

-- What is read of a command line.

-- a number, where it is from 1 to `most`
abbrev pub within : ℕ → Option ℕ → Option ℕ
within most None = None
within most (Some n) = if nat_le 1 n && nat_le n most then Some n else None

-- a number that is given and lies from 1 to `most` is read, and without one there is none
abbrev pub IsRead : ℕ → Option Text → Option ℕ → Type 0
IsRead most None number = number ≡ None
IsRead most (Some text) number = IsUnsignedIn 1 most text → number ≡ Some (digits_value 10 (without_leading_plus text))

-- a flag that is said is true, and one that isn't is false
abbrev pub IsSaid : Option Text → Bool → Type 0
IsSaid None flag = flag ≡ false
IsSaid (Some text) flag = (text ≡ codes "true" → flag ≡ true) × (text ≡ codes "false" → flag ≡ false)

-- the name of the subcommand that `clap` enters, and what it finds behind it
abbrev pub entered_name : Option (Text × List Row) → Option Text
entered_name entered = option_map (λ s. s.0) entered

abbrev pub entered_rows : Option (Text × List Row) → Option (List Row)
entered_rows entered = option_map (λ s. s.1) entered
