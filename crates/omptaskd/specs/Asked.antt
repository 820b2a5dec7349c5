-- What the words ask for.
use Rattle.std.specs.Prelude.{◌≡◌, ◌≢◌, ℕ, List, [], Option, Some, Result, Ok, Err, ⊤, IfSome, codes, map, string_bytes, unwrap_or}
use Rattle.clap.specs.Words.{Row, Text, all_of, first_of, kind_of, one_of}
use Rattle.clap.specs.declared.error.Error.{Error}
use Rattle.clap.specs.declared.error.kind.ErrorKind.TheVariants.{OutOfMemory}
use Rattle.ot_commands.specs.Rules.{IsRead, entered_name, entered_rows}
use Rattle.ot_serve.specs.declared.serve.Serve.{Serve}
use Rattle.ot_serve.specs.Serving as serving
use Rattle.omptaskd.specs.declared.asked.Words.{Words}
use Rattle.omptaskd.specs.declared.asked.Words.TheVariants as asked

-- a number up to 16 is read, with 4 where none is given
abbrev pub IsReadOr4 : Option Text → ℕ → Type 0
IsReadOr4 text number = (read : Option ℕ) × IsRead 16 text read × (number ≡ unwrap_or read 4)

-- the server that the words behind `serve` ask for
pub record AsksToServe (rows : List Row) (asked : Serve) : Type 0 where
  pub socket : string_bytes asked.socket ≡ unwrap_or (first_of (codes "socket") rows) []
  pub workers : IsReadOr4 (one_of (codes "workers") rows) asked.workers
  pub sessions : IsReadOr4 (one_of (codes "sessions") rows) asked.sessions
  pub count : IsRead 1000000 (one_of (codes "count") rows) asked.count
  pub names : map string_bytes asked.names.items ≡ unwrap_or (all_of (codes "name") rows) []

-- what a subcommand asks for
abbrev pub AsksFor : Option (Text × List Row) → Words → Type 0
AsksFor entered asked.Solo = (entered_name entered ≢ Some (codes "serve")) × (entered_name entered ≢ Some (codes "sim"))
AsksFor entered asked.Sim = entered_name entered ≡ Some (codes "sim")
AsksFor entered (asked.Serve server) =
    (entered_name entered ≡ Some (codes "serve")) × IfSome (entered_rows entered) (λ rows. AsksToServe rows server)

-- the numbers are in their ranges
abbrev pub HasNumbersInRange : Words → Type 0
HasNumbersInRange (asked.Serve server) = serving.IsInRange server
HasNumbersInRange _ = ⊤

-- the words mean this, and can't be read for want of memory alone
abbrev pub Means : Words → Result Words Error → Type 0
Means words (Ok read) = read ≡ words
Means words (Err e) = kind_of e ≡ OutOfMemory
