-- What the words ask for.
use Rattle.std.specs.Prelude.{◌≡◌, ◌≢◌, true, List, [], map, Option, Some, IfSome, codes, string_bytes, unwrap_or}
use Rattle.clap.specs.Words.{Row, Text, all_of, first_of, one_of}
use Rattle.ot_commands.specs.Rules.{IsRead, IsSaid, entered_name, entered_rows}
use Rattle.ot_subcommands.specs.declared.asked.Ask.{Ask}
use Rattle.ot_subcommands.specs.declared.asked.Check.{Check}
use Rattle.ot_subcommands.specs.declared.asked.Manner.{Manner}
use Rattle.ot_subcommands.specs.declared.asked.Words.{Words}
use Rattle.ot_subcommands.specs.declared.asked.Words.TheVariants as asked

-- the tenant that the words behind `ask`, `save` or `restore` ask for
pub record AsksServer (rows : List Row) (ask : Ask) : Type 0 where
  pub socket : string_bytes ask.socket ≡ unwrap_or (first_of (codes "socket") rows) []
  pub name : string_bytes ask.name ≡ unwrap_or (first_of (codes "name") rows) []

-- how the words behind `ask` ask that a session be held
pub record AsksManner (rows : List Row) (manner : Manner) : Type 0 where
  pub stop : IsSaid (one_of (codes "stop") rows) manner.stop
  pub explain : IsSaid (one_of (codes "explain") rows) manner.explain

-- the files that the words behind `check` ask for, with the arrays before them
pub record AsksFiles (rows : List Row) (check : Check) : Type 0 where
  pub defined : map string_bytes check.defined.items ≡ unwrap_or (all_of (codes "define") rows) []
  pub lines : IsSaid (one_of (codes "lines") rows) check.lines
  pub quiet : IsSaid (one_of (codes "quiet") rows) check.quiet
  pub races_only : IsSaid (one_of (codes "races-only") rows) check.races_only
  pub format : string_bytes check.format ≡ unwrap_or (first_of (codes "format") rows) []
  pub name : string_bytes check.name ≡ unwrap_or (first_of (codes "name") rows) []
  pub files : map string_bytes check.files.items ≡ unwrap_or (all_of (codes "file") rows) []

-- the files that the words behind `lines` ask to be written
pub record AsksLines (rows : List Row) (check : Check) : Type 0 where
  pub defined : check.defined.items ≡ []
  pub lines : check.lines ≡ true
  pub name : string_bytes check.name ≡ unwrap_or (first_of (codes "name") rows) []
  pub files : map string_bytes check.files.items ≡ unwrap_or (all_of (codes "file") rows) []

-- what a subcommand asks for
abbrev pub AsksFor : Option (Text × List Row) → Words → Type 0
AsksFor entered (asked.Explain code quiet) =
    (entered_name entered ≢ Some (codes "ask"))
    × (entered_name entered ≢ Some (codes "save"))
    × (entered_name entered ≢ Some (codes "restore"))
    × (entered_name entered ≢ Some (codes "graph"))
    × (entered_name entered ≢ Some (codes "c"))
    × (entered_name entered ≢ Some (codes "check"))
    × (entered_name entered ≢ Some (codes "lines"))
    × (entered_name entered ≡ Some (codes "explain") → IfSome (entered_rows entered) (λ rows. IsRead 999 (one_of (codes "code") rows) code × IsSaid (one_of (codes "quiet") rows) quiet))
AsksFor entered (asked.Ask ask manner) =
    (entered_name entered ≡ Some (codes "ask")) × IfSome (entered_rows entered) (λ rows. AsksServer rows ask × AsksManner rows manner)
AsksFor entered (asked.Save ask) =
    (entered_name entered ≡ Some (codes "save")) × IfSome (entered_rows entered) (λ rows. AsksServer rows ask)
AsksFor entered (asked.Restore ask replace) =
    (entered_name entered ≡ Some (codes "restore"))
    × IfSome (entered_rows entered) (λ rows. AsksServer rows ask × IsSaid (one_of (codes "replace") rows) replace)
AsksFor entered (asked.Graph path) =
    (entered_name entered ≡ Some (codes "graph"))
    × IfSome (entered_rows entered) (λ rows. string_bytes path ≡ unwrap_or (first_of (codes "file") rows) [])
AsksFor entered asked.C = entered_name entered ≡ Some (codes "c")
AsksFor entered (asked.Check check) =
    (entered_name entered ≡ Some (codes "check")) × IfSome (entered_rows entered) (λ rows. AsksFiles rows check)
AsksFor entered (asked.Lines check) =
    (entered_name entered ≡ Some (codes "lines")) × IfSome (entered_rows entered) (λ rows. AsksLines rows check)
