-- What `clap` tells of a command that has known words.
use Rattle.std.proofs.Common.{◌≡◌, List, Result, Ok, Err, IsErrAnd, true, sym, ap, subst, ◌∙◌}
use Rattle.clap.specs.Words.{App, FailsBy, HasKind, HasMatchesOf, Kinds, Text, fault_of, is_simple, is_simple_and_free, subcommand_of, subcommand_rows_of}
use Rattle.clap.specs.declared.parser.matches.ArgMatches.{ArgMatches}
use Rattle.clap.specs.declared.error.Error.{Error}

-- what is told of the kinds of a command is told of its words
pub fault_of-known : (known app : App) (words : List Text) (P : Kinds → Type 0) → is_simple_and_free known ≡ true → app ≡ known
    → (is_simple_and_free app ≡ true → P (fault_of app words)) → P (fault_of known words)
fault_of-known known app words P simple same told = subst (λ a. P (fault_of a words)) same (told (ap is_simple_and_free same ∙ simple))

-- the matches enter the subcommand of the words
pub subcommand_rows_of-known : (known app : App) (words : List Text) (m : ArgMatches) → is_simple known ≡ true → app ≡ known
    → HasMatchesOf app words m → subcommand_rows_of m ≡ subcommand_of known words
subcommand_rows_of-known known app words m simple same has = (has (ap is_simple same ∙ simple)).1 ∙ ap (λ a. subcommand_of a words) same

-- an error that is passed on keeps its kind
pub FailsBy-passed : {T : Type 0} (kinds : Kinds) (e : Error) (r : Result T Error) → IsErrAnd r (λ f. f ≡ e) → HasKind kinds e
    → FailsBy kinds r
FailsBy-passed kinds e (Ok value) passed has = absurd passed
FailsBy-passed kinds e (Err f) passed has = subst (HasKind kinds) (sym passed) has
