use Rattle.std.proofs.Common.{◌≡◌, [], map, subst}
use Rattle.clap.specs.Words.{HasKind, app_of, fault_of}
use Rattle.ot_subcommands.specs.Asked.{AsksFor}
use Rattle.ot_subcommands.specs.Grammar.{program_words}
use Rattle.ot_commands.proofs.Known.{FailsBy-passed, fault_of-known, subcommand_rows_of-known}
use Rattle.ot_subcommands.proofs.Grammar.{program_words-is_simple, program_words-is_simple_and_free}
use Rattle.ot_subcommands.proofs.command_line.words.Goals as goal

pub returns-in_err-matches-clause-kinds : goal.returns-in_err-matches-clause-kinds
returns-in_err-matches-clause-kinds c =
    let failed = c.in_err-matches in
    let given = map (λ word. word.now) c.args.given.now in
    let has = fault_of-known program_words (app_of c.in_ok-program_command.field-0) given (λ kinds. HasKind kinds failed.field-0.0)
    program_words-is_simple_and_free c.in_ok-program_command.ensures failed.ensures.kinds in
    FailsBy-passed (fault_of program_words given) failed.field-0.0 c.from_residual-in_err-matches.result
    c.from_residual-in_err-matches.ensures.1 has

pub returns-clause-kinds : goal.returns-clause-kinds
returns-clause-kinds c =
    fault_of-known program_words (app_of c.in_ok-program_command.field-0) (map (λ word. word.now) c.args.given.now) (λ kinds. kinds ≡ [])
    program_words-is_simple_and_free c.in_ok-program_command.ensures c.in_ok-matches.ensures.kinds

pub returns-clause-asked : goal.returns-clause-asked
returns-clause-asked c =
    let given = map (λ word. word.now) c.args.given.now in
    let entered = subcommand_rows_of-known program_words (app_of c.in_ok-program_command.field-0) given c.in_ok-matches.matches
    program_words-is_simple c.in_ok-program_command.ensures c.in_ok-matches.ensures.matches in
    subst (λ rows. AsksFor rows c.in_ok-asked_for.field-0) entered c.in_ok-asked_for.ensures
