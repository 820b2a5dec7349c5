-- The words that the program takes, as `clap` sees them.
use Rattle.std.specs.Prelude.{Some, true, codes, pos}
use Rattle.clap.specs.Words.{App, Rule, Shape, new_app, with_subcommand}
use Rattle.clap.specs.Simple.{new_rule, on_top, with_rule}
use Rattle.clap.specs.declared.builder.action.ArgAction.TheVariants.{Append}
use Rattle.clap.specs.declared.builder.value_parser.ValueParser.TheVariants.{Signed}
use Rattle.ot_commands.specs.Rules.{flag_rule, names_rule, socket_rule}

-- a code may be given
unfoldable pub code_rule : Rule
code_rule = record (new_rule (codes "code")) { value_names = 1; parser = Some (Signed (pos 1) (pos 999)) }

unfoldable pub explain_words : Shape
explain_words = (with_rule (with_rule (new_app (codes "explain")) (flag_rule (codes "quiet"))) code_rule).top

-- the tenant's name, which has to be given
unfoldable pub name_rule : Rule
name_rule = record (new_rule (codes "name")) { value_names = 1; required = true }

unfoldable pub ask_words : Shape
ask_words = (with_rule (with_rule (with_rule (with_rule (new_app (codes "ask")) socket_rule) (flag_rule (codes "stop"))) (flag_rule (codes "explain"))) name_rule).top

unfoldable pub save_words : Shape
save_words = (with_rule (with_rule (new_app (codes "save")) socket_rule) name_rule).top

unfoldable pub restore_words : Shape
restore_words = (with_rule (with_rule (with_rule (new_app (codes "restore")) socket_rule) (flag_rule (codes "replace"))) name_rule).top

-- a text in C may be given
unfoldable pub file_rule : Rule
file_rule = record (new_rule (codes "file")) { value_names = 1 }

unfoldable pub graph_words : Shape
graph_words = (with_rule (new_app (codes "graph")) file_rule).top

unfoldable pub c_words : Shape
c_words = (new_app (codes "c")).top

-- a macro, or an array that is there before, and others behind it: `-D` (68) or `--define`
unfoldable pub define_rule : Rule
define_rule = record (new_rule (codes "define")) { short = Some 68; long = Some (codes "define"); action = Some Append; value_names = 1 }

-- what standard input is called
unfoldable pub call_rule : Rule
call_rule = record (new_rule (codes "name")) { long = Some (codes "name"); value_names = 1 }

-- in which format is told what is found
unfoldable pub format_rule : Rule
format_rule = record (new_rule (codes "format")) { long = Some (codes "format"); value_names = 1 }

-- what is judged, but the files
unfoldable pub judging_words : App
judging_words = with_rule (with_rule (with_rule (new_app (codes "check")) define_rule) (flag_rule (codes "lines"))) call_rule

unfoldable pub check_words : Shape
check_words =
    (with_rule (with_rule (with_rule (with_rule judging_words format_rule) (flag_rule (codes "quiet"))) (flag_rule (codes "races-only"))) (names_rule (codes "file"))).top

unfoldable pub lines_words : Shape
lines_words = (with_rule (with_rule (new_app (codes "lines")) call_rule) (names_rule (codes "file"))).top

-- one of the subcommands has to be given, but where the version is asked for; these hold a session, or explain one
unfoldable pub session_words : App
session_words =
    let program = on_top (λ s. record s { has_version = true; subcommand_required = true }) (new_app (codes "omptask")) in
    with_subcommand (with_subcommand (with_subcommand (with_subcommand program explain_words) ask_words) save_words) restore_words

-- all of them
unfoldable pub program_words : App
program_words =
    with_subcommand (with_subcommand (with_subcommand (with_subcommand session_words graph_words) c_words) check_words) lines_words
