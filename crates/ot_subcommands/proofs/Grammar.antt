-- What the words of the program are to `clap`.
use Rattle.std.proofs.Common.{◌≡◌, true, refl}
use Rattle.clap.specs.Words.{is_simple, is_simple_and_free}
use Rattle.clap.proofs.OnLiterals.{clap_on_literals}
use Rattle.ot_commands.specs.Rules.{flag_rule, names_rule, socket_rule}
use Rattle.ot_subcommands.specs.Grammar.{program_words, session_words, explain_words, ask_words, save_words, restore_words, graph_words, c_words, judging_words, check_words, lines_words, code_rule, file_rule, name_rule, call_rule, format_rule, define_rule}

-- `clap` tells exactly when these words fail, and what it finds in them
pub program_words-is_simple_and_free : is_simple_and_free program_words ≡ true
unfolding program_words session_words explain_words ask_words save_words restore_words graph_words c_words judging_words check_words lines_words code_rule file_rule name_rule call_rule format_rule define_rule flag_rule names_rule socket_rule clap_on_literals
program_words-is_simple_and_free = refl

pub program_words-is_simple : is_simple program_words ≡ true
unfolding program_words session_words explain_words ask_words save_words restore_words graph_words c_words judging_words check_words lines_words code_rule file_rule name_rule call_rule format_rule define_rule flag_rule names_rule socket_rule clap_on_literals
program_words-is_simple = refl
