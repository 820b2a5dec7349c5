-- The words that the program takes, as `clap` sees them.
use Rattle.std.specs.Prelude.{true, codes}
use Rattle.clap.specs.Words.{App, Shape, new_app, with_subcommand}
use Rattle.clap.specs.Simple.{new_shape, on_top, with_rule}
use Rattle.ot_commands.specs.Rules.{names_rule, number_rule, socket_rule}

-- `solo` takes no further word
unfoldable pub solo_words : Shape
solo_words = new_shape (codes "solo")

-- and neither does `sim`
unfoldable pub sim_words : Shape
sim_words = new_shape (codes "sim")

unfoldable pub serve_words : Shape
serve_words =
    let named = with_rule (with_rule (new_app (codes "serve")) socket_rule) (number_rule (codes "workers") 16) in
    (with_rule (with_rule (with_rule named (number_rule (codes "sessions") 16)) (number_rule (codes "count") 1000000)) (names_rule (codes "name"))).top

-- one of the subcommands has to be given, but where the version is asked for
unfoldable pub program_words : App
program_words =
    let program = on_top (λ s. record s { has_version = true; subcommand_required = true }) (new_app (codes "omptaskd")) in
    with_subcommand (with_subcommand (with_subcommand program solo_words) sim_words) serve_words
