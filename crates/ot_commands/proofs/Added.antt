-- What a command is to `clap` with one subcommand more.
use Rattle.std.specs.declared.alloc.AllocError.{AllocError}
use Rattle.std.proofs.Common.{◌≡◌, Result, Ok, Err, IfOk, IsOkAnd, false, ap, ◌∙◌}
use Rattle.clap.specs.Words.{AddsSubcommand, App, Shape, app_of, shape_of, with_subcommand}
use Rattle.clap.specs.declared.builder.command.Command.{Command}
use Rattle.clap.specs.declared.builder.command.Command.TheViews.{out-Command as fields_of}

-- a subcommand of these words is added to the words of the command
pub app_of-added : (command added : Command) (made : Result Command AllocError) (words : Shape)
    → IfOk made (λ subcommand. shape_of subcommand ≡ words) → IfOk made (λ subcommand. (fields_of subcommand).has_globals ≡ false)
    → IsOkAnd made (λ subcommand. AddsSubcommand command subcommand added) → app_of added ≡ with_subcommand (app_of command) words
app_of-added command added (Ok subcommand) words is own adds = adds.shape own ∙ ap (with_subcommand (app_of command)) is
app_of-added command added (Err e) words is own adds = absurd adds
