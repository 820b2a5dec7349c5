use Rattle.std.proofs.Common.{◌≡◌, ◌∙◌, Option, Some, None, ap}
use Rattle.clap.specs.Matches.{one_text}
use Rattle.clap.specs.Walk.{Text}
use Rattle.clap.specs.Words.{found_of, one_of, rows_of}
use Rattle.clap.proofs.WalkLemmas.{one_text-rows}
use Rattle.ot_commands.specs.Rules.{IsSaid}
use Rattle.ot_commands.proofs.matched.flag.Goals as goal

pub returns : goal.returns
returns c = go (one_of c.args.id.now (rows_of (found_of c.args.matches.now))) (one_text-rows (found_of c.args.matches.now) c.args.id.now)
  where
    go : (o : Option Text) → one_text (found_of c.args.matches.now) c.args.id.now ≡ o → IsSaid o c.get_flag.result
    go None e = c.get_flag.ensures.none e
    go (Some t) e = (λ said. c.get_flag.ensures.value (e ∙ ap Some said), λ said. c.get_flag.ensures.other (e ∙ ap Some said))
