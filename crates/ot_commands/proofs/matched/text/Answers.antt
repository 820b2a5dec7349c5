use Rattle.std.proofs.Common.{ap, ◌∙◌, []}
use Rattle.std.proofs.lemmas.Result.{IfOk-weaker}
use Rattle.std.specs.Prelude.{unwrap_or}
use Rattle.clap.specs.Words.{found_of}
use Rattle.clap.proofs.WalkLemmas.{first_value-rows}
use Rattle.ot_commands.proofs.matched.text.Goals as goal

pub returns-in-Some : goal.returns-in-Some
returns-in-Some c =
    let first = c.in-Some.ensures ∙ first_value-rows (found_of c.args.matches.now) c.args.id.now in
    IfOk-weaker c.from_str.result _ _ (λ text same. same ∙ ap (λ o. unwrap_or o []) first) c.from_str.ensures.ok

pub returns-in-None : goal.returns-in-None
returns-in-None c =
    let none = c.in-None.ensures ∙ first_value-rows (found_of c.args.matches.now) c.args.id.now in
    c.new.ensures.bytes ∙ ap (λ o. unwrap_or o []) none
