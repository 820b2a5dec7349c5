use Rattle.std.proofs.Common.{ap, ◌∙◌, ◌++◌, codes, string_bytes}
use Rattle.std.proofs.lemmas.Result.{IfOk-weaker}
use Rattle.ot_c_judge.proofs.telling.refused_words.Goals as goal

pub returns : goal.returns
returns c =
    let turns = c.as_str-turns.ensures.value ∙ c.in_ok-turns.ensures in
    IfOk-weaker c.format.result _ _ (λ told h. h ∙ ap (λ t. c.args.known.now ++ (codes ", but omptaskd refuses it: " ++ (c.args.words.now ++ t))) turns) c.format.ensures.ok
