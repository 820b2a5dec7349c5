use Rattle.std.proofs.Common.{ap, ◌∙◌, ℕ, List, ◌++◌, codes, string_bytes}
use Rattle.std.proofs.lemmas.Result.{IfOk-weaker}
use Rattle.ot_c_judge.specs.Lines.{turns_text}
use Rattle.ot_c_judge.specs.SiteView.{site_by}
use Rattle.ot_c_judge.proofs.telling.here_words.Goals as goal

pub returns : goal.returns
returns c =
    let at = c.as_str-at.ensures.value ∙ c.in_ok-at.ensures in
    let turns = c.as_str-turns.ensures.value ∙ c.in_ok-turns.ensures in
    let words : List ℕ → List ℕ → List ℕ = λ a t. c.args.cell.now ++ (codes " is " ++ (c.args.one.now ++ (codes " here while it may be " ++ (c.args.two.now ++ (codes " at " ++ (a ++ t)))))) in
    IfOk-weaker c.format.result _ _ (λ told h. h ∙ ap (words c.as_str-at.result.now) turns ∙ ap (λ a. words a (turns_text (site_by c.args.here.now).turns)) at) c.format.ensures.ok
