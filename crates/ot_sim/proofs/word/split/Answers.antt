use Rattle.std.proofs.Common.{◌∙◌, sym, ap, drop}
use Rattle.std.specs.Prelude.{Some}
use Rattle.ot_sim.proofs.WordLemmas.{word-front, behind-front, word-all, behind-none}
use Rattle.ot_sim.proofs.word.split.Goals as goal

pub returns-in-Some-clause-word : goal.returns-in-Some-clause-word
returns-in-Some-clause-word c =
    c.split_at.ensures.front ∙ sym (word-front c.args.line.now c.in-Some.at c.in-Some.ensures.0.high c.in-Some.ensures.0.before c.in-Some.ensures.1)

pub returns-in-Some-clause-behind : goal.returns-in-Some-clause-behind
returns-in-Some-clause-behind c =
    ap Some (c.split_at-in-Some.ensures.back ∙ ap (drop 1) c.split_at.ensures.back)
    ∙ sym (behind-front c.args.line.now c.in-Some.at c.in-Some.ensures.0.high c.in-Some.ensures.0.before c.in-Some.ensures.1)

pub returns-in-None-clause-word : goal.returns-in-None-clause-word
returns-in-None-clause-word c = sym (word-all c.args.line.now c.in-None.ensures)

pub returns-in-None-clause-behind : goal.returns-in-None-clause-behind
returns-in-None-clause-behind c = sym (behind-none c.args.line.now c.in-None.ensures)
