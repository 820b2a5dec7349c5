use Rattle.std.proofs.Common.{◌≡◌, ◌∙◌, ◌+◌, length, ap, arith}
use Rattle.std.proofs.lemmas.List.{length-append}
use Rattle.std.specs.Prelude.{min}
use Rattle.ot_model.specs.View.{expr_of}
use Rattle.ot_race_ways.specs.Known.{number_in_value, choices, may_read}
use Rattle.ot_race_ways.proofs.naming.+named_by.Goals as goal

pub returns-in-Pick : goal.returns-in-Pick
returns-in-Pick t c =
    let s = c.in-Pick.section in
    let chosen = expr_of c.in-Pick.chosen.value in
    let sum : length (may_read (expr_of c.args.expr.now)) ≡ length (choices s (number_in_value chosen)) + length (may_read chosen) =
    ap (λ e. length (may_read (expr_of e))) c.in-Pick.is ∙ length-append (choices s (number_in_value chosen)) (may_read chosen) in
    let one : c.choices.result ≡ min (length (choices s (number_in_value chosen))) 20000001 =
    c.choices.ensures ∙ ap (λ o. min (length (choices s o)) 20000001) (c.known_number.ensures ∙ ap (λ e. number_in_value (expr_of e)) c.deref-in-Pick.ensures) in
    let other : c.named_by-in-Pick.result ≡ min (length (may_read chosen)) 20000001 =
    c.named_by-in-Pick.ensures ∙ ap (λ e. min (length (may_read (expr_of e))) 20000001) c.deref-in-Pick-2.ensures in
    omega (arith, sum, one, other, c.both-in-Pick.ensures)
