use Rattle.std.proofs.Common.{◌≡◌, ◌*◌, ◌∙◌, ap, sym, arith}
use Rattle.ot_c_words.specs.Numbers.{base_of}
use Rattle.ot_c_words.proofs.ValueLemmas.{reached, none_fits, some_fits, all_read}
use Rattle.ot_c_words.proofs.number.value_of.Goals as goal

pub returns-in_err-shifted : goal.returns-in_err-shifted
returns-in_err-shifted c =
    let further = reached c.args.base c.loop-digit.value c.args.digits.now c.loop-digit.digit-index c.loop-digit-test.true in
    let times : c.loop-digit.value * c.base_of-times.result ≡ c.loop-digit.value * base_of c.args.base = ap (λ t. c.loop-digit.value * t) c.base_of-times.ensures in
    c.from_residual.ensures ∙ sym (none_fits c.args.base c.args.digits.now (omega (arith, further, times, c.in_err-shifted.ensures, c.loop-digit.invariant.0)))

pub returns-in_err-value : goal.returns-in_err-value
returns-in_err-value c =
    let further = reached c.args.base c.loop-digit.value c.args.digits.now c.loop-digit.digit-index c.loop-digit-test.true in
    let times : c.loop-digit.value * c.base_of-times.result ≡ c.loop-digit.value * base_of c.args.base = ap (λ t. c.loop-digit.value * t) c.base_of-times.ensures in
    c.from_residual-in_err-value.ensures ∙ sym (none_fits c.args.base c.args.digits.now (omega (arith, further, times, c.figure.ensures, c.in_ok-shifted.ensures.1, c.in_err-value.ensures, c.loop-digit.invariant.0)))

pub returns : goal.returns
returns c = some_fits c.args.base c.args.digits.now c.loop-digit.value (omega arith) (sym (all_read c.args.base c.loop-digit.value c.args.digits.now c.loop-digit.digit-index c.loop-digit-test.false) ∙ c.loop-digit.invariant.0)
