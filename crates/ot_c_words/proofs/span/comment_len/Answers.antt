use Rattle.std.proofs.Common.{◌∙◌, ap, sym}
use Rattle.std.specs.Prelude.{nat_eq, codes}
use Rattle.std.specs.List.{starts_with}
use Rattle.std.proofs.lemmas.List.{take_rest}
use Rattle.ot_c_words.proofs.SpanLemmas.{comment_goes_on}
use Rattle.ot_c_words.proofs.span.comment_len.Goals as goal

pub loop-i-preserved : goal.loop-i-preserved
loop-i-preserved c =
    let bytes = c.args.bytes.now in
    comment_goes_on bytes c.loop-i.i c.loop-i-test.true (ap (λ rest. starts_with nat_eq rest (codes "*/")) (sym (take_rest bytes c.loop-i.i)) ∙ sym c.starts_with.ensures.value ∙ c.if-starts_with.false) ∙ c.loop-i.invariant
