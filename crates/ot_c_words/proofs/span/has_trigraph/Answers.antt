use Rattle.std.proofs.Common.{◌∙◌, ap, sym}
use Rattle.std.proofs.lemmas.List.{take_rest}
use Rattle.ot_c_words.specs.Spans.{begins_trigraph}
use Rattle.ot_c_words.proofs.SpanLemmas.{trigraph_goes_on}
use Rattle.ot_c_words.proofs.span.has_trigraph.Goals as goal

pub loop-i-preserved : goal.loop-i-preserved
loop-i-preserved c =
    let bytes = c.args.bytes.now in
    trigraph_goes_on bytes c.loop-i.i c.loop-i-test.true (ap (λ rest. begins_trigraph rest) (sym (take_rest bytes c.loop-i.i)) ∙ sym c.begins_trigraph.ensures ∙ c.if-begins_trigraph.false) ∙ c.loop-i.invariant
