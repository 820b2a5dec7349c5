use Rattle.std.proofs.Common.{◌∙◌, sym}
use Rattle.ot_why_reason.proofs.NumberLemmas.{numbers_to_more}
use Rattle.ot_why_reason.proofs.form.first_other.Goals as goal

pub loop-place-preserved : goal.loop-place-preserved
loop-place-preserved c =
    numbers_to_more c.args.items.now c.loop-place.place c.index-items-place.result c.in-Some.field-0 c.loop-place-test.true c.index-items-place.is
    (sym c.as_u64.ensures ∙ c.in-Some.is) c.loop-place.invariant
