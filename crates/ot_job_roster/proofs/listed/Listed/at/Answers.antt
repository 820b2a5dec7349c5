use Rattle.std.proofs.Common.{◌≡◌, ◌∙◌, ◌+◌, ◌*◌, Some, List, ℕ, length, ap, sym, arith, slice_get}
use Rattle.ot_job_roster.specs.Listed.{Numbers, has_number, numbers_in}
use Rattle.ot_job_roster.proofs.ListedLemmas.{those, words-more, found-at, none-at}
use Rattle.ot_job_roster.proofs.listed.Listed.at.Goals as goal

pub bit-requires : goal.bit-requires
bit-requires c = omega (arith, c.count_bits-ones.ensures, c.if-left-ones.true)

pub overflow_add-result : goal.overflow_add-result
overflow_add-result c = omega (arith, c.bit.ensures.within, c.loop-i-test.true, c.self.invariant.1, ap length c.deref-word-items.ensures.value)

pub returns-then-left-ones : goal.returns-then-left-ones
returns-then-left-ones c =
    let ws = c.deref-word-items.result.now in
    ap (λ n. Some (64 * c.loop-i.i + n)) c.bit.ensures.is
    ∙ sym (found-at ws c.loop-i.i c.loop-i-test.true c.args.place c.loop-i.left c.loop-i.invariant (omega (arith, c.count_bits-ones.ensures, c.if-left-ones.true)))
    ∙ ap (λ (l : List ℕ). slice_get (numbers_in l) c.args.place) c.deref-word-items.ensures.value ∙ ap (λ (v : Numbers). slice_get v.listed c.args.place) c.self.view_is

pub loop-i-preserved : goal.loop-i-preserved
loop-i-preserved c =
    let ws = c.deref-word-items.result.now in
    omega (arith, words-more ws c.loop-i.i c.loop-i-test.true, c.loop-i.invariant, c.if-left-ones.false, c.count_bits-ones.ensures)

pub returns : goal.returns
returns c =
    let ws = c.deref-word-items.result.now in
    let end : c.loop-i.i ≡ length ws = omega (arith, c.loop-i-test.false, c.loop-i.auto.i-end) in
    sym (none-at ws c.args.place c.loop-i.left (ap (λ i. length (those (has_number ws) 0 (64 * i)) + c.loop-i.left) (sym end) ∙ c.loop-i.invariant))
    ∙ ap (λ (l : List ℕ). slice_get (numbers_in l) c.args.place) c.deref-word-items.ensures.value ∙ ap (λ (v : Numbers). slice_get v.listed c.args.place) c.self.view_is
