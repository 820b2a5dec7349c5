use Rattle.std.proofs.Common.{◌<◌, length, ◌+◌, ◌*◌, ◌%◌, ◌∙◌, subst, arith, None, Some}
use Rattle.std.proofs.lemmas.List.{get_or_default}
use Rattle.std.specs.Slice.Scan.{HoldsNowhere}
use Rattle.ot_hall.specs.Marking.{IsFirst, IsLowest, has_bit_at}
use Rattle.ot_hall.proofs.MarkLemmas.{found, not-found, looked-on, place-fits}
use Rattle.ot_hall.proofs.marks.Marks.first_from.Goals as goal

pub overflow_cast-result : goal.overflow_cast-result
overflow_cast-result c =
    omega (arith, place-fits _ _ c.loop-place.place 0 c.self.invariant.many c.self.invariant.few (omega (arith, c.loop-place-test.true, c.len-place-end.ensures, c.loop-place.auto.place-end, c.self.inside.words.ok.0)) (omega arith))

pub overflow_add-result : goal.overflow_add-result
overflow_add-result c =
    omega (arith, place-fits _ _ c.loop-place.place c.in-Some.bit c.self.invariant.many c.self.invariant.few (omega (arith, c.loop-place-test.true, c.len-place-end.ensures, c.loop-place.auto.place-end, c.self.inside.words.ok.0)) c.in-Some.ensures.0)

pub overflow_mul-next : goal.overflow_mul-next
overflow_mul-next c =
    omega (arith, place-fits _ _ c.loop-place.place 0 c.self.invariant.many c.self.invariant.few (omega (arith, c.loop-place-test.true, c.len-place-end.ensures, c.loop-place.auto.place-end, c.self.inside.words.ok.0)) (omega arith))

pub returns-in-Some : goal.returns-in-Some
returns-in-Some c =
    let inside = c.self.inside in
    let within : c.loop-place.place < length inside.words.items = omega (arith, c.loop-place-test.true, c.len-place-end.ensures, c.loop-place.auto.place-end, inside.words.ok.0) in
    subst (λ marks. IsFirst marks c.args.from (Some (c.loop-place.place * 64 + c.in-Some.bit))) c.self.view_is
    (found inside.words.items inside.count c.args.from c.loop-place.next c.loop-place.place c.in-Some.bit c.self.invariant.clean c.loop-place.invariant
    (subst (λ w. IsLowest w (c.loop-place.next % 64) (Some c.in-Some.bit)) (c.index.ensures ∙ get_or_default inside.words.items c.loop-place.place _ 0 within) c.in-Some.ensures))

pub loop-place-preserved : goal.loop-place-preserved
loop-place-preserved c =
    let inside = c.self.inside in
    let within : c.loop-place.place < length inside.words.items = omega (arith, c.loop-place-test.true, c.len-place-end.ensures, c.loop-place.auto.place-end, inside.words.ok.0) in
    looked-on inside.words.items c.args.from c.loop-place.next c.loop-place.place c.loop-place.invariant
    (subst (λ w. HoldsNowhere (has_bit_at w) (c.loop-place.next % 64) 64) (c.index.ensures ∙ get_or_default inside.words.items c.loop-place.place _ 0 within) c.in_default.ensures)

pub returns : goal.returns
returns c =
    let inside = c.self.inside in
    subst (λ marks. IsFirst marks c.args.from None) c.self.view_is
    (not-found inside.words.items inside.count c.args.from c.loop-place.next c.loop-place.place c.self.invariant.clean c.loop-place.invariant
    (omega (arith, c.loop-place-test.false, c.len-place-end.ensures, inside.words.ok.0)))
