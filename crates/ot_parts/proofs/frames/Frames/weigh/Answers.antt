use Rattle.std.proofs.Common.{◌<◌, ◌≤◌, ◌∙◌, List, length, get_or, drop, ap, arith}
use Rattle.std.specs.Prelude.{Vec}
use Rattle.std.specs.Global.{Global}
use Rattle.std.proofs.lemmas.List.{drop_all}
use Rattle.ot_parts.specs.Left.{frame_parts, outer_parts}
use Rattle.ot_parts.specs.Parts.{parts_of, weight}
use Rattle.ot_parts.specs.declared.frames.Frame.{Frame}
use Rattle.ot_parts.specs.declared.part.Part.{Part}
use Rattle.ot_parts.proofs.WeightLemmas.{weight-frame, weight-two}
use Rattle.ot_parts.proofs.frames.Frames.weigh.Goals as goal

pub weigh-sum-requires : goal.weigh-sum-requires
weigh-sum-requires c =
    let self = c.args.self.now in
    omega (arith, c.requires, weight-two (frame_parts self.inner) (outer_parts self.outer.items), ap (λ (v : Vec Part Global). weight (parts_of (drop self.inner.at v.items))) c.deref.ensures)

pub loop-frame-init : goal.loop-frame-init
loop-frame-init c =
    let self = c.args.self.now in
    omega (arith, c.weigh-sum.ensures, weight-two (frame_parts self.inner) (outer_parts self.outer.items), ap (λ (v : Vec Part Global). weight (parts_of (drop self.inner.at v.items))) c.deref.ensures)

pub weigh-sum-requires-in-loop-frame : goal.weigh-sum-requires-in-loop-frame
weigh-sum-requires-in-loop-frame c =
    let items = c.args.self.now.outer.items in
    let i = c.loop-frame.frame-index in
    let f = c.frame-item.result in
    let same = c.deref-frame-items.ensures.value in
    let within : i < length items = omega (arith, c.loop-frame-test.true, ap length same) in
    let one = weight-frame items i f within (c.frame-item.is ∙ ap (λ (fs : List Frame). get_or fs i f) same) in
    omega (arith, c.requires, c.loop-frame.invariant, one, ap (λ (v : Vec Part Global). weight (parts_of (drop f.at v.items))) c.deref-in-loop-frame.ensures)

pub overflow_add-sum : goal.overflow_add-sum
overflow_add-sum c =
    let items = c.args.self.now.outer.items in
    let i = c.loop-frame.frame-index in
    let f = c.frame-item.result in
    let same = c.deref-frame-items.ensures.value in
    let within : i < length items = omega (arith, c.loop-frame-test.true, ap length same) in
    let one = weight-frame items i f within (c.frame-item.is ∙ ap (λ (fs : List Frame). get_or fs i f) same) in
    omega (arith, c.requires, c.loop-frame.invariant, one, c.weigh-sum-in-loop-frame.ensures, ap (λ (v : Vec Part Global). weight (parts_of (drop f.at v.items))) c.deref-in-loop-frame.ensures)

pub loop-frame-preserved : goal.loop-frame-preserved
loop-frame-preserved c =
    let items = c.args.self.now.outer.items in
    let i = c.loop-frame.frame-index in
    let f = c.frame-item.result in
    let same = c.deref-frame-items.ensures.value in
    let within : i < length items = omega (arith, c.loop-frame-test.true, ap length same) in
    let one = weight-frame items i f within (c.frame-item.is ∙ ap (λ (fs : List Frame). get_or fs i f) same) in
    omega (arith, c.loop-frame.invariant, one, c.weigh-sum-in-loop-frame.ensures, ap (λ (v : Vec Part Global). weight (parts_of (drop f.at v.items))) c.deref-in-loop-frame.ensures)

pub returns : goal.returns
returns c =
    let items = c.args.self.now.outer.items in
    let i = c.loop-frame.frame-index in
    let past : length items ≤ i = omega (arith, c.loop-frame-test.false, ap length c.deref-frame-items.ensures.value) in
    omega (arith, c.loop-frame.invariant, ap (λ (fs : List Frame). weight (parts_of (outer_parts fs))) (drop_all i items past))
