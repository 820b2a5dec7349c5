use Rattle.std.proofs.Common.{rules, ◌<◌, ◌≤◌, ◌∙◌, length, sym, ap, arith}
use Rattle.std.specs.Prelude.{Vec}
use Rattle.std.specs.Global.{Global}
use Rattle.std.proofs.lemmas.List.{drop_all}
use Rattle.ot_parts.specs.Parts.{part_of, parts_of, weight}
use Rattle.ot_parts.specs.declared.part.Part.{Part, the_lemmas}
use Rattle.ot_parts.proofs.PartLemmas.{group-part, if-part, task-part, wait-part}
use Rattle.ot_parts.proofs.WeightLemmas.{weight-first, weight-is, weight-none}
use Rattle.ot_parts.proofs.weigh.+weigh.Goals as goal

pub weigh-weigh_part-sum-requires : goal.weigh-weigh_part-sum-requires
weigh-weigh_part-sum-requires t c =
    let items = c.args.parts.now.items in
    let within : c.loop-i.i < length items = omega (arith, c.loop-i-test.true, c.len-i-end.ensures, c.args.parts.now.ok.0) in
    (search (rules, the_lemmas), omega (arith, c.requires, c.loop-i.invariant, weight-first items c.loop-i.i c.index.result.now within c.index.ensures))

pub weigh-overflow_add-sum : goal.weigh-overflow_add-sum
weigh-overflow_add-sum t c =
    let items = c.args.parts.now.items in
    let within : c.loop-i.i < length items = omega (arith, c.loop-i-test.true, c.len-i-end.ensures, c.args.parts.now.ok.0) in
    omega (arith, c.requires, c.loop-i.invariant, c.weigh_part-sum.ensures, weight-first items c.loop-i.i c.index.result.now within c.index.ensures)

pub weigh-loop-i-preserved : goal.weigh-loop-i-preserved
weigh-loop-i-preserved t c =
    let items = c.args.parts.now.items in
    let within : c.loop-i.i < length items = omega (arith, c.loop-i-test.true, c.len-i-end.ensures, c.args.parts.now.ok.0) in
    omega (arith, c.loop-i.invariant, c.weigh_part-sum.ensures, weight-first items c.loop-i.i c.index.result.now within c.index.ensures)

pub weigh-returns : goal.weigh-returns
weigh-returns t c =
    let items = c.args.parts.now.items in
    let past : length items ≤ c.loop-i.i = omega (arith, c.loop-i-test.false, c.len-i-end.ensures, c.args.parts.now.ok.0) in
    omega (arith, c.loop-i.invariant, ap (λ ps. weight (parts_of ps)) (drop_all c.loop-i.i items past))

pub weigh_part-returns-then-not-has_control : goal.weigh_part-returns-then-not-has_control
weigh_part-returns-then-not-has_control t c =
    sym (weight-none (part_of c.args.part.now) c.has_control.ensures.part (sym c.has_control.ensures.is ∙ c.if-not-has_control.true))

pub weigh_part-weigh-one-requires : goal.weigh_part-weigh-one-requires
weigh_part-weigh-one-requires t c =
    let all = weight-is (part_of c.args.part.now) _ c.has_control.ensures.part (ap (λ p. (part_of p).control) c.in-If.is ∙ if-part c.in-If.field-0 c.in-If.one c.in-If.two) in
    (search (rules, the_lemmas), omega (arith, c.requires, all, ap (λ (v : Vec Part Global). weight (parts_of v.items)) c.deref.ensures))

pub weigh_part-weigh-two-requires : goal.weigh_part-weigh-two-requires
weigh_part-weigh-two-requires t c =
    let all = weight-is (part_of c.args.part.now) _ c.has_control.ensures.part (ap (λ p. (part_of p).control) c.in-If.is ∙ if-part c.in-If.field-0 c.in-If.one c.in-If.two) in
    (search (rules, the_lemmas), omega (arith, c.requires, all, ap (λ (v : Vec Part Global). weight (parts_of v.items)) c.deref-in-If.ensures))

pub weigh_part-overflow_add-result : goal.weigh_part-overflow_add-result
weigh_part-overflow_add-result t c =
    let all = weight-is (part_of c.args.part.now) _ c.has_control.ensures.part (ap (λ p. (part_of p).control) c.in-If.is ∙ if-part c.in-If.field-0 c.in-If.one c.in-If.two) in
    let one = c.weigh-one.ensures ∙ ap (λ (v : Vec Part Global). weight (parts_of v.items)) c.deref.ensures in
    let two = c.weigh-two.ensures ∙ ap (λ (v : Vec Part Global). weight (parts_of v.items)) c.deref-in-If.ensures in
    omega (arith, c.requires, all, c.max.ensures, one, two)

pub weigh_part-returns-in-If : goal.weigh_part-returns-in-If
weigh_part-returns-in-If t c =
    let all = weight-is (part_of c.args.part.now) _ c.has_control.ensures.part (ap (λ p. (part_of p).control) c.in-If.is ∙ if-part c.in-If.field-0 c.in-If.one c.in-If.two) in
    let one = c.weigh-one.ensures ∙ ap (λ (v : Vec Part Global). weight (parts_of v.items)) c.deref.ensures in
    let two = c.weigh-two.ensures ∙ ap (λ (v : Vec Part Global). weight (parts_of v.items)) c.deref-in-If.ensures in
    omega (arith, all, c.max.ensures, one, two)

pub weigh_part-returns-in-Wait : goal.weigh_part-returns-in-Wait
weigh_part-returns-in-Wait t c =
    sym (weight-is (part_of c.args.part.now) _ c.has_control.ensures.part (ap (λ p. (part_of p).control) c.in-Wait.is ∙ wait-part c.in-Wait.field-0 c.in-Wait.field-1))

pub weigh_part-weigh-requires : goal.weigh_part-weigh-requires
weigh_part-weigh-requires t c =
    let all = weight-is (part_of c.args.part.now) _ c.has_control.ensures.part (ap (λ p. (part_of p).control) c.in-Task.is ∙ task-part c.in-Task.field-0 c.in-Task.field-1 c.in-Task.body) in
    (search (rules, the_lemmas), omega (arith, c.requires, all, ap (λ (v : Vec Part Global). weight (parts_of v.items)) c.deref-in-Task.ensures))

pub weigh_part-overflow_add-result-in-Task : goal.weigh_part-overflow_add-result-in-Task
weigh_part-overflow_add-result-in-Task t c =
    let all = weight-is (part_of c.args.part.now) _ c.has_control.ensures.part (ap (λ p. (part_of p).control) c.in-Task.is ∙ task-part c.in-Task.field-0 c.in-Task.field-1 c.in-Task.body) in
    omega (arith, c.requires, all, c.weigh.ensures, ap (λ (v : Vec Part Global). weight (parts_of v.items)) c.deref-in-Task.ensures)

pub weigh_part-returns-in-Task : goal.weigh_part-returns-in-Task
weigh_part-returns-in-Task t c =
    let all = weight-is (part_of c.args.part.now) _ c.has_control.ensures.part (ap (λ p. (part_of p).control) c.in-Task.is ∙ task-part c.in-Task.field-0 c.in-Task.field-1 c.in-Task.body) in
    omega (arith, all, c.weigh.ensures, ap (λ (v : Vec Part Global). weight (parts_of v.items)) c.deref-in-Task.ensures)

pub weigh_part-weigh-requires-in-Group : goal.weigh_part-weigh-requires-in-Group
weigh_part-weigh-requires-in-Group t c =
    let all = weight-is (part_of c.args.part.now) _ c.has_control.ensures.part (ap (λ p. (part_of p).control) c.in-Group.is ∙ group-part c.in-Group.field-0 c.in-Group.field-1 c.in-Group.field-2 c.in-Group.body) in
    (search (rules, the_lemmas), omega (arith, c.requires, all, ap (λ (v : Vec Part Global). weight (parts_of v.items)) c.deref-in-Group.ensures))

pub weigh_part-overflow_add-result-in-Group : goal.weigh_part-overflow_add-result-in-Group
weigh_part-overflow_add-result-in-Group t c =
    let all = weight-is (part_of c.args.part.now) _ c.has_control.ensures.part (ap (λ p. (part_of p).control) c.in-Group.is ∙ group-part c.in-Group.field-0 c.in-Group.field-1 c.in-Group.field-2 c.in-Group.body) in
    omega (arith, c.requires, all, c.weigh-in-Group.ensures, ap (λ (v : Vec Part Global). weight (parts_of v.items)) c.deref-in-Group.ensures)

pub weigh_part-returns-in-Group : goal.weigh_part-returns-in-Group
weigh_part-returns-in-Group t c =
    let all = weight-is (part_of c.args.part.now) _ c.has_control.ensures.part (ap (λ p. (part_of p).control) c.in-Group.is ∙ group-part c.in-Group.field-0 c.in-Group.field-1 c.in-Group.field-2 c.in-Group.body) in
    omega (arith, all, c.weigh-in-Group.ensures, ap (λ (v : Vec Part Global). weight (parts_of v.items)) c.deref-in-Group.ensures)
