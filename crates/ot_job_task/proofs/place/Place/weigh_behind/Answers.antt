use Rattle.std.proofs.Common.{◌≡◌, ◌∙◌, ◌+◌, ◌<◌, ◌≤◌, sym, ap, arith, map, drop, length, get_or, List, ◌∷◌}
use Rattle.std.proofs.lemmas.List.{drop_more, drop_all}
use Rattle.ot_job_task.specs.RegionView.{open_of}
use Rattle.ot_job_task.specs.Regions.{weight_behind}
use Rattle.ot_job_task.specs.declared.place.OpenGroup.{OpenGroup}
use Rattle.ot_job_task.proofs.GroupLemmas.{behind-reverse}
use Rattle.ot_job_task.proofs.place.Place.weigh_behind.Goals as goal

pub weigh-requires : goal.weigh-requires
weigh-requires c =
    let items = c.args.self.now.groups.items in
    let i = c.loop-group.group-index in
    let item = c.group-item.result in
    let same = c.deref-group-items.ensures.value in
    let within : i < length items = omega (arith, c.loop-group-test.true, ap length same) in
    let split : drop i items ≡ item ∷ drop (i + 1) items = drop_more items i item within ∙ ap (λ (o : OpenGroup). o ∷ drop (i + 1) items) (sym (c.group-item.is ∙ ap (λ (xs : List OpenGroup). get_or xs i item) same)) in
    let parts = ap (λ (xs : List OpenGroup). weight_behind (map open_of xs)) split in
    let all = behind-reverse (map open_of items) in
    omega (arith, c.requires, c.loop-group.invariant, parts, all)

pub overflow_add-sum : goal.overflow_add-sum
overflow_add-sum c =
    let items = c.args.self.now.groups.items in
    let i = c.loop-group.group-index in
    let item = c.group-item.result in
    let same = c.deref-group-items.ensures.value in
    let within : i < length items = omega (arith, c.loop-group-test.true, ap length same) in
    let split : drop i items ≡ item ∷ drop (i + 1) items = drop_more items i item within ∙ ap (λ (o : OpenGroup). o ∷ drop (i + 1) items) (sym (c.group-item.is ∙ ap (λ (xs : List OpenGroup). get_or xs i item) same)) in
    let parts = ap (λ (xs : List OpenGroup). weight_behind (map open_of xs)) split in
    let all = behind-reverse (map open_of items) in
    omega (arith, c.requires, c.loop-group.invariant, parts, all, c.weigh.ensures)

pub overflow_add-sum-in-loop-group : goal.overflow_add-sum-in-loop-group
overflow_add-sum-in-loop-group c =
    let items = c.args.self.now.groups.items in
    let i = c.loop-group.group-index in
    let item = c.group-item.result in
    let same = c.deref-group-items.ensures.value in
    let within : i < length items = omega (arith, c.loop-group-test.true, ap length same) in
    let split : drop i items ≡ item ∷ drop (i + 1) items = drop_more items i item within ∙ ap (λ (o : OpenGroup). o ∷ drop (i + 1) items) (sym (c.group-item.is ∙ ap (λ (xs : List OpenGroup). get_or xs i item) same)) in
    let parts = ap (λ (xs : List OpenGroup). weight_behind (map open_of xs)) split in
    let all = behind-reverse (map open_of items) in
    omega (arith, c.requires, c.loop-group.invariant, parts, all, c.weigh.ensures)

pub returns : goal.returns
returns c =
    let items = c.args.self.now.groups.items in
    let i = c.loop-group.group-index in
    let past : length items ≤ i = omega (arith, c.loop-group-test.false, ap length c.deref-group-items.ensures.value) in
    let none = ap (λ (xs : List OpenGroup). weight_behind (map open_of xs)) (drop_all i items past) in
    omega (arith, c.loop-group.invariant, none, behind-reverse (map open_of items))
