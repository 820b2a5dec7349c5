use Rattle.std.proofs.Common.{◌≡◌, ◌∙◌, ◌+◌, ◌<◌, ◌≤◌, List, length, get_or, drop, Some, sym, ap, subst, append-nil}
use Rattle.std.proofs.lemmas.List.{drop_all}
use Rattle.serde_json.specs.View.{items_view}
use Rattle.serde_json.specs.declared.value.Value.{Value}
use Rattle.ot_book.specs.Requests.{all_numbers}
use Rattle.ot_book.proofs.RequestLemmas.{with_numbers, numbers-more, numbers-none}
use Rattle.ot_book.proofs.reading.read_numbers.Goals as goal

pub loop-item-preserved : goal.loop-item-preserved
loop-item-preserved c =
    let i = c.loop-item.item-index in
    let vs : List Value = c.args.items.now.items in
    let within : i < length vs = subst (λ (xs : List Value). i < length xs) c.deref-item-items.ensures.value c.loop-item-test.true in
    let is : c.item-item.result ≡ get_or vs i c.item-item.result = c.item-item.is ∙ ap (λ (xs : List Value). get_or xs i c.item-item.result) c.deref-item-items.ensures.value in
    c.loop-item.invariant ∙ numbers-more vs i c.item-item.result c.loop-item.numbers.items c.in-Some.number within is (sym c.as_u64.ensures ∙ c.in-Some.is)
    ∙ ap (λ ns. with_numbers ns (all_numbers (items_view (drop (i + 1) vs)))) (sym c.in_ok-push.ensures.items)

pub returns : goal.returns
returns c =
    let i = c.loop-item.item-index in
    let vs : List Value = c.args.items.now.items in
    let past : length vs ≤ i = subst (λ (xs : List Value). length xs ≤ i) c.deref-item-items.ensures.value c.loop-item-test.false in
    sym (c.loop-item.invariant ∙ ap (λ (xs : List Value). with_numbers c.loop-item.numbers.items (all_numbers (items_view xs))) (drop_all i vs past) ∙ ap Some (append-nil c.loop-item.numbers.items))

pub returns-in_default : goal.returns-in_default
returns-in_default c =
    let i = c.loop-item.item-index in
    let vs : List Value = c.args.items.now.items in
    let within : i < length vs = subst (λ (xs : List Value). i < length xs) c.deref-item-items.ensures.value c.loop-item-test.true in
    let is : c.item-item.result ≡ get_or vs i c.item-item.result = c.item-item.is ∙ ap (λ (xs : List Value). get_or xs i c.item-item.result) c.deref-item-items.ensures.value in
    sym (c.loop-item.invariant ∙ numbers-none vs i c.item-item.result c.loop-item.numbers.items within is (sym c.as_u64.ensures ∙ c.in_default.is))
