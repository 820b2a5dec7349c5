use Rattle.std.proofs.Common.{◌≡◌, ◌∙◌, length, sym, ap, arith}
use Rattle.std.specs.Prelude.{option_and_then}
use Rattle.ot_model.specs.Programs.{arrays_of}
use Rattle.ot_why_reason.specs.Faults.{fault_in}
use Rattle.ot_why_reason.proofs.FaultLemmas.{no_fault, free_here, put_here, get_here}
use Rattle.ot_why_reason.proofs.fault.of_form.Goals as goal

pub returns-then-len-ne4 : goal.returns-then-len-ne4
returns-then-len-ne4 c =
    let two : length c.args.items.now ≡ 2 → ⊥ = λ h. c.if-len-ne2.true (h) in
    let three : length c.args.items.now ≡ 3 → ⊥ = λ h. c.if-len-ne3.true (h) in
    let four : length c.args.items.now ≡ 4 → ⊥ = λ h. c.if-len-ne4.true (h) in
    sym (no_fault c.args.limits.now _ c.args.items.now two three four)

pub returns-then-is_word-2 : goal.returns-then-is_word-2
returns-then-is_word-2 c =
    let two : length c.args.items.now ≡ 2 = omega (arith, c.in-len2.len_at_least, c.in-len2.len_below) in
    c.of_free.ensures c.args.limits.now ∙ ap (option_and_then (fault_in c.args.limits.now (arrays_of c.args.arrays.now)))
    (sym (free_here c.args.items.now c.tag-item.result c.name-item.result two c.tag-item.is c.name-item.is
    (sym c.is_word.ensures ∙ c.if-is_word.false) (sym c.is_word-else-is_word.ensures ∙ c.if-is_word-2.true)))

pub returns-then-is_word-4 : goal.returns-then-is_word-4
returns-then-is_word-4 c =
    let four : length c.args.items.now ≡ 4 = omega (arith, c.in-len4.len_at_least, c.in-len4.len_below) in
    c.of_put.ensures c.args.limits.now ∙ ap (option_and_then (fault_in c.args.limits.now (arrays_of c.args.arrays.now)))
    (sym (put_here c.args.items.now c.tag-item-then-items-lt5.result c.name-item-then-items-lt5.result c.start-item.result c.last-item.result four
    c.tag-item-then-items-lt5.is c.name-item-then-items-lt5.is c.start-item.is c.last-item.is
    (sym c.is_word-in-len4.ensures ∙ c.if-is_word-4.true)))

pub returns-then-is_word-5 : goal.returns-then-is_word-5
returns-then-is_word-5 c =
    let four : length c.args.items.now ≡ 4 = omega (arith, c.in-len4.len_at_least, c.in-len4.len_below) in
    c.of_get.ensures c.args.limits.now ∙ ap (option_and_then (fault_in c.args.limits.now (arrays_of c.args.arrays.now)))
    (sym (get_here c.args.items.now c.tag-item-then-items-lt5.result c.name-item-then-items-lt5.result c.start-item.result c.last-item.result four
    c.tag-item-then-items-lt5.is c.name-item-then-items-lt5.is c.start-item.is c.last-item.is
    (sym c.is_word-in-len4.ensures ∙ c.if-is_word-4.false) (sym c.is_word-else-is_word-4.ensures ∙ c.if-is_word-5.true)))
