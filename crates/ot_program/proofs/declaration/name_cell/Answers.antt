use Rattle.std.proofs.Common.{◌≡◌, ◌<◌, length, get_or, true≢false, sym, ap, ◌∙◌, arith}
use Rattle.std.proofs.lemmas.List.{get_or_default}
use Rattle.ot_program.proofs.Declared.{same_keys, keys_same}
use Rattle.ot_program.proofs.KeyOrder.{Entry, entry_named_again, entry_named_new}
use Rattle.ot_program.proofs.declaration.name_cell.Goals.{else-place-len-via-then-place-len+else-eq, else-place-len-via-else-place-len}
use Rattle.ot_program.proofs.declaration.name_cell.Goals as goal

pub returns-then-eq : goal.returns-then-eq
returns-then-eq c =
    let k = c.args.key in
    let es = c.args.named.now.items in
    rw c.together.ensures
    (entry_named_again c.args.mode k c.args.place es c.index.result.now c.index-then-eq.result.now c.index_mut.result.now c.requires.ordered c.requires.place
    (omega (arith, c.if-place-len.true, c.len.ensures, c.args.named.now.ok.0)) c.index.ensures c.index-then-eq.ensures c.index_mut.ensures.value
    (same_keys c.index.result.now.0 k (sym c.eq.ensures ∙ c.if-eq.true)))

pub returns : goal.returns
returns c =
    let k = c.args.key in
    let es = c.args.named.now.items in
    let another : (d : Entry) → c.args.place < length es → (get_or es c.args.place d).0 ≡ k → ⊥ = elim c.else-place-len.branch [
      | else-place-len-via-then-place-len+else-eq w ↦ λ d below there.
          let read : w.index.result.now.0 ≡ k = ap (λ (e : Entry). e.0) (w.index.ensures ∙ get_or_default es c.args.place w.index.result.now d below) ∙ there in
          true≢false (sym (keys_same w.index.result.now.0 k read) ∙ sym w.eq.ensures ∙ w.if-eq.false)
      | else-place-len-via-else-place-len w ↦ λ d below there. absurd (omega (arith, below, c.len.ensures, c.args.named.now.ok.0, w.if-place-len.false))
    ] in
    c.in_ok-insert.ensures.items ∙ entry_named_new c.args.mode k c.args.place es c.requires.ordered c.requires.place another
