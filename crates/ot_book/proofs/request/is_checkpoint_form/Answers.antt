use Rattle.std.proofs.Common.{◌≡◌, ◌∙◌, sym, length}
use Rattle.ot_book.proofs.RequestLemmas.{no_checkpoint, lone_checkpoint}
use Rattle.ot_book.proofs.request.is_checkpoint_form.Goals as goal

pub returns-then-items-ne1 : goal.returns-then-items-ne1
returns-then-items-ne1 c =
    let other : length c.args.items.now ≡ 1 → ⊥ = λ one. c.if-items-ne1.true (one) in
    sym (no_checkpoint c.args.items.now other)

pub returns : goal.returns
returns c =
    let one : length c.args.items.now ≡ 1 = c.if-items-ne1.false in
    c.is_word.ensures ∙ sym (lone_checkpoint c.args.items.now c.index-items-0.result one c.index-items-0.is)
