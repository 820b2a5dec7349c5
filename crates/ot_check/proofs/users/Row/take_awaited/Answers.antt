use Rattle.std.proofs.Common.{◌&&◌, Bool, not, ap, sym, ◌∙◌}
use Rattle.std.specs.List.{list_any}
use Rattle.ot_check.specs.declared.block.Block.{Block}
use Rattle.ot_sets.specs.Sets.{has}
use Rattle.ot_check.specs.walk.Rows.{awaited_as, users_of_block}
use Rattle.ot_check.proofs.AwaitedLemmas.{kept-both}
use Rattle.ot_check.proofs.ClashLemmas.{row-any}
use Rattle.ot_check.proofs.StandingLemmas.{taken}
use Rattle.ot_check.proofs.users.Row.take_awaited.Goals as goal

pub returns : goal.returns
returns c = λ k.
    let found : Block → Bool = λ block. list_any (awaited_as c.args.mode k) (users_of_block block) in
    kept-both (has c.args.tasks.now k) (has c.loop-block.tasks k) (has c.take_awaited-2.new.tasks k)
    (list_any found c.args.self.now.earlier.items) (found c.args.self.now.latest)
    (c.loop-block.invariant k
    ∙ ap (λ blocks. has c.args.tasks.now k && not (list_any found blocks))
    (taken c.deref-block-items.result.now c.args.self.now.earlier.items c.loop-block.block-index c.deref-block-items.ensures.value c.loop-block-test.false))
    (c.take_awaited-2.ensures k)
    ∙ ap (λ b. has c.args.tasks.now k && not b) (sym (row-any (awaited_as c.args.mode k) c.args.self.now))
