use Rattle.std.proofs.Common.{◌||◌, Bool, ap, sym, ◌∙◌}
use Rattle.std.specs.List.{list_any}
use Rattle.ot_sets.specs.Sets.{words_of}
use Rattle.ot_check.specs.walk.Rows.{users_of_block}
use Rattle.ot_check.specs.declared.block.Block.{Block}
use Rattle.ot_check.proofs.Bits.{true_or}
use Rattle.ot_check.proofs.StandingLemmas.{any-at, any-none, any-step}
use Rattle.ot_check.proofs.ClashLemmas.{clashing, row-any}
use Rattle.ot_check.proofs.users.Row.clashes.Goals as goal

pub returns-then-clashes : goal.returns-then-clashes
returns-then-clashes c =
    let test = clashing (words_of c.args.tasks.now) c.args.mode in
    let found : Block → Bool = λ block. list_any test (users_of_block block) in
    sym (row-any test c.args.self.now
    ∙ true_or (list_any found c.args.self.now.earlier.items) (found c.args.self.now.latest)
    (sym (any-at found c.deref-block-items.result.now c.args.self.now.earlier.items c.loop-block.block-index _ c.clashes.result
    c.deref-block-items.ensures.value c.loop-block-test.true c.clashes.ensures c.if-clashes.true)))

pub loop-block-preserved : goal.loop-block-preserved
loop-block-preserved c =
    let found : Block → Bool = λ block. list_any (clashing (words_of c.args.tasks.now) c.args.mode) (users_of_block block) in
    any-step found c.deref-block-items.result.now c.loop-block.block-index _ c.clashes.result
    c.loop-block-test.true c.loop-block.invariant c.clashes.ensures c.if-clashes.false

pub returns : goal.returns
returns c =
    let test = clashing (words_of c.args.tasks.now) c.args.mode in
    let found : Block → Bool = λ block. list_any test (users_of_block block) in
    c.clashes-2.ensures
    ∙ ap (λ b. b || found c.args.self.now.latest)
    (any-none found c.deref-block-items.result.now c.args.self.now.earlier.items c.loop-block.block-index
    c.deref-block-items.ensures.value c.loop-block-test.false c.loop-block.invariant)
    ∙ sym (row-any test c.args.self.now)
