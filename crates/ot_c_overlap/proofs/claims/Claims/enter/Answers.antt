use Rattle.std.proofs.Common.{◌≡◌, ◌∙◌, ◌+◌, cond, ap, arith}
use Rattle.std.specs.Prelude.{Some}
use Rattle.ot_c_overlap.specs.Claims.{claimed_section}
use Rattle.ot_c_overlap.proofs.ClaimLemmas.{is_upto, entered_none, entered_next}
use Rattle.ot_c_overlap.proofs.claims.Claims.enter.Goals as goal

pub loop-index-init : goal.loop-index-init
loop-index-init c = (omega arith, omega arith, λ parent array index. entered_none c.args.item.now c.args.self.now c.from-start.result (omega arith) parent array index)

pub loop-index-preserved : goal.loop-index-preserved
loop-index-preserved c = (
  omega (arith, c.loop-index-test.true),
  omega (arith, c.loop-index.invariant.1),
  entered_next c.args.item.now c.loop-index.index c.args.self.now c.loop-index.self (record { sections = c.insert.new.self }) c.loop-index.invariant.1 c.loop-index.invariant.2
      c.in_ok-insert.ensures.updates,
)

pub returns : goal.returns
returns c = λ parent array index.
    let end : c.loop-index.index ≡ c.args.item.now.section.start + c.args.item.now.section.len = omega (arith, c.loop-index.invariant.0, c.loop-index-test.false) in
    c.loop-index.invariant.2 parent array index
    ∙ ap (λ n. cond (is_upto c.args.item.now n parent array index) (Some c.args.item.now.section) (claimed_section c.args.self.now parent array index)) end
