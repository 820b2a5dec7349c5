use Rattle.std.proofs.Common.{◌+◌, ◌-◌, ◌/◌, ◌<◌, ℕ, length, get_or, sym, ◌∙◌, arith}
use Rattle.ot_model.specs.declared.stmt.Mode.TheVariants.{Reads}
use Rattle.ot_model.specs.declared.stmt.Use.{Use}
use Rattle.ot_model.proofs.OrderLemmas.{precedes_from_before}
use Rattle.ot_model.proofs.DeclaredLemmas.{before_more, after_more, nowhere, neither_before, mode_in-at}
use Rattle.ot_model.proofs.declared.mode_in.Goals as goal

-- what stands past the end of a list
none : Use
none = record { cell = record { array = 0; index = 0 }; mode = Reads }

pub loop-low-preserved-then-is_before : goal.loop-low-preserved-then-is_before
unfolding none
loop-low-preserved-then-is_before c =
    let us = c.args.uses.now in
    let m : ℕ = c.loop-low.low + (c.loop-low.high - c.loop-low.low) / 2 in
    let within : m < length us = omega (arith, c.loop-low.invariant.0, c.loop-low.invariant.1, c.loop-low-test.true) in (
      omega (arith, c.loop-low.invariant.0, c.loop-low-test.true),
      c.loop-low.invariant.1,
      before_more us m c.args.cell none c.requires within (precedes_from_before (get_or us m none).cell c.args.cell (sym c.is_before.ensures ∙ c.if-is_before.true)),
      c.loop-low.invariant.3,
    )

pub loop-low-preserved : goal.loop-low-preserved
unfolding none
loop-low-preserved c =
    let us = c.args.uses.now in
    let m : ℕ = c.loop-low.low + (c.loop-low.high - c.loop-low.low) / 2 in
    let within : m < length us = omega (arith, c.loop-low.invariant.0, c.loop-low.invariant.1, c.loop-low-test.true) in (
      omega (arith, c.loop-low.invariant.0, c.loop-low-test.true),
      omega (arith, within),
      c.loop-low.invariant.2,
      after_more us m c.args.cell none c.requires within
          (precedes_from_before c.args.cell (get_or us m none).cell (sym c.is_before-else-is_before.ensures ∙ c.if-is_before-2.true)),
    )

pub returns-else-is_before-2 : goal.returns-else-is_before-2
unfolding none
returns-else-is_before-2 c =
    let us = c.args.uses.now in
    let m : ℕ = c.loop-low.low + (c.loop-low.high - c.loop-low.low) / 2 in
    let within : m < length us = omega (arith, c.loop-low.invariant.0, c.loop-low.invariant.1, c.loop-low-test.true) in
    sym (mode_in-at us m none c.args.cell c.requires within
    (neither_before (get_or us m none).cell c.args.cell (sym c.is_before.ensures ∙ c.if-is_before.false)
    (sym c.is_before-else-is_before.ensures ∙ c.if-is_before-2.false)))

pub returns : goal.returns
returns c =
    sym (nowhere c.args.uses.now c.args.cell c.loop-low.low c.loop-low.high (omega (arith, c.loop-low-test.false)) c.loop-low.invariant.2 c.loop-low.invariant.3)
