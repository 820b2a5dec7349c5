use Rattle.std.proofs.Common.{◌∙◌, sym, arith, rules}
use Rattle.ot_program.specs.Meanings.{section}
use Rattle.ot_why_fault.specs.Whys.{section_whys}
use Rattle.ot_why_fault.specs.Walk.{shape_by, variables_by}
use Rattle.ot_why_fault.proofs.LoopLemmas.{told_next, cells_next, cells_end}
use Rattle.ot_why_fault.proofs.look.Look.each_section.Goals as goal

pub loop-item-preserved : goal.loop-item-preserved
loop-item-preserved c =
    record {
      told = told_next (section_whys (shape_by c.args.self.now) (variables_by c.args.self.now)) _ _ c.args.items.now _ _
          c.loop-item-test.true c.item-item.is c.section.ensures.first ∙ c.loop-item.invariant.told;
      counted = cells_next (section (shape_by c.args.self.now) (variables_by c.args.self.now)) _ _ c.args.items.now _ _
          c.loop-item-test.true c.item-item.is (rw (← c.section.ensures.len) (search rules)) ∙ c.loop-item.invariant.counted;
      fits = omega arith;
    }

pub returns-clause-cells : goal.returns-clause-cells
returns-clause-cells c =
    sym (cells_end (section (shape_by c.args.self.now) (variables_by c.args.self.now)) _ c.args.items.now _ c.loop-item-test.false c.loop-item.invariant.fits) ∙ c.loop-item.invariant.counted
