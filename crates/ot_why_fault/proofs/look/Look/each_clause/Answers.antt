use Rattle.std.proofs.Common.{◌∙◌, sym, arith, rules}
use Rattle.ot_program.specs.Meanings.{clause}
use Rattle.ot_why_fault.specs.Whys.{clause_whys}
use Rattle.ot_why_fault.specs.Walk.{shape_by, variables_by}
use Rattle.ot_why_fault.proofs.LoopLemmas.{told_next, clause_cells_next, clause_cells_end}
use Rattle.ot_why_fault.proofs.look.Look.each_clause.Goals as goal

pub loop-item-preserved : goal.loop-item-preserved
loop-item-preserved c =
    record {
      told = told_next (clause_whys (shape_by c.args.self.now) c.args.profile (variables_by c.args.self.now)) _ _ c.args.items.now _ _
          c.loop-item-test.true c.item-item.is c.clause.ensures.first ∙ c.loop-item.invariant.told;
      counted = clause_cells_next (clause (shape_by c.args.self.now) c.args.profile (variables_by c.args.self.now)) _ _ c.args.items.now _ _
          c.loop-item-test.true c.item-item.is (rw (← c.clause.ensures.len) (search rules)) ∙ c.loop-item.invariant.counted;
      fits = omega arith;
    }

pub returns-clause-cells : goal.returns-clause-cells
returns-clause-cells c =
    sym (clause_cells_end (clause (shape_by c.args.self.now) c.args.profile (variables_by c.args.self.now)) _ c.args.items.now _ c.loop-item-test.false c.loop-item.invariant.fits) ∙ c.loop-item.invariant.counted
