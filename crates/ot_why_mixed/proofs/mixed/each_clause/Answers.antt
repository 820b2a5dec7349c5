use Rattle.ot_program.specs.Faults.{clause_faults}
use Rattle.ot_program.specs.Meanings.{clause}
use Rattle.ot_why_place.specs.Spots.{trail_bindings}
use Rattle.ot_why_mixed.specs.Rows.{row_of, Fits}
use Rattle.ot_why_mixed.proofs.RowLemmas.{one_faultless, rows_next, rows_end, fits_next, fits_end}
use Rattle.ot_why_mixed.proofs.mixed.each_clause.Goals as goal

pub loop-item-preserved : goal.loop-item-preserved
loop-item-preserved c =
    record {
      rows = λ shape profile arrays none.
          rows_next (λ d. row_of shape (clause shape profile (trail_bindings c.args.trail.now) d)) c.args.items.now _ _ _ _ _ _ c.loop-item-test.true c.item-item.is
          c.in_ok-put.ensures
          (c.clause_of.ensures.row shape profile arrays
          (one_faultless (clause_faults shape profile (trail_bindings c.args.trail.now)) c.args.items.now _ _ c.loop-item-test.true c.item-item.is none))
          (c.loop-item.invariant.rows shape profile arrays none);
      fits = λ shape profile arrays none.
          fits_next (λ d. Fits (clause shape profile (trail_bindings c.args.trail.now) d).section) c.args.items.now _ _ c.loop-item-test.true c.item-item.is
          (c.clause_of.ensures.fits shape profile arrays
          (one_faultless (clause_faults shape profile (trail_bindings c.args.trail.now)) c.args.items.now _ _ c.loop-item-test.true c.item-item.is none))
          (c.loop-item.invariant.fits shape profile arrays none);
    }

pub returns-clause-rows : goal.returns-clause-rows
returns-clause-rows c shape profile arrays none =
    rows_end (λ d. row_of shape (clause shape profile (trail_bindings c.args.trail.now) d)) c.args.items.now _ _ _ c.loop-item-test.false
    (c.loop-item.invariant.rows shape profile arrays none)

pub returns-clause-fits : goal.returns-clause-fits
returns-clause-fits c shape profile arrays none =
    fits_end (λ d. Fits (clause shape profile (trail_bindings c.args.trail.now) d).section) c.args.items.now _ c.loop-item-test.false
    (c.loop-item.invariant.fits shape profile arrays none)
