use Rattle.std.proofs.Common.{arith}
use Rattle.ot_why_place.specs.Spots.{trail_bindings}
use Rattle.ot_c_overlap.specs.Items.{item_of}
use Rattle.ot_c_overlap.specs.View.{ground_by}
use Rattle.ot_c_overlap.proofs.WalkLemmas.{clauses_next, clauses_end}
use Rattle.ot_c_overlap.proofs.walk.Walk.note_each.Goals as goal

pub loop-clause-preserved : goal.loop-clause-preserved
loop-clause-preserved c =
    clauses_next (ground_by c.args.self.now) (trail_bindings c.args.trail.now) (item_of c.args.parent c.args.entry) c.args.clauses.now c.loop-clause.clause-index c.clause-item.result
    c.loop-clause.noted.items _ _ (omega (arith, c.loop-clause-test.true)) c.clause-item.is c.in_ok-note_clause.ensures c.loop-clause.invariant

pub returns : goal.returns
returns c =
    clauses_end (ground_by c.args.self.now) (trail_bindings c.args.trail.now) (item_of c.args.parent c.args.entry) c.args.clauses.now c.loop-clause.clause-index
    c.loop-clause.noted.items _ c.loop-clause-test.false c.loop-clause.invariant
