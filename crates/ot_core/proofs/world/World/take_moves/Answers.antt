use Rattle.std.proofs.Common.{of_calls}
use Rattle.ot_core.proofs.DrainLemmas.{toil-falls}
use Rattle.ot_core.proofs.RunsLemmas.{drains-more}
use Rattle.ot_job.proofs.ViewLemmas.{on_err_always}
use Rattle.ot_core.proofs.world.World.take_moves.Goals as goal

pub loop-alloc-smaller : goal.loop-alloc-smaller
loop-alloc-smaller g c = toil-falls _ _ c.event_at-event.result _ c.event_at-event.ensures.scene c.event_at-event.ensures.enabled c.in_ok-take.ensures.stepped

pub loop-alloc-preserved : goal.loop-alloc-preserved
loop-alloc-preserved g c = (
  search of_calls,
  drains-more _ _ _ c.event_at-event.result c.in_ok-take.field-0 c.loop-alloc.invariant.1 c.event_at-event.ensures.enabled c.in_ok-take.ensures.stepped,
)

pub returns-in_err-take-clause-part : goal.returns-in_err-take-clause-part
returns-in_err-take-clause-part g c = on_err_always c.from_residual.result (record {
  last = c.loop-alloc.self;
  drains = c.loop-alloc.invariant.1;
  next = c.event_at-event.result;
  move = c.event_at-event.ensures.enabled;
  out = c.in_err-take.ensures.memory;
})
