use Rattle.std.proofs.Common.{sym, subst, take, get_or, []}
use Rattle.std.proofs.lemmas.List.{take_more}
use Rattle.std.proofs.lemmas.Option.{slice_get-get_or}
use Rattle.ot_job.proofs.ViewLemmas.{on_err_always}
use Rattle.ot_core.specs.Scenes.{RunsTo}
use Rattle.ot_core.specs.declared.event.Event.TheVariants.{Admit}
use Rattle.ot_core.specs.declared.event.Event.{Event}
use Rattle.ot_core.proofs.RunsLemmas.{runs-more}
use Rattle.ot_core.proofs.world.World.take_all.Goals as goal

pub loop-event-preserved : goal.loop-event-preserved
loop-event-preserved c =
    let es = c.args.events.now in
    let first : Event = Admit 0 (record { ref_ptr = (0, 0); now = [] }) in
    subst (λ l. RunsTo c.args.self.now l c.take.new.self) (sym (take_more es c.loop-event.event-index first c.loop-event-test.true))
    (runs-more c.args.self.now c.loop-event.self c.take.new.self (take c.loop-event.event-index es) (get_or es c.loop-event.event-index first) c.in_ok-take.field-0 c.loop-event.invariant c.in_ok-take.ensures.stepped)

pub returns-in_err-take-clause-part : goal.returns-in_err-take-clause-part
returns-in_err-take-clause-part c =
    let es = c.args.events.now in
    let first : Event = Admit 0 (record { ref_ptr = (0, 0); now = [] }) in
    on_err_always c.from_residual.result (record {
      done = c.loop-event.event-index;
      next = get_or es c.loop-event.event-index first;
      is_next = slice_get-get_or es c.loop-event.event-index first c.loop-event-test.true;
      last = c.loop-event.self;
      runs = c.loop-event.invariant;
      out = c.in_err-take.ensures.memory;
    })
