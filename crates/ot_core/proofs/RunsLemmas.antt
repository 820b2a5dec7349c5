-- One step more.
use Rattle.std.proofs.Common.{◌++◌, List, [], ◌∷◌, refl, subst}
use Rattle.ot_core.specs.Scenes.{Scene, Steps, RunsTo}
use Rattle.std.proofs.lemmas.List.Elements.{All-push}
use Rattle.ot_core.specs.Draining.{Drains, IsDrainable, IsMove}
use Rattle.ot_core.specs.declared.event.Event.TheVariants as event
use Rattle.ot_core.specs.declared.event.Event.{Event}
use Rattle.ot_core.specs.declared.event.Stepped.{Stepped}

pub runs-more : (old mid new : Scene) (es : List Event) (e : Event) (stepped : Stepped) → RunsTo old es mid → Steps mid e stepped new → RunsTo old (es ++ e ∷ []) new
runs-more old mid new [] e stepped runs step = (new, stepped, subst (λ s. Steps s e stepped new) runs step, refl)
runs-more old mid new (x ∷ es) e stepped runs step = (runs.0, runs.1, runs.2, runs-more runs.0 mid new es e stepped runs.3 step)

-- a move is no Admit and no Abort
drainable : (s : Scene) (e : Event) → IsMove s e → IsDrainable e
drainable s (event.Admit t line) move = move
drainable s (event.Abort t) move = move
drainable s e move = tt

pub drains-more : (old mid new : Scene) (e : Event) (stepped : Stepped) → Drains old mid → IsMove mid e → Steps mid e stepped new → Drains old new
drains-more old mid new e stepped drains move step = record {
  events = drains.events ++ e ∷ [];
  drainable = All-push IsDrainable drains.events e drains.drainable (drainable mid e move);
  runs = runs-more old mid new drains.events e stepped drains.runs step;
}
