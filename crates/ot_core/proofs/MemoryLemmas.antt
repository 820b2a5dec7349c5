-- Where memory ran out at an event.
use Rattle.std.proofs.Common.{◌≡◌, ℕ, subst}
use Rattle.std.specs.Prelude.{Result, Some, OnErr}
use Rattle.std.proofs.lemmas.Result.{on_err_weaker}
use Rattle.ot_core.specs.Scenes.{Scene, seat_of, MayTake, MayRunOut, RunsOut}
use Rattle.ot_core.specs.declared.event.Event.{Event}
use Rattle.ot_core.specs.declared.event.Event.TheVariants as event

-- an Admit or an Open that changed nothing
pub out-unchanged : {T E : Type 0} (e : Event) (old new : Scene) (r : Result T E) → OnErr r (MayRunOut old e × (new ≡ old)) → OnErr r (RunsOut old e new)
out-unchanged e old new r = on_err_weaker r (λ out. record { may = out.0; same = out.1 })

-- a Start
pub out-start : {T E : Type 0} (x hand t pick : ℕ) (old new : Scene) (r : Result T E) → Some hand ≡ seat_of x → OnErr r (MayTake old (Some hand) t × (new ≡ old))
    → OnErr r (RunsOut old (event.Start x t pick) new)
out-start x hand t pick old new r seat = on_err_weaker r (λ out. record { may = subst (λ o. MayTake old o t) seat out.0; same = out.1 })
