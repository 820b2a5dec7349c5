use Rattle.std.proofs.Common.{refl, sym, subst, List, Bor, Option, Some, option_map}
use Rattle.ot_job.proofs.Common.{Cell, Operation, IsRoomFor}
use Rattle.ot_job.proofs.lending.room_for.Goals as goal

pub returns-in_ok-room-in-Some-clause-names : goal.returns-in_ok-room-in-Some-clause-names
returns-in_ok-room-in-Some-clause-names c =
    subst (λ (group : Option (Operation × Bor (List Cell))). IsRoomFor (option_map (λ g. (g.0, g.1.now)) group) (Some (c.in-Some.op, c.in_ok-room-in-Some.field-0)))
    (sym c.in-Some.is) (refl, c.in_ok-room-in-Some.ensures.names)
