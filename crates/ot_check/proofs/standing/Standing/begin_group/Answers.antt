use Rattle.std.proofs.Common.{ap}
use Rattle.std.specs.Prelude.{slice_get}
use Rattle.ot_model.specs.Cells.{number_of}
use Rattle.ot_check.specs.walk.States.{set_has}
use Rattle.ot_check.proofs.standing.Standing.begin_group.Goals as goal

pub returns-clause-opened : goal.returns-clause-opened
returns-clause-opened c = λ o cell. ap (λ sets. set_has (slice_get sets (number_of o)) cell) c.in_ok-opened.ensures
