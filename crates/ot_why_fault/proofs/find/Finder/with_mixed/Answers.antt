use Rattle.std.proofs.Common.{ap}
use Rattle.std.specs.Prelude.{option_map}
use Rattle.ot_why_place.specs.Spots.{trail_bindings}
use Rattle.ot_why_place.specs.Texts.{text_by}
use Rattle.ot_why_fault.specs.Whys.{shape_of, why_by}
use Rattle.ot_why_fault.proofs.FirstLemmas.{told_already}
use Rattle.ot_why_fault.proofs.find.Finder.with_mixed.Goals as goal

pub returns-in-Some : goal.returns-in-Some
returns-in-Some c level none =
    told_already _ _ (shape_of c.args.self.now.arrays.now c.args.self.now.tasks) (trail_bindings c.args.trail.now) (text_by c.args.self.now.profile c.args.text) (ap (option_map why_by) c.in-Some.is)

pub returns-in-None : goal.returns-in-None
returns-in-None c level none = rw c.in-None.is (c.mixed.ensures level (none (ap (option_map why_by) c.in-None.is)))
