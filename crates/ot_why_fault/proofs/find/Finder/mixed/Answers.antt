use Rattle.std.proofs.Common.{◌∙◌, sym, ap, refl}
use Rattle.std.specs.Prelude.{option_map}
use Rattle.ot_why_place.specs.Spots.{trail_bindings}
use Rattle.ot_why_fault.specs.Whys.{shape_of}
use Rattle.ot_why_mixed.specs.Mixed.{named_by}
use Rattle.ot_why_fault.proofs.FirstLemmas.{mixed_found, mixed_none}
use Rattle.ot_why_fault.proofs.RefusalLemmas.{task_faultless}
use Rattle.ot_why_fault.proofs.find.Finder.mixed.Goals as goal

pub returns-in-Some : goal.returns-in-Some
returns-in-Some c level none =
    let shape = (shape_of c.args.self.now.arrays.now c.args.self.now.tasks) in
    let variables = trail_bindings c.args.trail.now in
    mixed_found shape c.args.self.now.profile variables c.args.text _ _ _ c.in-Task.is
    (sym (ap (option_map named_by) c.in-Some.is) ∙ c.in_ok-name-in-Task.ensures shape c.args.self.now.profile refl (task_faultless shape c.args.self.now.profile level variables c.args.text _ _ c.in-Task.is none))

pub returns-in-None : goal.returns-in-None
returns-in-None c level none =
    let shape = (shape_of c.args.self.now.arrays.now c.args.self.now.tasks) in
    let variables = trail_bindings c.args.trail.now in
    mixed_none shape c.args.self.now.profile variables c.args.text _ _ c.in-Task.is
    (sym (ap (option_map named_by) c.in-None.is) ∙ c.in_ok-name-in-Task.ensures shape c.args.self.now.profile refl (task_faultless shape c.args.self.now.profile level variables c.args.text _ _ c.in-Task.is none))
