-- The control statement that a part stands for.
use Rattle.std.proofs.Common.{rules, ◌≡◌}
use Rattle.std.specs.Prelude.{List, Option, Some, Vec}
use Rattle.std.specs.Global.{Global}
use Rattle.std.specs.Arc.{arc_value}
use Rattle.std.specs.declared.sync.Arc.{Arc}
use Rattle.ot_model.specs.Tree.{If, Task, Wait, Group}
use Rattle.ot_model.specs.declared.expr.Cell.{Cell}
use Rattle.ot_model.specs.declared.fold.Fold.{Fold as Operation}
use Rattle.ot_model.specs.declared.stmt.Use.{Use}
use Rattle.ot_parts.specs.Parts.{body_in, part_of}
use Rattle.ot_parts.specs.Assigns.{Plain, Asked}
use Rattle.ot_parts.specs.declared.part.Part.{Part, the_lemmas}
use Rattle.ot_parts.specs.declared.part.Part.TheVariants as v

pub if-part : (r : Asked) (a b : Arc (Vec Part Global) Global) → (part_of (v.If r a b)).control ≡ Some (If r.test (body_in a) (body_in b))
if-part r a b = search (rules, the_lemmas)

pub task-part : (r : Plain) (d : Arc (List Use) Global) (b : Arc (Vec Part Global) Global) → (part_of (v.Task r d b)).control ≡ Some (Task (arc_value d) (body_in b))
task-part r d b = search (rules, the_lemmas)

pub wait-part : (r : Plain) (w : Option (List Use)) → (part_of (v.Wait r w)).control ≡ Some (Wait w)
wait-part r w = search (rules, the_lemmas)

pub group-part : (r : Plain) (o : Operation) (cs : Vec Cell Global) (b : Arc (Vec Part Global) Global) → (part_of (v.Group r o cs b)).control ≡ Some (Group o cs.items (body_in b))
group-part r o cs b = search (rules, the_lemmas)
