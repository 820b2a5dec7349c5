-- The control statement that comes next, and the region once it is executed.
use Rattle.std.proofs.Common.{◌≡◌, ℕ, Bool, sym, ap, ◌∙◌}
use Rattle.std.specs.Prelude.{List, Some, Result, Ok, Err, OnOk}
use Rattle.std.proofs.lemmas.Option.{same_Some}
use Rattle.ot_model.specs.Tree.{S, Set, Fold, If, Task, Wait, Group, Body, End, Next}
use Rattle.ot_model.specs.declared.stmt.Use.{Use}
use Rattle.ot_parts.specs.Parts.{control_next, past_control, part_of}
use Rattle.ot_parts.specs.declared.part.Part.{Part}
use Rattle.ot_job_task.specs.Regions.{Region, next_task, stepped_from, with_child, with_noted, with_rest}

-- the body begins with it
control-first : (x : S) (b : Body) → control_next b ≡ Some x → b ≡ Next x (past_control b)
control-first x End is = cc
control-first x (Next (Set c e) b) is = cc
control-first x (Next (Fold o c e) b) is = cc
control-first x (Next (If e p q) b) is = ap (λ y. Next y b) (same_Some _ _ is)
control-first x (Next (Task d p) b) is = ap (λ y. Next y b) (same_Some _ _ is)
control-first x (Next (Wait w) b) is = ap (λ y. Next y b) (same_Some _ _ is)
control-first x (Next (Group o cs p) b) is = ap (λ y. Next y b) (same_Some _ _ is)

-- the part in which it stands tells it
pub part-next : (b : Body) (p q : Part) (x : S) → ((y : S) × ((part_of p).control ≡ Some y) × (control_next b ≡ Some y)) → p ≡ q → (part_of q).control ≡ Some x → control_next b ≡ Some x
part-next b p q x told is control = told.2 ∙ sym told.1 ∙ ap (λ s. (part_of s).control) is ∙ control

-- a task is created
pub task-after : (taken : Bool) (g : ℕ) (r : Region) (d : List Use) (p : Body) → control_next r.rest ≡ Some (Task d p)
    → (with_noted (next_task r.rest) (stepped_from taken g r.rest r) ≡ with_child d (with_rest (past_control r.rest) r)) × (next_task r.rest ≡ Some (d, p))
task-after taken g r d p is =
    let first = control-first (Task d p) r.rest is in (ap (λ b. with_noted (next_task b) (stepped_from taken g b r)) first, ap next_task first)

pub on_ok_always : {T E P : Type 0} (r : Result T E) → P → OnOk r P
on_ok_always (Ok x) p = p
on_ok_always (Err e) p = tt
