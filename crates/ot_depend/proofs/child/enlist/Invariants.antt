use Rattle.std.proofs.Common.{◌≡◌, ◌+◌, ◌≤◌, take, All, vec_capacity}
use Rattle.ot_depend.specs.Kept.{due, kids_enlisted}
use Rattle.ot_depend.specs.Children.{kids_of, AdmitsAt}
use Rattle.ot_depend.proofs.child.enlist.Given as goal

abbrev pub invariant-loop-place : goal.invariant-loop-place
invariant-loop-place l = record {
  put : kids_of l.children.items ≡ kids_enlisted l.later (kids_of l.initial.children.items) (take l.place-index l.earlier);
  room : All (AdmitsAt l.later l.children.items) l.earlier;
  counted : due l.later (kids_of l.initial.children.items) + l.waiting ≡ due l.later (kids_of l.children.items);
  capacity : vec_capacity l.children ≡ vec_capacity l.initial.children;
  few : l.waiting ≤ l.place-index;
}
