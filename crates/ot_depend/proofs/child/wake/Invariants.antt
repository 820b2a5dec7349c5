use Rattle.std.proofs.Common.{◌≡◌, length, take}
use Rattle.ot_depend.specs.Kept.{woken, waiters_of}
use Rattle.ot_depend.specs.Children.{kids_of}
use Rattle.ot_depend.proofs.child.wake.Given as goal

abbrev pub invariant-loop-i : goal.invariant-loop-i
invariant-loop-i l = record {
  told : kids_of l.children.items ≡ woken (kids_of l.initial.children.items) (take l.i (waiters_of (kids_of l.initial.children.items) l.finished));
  all : l.i-end ≡ length (waiters_of (kids_of l.initial.children.items) l.finished);
}
