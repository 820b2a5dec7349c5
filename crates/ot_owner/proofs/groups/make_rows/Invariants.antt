use Rattle.std.proofs.Common.{◌≡◌, ◌<◌, ℕ, length, get_or}
use Rattle.std.specs.Prelude.{true, vec_len, vec_capacity}
use Rattle.ot_owner.specs.Keeping.{HasRow}
use Rattle.ot_owner.specs.Kept.{summeds_of, made_of}
use Rattle.ot_owner.specs.Owning.{folds_in}
use Rattle.ot_owner.specs.declared.rows.Group.{Group}
use Rattle.ot_owner.proofs.groups.make_rows.Given as goal

abbrev pub invariant-loop-i : goal.invariant-loop-i
invariant-loop-i l = record {
  same : summeds_of l.groups.items ≡ summeds_of l.initial.groups.items;
  made : (j : ℕ) (d : Group) → j < l.i → j < length l.groups.items → folds_in (get_or l.groups.items j d).decl l.uses ≡ true → HasRow l.worker (made_of (get_or l.groups.items j d));
  len : vec_len l.groups ≡ vec_len l.initial.groups;
  capacity : vec_capacity l.groups ≡ vec_capacity l.initial.groups;
}
