-- What the counters of the groups say.
use Rattle.std.specs.Prelude.{ℕ, IsSome, unwrap_or}
use Rattle.std.specs.Ordering.{nat_cmp}
use Rattle.std.specs.BTreeMap.{get}
use Rattle.ot_depend.specs.declared.groups.Groups.{Groups}

-- how many are counted for the group
abbrev pub count_of : Groups → ℕ → ℕ
count_of s group = unwrap_or (get nat_cmp s.counts group) 0

-- there is a counter for it
abbrev pub IsCounted : Groups → ℕ → Type 0
IsCounted s group = IsSome (get nat_cmp s.counts group)
