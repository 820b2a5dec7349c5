use Rattle.std.proofs.Common.{◌≡◌, ◌++◌, drop, map}
use Rattle.ot_c_clauses.specs.Owns.{name_if}
use Rattle.ot_c_clauses.proofs.own.all_named_by.Given as goal

-- those that are left follow
abbrev pub invariant-loop-one : goal.invariant-loop-one
invariant-loop-one l = l.named.items ++ map (name_if l.array l.cells) (drop l.one-index l.own) ≡ map (name_if l.array l.cells) l.own
