use Rattle.std.proofs.Common.{◌≡◌, drop}
use Rattle.std.specs.List.{list_all}
use Rattle.ot_c_clauses.specs.Cells.{under_in}
use Rattle.ot_c_clauses.proofs.own.are_named.Given as goal

-- those that are left decide
abbrev pub invariant-loop-one : goal.invariant-loop-one
invariant-loop-one l = list_all (λ o. (under_in l.named o).named) (drop l.one-index l.own) ≡ list_all (λ o. (under_in l.named o).named) l.own
