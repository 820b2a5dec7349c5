use Rattle.std.proofs.Common.{◌≡◌, drop}
use Rattle.std.specs.Prelude.{find}
use Rattle.ot_c_program.specs.Files.{differs}
use Rattle.ot_c_program.proofs.lowered.other.Given as goal

-- those that are left decide
abbrev pub invariant-loop-one : goal.invariant-loop-one
invariant-loop-one l = find (λ other. differs l.way other.1) (drop l.one-index l.taking) ≡ find (λ other. differs l.way other.1) l.taking
