use Rattle.std.proofs.Common.{◌≡◌, drop}
use Rattle.std.specs.Prelude.{find, option_map}
use Rattle.ot_check.specs.Offences.{exceeds}
use Rattle.ot_c_judge.proofs.lacks.first_beyond.Given as goal

-- those that are left decide
abbrev pub invariant-loop-used : goal.invariant-loop-used
invariant-loop-used l = find (exceeds (option_map (λ d. d.now) l.own)) (drop l.used-index l.uses) ≡ find (exceeds (option_map (λ d. d.now) l.own)) l.uses
