use Rattle.std.proofs.Common.{◌≡◌, drop}
use Rattle.ot_c_files.specs.Program.{main_of}
use Rattle.ot_c_files.specs.Main.{has_region}
use Rattle.ot_c_files.proofs.main_body.has_region.Given as goal

-- those that are left decide
abbrev pub invariant-loop-step : goal.invariant-loop-step
invariant-loop-step l = has_region (main_of (drop l.step-index l.steps)) ≡ has_region (main_of l.steps)
