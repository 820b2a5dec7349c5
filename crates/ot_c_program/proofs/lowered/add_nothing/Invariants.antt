use Rattle.std.proofs.Common.{◌≡◌, drop}
use Rattle.ot_c_files.specs.Program.{main_of}
use Rattle.ot_c_program.specs.Files.{add_nothing}
use Rattle.ot_c_program.proofs.lowered.add_nothing.Given as goal

-- those that are left decide
abbrev pub invariant-loop-step : goal.invariant-loop-step
invariant-loop-step l = add_nothing (main_of (drop l.step-index l.steps)) ≡ add_nothing (main_of l.steps)
