use Rattle.std.proofs.Common.{◌≡◌, drop}
use Rattle.ot_c_files.specs.Program.{main_of}
use Rattle.ot_c_arrays.specs.Arrays.{declared_view}
use Rattle.ot_c_program.specs.Statements.{source_of}
use Rattle.ot_c_program.specs.Files.{progress_of, main_from, main_body}
use Rattle.ot_c_program.proofs.lowered.main_body.Given as goal

-- those that are left complete what there is
abbrev pub invariant-loop-number : goal.invariant-loop-number
invariant-loop-number l = main_from l.words.names.keys (source_of l.source) (progress_of l.progress) (main_of (drop l.number l.steps)) ≡ main_body l.words.names.keys (source_of l.source) (declared_view l.fn.declared) (main_of l.steps)
