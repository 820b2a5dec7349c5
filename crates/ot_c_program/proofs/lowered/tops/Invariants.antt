use Rattle.std.proofs.Common.{◌≡◌, drop, length}
use Rattle.ot_c_files.specs.Program.{tops_of}
use Rattle.ot_c_arrays.specs.Each.{each_or_refused}
use Rattle.ot_c_program.specs.Files.{before_of, top_step, tops}
use Rattle.ot_c_program.proofs.lowered.tops.Given as goal

-- those that are left complete what there is
abbrev pub invariant-loop-top : goal.invariant-loop-top
invariant-loop-top l = each_or_refused (top_step l.words.names.keys (length l.words.starts.items)) (before_of l.before) (tops_of (drop l.top-index l.tops)) ≡ tops l.fn.loops l.words.names.keys (length l.words.starts.items) (tops_of l.tops)
