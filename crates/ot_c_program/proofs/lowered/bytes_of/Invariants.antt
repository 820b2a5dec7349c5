use Rattle.std.proofs.Common.{◌≡◌, ◌++◌, drop, map}
use Rattle.ot_c_arrays.specs.Places.{byte_of}
use Rattle.ot_c_program.proofs.lowered.bytes_of.Given as goal

-- those that are left follow
abbrev pub invariant-loop-left : goal.invariant-loop-left
invariant-loop-left l = l.bytes.items ++ map (byte_of l.starts) (drop l.left-index l.places) ≡ map (byte_of l.starts) l.places
