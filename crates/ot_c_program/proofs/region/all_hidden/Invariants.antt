use Rattle.std.proofs.Common.{◌≡◌, ◌++◌, drop, map}
use Rattle.ot_c_program.specs.Regions.{meaning_hidden}
use Rattle.ot_c_program.proofs.region.all_hidden.Given as goal

-- those that are left follow
abbrev pub invariant-loop-meaning : goal.invariant-loop-meaning
invariant-loop-meaning l = l.all.items ++ map meaning_hidden (drop l.meaning-index l.meanings) ≡ map meaning_hidden l.meanings
