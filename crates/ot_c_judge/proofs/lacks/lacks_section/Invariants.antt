use Rattle.std.proofs.Common.{◌≡◌, ◌-◌, map}
use Rattle.std.specs.Prelude.{not, find, option_map}
use Rattle.std.specs.List.{range_with_len}
use Rattle.ot_model.specs.Tree.{cell_at, cells_of}
use Rattle.ot_model.specs.declared.stmt.Mode.TheVariants.{Reads}
use Rattle.ot_check.specs.Offences.{use_as, allows}
use Rattle.ot_c_judge.proofs.lacks.lacks_section.Given as goal

-- those that are left decide
abbrev pub invariant-loop-place : goal.invariant-loop-place
invariant-loop-place l =
    find (λ u. not (allows (option_map (λ d. d.now) l.own) u)) (map (use_as Reads) (cells_of l.section))
    ≡ find (λ u. not (allows (option_map (λ d. d.now) l.own) u)) (map (use_as Reads) (map (cell_at l.section) (range_with_len l.place (l.section.len - l.place))))
