-- What a piece touches, touch by touch.
use Rattle.std.proofs.Common.{◌≡◌, ◌<◌, ℕ, suc, ◌+◌, ◌-◌, List, map, ap, arith}
use Rattle.std.specs.List.{fold, range_with_len}
use Rattle.ot_model.specs.declared.expr.Cell.{Cell}
use Rattle.ot_model.specs.declared.expr.Section.{Section}
use Rattle.ot_model.specs.declared.stmt.Mode.TheVariants.{Reads}
use Rattle.ot_model.specs.declared.stmt.Use.{Use}
use Rattle.ot_model.specs.Tree.{cell_at}
use Rattle.ot_parts.specs.Modes.{use_as, mode_added, strongest}

-- one cell of a section more
pub section-one : (s : Section) (i : ℕ) (es fs : List Use) → i < s.len → ((c : Cell) → strongest fs c ≡ mode_added c (strongest es c) (use_as Reads (cell_at s i)))
    → (c : Cell) → fold (mode_added c) (strongest fs c) (map (use_as Reads) (map (cell_at s) (range_with_len (i + 1) (s.len - (i + 1)))))
    ≡ fold (mode_added c) (strongest es c) (map (use_as Reads) (map (cell_at s) (range_with_len i (s.len - i))))
section-one s i es fs below one c =
    let left : s.len - i ≡ suc (s.len - (i + 1)) = omega (arith, below) in
    rw left (ap (λ o. fold (mode_added c) o (map (use_as Reads) (map (cell_at s) (range_with_len (i + 1) (s.len - (i + 1)))))) (one c))
