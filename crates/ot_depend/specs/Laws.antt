-- Laws of the counts of children that have not finished.
use Rattle.std.specs.Prelude.{◌≡◌, ◌↔◌, ℕ, IsTrue, List, All, count_by}
use Rattle.ot_depend.specs.Siblings.{Sibling, is_unfinished, is_in, is_unfinished_in}

-- no child is unfinished exactly where each has finished
abbrev pub NoneUnfinished : Type 0
NoneUnfinished = (siblings : List Sibling) → (count_by is_unfinished siblings ≡ 0) ↔ All (λ s. IsTrue s.finished) siblings

-- no child of a group is unfinished exactly where each that was created in it has finished
abbrev pub NoneUnfinishedIn : Type 0
NoneUnfinishedIn = (group : ℕ) (siblings : List Sibling) →
    (count_by (is_unfinished_in group) siblings ≡ 0) ↔ All (λ s. IsTrue (is_in group s) → IsTrue s.finished) siblings
