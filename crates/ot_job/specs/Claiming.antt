-- Which tasks are claimable, and which of them is picked.
use Rattle.std.specs.Prelude.{ℕ, ◌==◌, ◌%◌, ◌&&◌, ◌||◌, Bool, not, List, [], ◌∷◌, length, Option, None, is_some, slice_get, filter}
use Rattle.std.specs.List.{range_with_len}
use Rattle.ot_depend.specs.Siblings.{is_ready}
use Rattle.ot_job_task.specs.Regions.{Region, is_let_go}
use Rattle.ot_job.specs.Numbered.{at}

abbrev pub is_claimable : List Region → ℕ → Bool
is_claimable rs i = let r = at rs i in
    (not r.ended && not (is_some r.running)) && (((i == 0) || is_ready (at rs r.parent).children r.child) && is_let_go r)

-- in order of their numbers
abbrev pub claimable_of : List Region → List ℕ
claimable_of rs = filter (is_claimable rs) (range_with_len 0 (length rs))

-- the one at this place modulo their count
abbrev pub picked_at : List ℕ → ℕ → Option ℕ
picked_at [] pick = None
picked_at (x ∷ xs) pick = slice_get (x ∷ xs) (pick % length (x ∷ xs))
