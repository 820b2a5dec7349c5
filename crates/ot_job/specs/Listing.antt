-- The tasks as members of their roster.
use Rattle.std.specs.Prelude.{◌≡◌, ◌<◌, ℕ, Bool, true, List, length, is_some}
use Rattle.ot_depend.specs.Siblings.{has}
use Rattle.ot_job_roster.specs.Members.{Member, Kept, Tells}
use Rattle.ot_job_task.specs.Regions.{Region}
use Rattle.ot_job.specs.Numbered.{at}
use Rattle.ot_job.specs.Claiming.{is_claimable}

abbrev pub member : Region → Member
member r = record { parent = r.parent; child = r.child; kids = length r.children; out = is_some r.running; ended = r.ended }

abbrev pub members : List Region → ℕ → Member
members rs k = member (at rs k)

-- the roster tells of the tasks rightly, and which are claimable
abbrev pub AreKept : List Region → Kept → Type 0
AreKept rs r = Tells (length rs) (members rs) (is_claimable rs) r

-- these children of the task are free now exactly where they are claimable, and so is each of whom it was right before
pub record IsRefreshed (rs : List Region) (parent : ℕ) (children : List ℕ) (old : ℕ → Bool) (r : Kept) : Type 0 where
  pub test : ℕ → Bool
  pub tells : Tells (length rs) (members rs) test r
  pub told : (k : ℕ) → 0 < k → k < length rs → (at rs k).parent ≡ parent → has (at rs k).child children ≡ true → test k ≡ is_claimable rs k
  pub others : (k : ℕ) → old k ≡ is_claimable rs k → test k ≡ is_claimable rs k
