-- Where a group of a job's tasks ends and where one begins, as the copies of their cells go by it.
use Rattle.std.specs.Prelude.{◌≡◌, ◌≢◌, ◌↔◌, ℕ, List, [], ◌∷◌, ◌++◌, replicate, Option, Some, None, All, Contains, IsPermutation}
use Rattle.ot_model.specs.declared.expr.Cell.{Cell}
use Rattle.ot_model.specs.declared.fold.Fold.{Fold as Operation}
use Rattle.ot_model.specs.declared.stmt.Use.{Use}
use Rattle.ot_owner.specs.Owning.{Loan, Owned, IsFreeFor, Summed, without, IsNamed, IsSummed}
use Rattle.ot_owner.specs.Worth.{closed_over}

-- the groups that stay open where this one's end is passed
abbrev pub left_open : Option ℕ → List Summed → List Summed
left_open None gs = gs
left_open (Some group) gs = without group gs

-- a cell's stored number then: combined with the copies that the group has of the cell
abbrev pub passed_over : Option ℕ → List Summed → Cell → ℕ → ℕ
passed_over None gs c stored = stored
passed_over (Some group) gs c stored = closed_over group gs c stored

-- Once the loan has come back, a group of this number over the cells of these uses may be opened: no group of the number is
-- open, none names a cell of it, and no loan is out on one (OpenMP API 5.2, section 5.5).
pub record MayOpen (owned : Owned) (loan : Loan) (number : ℕ) (uses : List Use) : Type 0 where
  pub new : All (λ g. g.group ≢ number) owned.groups
  pub unnamed : (c : Cell) → IsNamed uses c → ¬ IsSummed owned.groups c
  pub unused : (left : List Loan) → IsPermutation owned.out (loan ∷ left) → IsFreeFor left uses

-- the groups with the next one open under this number, with no row yet
abbrev pub Opens : Option (Operation × List Cell) → ℕ → (before after : List Summed) → Type 0
Opens None number before after = after ≡ before
Opens (Some group) number before after =
    (uses : List Use) × ((c : Cell) → IsNamed uses c ↔ Contains group.1 c) × (after ≡ before ++ record { group = number; op = group.0; uses = uses; rows = replicate 17 None } ∷ [])
