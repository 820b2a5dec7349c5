-- What steps make of a stack of numbers, and of the copies that a piece was lent.
use Rattle.std.specs.Prelude.{ℕ, ◌+◌, ◌-◌, ◌<◌, ◌≤◌, ◌%◌, ◌^◌, List, [], ◌∷◌, unwrap_or, zero, suc, get_or}
use Rattle.ot_model.specs.Tree.{applied, cell_at}
use Rattle.ot_model.specs.Joining.{join_by}
use Rattle.ot_parts.specs.Steps.{Deed, Push, Load, Choose, Join, JoinBack, Write, WriteJoined}
use Rattle.ot_owner.specs.Lending.{MayChange}
use Rattle.ot_owner.specs.declared.lent.LentCell.{LentCell}
use Rattle.ot_job_task.specs.Copies.{Look, with_copy}

-- the stack after one, its top first
abbrev pub stack_behind : Deed → Look → List ℕ → List ℕ
stack_behind (Push n) look ns = n ∷ ns
stack_behind (Load c) look ns = unwrap_or (look c) 0 ∷ ns
stack_behind (Choose s) look (k ∷ ns) = unwrap_or (look (cell_at s (k % s.len))) 0 ∷ ns
stack_behind (Join o) look (b ∷ a ∷ ns) = applied o a b ∷ ns
stack_behind (JoinBack o) look (a ∷ b ∷ ns) = applied o a b ∷ ns
stack_behind (Write c) look (n ∷ ns) = ns
stack_behind (WriteJoined o c) look (n ∷ ns) = ns
stack_behind d look ns = ns

-- the copies after it
abbrev pub copies_changed : Deed → List ℕ → Look → Look
copies_changed (Write c) (n ∷ ns) look = with_copy look c (λ _. n)
copies_changed (WriteJoined o c) (n ∷ ns) look = with_copy look c (λ m. join_by o m n)
copies_changed d ns look = look

-- the copies after all of them
abbrev pub copies_made : List Deed → List ℕ → Look → Look
copies_made [] ns look = look
copies_made (d ∷ ds) ns look = copies_made ds (stack_behind d look ns) (copies_changed d ns look)

-- so many numbers are on the stack that it can be done, there is room for one more where it puts one there, and what it writes
-- may be changed
abbrev pub CanDo : List LentCell → ℕ → Deed → Type 0
CanDo lent h (Push n) = h < 64
CanDo lent h (Load c) = h < 64
CanDo lent h (Choose s) = (0 < h) × (0 < s.len) × (s.start + s.len ≤ 2 ^ 32)
CanDo lent h (Join o) = 1 < h
CanDo lent h (JoinBack o) = 1 < h
CanDo lent h (Write c) = (0 < h) × MayChange lent c
CanDo lent h (WriteJoined o c) = (0 < h) × MayChange lent c

-- how many are on the stack after it
abbrev pub height_after : Deed → ℕ → ℕ
height_after (Push n) h = h + 1
height_after (Load c) h = h + 1
height_after (Choose s) h = h
height_after d h = h - 1

abbrev pub CanDoAll : List LentCell → ℕ → List Deed → Type 0
CanDoAll lent h [] = Unit {0}
CanDoAll lent h (d ∷ ds) = CanDo lent h d × CanDoAll lent (height_after d h) ds

-- the first numbers, the last of these first
abbrev pub numbers_piled : ℕ → List ℕ → List ℕ
numbers_piled zero ns = []
numbers_piled (suc h) ns = get_or ns h 0 ∷ numbers_piled h ns
