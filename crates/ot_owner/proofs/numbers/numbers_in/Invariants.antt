use Rattle.std.proofs.Common.{◌<◌, ◌^◌, ℕ, take, get_or, All}
use Rattle.ot_owner.proofs.numbers.numbers_in.Given as goal

abbrev pub invariant-loop-array : goal.invariant-loop-array
invariant-loop-array l = All (λ array. (i : ℕ) → get_or array.items i 0 < 2 ^ 64) (take l.array-index l.arrays)
