-- Numbers that are equal, or aren't.
use Rattle.std.proofs.Common.{◌≡◌, ◌≢◌, ◌==◌, ℕ, true, false, arith}
use Rattle.std.proofs.lemmas.Bool.Decides.{nat_tests}

pub eq_itself : (n : ℕ) → (n == n) ≡ true
eq_itself n = grind (arith, nat_tests)

pub eq_apart : (n m : ℕ) → n ≢ m → (n == m) ≡ false
eq_apart n m apart = grind (arith, nat_tests)
