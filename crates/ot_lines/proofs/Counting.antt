-- How counts add up.
use Rattle.std.proofs.Common.{◌≡◌, ◌≢◌, ℕ, zero, suc, ◌+◌, ◌%◌, ◌^◌, ◌<◌, ap, ◌∙◌, arith}
use Rattle.std.proofs.Math.Nat.{mod-add-mod}
use Rattle.ot_lines.specs.Lines.{count_after}

-- k more after j more
pub count_after-both : (j k n : ℕ) → count_after k (count_after j n) ≡ count_after (j + k) n
count_after-both zero k n = let same : k ≡ 0 + k = omega arith in ap (λ m. count_after m n) same
count_after-both (suc j) zero n = let same : suc j ≡ suc j + 0 = omega arith in ap (λ m. count_after m n) same
count_after-both (suc j) (suc k) n =
    let same : n + suc j + suc k ≡ n + suc (j + suc k) = omega arith in
    let all : suc (j + suc k) ≡ suc j + suc k = omega arith in
    mod-add-mod (n + suc j) (2 ^ 64) (suc k) ∙ ap (λ m. m % 2 ^ 64) same ∙ ap (λ m. count_after m n) all

pub not_zero : (n : ℕ) → n ≢ 0 → 0 < n
not_zero n other = omega (arith, other)
