-- Numbers that lie one on the other in an array.
use Rattle.std.proofs.Common.{◌≡◌, ◌<◌, ◌≤◌, ◌+◌, ℕ, zero, suc, List, ◌∷◌, length, set, refl, ap, ap₂, ◌∙◌, arith}
use Rattle.std.proofs.lemmas.List.{get_or-set_same, get_or-set_other}
use Rattle.ot_job_task.specs.Deeds.{numbers_piled}

pub length-piled : (h : ℕ) (ns : List ℕ) → length (numbers_piled h ns) ≡ h
length-piled zero ns = refl
length-piled (suc h) ns = ap suc (length-piled h ns)

-- what is written above stays away from them
piled-set : (h k : ℕ) (ns : List ℕ) (n : ℕ) → h ≤ k → numbers_piled h (set ns k n) ≡ numbers_piled h ns
piled-set zero k ns n under = refl
piled-set (suc h) k ns n under = ap₂ ◌∷◌ (get_or-set_other ns k h n 0 (λ e. omega (arith, e))) (piled-set h k ns n (omega arith))

pub pushed : (h : ℕ) (ns : List ℕ) (n : ℕ) → h < length ns → numbers_piled (h + 1) (set ns h n) ≡ n ∷ numbers_piled h ns
pushed h ns n within =
    let more : h + 1 ≡ suc h = omega arith in
    ap (λ k. numbers_piled k (set ns h n)) more ∙ ap₂ ◌∷◌ (get_or-set_same ns h n 0 within) (piled-set h h ns n (omega arith))
