-- What fits on a shelf.
use Rattle.std.proofs.Common.{◌≡◌, ◌<◌, ◌≤◌, ℕ, zero, suc, ◌+◌, ◌*◌, ◌⊎◌, inl, inr, List, [], ◌∷◌, length, take, sym, ap, ◌∙◌, subst, arith}
use Rattle.std.specs.Prelude.{sum_by}
use Rattle.std.proofs.lemmas.Bool.{cases_lt}
use Rattle.std.proofs.lemmas.List.{length-take-le, take_all, take-take}
use Rattle.std.proofs.lemmas.List.Sums.{sum_by-cons, sum_by-take-le}
use Rattle.ot_book.specs.Readings.{Reading}
use Rattle.ot_book.specs.Shelves.{statements_of, named_of, FitOn, Keeps}

-- a program has at most 20,000 statements
pub statements-few : (r : Reading) → statements_of r ≤ 20000
statements-few r = r.checked.program.few

sum-few : (rs : List Reading) → sum_by statements_of rs ≤ 20000 * length rs
sum-few [] = omega arith
sum-few (r ∷ rs) = omega (arith, sum_by-cons statements_of r rs, statements-few r, sum-few rs)

-- so four fit that don't name too many cells
four-fit : (rs : List Reading) → length rs ≤ 4 → sum_by named_of rs ≤ 262144 → FitOn rs
four-fit rs few narrow = record { few = omega (arith, few); light = omega (arith, few, sum-few rs); narrow = narrow }

-- as many of the first four
some-fit : (rs : List Reading) (n : ℕ) → n ≤ 4 → n ≤ length rs → sum_by named_of (take 4 rs) ≤ 262144 → FitOn (take n rs)
some-fit rs n four there narrow =
    let within : sum_by named_of (take n rs) ≤ sum_by named_of (take 4 rs) =
    subst (λ xs. sum_by named_of xs ≤ sum_by named_of (take 4 rs)) (take-take n 4 rs four) (sum_by-take-le named_of (take 4 rs) n) in
    four-fit (take n rs) (subst (λ k. k ≤ 4) (sym (length-take-le n rs there)) four) (omega (arith, within, narrow))

-- all of them stay
keeps-all : (old : List Reading) (r : Reading) (stay : ℕ) (new : List Reading) → new ≡ take stay (r ∷ old) → length (r ∷ old) ≤ stay → Keeps old r new
keeps-all old r stay new is all =
    let same : new ≡ r ∷ old = is ∙ take_all stay (r ∷ old) all in
    record { behind = length old; is = same ∙ ap (λ rs. r ∷ rs) (sym (take_all (length old) old (omega arith))); most = inl same; four = inl same }

-- at least four, where the first four don't name too many
four-stay : (rs : List Reading) (stay : ℕ) (new : List Reading) → new ≡ take stay rs → stay < length rs → ¬ (FitOn (take (stay + 1) rs)) →
    ((4 ≤ length new) ⊎ (262144 < sum_by named_of (take 4 rs)))
four-stay rs stay new is more most =
    let long : length new ≡ stay = ap length is ∙ length-take-le stay rs (omega (arith, more)) in
    elim (cases_lt 262144 (sum_by named_of (take 4 rs))) [
      | inl wide ↦ inr wide
      | inr narrow ↦ elim (cases_lt stay 4) [
        | inl less ↦ absurd (most (some-fit rs (stay + 1) (omega (arith, less)) (omega (arith, more)) narrow))
        | inr four ↦ inl (omega (arith, long, four))
      ]
    ]

-- some stay, and one more doesn't fit
keeps-some : (old : List Reading) (r : Reading) (behind : ℕ) (new : List Reading) → new ≡ take (suc behind) (r ∷ old) →
    suc behind < length (r ∷ old) → ¬ (FitOn (take (suc behind + 1) (r ∷ old))) → Keeps old r new
keeps-some old r behind new is more most =
    let next : suc behind + 1 ≡ suc (behind + 1) = omega arith in
    record {
      behind = behind;
      is = is;
      most = inr (subst (λ n. ¬ (FitOn (take n (r ∷ old)))) next most);
      four = inr (four-stay (r ∷ old) (suc behind) new is more most);
    }

-- some stay of those with one more, which is among them
pub keeps-as : (old : List Reading) (r : Reading) (stay : ℕ) (new : List Reading) → new ≡ take stay (r ∷ old) →
    ((stay ≡ length (r ∷ old)) ⊎ (1 ≤ stay)) → ((stay ≡ length (r ∷ old)) ⊎ (¬ (FitOn (take (stay + 1) (r ∷ old))))) → Keeps old r new
keeps-as old r stay new is one (inl all) = keeps-all old r stay new is (omega (arith, all))
keeps-as old r zero new is (inl all) (inr most) = absurd (omega (arith, all))
keeps-as old r zero new is (inr one) (inr most) = absurd (omega (arith, one))
keeps-as old r (suc behind) new is one (inr most) = elim (cases_lt (suc behind) (length (r ∷ old))) [
  | inl more ↦ keeps-some old r behind new is more most
  | inr all ↦ keeps-all old r (suc behind) new is all
]
