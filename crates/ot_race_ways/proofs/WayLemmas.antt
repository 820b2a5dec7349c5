-- How many ways there are: one at least.
use Rattle.std.proofs.Common.{ℕ, ◌≡◌, ◌*◌, ◌<◌, ◌≤◌, ◌⊎◌, inl, inr, ap, sym, subst, ◌∙◌, refl, arith}
use Rattle.std.proofs.lemmas.Bool.{cases_eq}
use Rattle.std.specs.Prelude.{nat_lt, Option, Some, None, min}
use Rattle.std.proofs.Math.Nat.{mul-pos, le-mul_of_pos_right}
use Rattle.ot_model.specs.Tree.{E, S, Set, Fold, If, Task, Wait, Group, Body, End, Next}
use Rattle.ot_race_ways.specs.Known.{number_in_value}
use Rattle.ot_race_ways.specs.Numbered.{takes_first, left_for_second}
use Rattle.ot_race_ways.specs.Ways.{ways, ways_one, ways_of_if}
use Rattle.ot_race_ways.proofs.BranchLemmas.{either_first, either_second}

some_of_if : (o : Option ℕ) (v w : ℕ) → 0 < v → 0 < w → 0 < ways_of_if o v w
some_of_if None v w p q = omega (arith, p)
some_of_if (Some n) v w p q = elim (cases_eq n 0) [
  | inl is ↦ subst (λ m. 0 < m) (sym (either_second n v w is)) q
  | inr apart ↦ subst (λ m. 0 < m) (sym (either_first n v w apart)) p
]

mutual
  pub some_way_one : (x : S) → 0 < ways_one x
  some_way_one (Set c e) = omega arith
  some_way_one (Fold o c e) = omega arith
  some_way_one (If e a b) = some_of_if (number_in_value e) (ways a) (ways b) (some_way a) (some_way b)
  some_way_one (Task d b) = some_way b
  some_way_one (Wait w) = omega arith
  some_way_one (Group o cs b) = some_way b

  pub some_way : (b : Body) → 0 < ways b
  some_way End = omega arith
  some_way (Next x rest) = mul-pos (some_way_one x) (some_way rest)

-- ---- ways that are counted up to 1025

less_or_over : (n m : ℕ) → (n < m) ⊎ (m ≤ n)
less_or_over n m = grind arith

pub min_times : (a r : ℕ) → 0 < r → min (min a 1025 * r) 1025 ≡ min (a * r) 1025
min_times a r some = elim (less_or_over a 1025) [
  | inl less ↦ let is : min a 1025 ≡ a = omega (arith, less) in ap (λ m. min (m * r) 1025) is
  | inr over ↦
      let is : min a 1025 ≡ 1025 = omega (arith, over) in
      let one : 1025 ≤ 1025 * r = le-mul_of_pos_right 1025 some in
      let two : a ≤ a * r = le-mul_of_pos_right a some in
      let left : min (1025 * r) 1025 ≡ 1025 = omega (arith, one) in
      let right : min (a * r) 1025 ≡ 1025 = omega (arith, over, two) in
      ap (λ m. min (m * r) 1025) is ∙ left ∙ sym right
]

-- one statement more, whose ways are counted so too
pub min_step : (u w one r : ℕ) → 0 < u → 0 < r → one ≡ min w 1025 → min (min (u * one) 1025 * r) 1025 ≡ min (u * (w * r)) 1025
min_step u w one r some rest is =
    let turned : u * one * r ≡ one * (u * r) = omega arith in
    let back : w * (u * r) ≡ u * (w * r) = omega arith in
    min_times (u * one) r rest ∙ ap (λ m. min m 1025) turned ∙ ap (λ m. min (m * (u * r)) 1025) is
    ∙ min_times w (u * r) (mul-pos some rest) ∙ ap (λ m. min m 1025) back

-- few ways through a body are few through each statement, and through those behind it
pub few_one : (x : S) (rest b : Body) → b ≡ Next x rest → ways b < 1025 → ways_one x < 1025
few_one x rest b split few =
    let all : ways b ≡ ways_one x * ways rest = ap ways split in
    let le : ways_one x ≤ ways_one x * ways rest = le-mul_of_pos_right (ways_one x) (some_way rest) in
    omega (arith, few, all, le)

pub few_rest : (x : S) (rest b : Body) → b ≡ Next x rest → ways b < 1025 → ways rest < 1025
few_rest x rest b split few =
    let all : ways b ≡ ways_one x * ways rest = ap ways split in
    let le : ways rest ≤ ways rest * ways_one x = le-mul_of_pos_right (ways rest) (some_way_one x) in
    let turned : ways rest * ways_one x ≡ ways_one x * ways rest = omega arith in
    omega (arith, few, all, le, turned)

pub counted_some : (w n : ℕ) → w ≡ min n 1025 → 0 < n → 0 < w
counted_some w n is some = omega (arith, is, some)

pub counted_few : (w n : ℕ) → w ≡ min n 1025 → n < 1025 → w ≡ n
counted_few w n is few = omega (arith, is, few)

-- ---- an `if` with so many ways through its bodies

pub few_of_if : (e : E) (a b : Body) (x : S) → x ≡ If e a b → ways_one x < 1025 → ways_of_if (number_in_value e) (ways a) (ways b) < 1025
few_of_if e a b x is few = subst (λ n. n < 1025) (ap ways_one is) few

-- where they are few it doesn't matter that those of its first body are counted up to 1025
pub counted_takes : (o : Option ℕ) (n v one w : ℕ) → v ≡ min one 1025 → ways_of_if o one w < 1025 → takes_first o n v ≡ takes_first o n one
counted_takes None n v one w is few = let same : v ≡ one = omega (arith, is, few) in ap (nat_lt n) same
counted_takes (Some k) n v one w is few = refl

pub counted_left : (o : Option ℕ) (n v one w : ℕ) → v ≡ min one 1025 → ways_of_if o one w < 1025 → left_for_second o n v ≡ left_for_second o n one
counted_left None n v one w is few = omega (arith, is, few)
counted_left (Some k) n v one w is few = refl
