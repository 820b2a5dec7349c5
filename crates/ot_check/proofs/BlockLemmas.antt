-- Blocks of users: whom a test finds among the bits of a word.
use Rattle.std.proofs.Common.{◌≡◌, ◌==◌, ℕ, zero, suc, ◌+◌, ◌*◌, ◌/◌, ◌%◌, ◌^◌, ◌<◌, ◌++◌, Bool, true, false, ◌&&◌, ◌||◌, List, ◌∷◌, refl, sym, ap, subst, ◌∙◌, inl, inr, arith, w64}
use Rattle.std.specs.Prelude.{if◌then◌else◌, bit_or}
use Rattle.std.specs.Int.{bit_at}
use Rattle.std.specs.List.{list_any}
use Rattle.std.proofs.lemmas.Bool.{cases_eq}
use Rattle.std.proofs.lemmas.List.Folds.{list_any-append}
use Rattle.std.proofs.lemmas.Nat.Bits.{bit_at-zero, bit_at_set_same, bit_at_set_other}
use Rattle.ot_model.specs.declared.fold.Fold.{Fold as Operation}
use Rattle.ot_model.specs.declared.stmt.Mode.{Mode}
use Rattle.ot_model.specs.declared.stmt.Mode.TheVariants.{Reads, Writes, Folds}
use Rattle.ot_check.specs.walk.Rows.{is_by, user_at, users_below, users_of_block}
use Rattle.ot_check.specs.declared.block.Block.{Block}
use Rattle.ot_check.specs.declared.users.User.{User}
use Rattle.ot_model.proofs.EqualLemmas.{fold-decides}
use Rattle.ot_check.proofs.Bits.{or_assoc, false_or, or_true, true_or, or_right, and_left, and_right, and_true}
use Rattle.ot_check.proofs.SameLemmas.{eq_apart}

-- ---- truth values

pub both_same : (a b : Bool) → (a ≡ true → b ≡ true) → (b ≡ true → a ≡ true) → a ≡ b
both_same true b to from = sym (to refl)
both_same false true to from = from refl
both_same false false to from = refl

pub is_one : (n : ℕ) → (n == 1) ≡ true → n ≡ 1
is_one n h = elim (cases_eq n 1) [
  | inl e ↦ e
  | inr apart ↦ let f : false ≡ true = sym (eq_apart n 1 apart) ∙ h in cc
]

pub one_is : (n : ℕ) → n ≡ 1 → (n == 1) ≡ true
one_is n e = ap (λ n. n == 1) e

-- ---- the bits of a word

any-if : (test : User → Bool) (b : Bool) (u : User) (us : List User) → list_any test (if b then u ∷ us else us) ≡ ((b && test u) || list_any test us)
any-if test true u us = refl
any-if test false u us = refl

below-suc : (test : User → Bool) (place : ℕ) (mode : Mode) (word j : ℕ)
    → list_any test (users_below place mode word (suc j)) ≡ (((bit_at word j == 1) && test (user_at place mode j)) || list_any test (users_below place mode word j))
unfolding users_below
below-suc test place mode word j = any-if test (bit_at word j == 1) (user_at place mode j) (users_below place mode word j)

below-zero : (test : User → Bool) (place : ℕ) (mode : Mode) (word : ℕ) → list_any test (users_below place mode word zero) ≡ false
unfolding users_below
below-zero test place mode word = refl

pub below-has : (test : User → Bool) (place : ℕ) (mode : Mode) (word n j : ℕ) → j < n → bit_at word j ≡ 1 → test (user_at place mode j) ≡ true
    → list_any test (users_below place mode word n) ≡ true
below-has test place mode word zero j l bit met = absurd (omega (arith, l))
below-has test place mode word (suc n) j l bit met =
    below-suc test place mode word n
    ∙ elim (cases_eq j n) [
      | inl e ↦
          subst (λ n. (((bit_at word n == 1) && test (user_at place mode n)) || list_any test (users_below place mode word n)) ≡ true) e
          (true_or _ _ (and_true _ _ (one_is _ bit) met))
      | inr apart ↦ or_right _ _ (below-has test place mode word n j (omega (arith, l, apart)) bit met)
    ]

pub below-found : (test : User → Bool) (place : ℕ) (mode : Mode) (word n : ℕ) → list_any test (users_below place mode word n) ≡ true
    → (j : ℕ) × (j < n) × (bit_at word j ≡ 1) × (test (user_at place mode j) ≡ true)
below-found test place mode word zero h = let f : false ≡ true = sym (below-zero test place mode word) ∙ h in cc
below-found test place mode word (suc n) h =
    elim (or_true ((bit_at word n == 1) && test (user_at place mode n)) (list_any test (users_below place mode word n)) (sym (below-suc test place mode word n) ∙ h)) [
      | inl here ↦
          let bit : (bit_at word n == 1) ≡ true = and_left (bit_at word n == 1) (test (user_at place mode n)) here in
          (n, omega arith, is_one (bit_at word n) bit, and_right (bit_at word n == 1) (test (user_at place mode n)) here)
      | inr later ↦ let f = below-found test place mode word n later in (f.0, omega (arith, f.1), f.2, f.3)
    ]

pub below-none : (test : User → Bool) (place : ℕ) (mode : Mode) (n : ℕ) → list_any test (users_below place mode 0 n) ≡ false
below-none test place mode n =
    both_same _ _ (λ h. let f = below-found test place mode 0 n h in
    let e : zero ≡ 1 = sym (bit_at-zero f.0) ∙ f.2 in absurd (omega (arith, e)))
    (λ h. cc)

-- ---- one bit more

pub below-set : (test : User → Bool) (place : ℕ) (mode : Mode) (word k : ℕ) → k < 64
    → list_any test (users_below place mode (bit_or word (1 * 2 ^ k % 2 ^ 64)) 64) ≡ (list_any test (users_below place mode word 64) || test (user_at place mode k))
below-set test place mode word k l =
    let new : ℕ = bit_or word (1 * 2 ^ k % 2 ^ 64) in
    both_same _ _
    (λ h. let f = below-found test place mode new 64 h in
    elim (cases_eq f.0 k) [
      | inl e ↦ or_right _ _ (ap (λ j. test (user_at place mode j)) (sym e) ∙ f.3)
      | inr apart ↦
          true_or _ _ (below-has test place mode word 64 f.0 f.1 (sym (bit_at_set_other w64 word k l f.0 apart) ∙ f.2) f.3)
    ])
    (λ h. elim (or_true (list_any test (users_below place mode word 64)) (test (user_at place mode k)) h) [
      | inl old ↦
          let f = below-found test place mode word 64 old in
          below-has test place mode new 64 f.0 f.1 (elim (cases_eq f.0 k) [
            | inl e ↦ ap (bit_at new) e ∙ bit_at_set_same w64 word k l
            | inr apart ↦ bit_at_set_other w64 word k l f.0 apart ∙ f.2
          ]) f.3
      | inr met ↦ below-has test place mode new 64 k l (bit_at_set_same w64 word k l) met
    ])

-- ---- blocks

pub any-three : (test : User → Bool) (xs ys zs : List User) → list_any test (xs ++ ys ++ zs) ≡ (list_any test xs || (list_any test ys || list_any test zs))
any-three test xs ys zs =
    list_any-append test (xs ++ ys) zs ∙ ap (λ b. b || list_any test zs) (list_any-append test xs ys)
    ∙ or_assoc (list_any test xs) (list_any test ys) (list_any test zs)

pub block-none : (test : User → Bool) (place : ℕ) (o : Operation) → list_any test (users_of_block (record { place = place; reads = 0; writes = 0; folds = 0; operation = o })) ≡ false
block-none test place o =
    any-three test (users_below place Reads 0 64) (users_below place Writes 0 64) (users_below place (Folds o) 0 64)
    ∙ false_or _ _ (below-none test place Reads 64) (false_or _ _ (below-none test place Writes 64) (below-none test place (Folds o) 64))

-- a task that folds by the operation of its block
pub by-block : (o p : Operation) (mode : Mode) → mode ≡ Folds p → is_by o mode ≡ true → mode ≡ Folds o
by-block o p mode is by =
    let same : is_by o (Folds p) ≡ true = ap (is_by o) (sym is) ∙ by in
    is ∙ ap Folds (sym ((fold-decides o p).0 same))

first_more : (a b c t : Bool) → ((a || t) || (b || c)) ≡ ((a || (b || c)) || t)
first_more true b c t = refl
first_more false true c true = refl
first_more false true c false = refl
first_more false false true true = refl
first_more false false true false = refl
first_more false false false true = refl
first_more false false false false = refl

second_more : (a b c t : Bool) → (a || ((b || t) || c)) ≡ ((a || (b || c)) || t)
second_more true b c t = refl
second_more false true c t = refl
second_more false false true true = refl
second_more false false true false = refl
second_more false false false true = refl
second_more false false false false = refl

third_more : (a b c t : Bool) → (a || (b || (c || t))) ≡ ((a || (b || c)) || t)
third_more true b c t = refl
third_more false true c t = refl
third_more false false c t = refl

-- one bit more in one of its words
module _ (test : User → Bool) (block : Block) (user : User) (here : block.place ≡ user.task / 64) where
  abbrev bit : ℕ
  bit = 1 * 2 ^ (user.task % 64) % 2 ^ 64

  -- the task that has this bit
  set-mine : (mode : Mode) (word : ℕ) → user.mode ≡ mode
      → list_any test (users_below block.place mode (bit_or word bit) 64) ≡ (list_any test (users_below block.place mode word 64) || test user)
  set-mine mode word is =
      let task : block.place * 64 + user.task % 64 ≡ user.task = omega (arith, here) in
      below-set test block.place mode word (user.task % 64) (omega arith)
      ∙ ap (λ m. list_any test (users_below block.place mode word 64) || test (user_at block.place m (user.task % 64))) (sym is)
      ∙ ap (λ t. list_any test (users_below block.place mode word 64) || test (record { task = t; mode = user.mode })) task

  abbrev among : Mode → ℕ → Bool
  among mode word = list_any test (users_below block.place mode word 64)

  -- whom the block tells
  told : list_any test (users_of_block block) ≡ (among Reads block.reads || (among Writes block.writes || among (Folds block.operation) block.folds))
  told = any-three test (users_below block.place Reads block.reads 64) (users_below block.place Writes block.writes 64) (users_below block.place (Folds block.operation) block.folds 64)

  pub insert-reads : user.mode ≡ Reads → list_any test (users_of_block (record block { reads = bit_or block.reads bit })) ≡ (list_any test (users_of_block block) || test user)
  insert-reads is =
      any-three test (users_below block.place Reads (bit_or block.reads bit) 64) (users_below block.place Writes block.writes 64) (users_below block.place (Folds block.operation) block.folds 64)
      ∙ ap (λ b. b || (among Writes block.writes || among (Folds block.operation) block.folds)) (set-mine Reads block.reads is)
      ∙ first_more (among Reads block.reads) (among Writes block.writes) (among (Folds block.operation) block.folds) (test user) ∙ ap (λ b. b || test user) (sym told)

  pub insert-writes : user.mode ≡ Writes
      → list_any test (users_of_block (record block { writes = bit_or block.writes bit })) ≡ (list_any test (users_of_block block) || test user)
  insert-writes is =
      any-three test (users_below block.place Reads block.reads 64) (users_below block.place Writes (bit_or block.writes bit) 64) (users_below block.place (Folds block.operation) block.folds 64)
      ∙ ap (λ b. among Reads block.reads || (b || among (Folds block.operation) block.folds)) (set-mine Writes block.writes is)
      ∙ second_more (among Reads block.reads) (among Writes block.writes) (among (Folds block.operation) block.folds) (test user) ∙ ap (λ b. b || test user) (sym told)

  pub insert-folds : user.mode ≡ Folds block.operation → list_any test (users_of_block (record block { folds = bit_or block.folds bit })) ≡ (list_any test (users_of_block block) || test user)
  insert-folds is =
      any-three test (users_below block.place Reads block.reads 64) (users_below block.place Writes block.writes 64) (users_below block.place (Folds block.operation) (bit_or block.folds bit) 64)
      ∙ ap (λ b. among Reads block.reads || (among Writes block.writes || b)) (set-mine (Folds block.operation) block.folds is)
      ∙ third_more (among Reads block.reads) (among Writes block.writes) (among (Folds block.operation) block.folds) (test user) ∙ ap (λ b. b || test user) (sym told)
