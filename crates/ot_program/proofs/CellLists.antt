-- Loops over the cells of a section, and declarations in order.
use Rattle.std.proofs.Common.{◌≡◌, ℕ, suc, ◌+◌, ◌-◌, ◌<◌, List, [], ◌∷◌, ◌++◌, map, Option, Some, None, Result, Ok, Err, IfOk, refl, sym, ap, ◌∙◌, arith, inl, inr, append_assoc, append-nil}
use Rattle.std.specs.Prelude.{⊤, ◌⊎◌}
use Rattle.std.specs.List.{AllByRecursion, range_with_len}
use Rattle.std.specs.Map.{keys_of}
use Rattle.std.specs.List.Sorted.{IsStrictlySortedBy}
use Rattle.std.specs.Ordering.{nat_cmp, ordering_then}
use Rattle.std.specs.Cmp.{nat_cmp_is}
use Rattle.std.specs.declared.cmp.Ordering.{Ordering}
use Rattle.std.specs.declared.cmp.Ordering.TheVariants.{Less, Equal, Greater}
use Rattle.std.proofs.lemmas.Bool.{cases_lt}
use Rattle.ot_model.specs.Cells.{Precedes, AreInOrder}
use Rattle.ot_model.specs.Tree.{cell_at}
use Rattle.ot_model.specs.declared.expr.Cell.{Cell}
use Rattle.ot_model.specs.declared.expr.Section.{Section}
use Rattle.ot_model.specs.declared.stmt.Mode.{Mode}
use Rattle.ot_model.specs.declared.stmt.Use.{Use}
use Rattle.ot_program.specs.declared.fault.Refusal.{Refusal}
use Rattle.ot_program.specs.walk.Reading.{◌>>=◌}
use Rattle.ot_program.specs.walk.Namings.{cell_order, Named}
use Rattle.ot_program.specs.walk.Parts.{use_of, uses_of}
use Rattle.ot_program.proofs.Readings.{ok_then, ok_any}

-- the cells of a section from a place on
abbrev pub cells_left : Section → ℕ → List Cell
cells_left s i = map (cell_at s) (range_with_len i (s.len - i))

pub cells_left-step : (s : Section) (i : ℕ) → i < s.len → cells_left s i ≡ cell_at s i ∷ cells_left s (i + 1)
cells_left-step s i below = let left : s.len - i ≡ suc (s.len - (i + 1)) = omega arith in rw left refl

-- ---- a declaration is in order

-- the cell of a key
abbrev pub cell_of_key : ℕ × ℕ → Cell
cell_of_key key = record { array = key.0; index = key.1 }

greater_first : (o p : Ordering) → Greater ≡ o → ordering_then o p ≡ Less → ⊥
greater_first Less p is h = cc
greater_first Equal p is h = cc
greater_first Greater p is h = cc

equal_first : (o p : Ordering) → Equal ≡ o → ordering_then o p ≡ Less → p ≡ Less
equal_first Less p is h = absurd cc
equal_first Equal p is h = h
equal_first Greater p is h = absurd cc

pub precedes : (a b c d : ℕ) → ordering_then (nat_cmp a b) (nat_cmp c d) ≡ Less → (a < b) ⊎ ((a ≡ b) × (c < d))
precedes a b c d h =
    elim (cases_lt a b) [
      | inl lt ↦ inl lt
      | inr ge ↦ elim (cases_lt b a) [
        | inl gt ↦ absurd (greater_first (nat_cmp a b) (nat_cmp c d) (nat_cmp_is a b Greater gt) h)
        | inr le ↦
            let same : a ≡ b = omega arith in
            let g = equal_first (nat_cmp a b) (nat_cmp c d) (nat_cmp_is a b Equal same) h in
            elim (cases_lt c d) [
              | inl lt ↦ inr (same, lt)
              | inr past ↦ elim (cases_lt d c) [
                | inl gt ↦ absurd (let k : Greater ≡ Less = nat_cmp_is c d Greater gt ∙ g in cc)
                | inr equal ↦ absurd (let k : Equal ≡ Less = nat_cmp_is c d Equal (omega arith) ∙ g in cc)
              ]
            ]
      ]
    ]

-- a cell stands before the first of some uses
abbrev pub Before : Cell → List Use → Type 0
Before c [] = ⊤
Before c (u ∷ us) = Precedes c u.cell

use_before : (key : ℕ × ℕ) (n : (ℕ × ℕ) × Option Mode) → cell_order key n.0 ≡ Less
    → IfOk (use_of n) (λ u. Precedes (cell_of_key key) u.cell)
use_before key (k, None) h = tt
use_before key (k, Some m) h = precedes key.0 k.0 key.1 k.1 h

before : (key : ℕ × ℕ) (ns : Named) → AllByRecursion (λ q. cell_order key q ≡ Less) (keys_of ns)
    → IfOk (uses_of ns) (Before (cell_of_key key))
before key [] h = tt
before key (n ∷ ns) h =
    ok_then (use_of n) (λ u. uses_of ns >>= λ us. Ok (u ∷ us)) (λ u. Precedes (cell_of_key key) u.cell) (Before (cell_of_key key))
    (use_before key n h.0)
    (λ u p. ok_then (uses_of ns) (λ us. Ok (u ∷ us)) (λ us. ⊤) (Before (cell_of_key key)) (ok_any (uses_of ns)) (λ us t. p))

in_order : (u : Use) (us : List Use) → Before u.cell us → AreInOrder us → AreInOrder (u ∷ us)
in_order u [] b h = tt
in_order u (v ∷ us) b h = (b, h)

use_is : (n : (ℕ × ℕ) × Option Mode) → IfOk (use_of n) (λ u. u.cell ≡ cell_of_key n.0)
use_is (k, None) = tt
use_is (k, Some m) = refl

ok_with : {A : Type 0} (r : Result A Refusal) (P Q : A → Type 0) → IfOk r P → IfOk r Q → IfOk r (λ x. P x × Q x)
ok_with (Ok x) P Q h k = (h, k)
ok_with (Err c) P Q h k = tt

pub uses_in_order : (ns : Named) → IsStrictlySortedBy cell_order (keys_of ns) → IfOk (uses_of ns) AreInOrder
unfolding IsStrictlySortedBy
uses_in_order [] h = tt
uses_in_order (n ∷ ns) h =
    ok_then (use_of n) (λ u. uses_of ns >>= λ us. Ok (u ∷ us)) (λ u. u.cell ≡ cell_of_key n.0) AreInOrder
    (use_is n)
    (λ u is. ok_then (uses_of ns) (λ us. Ok (u ∷ us)) (λ us. Before (cell_of_key n.0) us × AreInOrder us) AreInOrder
    (ok_with (uses_of ns) (Before (cell_of_key n.0)) AreInOrder (before n.0 ns h.0) (uses_in_order ns h.1))
    (λ us p. in_order u us (rw is p.0) p.1))

-- one more cell is behind those so far
pub pushed : (old new : List Cell) (x : Cell) (rest whole : List Cell) → new ≡ old ++ x ∷ [] → old ++ x ∷ rest ≡ whole
    → new ++ rest ≡ whole
pushed old new x rest whole is h = ap (λ (xs : List Cell). xs ++ rest) is ∙ append_assoc old (x ∷ []) rest ∙ h

-- all uses were read
pub all_uses_in_order : (ns rest : Named) (uses : List Use) → IsStrictlySortedBy cell_order (keys_of ns)
    → rest ≡ [] → (uses_of rest >>= λ us. Ok (uses ++ us)) ≡ uses_of ns → AreInOrder uses
all_uses_in_order ns rest uses sorted none whole =
    let r : Ok uses ≡ uses_of ns = ap Ok (sym (append-nil uses)) ∙ (rw none at whole) in
    rw (← r) at (uses_in_order ns sorted)
