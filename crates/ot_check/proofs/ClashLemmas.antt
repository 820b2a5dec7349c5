-- Blocks of users: whose bits an `and` finds.
use Rattle.std.proofs.Common.{◌≡◌, ◌==◌, ℕ, zero, suc, ◌+◌, ◌*◌, ◌^◌, ◌<◌, ◌++◌, Bool, true, false, not, ◌&&◌, ◌||◌, List, [], ◌∷◌, set, get_or, refl, sym, ap, ◌∙◌, inl, inr}
use Rattle.std.specs.Prelude.{bit_and, bit_or, flat_map, Some, slice_get}
use Rattle.std.specs.Int.{bit_at}
use Rattle.std.specs.List.{list_any}
use Rattle.std.proofs.lemmas.List.Concat.{flat_map-cons}
use Rattle.std.proofs.lemmas.List.Folds.{list_any-append}
use Rattle.ot_model.specs.Cells.{conflicts, same_fold}
use Rattle.ot_model.specs.declared.fold.Fold.{Fold as Operation}
use Rattle.ot_model.specs.declared.stmt.Mode.{Mode}
use Rattle.ot_model.specs.declared.stmt.Mode.TheVariants.{Reads, Writes, Folds}
use Rattle.ot_sets.specs.Sets.{bit_in}
use Rattle.ot_check.specs.walk.Rows.{users_below, users_of_block, users_of_row, is_against}
use Rattle.ot_check.specs.declared.block.Block.{Block}
use Rattle.ot_check.specs.declared.users.User.{User}
use Rattle.ot_check.specs.declared.users.Row.{Row}
use Rattle.ot_check.proofs.Bits.{or_assoc, or_more, or_true, true_or, or_right, and_left, and_right, and_true}
use Rattle.ot_sets.proofs.Cited.{or-one, bit_here, common-at, common-found}
use Rattle.ot_check.proofs.BlockLemmas.{both_same, is_one, one_is, below-has, below-found, any-three}

-- ---- whose declarations conflict with a mode

reads_against : (r w a : Bool) → (w || a) ≡ ((r && false) || ((w && true) || (a && true)))
reads_against true true a = refl
reads_against true false true = refl
reads_against true false false = refl
reads_against false true a = refl
reads_against false false true = refl
reads_against false false false = refl

writes_against : (r w a : Bool) → ((r || w) || a) ≡ ((r && true) || ((w && true) || (a && true)))
writes_against true w a = refl
writes_against false true a = refl
writes_against false false true = refl
writes_against false false false = refl

folds_against : (r w a : Bool) → (r || w) ≡ ((r && true) || ((w && true) || (a && false)))
folds_against true w a = refl
folds_against false true a = refl
folds_against false false true = refl
folds_against false false false = refl

module _ (block : Block) (j : ℕ) where
  pub against-reads : (bit_at (bit_or block.writes block.folds) j == 1) ≡ is_against block Reads j
  against-reads = or-one block.writes block.folds j ∙ reads_against (bit_at block.reads j == 1) (bit_at block.writes j == 1) (bit_at block.folds j == 1)

  pub against-writes : (bit_at (bit_or (bit_or block.reads block.writes) block.folds) j == 1) ≡ is_against block Writes j
  against-writes =
      or-one (bit_or block.reads block.writes) block.folds j ∙ ap (λ b. b || (bit_at block.folds j == 1)) (or-one block.reads block.writes j)
      ∙ writes_against (bit_at block.reads j == 1) (bit_at block.writes j == 1) (bit_at block.folds j == 1)

  pub against-same : (p : Operation) → same_fold block.operation p ≡ true → (bit_at (bit_or block.reads block.writes) j == 1) ≡ is_against block (Folds p) j
  against-same p is =
      or-one block.reads block.writes j ∙ folds_against (bit_at block.reads j == 1) (bit_at block.writes j == 1) (bit_at block.folds j == 1)
      ∙ ap (λ s. ((bit_at block.reads j == 1) && true) || (((bit_at block.writes j == 1) && true) || ((bit_at block.folds j == 1) && not s))) (sym is)

  pub against-other : (p : Operation) → same_fold block.operation p ≡ false
      → (bit_at (bit_or (bit_or block.reads block.writes) block.folds) j == 1) ≡ is_against block (Folds p) j
  against-other p is =
      against-writes
      ∙ ap (λ s. ((bit_at block.reads j == 1) && true) || (((bit_at block.writes j == 1) && true) || ((bit_at block.folds j == 1) && not s))) (sym is)

-- ---- whose bits an `and` finds

-- among the tasks of these words, in conflict with this mode
abbrev pub clashing : List ℕ → Mode → User → Bool
clashing words wanted v = bit_in words v.task && conflicts v.mode wanted

below-clash : (words : List ℕ) (wanted : Mode) (place : ℕ) (mode : Mode) (word j : ℕ) → j < 64 → bit_at (get_or words place 0) j ≡ 1
    → ((bit_at word j == 1) && conflicts mode wanted) ≡ true → list_any (clashing words wanted) (users_below place mode word 64) ≡ true
below-clash words wanted place mode word j l among h =
    let bit : (bit_at word j == 1) ≡ true = and_left (bit_at word j == 1) (conflicts mode wanted) h in
    below-has (clashing words wanted) place mode word 64 j l (is_one (bit_at word j) bit)
    (and_true (bit_in words (place * 64 + j)) (conflicts mode wanted) (bit_here words place j l ∙ one_is (bit_at (get_or words place 0) j) among)
    (and_right (bit_at word j == 1) (conflicts mode wanted) h))

clash-below : (words : List ℕ) (wanted : Mode) (place : ℕ) (mode : Mode) (word : ℕ) → list_any (clashing words wanted) (users_below place mode word 64) ≡ true
    → (j : ℕ) × (bit_at (get_or words place 0) j ≡ 1) × (((bit_at word j == 1) && conflicts mode wanted) ≡ true)
clash-below words wanted place mode word h =
    let f = below-found (clashing words wanted) place mode word 64 h in
    let among : bit_in words (place * 64 + f.0) ≡ true = and_left (bit_in words (place * 64 + f.0)) (conflicts mode wanted) f.3 in (
      f.0,
      is_one (bit_at (get_or words place 0) f.0) (sym (bit_here words place f.0 f.1) ∙ among),
      and_true (bit_at word f.0 == 1) (conflicts mode wanted) (one_is (bit_at word f.0) f.2) (and_right (bit_in words (place * 64 + f.0)) (conflicts mode wanted) f.3),
    )

-- whose bit an `and` finds
module _ (words : List ℕ) (block : Block) (wanted : Mode) (against : ℕ) (l : against < 2 ^ 64)
    (is : (j : ℕ) → (bit_at against j == 1) ≡ is_against block wanted j) where
  abbrev found : Bool
  found = not (bit_and (get_or words block.place 0) against == 0)

  abbrev among : Mode → ℕ → Bool
  among mode word = list_any (clashing words wanted) (users_below block.place mode word 64)

  abbrev against_at : Mode → ℕ → ℕ → Bool
  against_at mode word j = (bit_at word j == 1) && conflicts mode wanted

  told : list_any (clashing words wanted) (users_of_block block) ≡ (among Reads block.reads || (among Writes block.writes || among (Folds block.operation) block.folds))
  told = any-three (clashing words wanted) (users_below block.place Reads block.reads 64) (users_below block.place Writes block.writes 64) (users_below block.place (Folds block.operation) block.folds 64)

  to : found ≡ true → (among Reads block.reads || (among Writes block.writes || among (Folds block.operation) block.folds)) ≡ true
  to h =
      let c = common-found (get_or words block.place 0) against l h in
      let clash : (mode : Mode) (word : ℕ) → against_at mode word c.0 ≡ true → among mode word ≡ true =
      λ mode word b. below-clash words wanted block.place mode word c.0 c.1 c.2 b in
      or_more (against_at Reads block.reads c.0) (against_at Writes block.writes c.0 || against_at (Folds block.operation) block.folds c.0) _ _ (clash Reads block.reads)
      (or_more (against_at Writes block.writes c.0) (against_at (Folds block.operation) block.folds c.0) _ _ (clash Writes block.writes) (clash (Folds block.operation) block.folds))
      (sym (is c.0) ∙ one_is (bit_at against c.0) c.3)

  meets : (j : ℕ) → bit_at (get_or words block.place 0) j ≡ 1 → is_against block wanted j ≡ true → found ≡ true
  meets j here there = common-at (get_or words block.place 0) against j here (is_one (bit_at against j) (is j ∙ there))

  from : (among Reads block.reads || (among Writes block.writes || among (Folds block.operation) block.folds)) ≡ true → found ≡ true
  from h =
      elim (or_true (among Reads block.reads) (among Writes block.writes || among (Folds block.operation) block.folds) h) [
        | inl reads ↦
            let c = clash-below words wanted block.place Reads block.reads reads in
            meets c.0 c.1 (true_or (against_at Reads block.reads c.0) (against_at Writes block.writes c.0 || against_at (Folds block.operation) block.folds c.0) c.2)
        | inr other ↦ elim (or_true (among Writes block.writes) (among (Folds block.operation) block.folds) other) [
          | inl writes ↦
              let c = clash-below words wanted block.place Writes block.writes writes in
              meets c.0 c.1 (or_right (against_at Reads block.reads c.0) (against_at Writes block.writes c.0 || against_at (Folds block.operation) block.folds c.0)
              (true_or (against_at Writes block.writes c.0) (against_at (Folds block.operation) block.folds c.0) c.2))
          | inr folds ↦
              let c = clash-below words wanted block.place (Folds block.operation) block.folds folds in
              meets c.0 c.1 (or_right (against_at Reads block.reads c.0) (against_at Writes block.writes c.0 || against_at (Folds block.operation) block.folds c.0)
              (or_right (against_at Writes block.writes c.0) (against_at (Folds block.operation) block.folds c.0) c.2))
        ]
      ]

  pub block-clash : found ≡ list_any (clashing words wanted) (users_of_block block)
  block-clash = both_same found _ to from ∙ sym told

-- ---- rows

any-flat : (test : User → Bool) (blocks : List Block) → list_any test (flat_map users_of_block blocks) ≡ list_any (λ b. list_any test (users_of_block b)) blocks
any-flat test [] = refl
any-flat test (b ∷ blocks) =
    ap (list_any test) (flat_map-cons users_of_block b blocks) ∙ list_any-append test (users_of_block b) (flat_map users_of_block blocks)
    ∙ ap (λ rest. list_any test (users_of_block b) || rest) (any-flat test blocks)

-- what the earlier blocks of a row tell, and what its latest one tells
pub row-any : (test : User → Bool) (row : Row)
    → list_any test (users_of_row row) ≡ (list_any (λ b. list_any test (users_of_block b)) row.earlier.items || list_any test (users_of_block row.latest))
row-any test row =
    list_any-append test (flat_map users_of_block row.earlier.items) (users_of_block row.latest)
    ∙ ap (λ b. b || list_any test (users_of_block row.latest)) (any-flat test row.earlier.items)

-- one task more in one of its earlier blocks
more_of : (a b t : Bool) → ((a || t) || b) ≡ ((a || b) || t)
more_of true b t = refl
more_of false true true = refl
more_of false true false = refl
more_of false false true = refl
more_of false false false = refl

pub blocks-entered : (test : User → Bool) (blocks : List Block) (at : ℕ) (block old new : Block) (met : Bool) → slice_get blocks at ≡ Some block → old ≡ get_or blocks at old
    → list_any test (users_of_block new) ≡ (list_any test (users_of_block old) || met)
    → list_any (λ b. list_any test (users_of_block b)) (set blocks at new) ≡ (list_any (λ b. list_any test (users_of_block b)) blocks || met)
blocks-entered test [] at block old new met there is entered = absurd (cc)
blocks-entered test (b ∷ blocks) zero block old new met there is entered =
    let rest = list_any (λ b. list_any test (users_of_block b)) blocks in
    ap (λ one. one || rest) (entered ∙ ap (λ b. list_any test (users_of_block b) || met) is) ∙ more_of (list_any test (users_of_block b)) rest met
blocks-entered test (b ∷ blocks) (suc at) block old new met there is entered =
    ap (λ rest. list_any test (users_of_block b) || rest) (blocks-entered test blocks at block old new met there is entered)
    ∙ sym (or_assoc (list_any test (users_of_block b)) (list_any (λ b. list_any test (users_of_block b)) blocks) met)

pub row-entered : (test : User → Bool) (row : Row) (blocks : List Block) (met : Bool)
    → list_any (λ b. list_any test (users_of_block b)) blocks ≡ (list_any (λ b. list_any test (users_of_block b)) row.earlier.items || met)
    → list_any test (flat_map users_of_block blocks ++ users_of_block row.latest) ≡ (list_any test (users_of_row row) || met)
row-entered test row blocks met entered =
    list_any-append test (flat_map users_of_block blocks) (users_of_block row.latest)
    ∙ ap (λ b. b || list_any test (users_of_block row.latest)) (any-flat test blocks ∙ entered)
    ∙ more_of (list_any (λ b. list_any test (users_of_block b)) row.earlier.items) (list_any test (users_of_block row.latest)) met
    ∙ ap (λ b. b || met) (sym (row-any test row))
