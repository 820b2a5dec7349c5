-- Blocks of users: whom a wait awaits.
use Rattle.std.proofs.Common.{◌≡◌, ◌==◌, ℕ, ◌+◌, ◌*◌, ◌/◌, ◌%◌, Bool, true, false, not, ◌&&◌, ◌||◌, refl, sym, ap, ◌∙◌, arith}
use Rattle.std.specs.Prelude.{bit_or}
use Rattle.std.specs.Int.{bit_at}
use Rattle.std.specs.List.{list_any}
use Rattle.std.proofs.lemmas.Bool.{eqb-true}
use Rattle.ot_model.specs.Cells.{one_writes}
use Rattle.ot_model.specs.declared.stmt.Mode.{Mode}
use Rattle.ot_model.specs.declared.stmt.Mode.TheVariants.{Reads, Writes, Folds}
use Rattle.ot_check.specs.walk.Rows.{awaited_as, is_awaited_by, users_below, users_of_block}
use Rattle.ot_check.specs.declared.block.Block.{Block}
use Rattle.ot_check.proofs.Bits.{and_left, and_right, and_true}
use Rattle.ot_check.proofs.SameLemmas.{eq_itself}
use Rattle.ot_sets.proofs.Cited.{or-one}
use Rattle.ot_check.proofs.BlockLemmas.{any-three, below-found, below-has, both_same, is_one, one_is}

-- ---- which bits a wait takes out

all_awaited : (r w a : Bool) → ((r || w) || a) ≡ ((r && true) || ((w && true) || (a && true)))
all_awaited true w a = refl
all_awaited false true a = refl
all_awaited false false true = refl
all_awaited false false false = refl

pub awaited-writes : (block : Block) (j : ℕ) → (bit_at (bit_or (bit_or block.reads block.writes) block.folds) j == 1) ≡ is_awaited_by block Writes j
awaited-writes block j =
    or-one (bit_or block.reads block.writes) block.folds j ∙ ap (λ b. b || (bit_at block.folds j == 1)) (or-one block.reads block.writes j)
    ∙ all_awaited (bit_at block.reads j == 1) (bit_at block.writes j == 1) (bit_at block.folds j == 1)

-- ---- whose bits they are

-- the task k among those of a word
below-awaited : (mode : Mode) (k place : ℕ) (is : Mode) (word : ℕ)
    → list_any (awaited_as mode k) (users_below place is word 64) ≡ ((k / 64 == place) && ((bit_at word (k % 64) == 1) && one_writes is mode))
below-awaited mode k place is word =
    both_same (list_any (awaited_as mode k) (users_below place is word 64)) ((k / 64 == place) && ((bit_at word (k % 64) == 1) && one_writes is mode))
    (λ h.
    let f = below-found (awaited_as mode k) place is word 64 h in
    let at : place * 64 + f.0 ≡ k = eqb-true (place * 64 + f.0) k (and_left (place * 64 + f.0 == k) (one_writes is mode) f.3) in
    let d : k / 64 ≡ place = omega (arith, at, f.1) in
    let r : f.0 ≡ k % 64 = omega (arith, at, f.1) in
    and_true (k / 64 == place) ((bit_at word (k % 64) == 1) && one_writes is mode) (ap (λ n. n == place) d ∙ eq_itself place)
    (and_true (bit_at word (k % 64) == 1) (one_writes is mode) (one_is (bit_at word (k % 64)) (ap (bit_at word) (sym r) ∙ f.2))
    (and_right (place * 64 + f.0 == k) (one_writes is mode) f.3)))
    (λ h.
    let d : k / 64 ≡ place = eqb-true (k / 64) place (and_left (k / 64 == place) ((bit_at word (k % 64) == 1) && one_writes is mode) h) in
    let both = and_right (k / 64 == place) ((bit_at word (k % 64) == 1) && one_writes is mode) h in
    let at : place * 64 + k % 64 ≡ k = omega (arith, d) in
    below-has (awaited_as mode k) place is word 64 (k % 64) (omega arith) (is_one (bit_at word (k % 64)) (and_left (bit_at word (k % 64) == 1) (one_writes is mode) both))
    (and_true (place * 64 + k % 64 == k) (one_writes is mode) (ap (λ n. n == k) at ∙ eq_itself k) (and_right (bit_at word (k % 64) == 1) (one_writes is mode) both)))

common_and : (e a b c : Bool) → ((e && a) || ((e && b) || (e && c))) ≡ (e && (a || (b || c)))
common_and true a b c = refl
common_and false a b c = refl

-- the bits that are taken out are those of the tasks that are awaited
pub block-awaited : (block : Block) (mode : Mode) (k bits : ℕ) → ((j : ℕ) → (bit_at bits j == 1) ≡ is_awaited_by block mode j)
    → ((k / 64 == block.place) && (bit_at bits (k % 64) == 1)) ≡ list_any (awaited_as mode k) (users_of_block block)
block-awaited block mode k bits is =
    ap (λ b. (k / 64 == block.place) && b) (is (k % 64))
    ∙ sym (any-three (awaited_as mode k) (users_below block.place Reads block.reads 64) (users_below block.place Writes block.writes 64) (users_below block.place (Folds block.operation) block.folds 64)
    ∙ ap (λ b. b || (writers || folders)) (below-awaited mode k block.place Reads block.reads)
    ∙ ap (λ b. first || (b || folders)) (below-awaited mode k block.place Writes block.writes)
    ∙ ap (λ b. first || (second || b)) (below-awaited mode k block.place (Folds block.operation) block.folds)
    ∙ common_and (k / 64 == block.place) ((bit_at block.reads (k % 64) == 1) && one_writes Reads mode) ((bit_at block.writes (k % 64) == 1) && one_writes Writes mode)
    ((bit_at block.folds (k % 64) == 1) && one_writes (Folds block.operation) mode))
  where
    writers : Bool
    writers = list_any (awaited_as mode k) (users_below block.place Writes block.writes 64)

    folders : Bool
    folders = list_any (awaited_as mode k) (users_below block.place (Folds block.operation) block.folds 64)

    first : Bool
    first = (k / 64 == block.place) && ((bit_at block.reads (k % 64) == 1) && one_writes Reads mode)

    second : Bool
    second = (k / 64 == block.place) && ((bit_at block.writes (k % 64) == 1) && one_writes Writes mode)

-- ---- one block after the other

twice : (a b c : Bool) → ((a && not b) && not c) ≡ (a && not (b || c))
twice true true c = refl
twice true false c = refl
twice false b c = refl

pub kept-both : (old now new b c : Bool) → now ≡ (old && not b) → new ≡ (now && not c) → new ≡ (old && not (b || c))
kept-both old now new b c was is = is ∙ ap (λ n. n && not c) was ∙ twice old b c
