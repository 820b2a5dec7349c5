-- Arrays' names, and the numbers that they begin with.
use Rattle.std.proofs.Common.{◌≡◌, ℕ, suc, ◌-◌, ◌<◌, ◌≤◌, ◌==◌, List, [], ◌∷◌, ◌++◌, length, take, get_or, map, false, refl, sym, ap, ◌∙◌, arith}
use Rattle.std.proofs.Math.Seq.{take-suc}
use Rattle.std.proofs.lemmas.Bool.Decides.{nat_tests}
use Rattle.std.specs.Prelude.{string_bytes}
use Rattle.ot_model.specs.Programs.{arrays_of}
use Rattle.ot_model.specs.declared.shape.ArrayShape.{ArrayShape}
use Rattle.ot_show_print.specs.Shown.{names_of}
use Rattle.ot_show_c.specs.Programs.{before, up_to_last}

-- a zero at the end is left out
pub zero_left_out : (ns : List ℕ) → up_to_last (ns ++ (0 ∷ [])) ≡ up_to_last ns
zero_left_out [] = refl
zero_left_out (n ∷ ns) = ap (before n) (zero_left_out ns)

before_some : (n : ℕ) (ns : List ℕ) (m : ℕ) → before n (ns ++ (m ∷ [])) ≡ n ∷ (ns ++ (m ∷ []))
before_some n [] m = refl
before_some n (k ∷ ks) m = refl

-- where another number ends them, all are kept
pub all_kept : (ns : List ℕ) (m : ℕ) → (m == 0) ≡ false → up_to_last (ns ++ (m ∷ [])) ≡ ns ++ (m ∷ [])
all_kept [] m h = rw h refl
all_kept (n ∷ ns) m h = ap (before n) (all_kept ns m h) ∙ before_some n ns m

-- so many numbers, the last of them apart
last_apart : (ns : List ℕ) (k d : ℕ) → 0 < k → k ≤ length ns → take k ns ≡ take (k - 1) ns ++ (get_or ns (k - 1) d ∷ [])
last_apart ns k d some long =
    let e : suc (k - 1) ≡ k = omega arith in
    ap (λ j. take j ns) (sym e) ∙ take-suc ns (k - 1) d (omega arith)

pub one_less : (ns : List ℕ) (k d : ℕ) → 0 < k → k ≤ length ns → get_or ns (k - 1) d ≡ 0 → up_to_last (take (k - 1) ns) ≡ up_to_last (take k ns)
one_less ns k d some long is =
    sym (ap up_to_last (last_apart ns k d some long ∙ ap (λ n. take (k - 1) ns ++ (n ∷ [])) is) ∙ zero_left_out (take (k - 1) ns))

not_zero : (n : ℕ) → (n ≡ 0 → ⊥) → (n == 0) ≡ false
not_zero n h = grind (arith, nat_tests)

pub none_less : (ns : List ℕ) (k d : ℕ) → 0 < k → k ≤ length ns → (get_or ns (k - 1) d ≡ 0 → ⊥) → up_to_last (take k ns) ≡ take k ns
none_less ns k d some long other =
    ap up_to_last (last_apart ns k d some long) ∙ all_kept (take (k - 1) ns) (get_or ns (k - 1) d) (not_zero (get_or ns (k - 1) d) other) ∙ sym (last_apart ns k d some long)

pub none_left : (ns : List ℕ) (k : ℕ) → k ≤ 0 → up_to_last (take k ns) ≡ take k ns
none_left ns k none = let e : k ≡ 0 = omega arith in rw e refl

-- the names of arrays are the first of what stands for them
pub names_by_arrays : (arrays : List ArrayShape) → names_of arrays ≡ map (λ a. a.0) (arrays_of arrays)
names_by_arrays [] = refl
names_by_arrays (a ∷ others) = ap (λ ns. string_bytes a.name ∷ ns) (names_by_arrays others)
