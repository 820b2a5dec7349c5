-- Arrays that are made one after another.
use Rattle.std.proofs.Common.{◌≡◌, ◌⊎◌, ℕ, ◌+◌, ◌<◌, ◌≤◌, List, [], ◌∷◌, ◌++◌, All, length, map, take, drop, get_or, replicate, refl, sym, ap, ◌∙◌, subst, arith, inl, inr, Bool, true, false, ◌||◌, true≢false, append_assoc, length-append}
use Rattle.std.specs.Prelude.{is_some, Result, Ok, Err, if◌then◌else◌, sum, bytes_eq, nat_le, nat_lt}
use Rattle.std.specs.List.{AllByRecursion, IsDistinct, list_any}
use Rattle.std.specs.Cmp.Lexicographic.{nat_list_eq_equiv}
use Rattle.std.proofs.Math.ListN.{length-map}
use Rattle.std.proofs.Math.Seq.{get_or-append_seam}
use Rattle.std.proofs.lemmas.List.{map-append, take-append-drop, take_all, take_more}
use Rattle.std.proofs.lemmas.List.Elements.{All-push}
use Rattle.std.proofs.lemmas.List.Sums.{sum_by-append, sum_by-cons}
use Rattle.std.proofs.lemmas.Bool.Decides.{leb_tells, nat_tests}
use Rattle.std.proofs.lemmas.Map.Made.{is_some-lookup}
use Rattle.ot_model.specs.Programs.{arrays_of}
use Rattle.ot_model.specs.declared.shape.ArrayShape.{ArrayShape}
use Rattle.ot_store.specs.declared.fault.StoreRefusal.{StoreRefusal}
use Rattle.ot_store.specs.declared.fault.StoreRefusal.TheVariants.{NameTaken, TooManyCells, TooManyArrays}
use Rattle.ot_store.specs.Arrays.{Named, names_in, cells_in, cell_count, cells_called, array_created, arrays_listed}
use Rattle.ot_store.specs.Refusals.{usual_limits}
use Rattle.ot_client_mirror.specs.HeardView.{sized_as}
use Rattle.ot_client_mirror.specs.Mirrors.{Sizes, MayHave}
use Rattle.ot_client_mirror.proofs.SizesLemmas.{cells-listed, count-listed, lengths-listed, listed-push}

-- ---- names that differ

either-true : (a b : Bool) → (a || b) ≡ true → (a ≡ true) ⊎ (b ≡ true)
either-true true b is = inl refl
either-true false b is = inr is

neither-left : (a b : Bool) → (a || b) ≡ false → a ≡ false
neither-left true b is = absurd (true≢false is)
neither-left false b is = refl

neither-right : (a b : Bool) → (a || b) ≡ false → b ≡ false
neither-right true b is = absurd (true≢false is)
neither-right false b is = is

all_push : (P : List ℕ → Type 0) (xs : List (List ℕ)) (y : List ℕ) → AllByRecursion P xs → P y → AllByRecursion P (xs ++ y ∷ [])
all_push P [] y all one = (one, tt)
all_push P (x ∷ xs) y all one = (all.0, all_push P xs y all.1 one)

all_there : (P : List ℕ → Type 0) (xs : List (List ℕ)) (y : List ℕ) (rest : List (List ℕ)) → AllByRecursion P (xs ++ y ∷ rest) → P y
all_there P [] y rest all = all.0
all_there P (x ∷ xs) y rest all = all_there P xs y rest all.1

distinct_push : (xs : List (List ℕ)) (y : List ℕ) → IsDistinct bytes_eq xs → list_any (bytes_eq y) xs ≡ false → IsDistinct bytes_eq (xs ++ y ∷ [])
unfolding IsDistinct
distinct_push [] y distinct none = (tt, tt)
distinct_push (x ∷ xs) y distinct none = (
  all_push (λ z. bytes_eq x z ≡ false) xs y distinct.0 (nat_list_eq_equiv.symm x y ∙ neither-left (bytes_eq y x) (list_any (bytes_eq y) xs) none),
  distinct_push xs y distinct.1 (neither-right (bytes_eq y x) (list_any (bytes_eq y) xs) none),
)

distinct_broken : (xs : List (List ℕ)) (y : List ℕ) (rest : List (List ℕ)) → list_any (bytes_eq y) xs ≡ true → IsDistinct bytes_eq (xs ++ y ∷ rest) → ⊥
unfolding IsDistinct
distinct_broken [] y rest some distinct = absurd (true≢false (sym some))
distinct_broken (x ∷ xs) y rest some distinct = elim (either-true (bytes_eq y x) (list_any (bytes_eq y) xs) some) [
  | inl here ↦ true≢false (sym here ∙ nat_list_eq_equiv.symm y x ∙ all_there (λ z. bytes_eq x z ≡ false) xs y rest distinct.0)
  | inr later ↦ distinct_broken xs y rest later distinct.1
]

-- ---- one more

names-listed : (arrays : List Named) → map (λ (a : List ℕ × ℕ). a.0) (arrays_listed arrays) ≡ names_in arrays
names-listed [] = refl
names-listed (a ∷ arrays) = ap (λ (ns : List (List ℕ)). a.0 ∷ ns) (names-listed arrays)

taken_is : (name : List ℕ) (arrays : List Named) → is_some (cells_called name arrays) ≡ list_any (bytes_eq name) (map (λ (a : List ℕ × ℕ). a.0) (arrays_listed arrays))
taken_is name arrays = is_some-lookup (bytes_eq name) arrays ∙ ap (list_any (bytes_eq name)) (sym (names-listed arrays))

abbrev made_by : Bool → Bool → Bool → List Named → Result (List Named) StoreRefusal
made_by taken many large new = if taken then Err NameTaken else (if many then Err TooManyArrays else (if large then Err TooManyCells else Ok new))

ok_by : (taken many large : Bool) (made new : List Named) → made_by taken many large made ≡ Ok new → (taken ≡ false) × (many ≡ false) × (large ≡ false) × (new ≡ made)
ok_by true many large made new is = absurd (cc)
ok_by false true large made new is = absurd (cc)
ok_by false false true made new is = absurd (cc)
ok_by false false false made new is = (refl, refl, refl, let same : new ≡ made = cc in same)

err_by : (taken many large : Bool) (made : List Named) (refusal : StoreRefusal) → made_by taken many large made ≡ Err refusal → (taken ≡ true) ⊎ ((many ≡ true) ⊎ (large ≡ true))
err_by true many large made refusal is = inl refl
err_by false true large made refusal is = inr (inl refl)
err_by false false true made refusal is = inr (inr refl)
err_by false false false made refusal is = absurd (cc)

below : (n m : ℕ) → nat_le n m ≡ false → m < n
below n m is = grind (arith, nat_tests)

at_least : (n m : ℕ) → nat_le n m ≡ true → n ≤ m
at_least n m is = grind (arith, nat_tests)

within : (n m : ℕ) → nat_lt n m ≡ false → m ≤ n
within n m is = grind (arith, nat_tests)

beyond : (n m : ℕ) → nat_lt n m ≡ true → n < m
beyond n m is = grind (arith, nat_tests)

lens_push : (sizes : Sizes) (a : List ℕ × ℕ) (rest : Sizes) → map (λ (x : List ℕ × ℕ). x.1) (sizes ++ a ∷ rest) ≡ map (λ (x : List ℕ × ℕ). x.1) sizes ++ a.1 ∷ map (λ (x : List ℕ × ℕ). x.1) rest
lens_push sizes a rest = map-append (λ (x : List ℕ × ℕ). x.1) sizes (a ∷ rest)

names_push : (sizes : Sizes) (a : List ℕ × ℕ) (rest : Sizes) → map (λ (x : List ℕ × ℕ). x.0) (sizes ++ a ∷ rest) ≡ map (λ (x : List ℕ × ℕ). x.0) sizes ++ a.0 ∷ map (λ (x : List ℕ × ℕ). x.0) rest
names_push sizes a rest = map-append (λ (x : List ℕ × ℕ). x.0) sizes (a ∷ rest)

sum_push : (sizes : Sizes) (a : List ℕ × ℕ) (rest : Sizes) →
    sum (map (λ (x : List ℕ × ℕ). x.1) (sizes ++ a ∷ rest)) ≡ sum (map (λ (x : List ℕ × ℕ). x.1) sizes) + (a.1 + sum (map (λ (x : List ℕ × ℕ). x.1) rest))
sum_push sizes a rest =
    let lens = map (λ (x : List ℕ × ℕ). x.1) sizes in
    let others = map (λ (x : List ℕ × ℕ). x.1) rest in
    ap sum (lens_push sizes a rest) ∙ sum_by-append (λ n. n) lens (a.1 ∷ others) ∙ ap (λ n. sum lens + n) (sum_by-cons (λ n. n) a.1 others)

-- an array that could be made
pub may_have-more : (arrays new : List Named) (name : List ℕ) (len : ℕ) → 0 < len → array_created name len usual_limits arrays ≡ Ok new → MayHave (arrays_listed arrays) →
    (arrays_listed new ≡ arrays_listed arrays ++ (name, len) ∷ []) × MayHave (arrays_listed new)
may_have-more arrays new name len some is may =
    let sizes = arrays_listed arrays in
    let ok = ok_by (is_some (cells_called name arrays)) (nat_le 16 (length arrays)) (nat_lt 65536 (cell_count arrays + len)) _ new is in
    let now : arrays_listed new ≡ sizes ++ (name, len) ∷ [] = ap arrays_listed ok.3 ∙ listed-push arrays name len in
    let none = sym (taken_is name arrays) ∙ ok.0 in
    let wide = length-append sizes ((name, len) ∷ []) in (
      now,
      subst MayHave (sym now) (record {
        distinct = subst (IsDistinct bytes_eq) (sym (names_push sizes (name, len) [])) (distinct_push (map (λ (a : List ℕ × ℕ). a.0) sizes) name may.distinct none);
        filled = subst (All (λ n. 0 < n)) (sym (lens_push sizes (name, len) [])) (All-push (λ n. 0 < n) (map (λ (a : List ℕ × ℕ). a.1) sizes) len may.filled some);
        few = omega (arith, wide, count-listed arrays, below 16 (length arrays) ok.1);
        small = omega (arith, sum_push sizes (name, len) [], cells-listed arrays, within 65536 (cell_count arrays + len) ok.2);
      }),
    )

-- one that could not
pub may_not-refused : (arrays : List Named) (name : List ℕ) (len : ℕ) (rest : Sizes) (refusal : StoreRefusal) → array_created name len usual_limits arrays ≡ Err refusal →
    MayHave (arrays_listed arrays ++ (name, len) ∷ rest) → ⊥
may_not-refused arrays name len rest refusal is may =
    let sizes = arrays_listed arrays in
    elim (err_by (is_some (cells_called name arrays)) (nat_le 16 (length arrays)) (nat_lt 65536 (cell_count arrays + len)) _ refusal is) [
      | inl taken ↦ distinct_broken (map (λ (a : List ℕ × ℕ). a.0) sizes) name (map (λ (a : List ℕ × ℕ). a.0) rest) (sym (taken_is name arrays) ∙ taken)
          (subst (IsDistinct bytes_eq) (names_push sizes (name, len) rest) may.distinct)
      | inr (inl many) ↦ absurd (omega (arith, may.few, at_least 16 (length arrays) many, length-append sizes ((name, len) ∷ rest), count-listed arrays))
      | inr (inr large) ↦ absurd (omega (arith, may.small, beyond 65536 (cell_count arrays + len) large, sum_push sizes (name, len) rest, cells-listed arrays))
    ]

pub may_not-empty : (sizes : Sizes) (name : List ℕ) (len : ℕ) (rest : Sizes) → len ≡ 0 → MayHave (sizes ++ (name, len) ∷ rest) → ⊥
may_not-empty sizes name len rest none may =
    let lens = map (λ (a : List ℕ × ℕ). a.1) sizes in
    let others = map (λ (a : List ℕ × ℕ). a.1) rest in
    let filled = subst (All (λ n. 0 < n)) (lens_push sizes (name, len) rest) may.filled in
    let some : 0 < get_or (lens ++ len ∷ others) (length lens) 0 = filled (length lens) 0 (omega (arith, length-append lens (len ∷ others))) in
    let is : get_or (lens ++ len ∷ others) (length lens) 0 ≡ len = get_or-append_seam lens len others 0 in
    absurd (omega (arith, some, is, none))

-- ---- the arrays of a list

pub taken-more : (arrays : List ArrayShape) (i : ℕ) (a : ArrayShape) → i < length arrays → a ≡ get_or arrays i a → arrays_of (take (i + 1) arrays) ≡ arrays_of (take i arrays) ++ sized_as a ∷ []
taken-more arrays i a low is =
    ap arrays_of (take_more arrays i a low) ∙ map-append sized_as (take i arrays) (get_or arrays i a ∷ [])
    ∙ ap (λ (x : ArrayShape). arrays_of (take i arrays) ++ sized_as x ∷ []) (sym is)

pub split_at : (arrays : List ArrayShape) (i : ℕ) (a : ArrayShape) → i < length arrays → a ≡ get_or arrays i a →
    arrays_of arrays ≡ arrays_of (take i arrays) ++ sized_as a ∷ arrays_of (drop (i + 1) arrays)
split_at arrays i a low is =
    let rest = arrays_of (drop (i + 1) arrays) in
    ap arrays_of (sym (take-append-drop (i + 1) arrays)) ∙ map-append sized_as (take (i + 1) arrays) (drop (i + 1) arrays)
    ∙ ap (λ (t : Sizes). t ++ rest) (taken-more arrays i a low is) ∙ append_assoc (arrays_of (take i arrays)) (sized_as a ∷ []) rest
