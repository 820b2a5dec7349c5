-- Arrays in a map by their names.
use Rattle.std.proofs.Common.{◌≡◌, ℕ, suc, ◌+◌, ◌<◌, Bool, true, false, not, cond, List, ◌∷◌, length, Option, Some, None, unwrap_or, ap, sym, ◌∙◌, subst, drop, get_or, arith}
use Rattle.std.specs.Prelude.{bytes_eq, string_bytes}
use Rattle.std.specs.Borrow.{Bor}
use Rattle.std.specs.HashMap.{HashMap, get_by, UpdatesBy}
use Rattle.std.specs.List.{position_or_len}
use Rattle.std.proofs.lemmas.List.{drop_more, length-map}
use Rattle.std.proofs.lemmas.Map.Text.{hash_map_updates_str}
use Rattle.ot_model.specs.declared.shape.ArrayShape.{ArrayShape}
use Rattle.ot_model.specs.Programs.{arrays_of}
use Rattle.ot_c_overlap.specs.Named.{ArePlaced, ArePlacedFrom}

step : (b : Bool) (g : Option ℕ) (a i p len pos : ℕ) → a ≡ i → p ≡ i + 1 → unwrap_or g (p + len) ≡ p + pos
    → unwrap_or (cond b (Some a) g) (i + suc len) ≡ i + cond (not b) (1 + pos) 0
step true g a i p len pos is next had = omega (arith, is)
step false g a i p len pos is next had =
    let same : i + suc len ≡ p + len = omega (arith, next) in
    let more : p + pos ≡ i + (1 + pos) = omega (arith, next) in
    ap (unwrap_or g) same ∙ had ∙ more

-- an array that is put into the map of those behind it is found before them
pub placed_before : {S : Type 0} (arrays : List ArrayShape) (p i : ℕ) (d : ArrayShape) (a : ℕ) (bs : List ℕ) (m n : HashMap (Bor (List ℕ)) ℕ S)
    → i < length arrays → p ≡ i + 1 → ArePlacedFrom p (arrays_of (drop p arrays)) m
    → UpdatesBy (λ x y. bytes_eq x.now y.now) (λ k. bytes_eq bs k.now) m n (Some a)
    → bs ≡ string_bytes (get_or arrays i d).name → a ≡ i
    → ArePlacedFrom i (arrays_of (drop i arrays)) n
placed_before arrays p i d a bs m n low next had put is found name =
    let at = get_or arrays i d in
    let rest = drop p arrays in
    let pos = position_or_len (λ x. bytes_eq x.0 name) (arrays_of rest) in
    let whole : drop i arrays ≡ at ∷ rest = drop_more arrays i d low ∙ ap (λ k. at ∷ drop k arrays) (sym next) in
    let g = get_by (λ k. bytes_eq name k.now) m in
    subst (λ xs. unwrap_or (get_by (λ k. bytes_eq name k.now) n) (i + length (arrays_of xs)) ≡ i + position_or_len (λ x. bytes_eq x.0 name) (arrays_of xs)) (sym whole)
    (ap (λ o. unwrap_or o (i + suc (length (arrays_of rest)))) (hash_map_updates_str bs m n (Some a) put name ∙ ap (λ (xs : List ℕ). cond (bytes_eq xs name) (Some a) g) is)
    ∙ step (bytes_eq (string_bytes at.name) name) g a i p (length (arrays_of rest)) pos found next (had name))

module _ {S : Type 0} (arrays : List ArrayShape) (m : HashMap (Bor (List ℕ)) ℕ S) (name : List ℕ) (are : ArePlaced (arrays_of arrays) m) where
  placed : (found : Option ℕ) → found ≡ get_by (λ k. bytes_eq name k.now) m → unwrap_or found (0 + length (arrays_of arrays)) ≡ 0 + position_or_len (λ a. bytes_eq a.0 name) (arrays_of arrays)
  placed found is = ap (λ o. unwrap_or o (0 + length (arrays_of arrays))) is ∙ are name

  pub placed_some : (position : ℕ) → Some position ≡ get_by (λ k. bytes_eq name k.now) m → position ≡ position_or_len (λ a. bytes_eq a.0 name) (arrays_of arrays)
  placed_some position is = let it = placed (Some position) is in omega (arith, it)

  pub placed_none : None ≡ get_by (λ k. bytes_eq name k.now) m → length arrays ≡ position_or_len (λ a. bytes_eq a.0 name) (arrays_of arrays)
  placed_none is =
      let it = placed None is in
      let as_many : length (arrays_of arrays) ≡ length arrays = length-map arrays (λ a. (string_bytes a.name, a.len)) in
      omega (arith, it, as_many)
