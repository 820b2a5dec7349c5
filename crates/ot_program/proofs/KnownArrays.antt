-- Arrays in a map by their names.
use Rattle.std.proofs.Common.{◌≡◌, ℕ, suc, ◌+◌, ◌<◌, List, length, Some, cond, ap, sym, ◌∙◌, drop, get_or}
use Rattle.std.specs.Prelude.{bytes_eq, string_bytes}
use Rattle.std.specs.Borrow.{Bor}
use Rattle.std.specs.HashMap.{HashMap, get_by, UpdatesBy}
use Rattle.std.proofs.lemmas.List.{drop_more}
use Rattle.std.proofs.lemmas.Map.Text.{hash_map_updates_str}
use Rattle.ot_model.specs.declared.shape.ArrayShape.{ArrayShape}
use Rattle.ot_model.specs.Programs.{arrays_of}
use Rattle.ot_program.specs.declared.shape.KnownArray.{KnownArray}
use Rattle.ot_program.specs.walk.Parts.{known_from}

-- an array that is put into the map of those behind it is found before them
pub known_before : {S : Type 0} (arrays : List ArrayShape) (p i : ℕ) (d : ArrayShape) (a : KnownArray) (bs : List ℕ) (m n : HashMap (Bor (List ℕ)) KnownArray S)
    → i < length arrays → p ≡ suc i → p ≡ i + 1
    → ((name : List ℕ) → get_by (λ k. bytes_eq name k.now) m ≡ known_from p (arrays_of (drop p arrays)) name)
    → UpdatesBy (λ x y. bytes_eq x.now y.now) (λ k. bytes_eq bs k.now) m n (Some a)
    → bs ≡ string_bytes (get_or arrays i d).name → a ≡ record { position = i; len = (get_or arrays i d).len }
    → (name : List ℕ) → get_by (λ k. bytes_eq name k.now) n ≡ known_from i (arrays_of (drop i arrays)) name
known_before arrays p i d a bs m n low next one had put is found name =
    let at = get_or arrays i d in
    hash_map_updates_str bs m n (Some a) put name
    ∙ ap (λ o. cond (bytes_eq bs name) (Some a) o) (had name)
    ∙ ap (λ (xs : List ℕ). cond (bytes_eq xs name) (Some a) (known_from p (arrays_of (drop p arrays)) name)) is
    ∙ ap (λ (b : KnownArray). cond (bytes_eq (string_bytes at.name) name) (Some b) (known_from p (arrays_of (drop p arrays)) name)) found
    ∙ ap (λ (q : ℕ). cond (bytes_eq (string_bytes at.name) name) (Some (record { position = i; len = at.len })) (known_from q (arrays_of (drop p arrays)) name)) next
    ∙ ap (λ (q : ℕ). cond (bytes_eq (string_bytes at.name) name) (Some (record { position = i; len = at.len })) (known_from (suc i) (arrays_of (drop q arrays)) name)) one
    ∙ sym (ap (λ (xs : List ArrayShape). known_from i (arrays_of xs) name) (drop_more arrays i d low))
