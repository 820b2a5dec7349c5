-- The book refuses where there is a fault.
use Rattle.std.proofs.Common.{◌≡◌, ◌∙◌, ℕ, ◌+◌, List, [], ◌∷◌, ◌++◌, length, replicate, refl, sym, ap, subst, Bool, true, false}
use Rattle.std.specs.Prelude.{Option, Some, None, option_map, Ok, Err, if◌then◌else◌, bytes_eq, nat_le, nat_lt, is_some, slice_range, sum}
use Rattle.std.specs.Map.{lookup, set_value}
use Rattle.std.proofs.lemmas.List.{length-map}
use Rattle.std.proofs.lemmas.Simd.{map-map}
use Rattle.std.proofs.lemmas.Map.Made.{lookup-map_values}
use Rattle.ot_store.specs.Arrays.{Named, arrays_listed, cells_called, cell_count, array_created, array_freed, numbers_put, got, others, overwritten, within}
use Rattle.ot_store.specs.declared.limits.Limits.{Limits}
use Rattle.ot_store.specs.declared.fault.StoreRefusal.TheVariants.{UnknownArray, NameTaken, OutOfRange, TooManyCells, TooManyArrays}
use Rattle.ot_book.specs.Answers.{Step, change_step, cells_step}
use Rattle.ot_book.specs.Requests.{New, Free, Put, Get, Arrays, Used, Checkpoint, Run}
use Rattle.ot_why_reason.specs.Faults as f
use Rattle.ot_why_reason.specs.Faults.{Lengths, Fault, FaultsAreDue, IsRefusedBy, fault_code, cells_count, new_fault, free_fault, reach_fault}

-- all arrays have as many cells in a list of them
pub same_cells : (arrays : List Named) → cells_count (arrays_listed arrays) ≡ cell_count arrays
same_cells arrays =
    ap sum (map-map (λ (a : List ℕ × ℕ). a.1) (λ (a : Named). (a.0, length a.1)) arrays ∙ sym (map-map (λ (cells : List ℕ). length cells) (λ (a : Named). a.1) arrays))

new_due : (limits : Limits) (arrays : List Named) (name : List ℕ) (len : ℕ) (made : List Named) (found : Option (List ℕ)) →
    IsRefusedBy (option_map fault_code (new_fault limits (arrays_listed arrays) name len (option_map length found)))
    (change_step arrays (if is_some found then Err NameTaken
    else (if nat_le limits.arrays (length arrays) then Err TooManyArrays
    else (if nat_lt limits.cells (cell_count arrays + len) then Err TooManyCells else Ok made))))
new_due limits arrays name len made (Some cells) = refl
new_due limits arrays name len made None =
    subst (λ n. IsRefusedBy (option_map fault_code (no_room (nat_le limits.arrays n) (nat_lt limits.cells (cells_count (arrays_listed arrays) + len))))
    (outcome (nat_le limits.arrays (length arrays)) (nat_lt limits.cells (cell_count arrays + len))))
    (sym (length-map arrays (λ (a : Named). (a.0, length a.1))))
    (subst (λ n. IsRefusedBy (option_map fault_code (no_room (nat_le limits.arrays (length arrays)) (nat_lt limits.cells (n + len))))
    (outcome (nat_le limits.arrays (length arrays)) (nat_lt limits.cells (cell_count arrays + len))))
    (sym (same_cells arrays)) (room (nat_le limits.arrays (length arrays)) (nat_lt limits.cells (cell_count arrays + len))))
  where
    no_room : Bool → Bool → Option Fault
    no_room b c =
        if b then Some (f.TooManyArrays (length (arrays_listed arrays)) limits.arrays)
        else (if c then Some (f.TooManyCells (cells_count (arrays_listed arrays)) len limits.cells) else None)

    outcome : Bool → Bool → Step
    outcome b c = change_step arrays (if b then Err TooManyArrays else (if c then Err TooManyCells else Ok made))

    room : (b c : Bool) → IsRefusedBy (option_map fault_code (no_room b c)) (outcome b c)
    room true c = refl
    room false true = refl
    room false false = refl

free_due : (arrays left : List Named) (name : List ℕ) (found : Option (List ℕ)) →
    IsRefusedBy (option_map fault_code (free_fault name (option_map length found))) (change_step arrays (if is_some found then Ok left else Err UnknownArray))
free_due arrays left name (Some cells) = refl
free_due arrays left name None = refl

put_due : (arrays : List Named) (name : List ℕ) (start count : ℕ) (made : List ℕ → List Named) (found : Option (List ℕ)) →
    IsRefusedBy (option_map fault_code (reach_fault name start count (option_map length found))) (change_step arrays (within found start count made))
put_due arrays name start count made None = refl
put_due arrays name start count made (Some cells) = fits (nat_le (start + count) (length cells))
  where
    fits : (b : Bool) → IsRefusedBy (option_map fault_code (if b then None else Some (f.Beyond name start count (length cells))))
        (change_step arrays (if b then Ok (made cells) else Err OutOfRange))
    fits true = refl
    fits false = refl

get_due : (arrays : List Named) (name : List ℕ) (start count : ℕ) (made : List ℕ → List ℕ) (found : Option (List ℕ)) →
    IsRefusedBy (option_map fault_code (reach_fault name start count (option_map length found))) (cells_step arrays (within found start count made))
get_due arrays name start count made None = refl
get_due arrays name start count made (Some cells) = fits (nat_le (start + count) (length cells))
  where
    fits : (b : Bool) → IsRefusedBy (option_map fault_code (if b then None else Some (f.Beyond name start count (length cells))))
        (cells_step arrays (if b then Ok (made cells) else Err OutOfRange))
    fits true = refl
    fits false = refl

found_in : (arrays : List Named) (name : List ℕ) → option_map length (lookup (bytes_eq name) arrays) ≡ lookup (bytes_eq name) (arrays_listed arrays)
found_in arrays name = sym (lookup-map_values length (bytes_eq name) arrays)

pub due : FaultsAreDue
due limits arrays used (New name len) =
    subst (λ o. IsRefusedBy (option_map fault_code (new_fault limits (arrays_listed arrays) name len o)) (change_step arrays (array_created name len limits arrays)))
    (found_in arrays name) (new_due limits arrays name len (arrays ++ (name, replicate len 0) ∷ []) (cells_called name arrays))
due limits arrays used (Free name) =
    subst (λ o. IsRefusedBy (option_map fault_code (free_fault name o)) (change_step arrays (array_freed name arrays)))
    (found_in arrays name) (free_due arrays (others name arrays) name (cells_called name arrays))
due limits arrays used (Put name start values) =
    subst (λ o. IsRefusedBy (option_map fault_code (reach_fault name start (length values) o)) (change_step arrays (numbers_put name start values arrays))) (found_in arrays name)
    (put_due arrays name start (length values) (λ cells. set_value (bytes_eq name) arrays (overwritten cells start values)) (cells_called name arrays))
due limits arrays used (Get name start len) =
    subst (λ o. IsRefusedBy (option_map fault_code (reach_fault name start len o)) (cells_step arrays (got name start len arrays))) (found_in arrays name)
    (get_due arrays name start len (λ cells. slice_range cells start (start + len)) (cells_called name arrays))
due limits arrays used Arrays = refl
due limits arrays used Used = refl
due limits arrays used Checkpoint = refl
due limits arrays used (Run text) = tt
