-- What the definitions of the calls give, case by case.
use Rattle.std.proofs.Common.{◌≡◌, ℕ, ◌+◌, ◌<◌, ◌≤◌, true, false, List, [], ◌∷◌, ◌++◌, length, replicate, Some, None, Ok, Err, is_some, refl, le-leb, lt-ltb}
use Rattle.std.proofs.lemmas.Bool.{lt-leb, le-ltb}
use Rattle.std.specs.Prelude.{bytes_eq, slice_range}
use Rattle.std.specs.Map.{set_value}
use Rattle.ot_store.specs.declared.limits.Limits.{Limits}
use Rattle.ot_store.specs.declared.fault.StoreRefusal.TheVariants.{UnknownArray, NameTaken, OutOfRange, TooManyCells, TooManyArrays}
use Rattle.ot_store.specs.Arrays.{Named, cell_count, cells_called, array_created, others, array_freed, numbers_put, got, overwritten}

module _ (name : List ℕ) (len : ℕ) (limits : Limits) (arrays : List Named) where
  pub created-taken : is_some (cells_called name arrays) ≡ true → array_created name len limits arrays ≡ Err NameTaken
  created-taken taken = rw taken refl

  pub created-full : is_some (cells_called name arrays) ≡ false → limits.arrays ≤ length arrays → array_created name len limits arrays ≡ Err TooManyArrays
  created-full free full = rw (free, le-leb limits.arrays (length arrays) full) refl

  pub created-large : is_some (cells_called name arrays) ≡ false → length arrays < limits.arrays → limits.cells < cell_count arrays + len →
      array_created name len limits arrays ≡ Err TooManyCells
  created-large free room large = rw (free, lt-leb limits.arrays (length arrays) room, lt-ltb limits.cells (cell_count arrays + len) large) refl

  pub created-there : is_some (cells_called name arrays) ≡ false → length arrays < limits.arrays → cell_count arrays + len ≤ limits.cells →
      array_created name len limits arrays ≡ Ok (arrays ++ (name, replicate len 0) ∷ [])
  created-there free room fits = rw (free, lt-leb limits.arrays (length arrays) room, le-ltb limits.cells (cell_count arrays + len) fits) refl

module _ (name : List ℕ) (arrays : List Named) where
  pub freed-unknown : cells_called name arrays ≡ None → array_freed name arrays ≡ Err UnknownArray
  freed-unknown unknown = rw unknown refl

  pub freed-there : (cells : List ℕ) → cells_called name arrays ≡ Some cells → array_freed name arrays ≡ Ok (others name arrays)
  freed-there cells found = rw found refl

  pub put-unknown : (start : ℕ) (numbers : List ℕ) → cells_called name arrays ≡ None → numbers_put name start numbers arrays ≡ Err UnknownArray
  put-unknown start numbers unknown = rw unknown refl

  pub put-outside : (start : ℕ) (numbers cells : List ℕ) → cells_called name arrays ≡ Some cells → length cells < start + length numbers →
      numbers_put name start numbers arrays ≡ Err OutOfRange
  put-outside start numbers cells found past = rw (found, lt-leb (start + length numbers) (length cells) past) refl

  pub put-there : (start : ℕ) (numbers cells : List ℕ) → cells_called name arrays ≡ Some cells → start + length numbers ≤ length cells →
      numbers_put name start numbers arrays ≡ Ok (set_value (bytes_eq name) arrays (overwritten cells start numbers))
  put-there start numbers cells found fits = rw (found, le-leb (start + length numbers) (length cells) fits) refl

  pub got-unknown : (start len : ℕ) → cells_called name arrays ≡ None → got name start len arrays ≡ Err UnknownArray
  got-unknown start len unknown = rw unknown refl

  pub got-outside : (start len : ℕ) (cells : List ℕ) → cells_called name arrays ≡ Some cells → length cells < start + len →
      got name start len arrays ≡ Err OutOfRange
  got-outside start len cells found past = rw (found, lt-leb (start + len) (length cells) past) refl

  pub got-there : (start len : ℕ) (cells : List ℕ) → cells_called name arrays ≡ Some cells → start + len ≤ length cells →
      got name start len arrays ≡ Ok (slice_range cells start (start + len))
  got-there start len cells found fits = rw (found, le-leb (start + len) (length cells) fits) refl
