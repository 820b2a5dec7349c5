-- What a line leaves of names and lengths hangs on names and lengths alone.
use Rattle.std.proofs.Common.{◌≡◌, ℕ, ◌+◌, ◌≤◌, List, [], ◌∷◌, ◌++◌, length, map, take, drop, replicate, min, refl, sym, ap, ◌∙◌, arith, inl, inr, Bool, true, false, cond, length-append}
use Rattle.std.specs.Prelude.{Option, Some, None, is_some, option_map, option_and_then, Result, Ok, Err, if◌then◌else◌, not, filter, sum, bytes_eq, nat_le, nat_lt}
use Rattle.std.specs.List.{zip}
use Rattle.std.specs.Map.{lookup, set_value}
use Rattle.std.proofs.Math.ListN.{length-map}
use Rattle.std.proofs.lemmas.List.{map-append, length-replicate, length-take-le, length-drop}
use Rattle.std.proofs.lemmas.Bool.Decides.{leb_tells}
use Rattle.std.proofs.lemmas.Map.{keys-set_value}
use Rattle.std.proofs.lemmas.Map.Made.{lookup-map_values}
use Rattle.serde_json.specs.Data.{Data}
use Rattle.ot_model.specs.Cells.{lengths}
use Rattle.ot_model.specs.Programs.{Expanded}
use Rattle.ot_program.specs.Programs.{program_of}
use Rattle.ot_program.specs.declared.fault.Refusal.{Refusal}
use Rattle.ot_check.specs.Laws.{first_offence}
use Rattle.ot_check.specs.declared.fault.Offence.{Offence}
use Rattle.ot_store.specs.declared.limits.Limits.{Limits}
use Rattle.ot_store.specs.declared.fault.StoreRefusal.{StoreRefusal}
use Rattle.ot_store.specs.declared.fault.StoreRefusal.TheVariants.{UnknownArray, NameTaken, OutOfRange, TooManyCells, TooManyArrays}
use Rattle.ot_store.specs.Arrays.{Named, names_in, cells_in, cell_count, cells_called, array_created, others, array_freed, within, overwritten, numbers_put, got, arrays_listed, shape_in}
use Rattle.ot_store.specs.Refusals.{usual_limits}
use Rattle.ot_store.proofs.ArraysLemmas.{lengths-set_value, array_lengths-shape_in}
use Rattle.ot_book.specs.Answers.{Step, Now, Runs, change_step, cells_step, offence_step, program_step, perform_step, request_step, parse_step, value_of, step_of}
use Rattle.ot_book.specs.Requests.{Request, New, Free, Put, Get, Arrays, Used, Checkpoint, Run, request_of}
use Rattle.ot_client_mirror.specs.Mirrors.{Sizes, blank, left_by, sizes_sent}

-- ---- names and lengths

listed-zip : (arrays : List Named) → arrays_listed arrays ≡ zip (names_in arrays) (lengths (cells_in arrays))
listed-zip [] = refl
listed-zip (a ∷ arrays) = ap (λ (rest : Sizes). (a.0, length a.1) ∷ rest) (listed-zip arrays)

-- arrays with the same names and lengths
pub listed-same : (old new : List Named) → names_in new ≡ names_in old → lengths (cells_in new) ≡ lengths (cells_in old) → arrays_listed new ≡ arrays_listed old
listed-same old new names lens =
    listed-zip new ∙ ap (λ ns. zip ns (lengths (cells_in new))) names ∙ ap (λ ls. zip (names_in old) ls) lens ∙ sym (listed-zip old)

pub lengths-listed : (arrays : List Named) → map (λ (a : List ℕ × ℕ). a.1) (arrays_listed arrays) ≡ lengths (cells_in arrays)
lengths-listed arrays = array_lengths-shape_in usual_limits arrays

pub count-listed : (arrays : List Named) → length (arrays_listed arrays) ≡ length arrays
count-listed arrays = length-map arrays (λ (a : Named). (a.0, length a.1))

pub cells-listed : (arrays : List Named) → sum (map (λ (a : List ℕ × ℕ). a.1) (arrays_listed arrays)) ≡ cell_count arrays
cells-listed arrays = ap sum (lengths-listed arrays)

is_some-mapped : (o : Option (List ℕ)) → is_some (option_map length o) ≡ is_some o
is_some-mapped None = refl
is_some-mapped (Some cells) = refl

pub there-listed : (name : List ℕ) (arrays : List Named) → is_some (lookup (bytes_eq name) (arrays_listed arrays)) ≡ is_some (cells_called name arrays)
there-listed name arrays = ap is_some (lookup-map_values length (bytes_eq name) arrays) ∙ is_some-mapped (cells_called name arrays)

pub listed-push : (arrays : List Named) (name : List ℕ) (len : ℕ) → arrays_listed (arrays ++ (name, replicate len 0) ∷ []) ≡ arrays_listed arrays ++ (name, len) ∷ []
listed-push arrays name len =
    map-append (λ (a : Named). (a.0, length a.1)) arrays ((name, replicate len 0) ∷ [])
    ∙ ap (λ n. arrays_listed arrays ++ (name, n) ∷ []) (length-replicate len 0)

pub listed-blank : (sizes : Sizes) → arrays_listed (blank sizes) ≡ sizes
listed-blank [] = refl
listed-blank (a ∷ sizes) =
    ap (λ n. (a.0, n) ∷ arrays_listed (blank sizes)) (length-replicate a.1 0) ∙ ap (λ (rest : Sizes). (a.0, a.1) ∷ rest) (listed-blank sizes)

-- ---- one more, and one less

abbrev more_by : Bool → Bool → Bool → Sizes → List ℕ → ℕ → Sizes
more_by taken many large sizes name len = if taken then sizes else (if many then sizes else (if large then sizes else sizes ++ (name, len) ∷ []))

abbrev with_one : Limits → List ℕ → ℕ → Sizes → Sizes
with_one limits name len sizes =
    more_by (is_some (lookup (bytes_eq name) sizes)) (nat_le limits.arrays (length sizes)) (nat_lt limits.cells (sum (map (λ a. a.1) sizes) + len)) sizes name len

new_by : (taken many large : Bool) (arrays : List Named) (name : List ℕ) (len : ℕ) →
    left_by (arrays_listed arrays) (change_step arrays (if taken then Err NameTaken else (if many then Err TooManyArrays else (if large then Err TooManyCells else Ok (arrays ++ (name, replicate len 0) ∷ [])))))
    ≡ more_by taken many large (arrays_listed arrays) name len
new_by true many large arrays name len = refl
new_by false true large arrays name len = refl
new_by false false true arrays name len = refl
new_by false false false arrays name len = listed-push arrays name len

left-new : (limits : Limits) (name : List ℕ) (len : ℕ) (arrays : List Named) → left_by (arrays_listed arrays) (change_step arrays (array_created name len limits arrays)) ≡ with_one limits name len (arrays_listed arrays)
left-new limits name len arrays =
    let sizes = arrays_listed arrays in
    let taken = is_some (cells_called name arrays) in
    let many = nat_le limits.arrays (length arrays) in
    new_by taken many (nat_lt limits.cells (cell_count arrays + len)) arrays name len
    ∙ ap (λ n. more_by taken many (nat_lt limits.cells (n + len)) sizes name len) (sym (cells-listed arrays))
    ∙ ap (λ n. more_by taken (nat_le limits.arrays n) (nat_lt limits.cells (sum (map (λ (a : List ℕ × ℕ). a.1) sizes) + len)) sizes name len) (sym (count-listed arrays))
    ∙ ap (λ b. more_by b (nat_le limits.arrays (length sizes)) (nat_lt limits.cells (sum (map (λ (a : List ℕ × ℕ). a.1) sizes) + len)) sizes name len) (sym (there-listed name arrays))

abbrev other_sizes : List ℕ → Sizes → Sizes
other_sizes name sizes = filter (λ a. not (bytes_eq name a.0)) sizes

abbrev without_one : List ℕ → Sizes → Sizes
without_one name sizes = if is_some (lookup (bytes_eq name) sizes) then other_sizes name sizes else sizes

listed-others : (name : List ℕ) (arrays : List Named) → arrays_listed (others name arrays) ≡ other_sizes name (arrays_listed arrays)
listed-others name [] = refl
listed-others name (a ∷ arrays) = by (not (bytes_eq name a.0)) (listed-others name arrays)
  where
    by : (b : Bool) → arrays_listed (others name arrays) ≡ other_sizes name (arrays_listed arrays) →
        arrays_listed (cond b (a ∷ others name arrays) (others name arrays)) ≡ cond b ((a.0, length a.1) ∷ other_sizes name (arrays_listed arrays)) (other_sizes name (arrays_listed arrays))
    by true rest = ap (λ (r : Sizes). (a.0, length a.1) ∷ r) rest
    by false rest = rest

free_by : (there : Bool) (name : List ℕ) (arrays : List Named) →
    left_by (arrays_listed arrays) (change_step arrays (if there then Ok (others name arrays) else Err UnknownArray)) ≡ (if there then other_sizes name (arrays_listed arrays) else arrays_listed arrays)
free_by true name arrays = listed-others name arrays
free_by false name arrays = refl

left-free : (name : List ℕ) (arrays : List Named) → left_by (arrays_listed arrays) (change_step arrays (array_freed name arrays)) ≡ without_one name (arrays_listed arrays)
left-free name arrays =
    free_by (is_some (cells_called name arrays)) name arrays
    ∙ ap (λ b. if b then other_sizes name (arrays_listed arrays) else arrays_listed arrays) (sym (there-listed name arrays))

-- ---- what stays

length-overwritten : (cells : List ℕ) (start : ℕ) (numbers : List ℕ) → start + length numbers ≤ length cells → length (overwritten cells start numbers) ≡ length cells
length-overwritten cells start numbers fits =
    let behind = drop (start + length numbers) cells in
    omega (arith, length-append (take start cells) (numbers ++ behind), length-append numbers behind, length-take-le start cells (omega (arith, fits)), length-drop (start + length numbers) cells)

put_by : (name : List ℕ) (start : ℕ) (numbers : List ℕ) (arrays : List Named) (o : Option (List ℕ)) → cells_called name arrays ≡ o →
    left_by (arrays_listed arrays) (change_step arrays (within o start (length numbers) (λ cells. set_value (bytes_eq name) arrays (overwritten cells start numbers)))) ≡ arrays_listed arrays
put_by name start numbers arrays None found = refl
put_by name start numbers arrays (Some cells) found =
    let now = set_value (bytes_eq name) arrays (overwritten cells start numbers) in
    let by : Bool → Sizes = λ b. left_by (arrays_listed arrays) (change_step arrays (if b then Ok now else Err OutOfRange)) in
    elim (leb_tells (start + length numbers) (length cells)) [
      | inl at ↦ ap by at.0 ∙ listed-same arrays now (keys-set_value (bytes_eq name) arrays (overwritten cells start numbers))
          (lengths-set_value (bytes_eq name) arrays cells (overwritten cells start numbers) found (length-overwritten cells start numbers at.1))
      | inr at ↦ ap by at.0
    ]

left-fetched : (arrays : List Named) (r : Result (List ℕ) StoreRefusal) → left_by (arrays_listed arrays) (cells_step arrays r) ≡ arrays_listed arrays
left-fetched arrays (Ok values) = refl
left-fetched arrays (Err refusal) = refl

left-judged : (arrays : List Named) (program : Expanded) (o : Option (ℕ × Offence)) → left_by (arrays_listed arrays) (offence_step arrays program o) ≡ arrays_listed arrays
left-judged arrays program None = refl
left-judged arrays program (Some first) = refl

left-started : (arrays : List Named) (r : Result Expanded Refusal) → left_by (arrays_listed arrays) (program_step arrays r) ≡ arrays_listed arrays
left-started arrays (Ok program) = left-judged arrays program (first_offence program.body)
left-started arrays (Err refusal) = refl

-- ---- a line

abbrev with_request : Limits → Request → Sizes → Sizes
with_request limits (New name len) sizes = with_one limits name len sizes
with_request limits (Free name) sizes = without_one name sizes
with_request limits (Put name start values) sizes = sizes
with_request limits (Get name start len) sizes = sizes
with_request limits Arrays sizes = sizes
with_request limits Used sizes = sizes
with_request limits Checkpoint sizes = sizes
with_request limits (Run text) sizes = sizes

left-performed : (limits : Limits) (arrays : List Named) (used : ℕ) (request : Request) → left_by (arrays_listed arrays) (perform_step limits arrays used request) ≡ with_request limits request (arrays_listed arrays)
left-performed limits arrays used (New name len) = left-new limits name len arrays
left-performed limits arrays used (Free name) = left-free name arrays
left-performed limits arrays used (Put name start values) = put_by name start values arrays (cells_called name arrays) refl
left-performed limits arrays used (Get name start len) = left-fetched arrays (got name start len arrays)
left-performed limits arrays used Arrays = refl
left-performed limits arrays used Used = refl
left-performed limits arrays used Checkpoint = refl
left-performed limits arrays used (Run text) = left-started arrays (program_of (shape_in limits arrays) text)

abbrev with_asked : Limits → Option Request → Sizes → Sizes
with_asked limits None sizes = sizes
with_asked limits (Some request) sizes = with_request limits request sizes

left-asked : (limits : Limits) (arrays : List Named) (used : ℕ) (o : Option Request) → left_by (arrays_listed arrays) (request_step limits arrays used o) ≡ with_asked limits o (arrays_listed arrays)
left-asked limits arrays used None = refl
left-asked limits arrays used (Some request) = left-performed limits arrays used request

abbrev with_value : Limits → Option Data → Sizes → Sizes
with_value limits None sizes = sizes
with_value limits (Some d) sizes = with_asked limits (request_of d) sizes

left-parsed : (limits : Limits) (arrays : List Named) (used : ℕ) (o : Option Data) → left_by (arrays_listed arrays) (parse_step limits arrays used o) ≡ with_value limits o (arrays_listed arrays)
left-parsed limits arrays used None = refl
left-parsed limits arrays used (Some d) = left-asked limits arrays used (request_of d)

left-line : (limits : Limits) (arrays : List Named) (used : ℕ) (line : List ℕ) → left_by (arrays_listed arrays) (step_of limits arrays used line) ≡ with_value limits (value_of line) (arrays_listed arrays)
left-line limits arrays used line = left-parsed limits arrays used (value_of line)

-- whatever is in the cells, the line leaves what it leaves of zeros
pub left-sent : (arrays : List Named) (used : ℕ) (line : List ℕ) → left_by (arrays_listed arrays) (step_of usual_limits arrays used line) ≡ sizes_sent (arrays_listed arrays) line
left-sent arrays used line =
    let sizes = arrays_listed arrays in
    left-line usual_limits arrays used line
    ∙ ap (with_value usual_limits (value_of line)) (sym (listed-blank sizes))
    ∙ sym (left-line usual_limits (blank sizes) 0 line)
    ∙ ap (λ s. left_by s (step_of usual_limits (blank sizes) 0 line)) (listed-blank sizes)
