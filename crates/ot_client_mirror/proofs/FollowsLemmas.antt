-- A mirror follows a tenant's book.
use Rattle.std.proofs.Common.{◌≡◌, ℕ, List, [], map, refl, sym, ap, ◌∙◌, Bool, true, false}
use Rattle.std.specs.Prelude.{Option, Some, None, option_map, option_and_then, Result, Ok, Err}
use Rattle.serde_json.specs.Data.{Data}
use Rattle.serde_json.specs.View.{items_of}
use Rattle.ot_model.specs.Programs.{Expanded}
use Rattle.ot_program.specs.Programs.{program_of}
use Rattle.ot_program.specs.declared.fault.Refusal.{Refusal}
use Rattle.ot_check.specs.Laws.{first_offence}
use Rattle.ot_check.specs.declared.fault.Offence.{Offence}
use Rattle.ot_store.specs.declared.limits.Limits.{Limits}
use Rattle.ot_store.specs.declared.fault.StoreRefusal.{StoreRefusal}
use Rattle.ot_store.specs.Arrays.{Named, array_created, array_freed, numbers_put, got, arrays_listed, shape_in}
use Rattle.ot_store.specs.Refusals.{usual_limits}
use Rattle.ot_book.specs.Answers.{State, Step, Now, Runs, change_step, cells_step, offence_step, program_step, perform_step, request_step, parse_step, value_of, step_of, step_done, answer_or_lost}
use Rattle.ot_book.specs.Books.{Register, state_in, line_logged}
use Rattle.ot_book.specs.Answers as r
use Rattle.ot_book.specs.Requests.{Request, New, Free, Put, Get, Arrays, Used, Checkpoint, Run, request_of, size_in, all_sized}
use Rattle.ot_book.proofs.BookLemmas.{state-logged}
use Rattle.ot_client_mirror.specs.Mirrors.{told_in, told_in_data, Sizes, left_by, sizes_sent, sizes_behind, MirrorFollows}
use Rattle.ot_client_mirror.proofs.SizesLemmas.{left-sent}
use Rattle.ot_client_mirror.proofs.GivenLemmas.{listed-finished}

-- ---- what isn't told `ok` keeps the arrays

abbrev KeepsUnlessTaken : List Named → Step → Type 0
KeepsUnlessTaken arrays (Now r.Accepted new) = Unit {0}
KeepsUnlessTaken arrays (Now told new) = new ≡ arrays
KeepsUnlessTaken arrays (Runs program) = Unit {0}

keeps-changed : (arrays : List Named) (x : Result (List Named) StoreRefusal) → KeepsUnlessTaken arrays (change_step arrays x)
keeps-changed arrays (Ok new) = tt
keeps-changed arrays (Err refusal) = refl

keeps-fetched : (arrays : List Named) (x : Result (List ℕ) StoreRefusal) → KeepsUnlessTaken arrays (cells_step arrays x)
keeps-fetched arrays (Ok values) = refl
keeps-fetched arrays (Err refusal) = refl

keeps-judged : (arrays : List Named) (program : Expanded) (o : Option (ℕ × Offence)) → KeepsUnlessTaken arrays (offence_step arrays program o)
keeps-judged arrays program None = tt
keeps-judged arrays program (Some first) = refl

keeps-started : (arrays : List Named) (x : Result Expanded Refusal) → KeepsUnlessTaken arrays (program_step arrays x)
keeps-started arrays (Ok program) = keeps-judged arrays program (first_offence program.body)
keeps-started arrays (Err refusal) = refl

keeps-performed : (limits : Limits) (arrays : List Named) (used : ℕ) (request : Request) → KeepsUnlessTaken arrays (perform_step limits arrays used request)
keeps-performed limits arrays used (New name len) = keeps-changed arrays (array_created name len limits arrays)
keeps-performed limits arrays used (Free name) = keeps-changed arrays (array_freed name arrays)
keeps-performed limits arrays used (Put name start values) = keeps-changed arrays (numbers_put name start values arrays)
keeps-performed limits arrays used (Get name start len) = keeps-fetched arrays (got name start len arrays)
keeps-performed limits arrays used Arrays = refl
keeps-performed limits arrays used Used = refl
keeps-performed limits arrays used Checkpoint = tt
keeps-performed limits arrays used (Run text) = keeps-started arrays (program_of (shape_in limits arrays) text)

keeps-asked : (limits : Limits) (arrays : List Named) (used : ℕ) (o : Option Request) → KeepsUnlessTaken arrays (request_step limits arrays used o)
keeps-asked limits arrays used None = refl
keeps-asked limits arrays used (Some request) = keeps-performed limits arrays used request

keeps-parsed : (limits : Limits) (arrays : List Named) (used : ℕ) (o : Option Data) → KeepsUnlessTaken arrays (parse_step limits arrays used o)
keeps-parsed limits arrays used None = refl
keeps-parsed limits arrays used (Some d) = keeps-asked limits arrays used (request_of d)

-- ---- what a reply tells

-- what is left behind a line that is told this
abbrev told_leaves : Sizes → List ℕ → r.Told → Sizes
told_leaves sizes line r.Accepted = sizes_sent sizes line
told_leaves sizes line told = sizes

listed_leaves : (sizes : Sizes) (line : List ℕ) (o : Option (List (List ℕ × ℕ))) → sizes_behind sizes line (option_map r.Arrays o) ≡ sizes
listed_leaves sizes line None = refl
listed_leaves sizes line (Some arrays) = refl

refused_leaves : (sizes : Sizes) (line : List ℕ) (o : Option ℕ) → sizes_behind sizes line (option_map r.Refused o) ≡ sizes
refused_leaves sizes line None = refl
refused_leaves sizes line (Some code) = refl

offends_leaves : (sizes : Sizes) (line : List ℕ) (o p : Option ℕ) → sizes_behind sizes line (option_and_then (λ c. option_map (r.Offends c) p) o) ≡ sizes
offends_leaves sizes line None p = refl
offends_leaves sizes line (Some code) None = refl
offends_leaves sizes line (Some code) (Some place) = refl

reply_leaves : (sizes : Sizes) (line : List ℕ) (n : ℕ) (told : r.Told) → sizes_behind sizes line (told_in_data (r.json_of n told)) ≡ told_leaves sizes line told
reply_leaves sizes line n r.Accepted = refl
reply_leaves sizes line n (r.Cells values) = refl
reply_leaves sizes line n (r.Arrays arrays) = listed_leaves sizes line (all_sized 0 (items_of (map r.name_and_length arrays)))
reply_leaves sizes line n (r.Used units) = refl
reply_leaves sizes line n (r.Done tasks units shows) = refl
reply_leaves sizes line n (r.Refused code) = refused_leaves sizes line (size_in 0 (r.nat code))
reply_leaves sizes line n (r.Offends code place) = offends_leaves sizes line (size_in 0 (r.nat code)) (size_in 0 (r.nat place))
reply_leaves sizes line n r.Lost = refused_leaves sizes line (size_in 0 (r.nat 508))

-- ---- what a line leaves

step_leaves : (s : State) (line : List ℕ) (step : Step) → KeepsUnlessTaken s.arrays step → left_by (arrays_listed s.arrays) step ≡ sizes_sent (arrays_listed s.arrays) line →
    arrays_listed (step_done s step).1.arrays ≡ told_leaves (arrays_listed s.arrays) line (step_done s step).0
step_leaves s line (Now r.Accepted new) keeps is = is
step_leaves s line (Now (r.Cells values) new) keeps is = ap arrays_listed keeps
step_leaves s line (Now (r.Arrays arrays) new) keeps is = ap arrays_listed keeps
step_leaves s line (Now (r.Used units) new) keeps is = ap arrays_listed keeps
step_leaves s line (Now (r.Done tasks units shows) new) keeps is = ap arrays_listed keeps
step_leaves s line (Now (r.Refused code) new) keeps is = ap arrays_listed keeps
step_leaves s line (Now (r.Offends code place) new) keeps is = ap arrays_listed keeps
step_leaves s line (Now r.Lost new) keeps is = ap arrays_listed keeps
step_leaves s line (Runs program) keeps is = listed-finished s (Runs program)

line_leaves : (limits : Limits) (s : State) (line : List ℕ) (memory : Bool) → limits ≡ usual_limits →
    arrays_listed (answer_or_lost limits s line memory).1.arrays ≡ told_leaves (arrays_listed s.arrays) line (answer_or_lost limits s line memory).0
line_leaves limits s line true usual = refl
line_leaves limits s line false usual =
    step_leaves s line (step_of limits s.arrays s.used line) (keeps-parsed limits s.arrays s.used (value_of line))
    (ap (λ l. left_by (arrays_listed s.arrays) (step_of l s.arrays s.used line)) usual ∙ left-sent s.arrays s.used line)

pub follows : MirrorFollows
follows book line reply memory number usual told =
    let s = state_in book in
    ap (λ (t : State). arrays_listed t.arrays) (state-logged book line memory)
    ∙ line_leaves book.limits s line memory usual
    ∙ sym (reply_leaves (arrays_listed book.store) line number (answer_or_lost book.limits s line memory).0)
    ∙ sym (ap (λ o. sizes_behind (arrays_listed book.store) line (option_and_then told_in_data o)) told)
