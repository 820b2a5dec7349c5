-- One line more keeps a book right.
use Rattle.std.proofs.Common.{◌≡◌, ℕ, ◌+◌, List, [], ◌∷◌, ◌++◌, length, map, refl, sym, ap, ◌∙◌, Bool, true, false, length-append, subst, arith}
use Rattle.std.specs.Prelude.{Option, Some, None, option_and_then, if◌then◌else◌, Result, Ok, Err}
use Rattle.std.proofs.lemmas.List.{map-append}
use Rattle.serde_json.specs.Data.{Data}
use Rattle.ot_model.specs.Programs.{Expanded}
use Rattle.ot_program.specs.Programs.{program_of}
use Rattle.ot_program.specs.declared.fault.Refusal.{Refusal}
use Rattle.ot_check.specs.Laws.{first_offence}
use Rattle.ot_check.specs.declared.fault.Offence.{Offence}
use Rattle.ot_store.specs.Arrays.{Named, array_created, array_freed, numbers_put, got, shape_in}
use Rattle.ot_store.specs.declared.fault.StoreRefusal.{StoreRefusal}
use Rattle.ot_store.specs.declared.limits.Limits.{Limits}
use Rattle.ot_book.specs.Answers.{State, Step, Now, Runs, told_with_numbers, replies, is_checkpoint, change_step, cells_step, offence_step, program_step, perform_step, request_step, parse_step, value_of, step_of, step_done, answer_or_lost, answers, Told, Accepted, is_lost}
use Rattle.ot_book.specs.Books.{Register, next_number, start_of, state_in, lines_in, IsRight, register_with_line, log_cleared, line_logged}
use Rattle.ot_book.specs.Requests.{Request, New, Free, Put, Get, Arrays, Used, Checkpoint, Run, request_of, asks_checkpoint}

-- the answers to one line more
pub answers-more : (limits : Limits) (s : State) (ls : List (List ℕ × Bool)) (l : List ℕ × Bool) →
    answers limits s (ls ++ l ∷ []) ≡ (
      (answers limits s ls).0 ++ (answer_or_lost limits (answers limits s ls).1 l.0 l.1).0 ∷ [],
      (answer_or_lost limits (answers limits s ls).1 l.0 l.1).1,
    )
answers-more limits s [] l = refl
answers-more limits s (x ∷ ls) l =
    let one = answer_or_lost limits s x.0 x.1 in
    ap (λ (r : List Told × State). (one.0 ∷ r.0, r.1)) (answers-more limits one.1 ls l)

-- the answers to some lines, then to others
pub answers-append : (limits : Limits) (s : State) (xs ys : List (List ℕ × Bool)) →
    answers limits s (xs ++ ys) ≡ ((answers limits s xs).0 ++ (answers limits (answers limits s xs).1 ys).0, (answers limits (answers limits s xs).1 ys).1)
answers-append limits s [] ys = refl
answers-append limits s (x ∷ xs) ys =
    let one = answer_or_lost limits s x.0 x.1 in
    ap (λ (r : List Told × State). (one.0 ∷ r.0, r.1)) (answers-append limits one.1 xs ys)

next-finished : (s : State) (step : Step) → (step_done s step).1.next ≡ s.next + 1
next-finished s (Now told arrays) = refl
next-finished s (Runs program) = refl

-- each line is one request more
pub next-answer_or_lost : (limits : Limits) (s : State) (line : List ℕ) (memory : Bool) →
    (answer_or_lost limits s line memory).1.next ≡ s.next + 1
next-answer_or_lost limits s line true = refl
next-answer_or_lost limits s line false = next-finished s (step_of limits s.arrays s.used line)

-- as many lines, as many numbers
pub next-answers : (limits : Limits) (s : State) (lines : List (List ℕ × Bool)) →
    (answers limits s lines).1.next ≡ s.next + length (answers limits s lines).0
next-answers limits s [] = omega arith
next-answers limits s (l ∷ ls) =
    let one = answer_or_lost limits s l.0 l.1 in
    omega (arith, next-answers limits one.1 ls, next-answer_or_lost limits s l.0 l.1)

pub numbered-append : (n : ℕ) (xs ys : List Told) → told_with_numbers n (xs ++ ys) ≡ told_with_numbers n xs ++ told_with_numbers (n + length xs) ys
numbered-append n [] ys = ap (λ m. told_with_numbers m ys) (let same : n ≡ n + 0 = omega arith in same)
numbered-append n (x ∷ xs) ys =
    ap (λ (r : List (ℕ × Told)). (n, x) ∷ r)
    (numbered-append (n + 1) xs ys ∙ ap (λ m. told_with_numbers (n + 1) xs ++ told_with_numbers m ys) (let same : (n + 1) + length xs ≡ n + length (x ∷ xs) = omega arith in same))

-- the replies to some lines, then to others
pub replies-append : (limits : Limits) (s : State) (xs ys : List (List ℕ × Bool)) →
    replies limits s (xs ++ ys) ≡ replies limits s xs ++ replies limits (answers limits s xs).1 ys
replies-append limits s xs ys =
    let mid = answers limits s xs in
    ap (λ (r : List Told × State). told_with_numbers s.next r.0) (answers-append limits s xs ys)
    ∙ numbered-append s.next mid.0 (answers limits mid.1 ys).0
    ∙ ap (λ m. told_with_numbers s.next mid.0 ++ told_with_numbers m (answers limits mid.1 ys).0) (sym (next-answers limits s xs))

-- what is answered at once isn't told for want of memory
abbrev NotLost : Step → Type 0
NotLost (Now told arrays) = is_lost told ≡ false
NotLost (Runs program) = Unit {0}

not_lost-changed : (arrays : List Named) (r : Result (List Named) StoreRefusal) → NotLost (change_step arrays r)
not_lost-changed arrays (Ok new) = refl
not_lost-changed arrays (Err e) = refl

not_lost-fetched : (arrays : List Named) (r : Result (List ℕ) StoreRefusal) → NotLost (cells_step arrays r)
not_lost-fetched arrays (Ok values) = refl
not_lost-fetched arrays (Err e) = refl

not_lost-judged : (arrays : List Named) (program : Expanded) (o : Option (ℕ × Offence)) → NotLost (offence_step arrays program o)
not_lost-judged arrays program None = tt
not_lost-judged arrays program (Some first) = refl

not_lost-started : (arrays : List Named) (r : Result Expanded Refusal) → NotLost (program_step arrays r)
not_lost-started arrays (Ok program) = not_lost-judged arrays program (first_offence program.body)
not_lost-started arrays (Err refusal) = refl

not_lost-performed : (limits : Limits) (arrays : List Named) (used : ℕ) (request : Request) → NotLost (perform_step limits arrays used request)
not_lost-performed limits arrays used (New name len) = not_lost-changed arrays (array_created name len limits arrays)
not_lost-performed limits arrays used (Free name) = not_lost-changed arrays (array_freed name arrays)
not_lost-performed limits arrays used (Put name start values) = not_lost-changed arrays (numbers_put name start values arrays)
not_lost-performed limits arrays used (Get name start len) = not_lost-fetched arrays (got name start len arrays)
not_lost-performed limits arrays used Arrays = refl
not_lost-performed limits arrays used Used = refl
not_lost-performed limits arrays used Checkpoint = refl
not_lost-performed limits arrays used (Run text) = not_lost-started arrays (program_of (shape_in limits arrays) text)

not_lost-asked : (limits : Limits) (arrays : List Named) (used : ℕ) (o : Option Request) → NotLost (request_step limits arrays used o)
not_lost-asked limits arrays used None = refl
not_lost-asked limits arrays used (Some request) = not_lost-performed limits arrays used request

not_lost-parsed : (limits : Limits) (arrays : List Named) (used : ℕ) (o : Option Data) → NotLost (parse_step limits arrays used o)
not_lost-parsed limits arrays used None = refl
not_lost-parsed limits arrays used (Some d) = not_lost-asked limits arrays used (request_of d)

not_lost-finished : (s : State) (step : Step) → NotLost step → is_lost (step_done s step).0 ≡ false
not_lost-finished s (Now told arrays) h = h
not_lost-finished s (Runs program) h = refl

-- a line is told that memory ran out exactly where it is answered so
pub is_lost-answer_or_lost : (limits : Limits) (s : State) (line : List ℕ) (memory : Bool) → is_lost (answer_or_lost limits s line memory).0 ≡ memory
is_lost-answer_or_lost limits s line true = refl
is_lost-answer_or_lost limits s line false =
    not_lost-finished s _ (not_lost-parsed limits s.arrays s.used (value_of line))

-- one line more
pub state-appended : (b : Register) (line : List ℕ) (memory : Bool) → state_in (register_with_line b line memory) ≡ (answer_or_lost b.limits (state_in b) line memory).1
state-appended b line memory =
    let a = answer_or_lost b.limits (state_in b) line memory in
    let count : a.1.next ≡ b.first + length (b.log ++ (line, a.0) ∷ []) =
    omega (arith, next-answer_or_lost b.limits (state_in b) line memory, length-append b.log ((line, a.0) ∷ [])) in
    ap (λ n. record a.1 { next = n }) (sym count)

pub right-appended : (b : Register) (line : List ℕ) (memory : Bool) → IsRight b → IsRight (register_with_line b line memory)
right-appended b line memory right =
    let a = answer_or_lost b.limits (state_in b) line memory in
    let marked : lines_in (b.log ++ (line, a.0) ∷ []) ≡ lines_in b.log ++ (line, memory) ∷ [] =
    map-append (λ (e : List ℕ × Told). (e.0, is_lost e.1)) b.log ((line, a.0) ∷ [])
    ∙ ap (λ m. lines_in b.log ++ (line, m) ∷ []) (is_lost-answer_or_lost b.limits (state_in b) line memory) in
    ap (answers b.limits (start_of b)) marked
    ∙ answers-more b.limits (start_of b) (lines_in b.log) (line, memory)
    ∙ ap (λ (r : List Told × State). (r.0 ++ (answer_or_lost b.limits r.1 line memory).0 ∷ [], (answer_or_lost b.limits r.1 line memory).1)) right
    ∙ ap (λ says. (says, a.1)) (sym (map-append (λ (e : List ℕ × Told). e.1) b.log ((line, a.0) ∷ [])))
    ∙ ap (λ s. (map (λ (e : List ℕ × Told). e.1) (b.log ++ (line, a.0) ∷ []), s)) (sym (state-appended b line memory))

-- a log that begins anew
pub state-cleared : (b : Register) → state_in (log_cleared b) ≡ state_in b
state-cleared b = ap (λ n. let s : State = record { arrays = b.store; next = n; used = b.used } in s) (let same : next_number b + 0 ≡ next_number b = omega arith in same)

pub right-cleared : (b : Register) → IsRight (log_cleared b)
right-cleared b = ap (λ (s : State). let r : List Told × State = ([], s) in r) (sym (state-cleared b))

-- a checkpoint is told as another line, in a log that begins anew
pub logged-by : (P : Register → Type 0) (b : Register) (line : List ℕ) (memory : Bool) (test : Bool) → is_checkpoint line ≡ test →
    (test ≡ true → P (register_with_line (log_cleared b) line memory)) → (test ≡ false → P (register_with_line b line memory)) → P (line_logged b line memory)
logged-by P b line memory true is anew on = subst P (ap (λ t. if t then register_with_line (log_cleared b) line memory else register_with_line b line memory) (sym is)) (anew refl)
logged-by P b line memory false is anew on = subst P (ap (λ t. if t then register_with_line (log_cleared b) line memory else register_with_line b line memory) (sym is)) (on refl)

pub state-logged : (b : Register) (line : List ℕ) (memory : Bool) → state_in (line_logged b line memory) ≡ (answer_or_lost b.limits (state_in b) line memory).1
state-logged b line memory =
    logged-by (λ r. state_in r ≡ (answer_or_lost b.limits (state_in b) line memory).1) b line memory (is_checkpoint line) refl
    (λ _. state-appended (log_cleared b) line memory ∙ ap (λ s. (answer_or_lost b.limits s line memory).1) (state-cleared b))
    (λ _. state-appended b line memory)

pub logged-other : (b : Register) (line : List ℕ) (memory : Bool) → is_checkpoint line ≡ false → line_logged b line memory ≡ register_with_line b line memory
logged-other b line memory is = ap (λ t. if t then register_with_line (log_cleared b) line memory else register_with_line b line memory) is

pub logged-checkpoint : (b : Register) (line : List ℕ) (memory : Bool) → is_checkpoint line ≡ true → line_logged b line memory ≡ register_with_line (log_cleared b) line memory
logged-checkpoint b line memory is = ap (λ t. if t then register_with_line (log_cleared b) line memory else register_with_line b line memory) is

-- a line that runs a program is no checkpoint
runs-asked : (limits : Limits) (arrays : List Named) (used : ℕ) (o : Option Request) (p : Expanded) → request_step limits arrays used o ≡ Runs p → asks_checkpoint o ≡ false
runs-asked limits arrays used None p is = refl
runs-asked limits arrays used (Some (New name len)) p is = refl
runs-asked limits arrays used (Some (Free name)) p is = refl
runs-asked limits arrays used (Some (Put name start values)) p is = refl
runs-asked limits arrays used (Some (Get name start len)) p is = refl
runs-asked limits arrays used (Some Arrays) p is = refl
runs-asked limits arrays used (Some Used) p is = refl
runs-asked limits arrays used (Some Checkpoint) p is = cc
runs-asked limits arrays used (Some (Run text)) p is = refl

runs-parsed : (limits : Limits) (arrays : List Named) (used : ℕ) (o : Option Data) (p : Expanded) → parse_step limits arrays used o ≡ Runs p →
    asks_checkpoint (option_and_then request_of o) ≡ false
runs-parsed limits arrays used None p is = refl
runs-parsed limits arrays used (Some d) p is = runs-asked limits arrays used (request_of d) p is

pub runs-other : (limits : Limits) (arrays : List Named) (used : ℕ) (line : List ℕ) (p : Expanded) → step_of limits arrays used line ≡ Runs p → is_checkpoint line ≡ false
runs-other limits arrays used line p is = runs-parsed limits arrays used (value_of line) p is

-- a checkpoint is accepted, and changes no array
checkpoint-asked : (limits : Limits) (arrays : List Named) (used : ℕ) (o : Option Request) → asks_checkpoint o ≡ true → request_step limits arrays used o ≡ Now Accepted arrays
checkpoint-asked limits arrays used None is = cc
checkpoint-asked limits arrays used (Some (New name len)) is = cc
checkpoint-asked limits arrays used (Some (Free name)) is = cc
checkpoint-asked limits arrays used (Some (Put name start values)) is = cc
checkpoint-asked limits arrays used (Some (Get name start len)) is = cc
checkpoint-asked limits arrays used (Some Arrays) is = cc
checkpoint-asked limits arrays used (Some Used) is = cc
checkpoint-asked limits arrays used (Some Checkpoint) is = refl
checkpoint-asked limits arrays used (Some (Run text)) is = cc

checkpoint-parsed : (limits : Limits) (arrays : List Named) (used : ℕ) (o : Option Data) → asks_checkpoint (option_and_then request_of o) ≡ true →
    parse_step limits arrays used o ≡ Now Accepted arrays
checkpoint-parsed limits arrays used None is = cc
checkpoint-parsed limits arrays used (Some d) is = checkpoint-asked limits arrays used (request_of d) is

pub checkpoint-step : (limits : Limits) (arrays : List Named) (used : ℕ) (line : List ℕ) → is_checkpoint line ≡ true → step_of limits arrays used line ≡ Now Accepted arrays
checkpoint-step limits arrays used line is = checkpoint-parsed limits arrays used (value_of line) is
