-- The walk over a program tells what the definition tells.
use Rattle.std.proofs.Common.{◌≡◌, ℕ, ◌+◌, ◌≤◌, true, List, [], ◌∷◌, ◌++◌, map, Option, Some, None, Result, Ok, nat_le, refl, sym, ap, ◌∙◌, arith, append-nil}
use Rattle.std.specs.Prelude.{⊤, option_map}
use Rattle.std.proofs.lemmas.Bool.{le-leb}
use Rattle.serde_json.specs.Data.{Data, array, no_items, item}
use Rattle.ot_model.specs.Tree.{size, tasks_in, S, body_of}
use Rattle.ot_model.specs.Programs.{Expanded, Arrays}
use Rattle.ot_model.specs.declared.expr.Section.{Section}
use Rattle.ot_program.specs.declared.counts.Counts.{Counts}
use Rattle.ot_program.specs.declared.fault.ProgramFault.{ProgramFault}
use Rattle.ot_program.specs.declared.fault.Refusal.{Refusal}
use Rattle.ot_program.specs.declared.fault.Refusal.TheVariants.{TooLarge}
use Rattle.ot_program.specs.declared.profile.Profile.{Profile}
use Rattle.ot_program.specs.Copies.{ProgramText, Placed, copies, in_copy, in_order, statement_of, statements_of}
use Rattle.ot_program.specs.Faults.{unless, no_list, list_faults, section_faults, faults_nested, past_limits}
use Rattle.ot_program.specs.Limits.{max_statements, max_cells, cells_in, Tally, tally, plus}
use Rattle.ot_program.specs.Meanings.{items, section, profile_of}
use Rattle.ot_program.specs.Programs.{fault_told, told_or, expansion, program_copy, program_in, program_of}
use Rattle.ot_program.specs.Requested.{ProgramForm, form, program_form}
use Rattle.ot_program.specs.Returned.{Gives}
use Rattle.ot_program.specs.walk.Reading.{◌>>=◌, both_of}
use Rattle.ot_program.specs.walk.Counting.{no_counts, more_counts, within_limits}
use Rattle.ot_program.specs.walk.Parts.{sections_of}
use Rattle.ot_program.specs.walk.Statements.{list_of, body_in, shows_of, program_expanded, first_level, program_at, walk_in}
use Rattle.ot_program.specs.walk.Returned.{Added}
use Rattle.ot_program.proofs.Coded.{code_counts}
use Rattle.ot_program.proofs.Firsts.{first_of, Reads, reads_both, reads_then, reads_made, reads_test}
use Rattle.ot_program.proofs.PartsFit.{told_ok, read_ok}
use Rattle.ot_program.proofs.PartsRead.{sections_reads}
use Rattle.ot_program.proofs.Sized.{sized_copies}
use Rattle.ot_program.proofs.StatementsRead.{list_reads, past-from}
use Rattle.ot_program.proofs.Tallies.{nothing, sum_from, sum_is, faults_at, told_from, told-from, within_by, within_after, within_sum}
use Rattle.ot_program.proofs.Walked.{follow_by, walked_body}

-- ---- the shows

-- what was counted behind the shows, which have so many cells
abbrev pub shown : ℕ → Tally
shown cells = plus nothing (tally 0 0 0 0 cells)

shown_reads : (limit cells : ℕ)
    → Reads 5 (within_limits (more_counts no_counts 0 0 cells)) (code_counts (shown cells)) (past_limits limit (shown cells))
shown_reads limit cells =
    let tasks : nat_le 0 limit ≡ true = le-leb 0 limit (omega arith) in
    rw (tasks, append-nil (unless (nat_le (0 + cells) max_cells) TooLarge))
    (reads_test 5 (nat_le (0 + cells) max_cells) (code_counts (shown cells)) TooLarge (omega arith))

shows_reads : (shape : Arrays) (a b : Data)
    → let ss = map (section shape []) (items a) in
    Reads 5 (shows_of shape a b) (ss, code_counts (shown (cells_in ss)))
    (((list_faults (section_faults shape []) a ++ no_list b) ++ faults_nested 0) ++ past_limits shape.tasks (shown (cells_in ss)))
shows_reads shape a b =
    let ss = map (section shape []) (items a) in
    let fs = list_faults (section_faults shape []) a ++ no_list b in
    let m = shown (cells_in ss) in
    rw (append-nil fs)
    (reads_then {A = List Section × ⊤} {B = List Section × Counts} 5 5 (both_of (sections_of shape [] a) (list_of b))
    (λ p. within_limits (more_counts no_counts 0 0 (cells_in p.0)) >>= λ n. Ok (p.0, n)) (ss, tt) (ss, code_counts m) fs (past_limits shape.tasks m) (omega arith)
    (reads_both 5 (sections_of shape [] a) (list_of b) ss tt (list_faults (section_faults shape []) a) (no_list b) (sections_reads shape [] a) (list_reads b))
    (past-from shape.tasks m)
    (reads_made {A = Counts} {B = List Section × Counts} 5 (within_limits (more_counts no_counts 0 0 (cells_in ss))) (λ n. (ss, n)) (code_counts m) (past_limits shape.tasks m)
    (shown_reads shape.tasks (cells_in ss))))

-- ---- programs

made_by : {A B : Type 0} (x : A) (f : A → B) (y : B) (o : Option Refusal) → f x ≡ y → (told_or x o >>= λ z. Ok (f z)) ≡ told_or y o
made_by x f y None is = ap Ok is
made_by x f y (Some c) is = refl

-- the counts behind the body are those of its tree
counted_all : (shape : Arrays) (profile : Profile) (level cells : ℕ) (body : Data)
    → let ss = statements_of shape (copies profile level body []) in
    let m = sum_from shape (shown cells) (in_order (copies profile level body [])) in
    (m.statements ≡ size (body_of ss)) × (m.tasks ≡ tasks_in (body_of ss))
counted_all shape profile level cells body =
    let ps = in_order (copies profile level body []) in
    let is = sum_is shape (shown cells) ps in
    let z = sized_copies shape profile level body [] in
    (ap (λ (n : Tally). n.statements) is ∙ omega (arith, z.statements), ap (λ (n : Tally). n.tasks) is ∙ omega (arith, z.tasks))

program_walked : (shape : Arrays) (profile : Profile) (a b : Data)
    → program_at shape profile a b ≡ told_or (expansion (map (section shape []) (items a)) (statement_of shape (program_copy profile a b))) (fault_told shape [] (in_copy (program_copy profile a b)))
program_walked shape profile a b =
    let p : Placed = record { level = 0; variables = []; text = ProgramText a b } in
    let shows = map (section shape []) (items a) in
    let cs = copies profile 1 b [] in
    let ss = statements_of shape cs in
    let ps = in_order cs in
    let m = shown (cells_in shows) in
    let n = sum_from shape m ps in
    let all : in_copy (program_copy profile a b) ≡ p ∷ ps = ap (λ (qs : List Placed). p ∷ qs) (append-nil ps) in
    let o = told_from shape nothing (p ∷ ps) in
    let counts = counted_all shape profile 1 (cells_in shows) b in
    let walked : program_at shape profile a b ≡ told_or (expansion shows ss) o =
    rw ((shows_reads shape a b).is)
    (follow_by {A = List Section × Counts} {B = Expanded} (first_of (faults_at shape nothing p)) (told_from shape m ps) (shows, code_counts m) (expansion shows ss)
    (λ q. body_in shape profile first_level b [] q.1 >>= λ read. Ok (program_expanded q.0 read))
    (λ none.
    rw (walked_body shape profile 1 b [] m (within_after shape nothing p none))
    (made_by {A = List S × Counts} {B = Expanded} (ss, code_counts n) (λ read. program_expanded shows read) (expansion shows ss) (told_from shape m ps)
    (rw (counts.0, counts.1) refl)))) in
    walked ∙ ap (told_or (expansion shows ss)) (sym (ap (fault_told shape []) all ∙ told-from shape [] (p ∷ ps)))

pub program_of_walked : (shape : Arrays) (d : Data) → walk_in shape (program_form d) ≡ program_of shape d
program_of_walked shape (array (item t (item a (item b no_items)))) = by (profile_of t)
  where
    by : (o : Option Profile) → walk_in shape (option_map (form a b) o) ≡ program_in shape o a b
    by None = refl
    by (Some profile) = program_walked shape profile a b
program_of_walked shape _ = refl

-- what is given of the walk is given of the definition
pub given_of_walked : {X : Type 0} (see : X → Expanded) (x : Result X ProgramFault) (shape : Arrays) (o : Option ProgramForm) (d : Data) → o ≡ program_form d
    → Gives see x (walk_in shape o) → Gives see x (program_of shape d)
given_of_walked see x shape o d is h = rw (← program_of_walked shape d, ← is) h

-- ---- the counts of a program that was read

pub record AreProgramCounts (ss : List S) (n : Counts) : Type 0 where
  pub statements : n.statements ≡ size (body_of ss)
  pub tasks : n.tasks ≡ tasks_in (body_of ss)
  pub few : n.statements ≤ max_statements

pub program_counts : (shape : Arrays) (profile : Profile) (body : Data) (cells : ℕ) (old ss : List S) (zero start n : Counts)
    → zero ≡ no_counts → old ≡ []
    → Ok start ≡ within_limits (more_counts zero 0 0 cells) → Added old ss n (body_in shape profile first_level body [] start)
    → AreProgramCounts ss n
program_counts shape profile body cells old ss zero start n none empty begun added =
    let cs = copies profile first_level body [] in
    let xs = statements_of shape cs in
    let m = sum_from shape (shown cells) (in_order cs) in
    let from_none = begun ∙ ap (λ (k : Counts). within_limits (more_counts k 0 0 cells)) none in
    let first = read_ok (within_limits (more_counts no_counts 0 0 cells)) (code_counts (shown cells)) start (past_limits shape.tasks (shown cells))
    (shown_reads shape.tasks cells) (sym from_none) in
    let w = within_by shape.tasks (shown cells) first.0 in
    let is : body_in shape profile first_level body [] (code_counts (shown cells)) ≡ Ok (added.added, n) = rw (first.1) added.is in
    let fault_told = told_ok (xs, code_counts m) (added.added, n) (told_from shape (shown cells) (in_order cs))
    (sym (walked_body shape profile first_level body [] (shown cells) w) ∙ is) in
    let counts : code_counts m ≡ n = ap (λ (q : List S × Counts). q.1) fault_told.1 in
    let all : xs ≡ ss = ap (λ (q : List S × Counts). q.0) fault_told.1 ∙ sym (added.list ∙ ap (λ (ys : List S). ys ++ added.added) empty) in
    let exact = counted_all shape profile first_level cells body in
    let few = within_sum shape (shown cells) (in_order cs) w fault_told.0 in
    rw (← counts, ← all) (record { statements = exact.0; tasks = exact.1; few = few.statements })
