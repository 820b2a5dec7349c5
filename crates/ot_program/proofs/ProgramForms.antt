-- What a text is read as, where a program is wanted.
use Rattle.std.proofs.Common.{◌≡◌, ℕ, ◌+◌, ◌-◌, ◌^◌, ◌<◌, min, Bool, true, false, cond, ◌&&◌, List, [], Ok, Err, nat_le, refl, arith, inl, inr}
use Rattle.std.proofs.lemmas.Bool.{cases_lt, lt-leb}
use Rattle.serde_json.specs.Data.{Data}
use Rattle.ot_model.specs.Programs.{Arrays}
use Rattle.ot_model.specs.Tree.{S}
use Rattle.ot_model.specs.declared.expr.Section.{Section}
use Rattle.ot_program.specs.declared.counts.Counts.{Counts}
use Rattle.ot_program.specs.declared.fault.ProgramFault.{ProgramFault}
use Rattle.ot_program.specs.declared.fault.Refusal.{Refusal}
use Rattle.ot_program.specs.declared.fault.Refusal.TheVariants.{TooLarge}
use Rattle.ot_program.specs.declared.profile.Profile.{Profile}
use Rattle.ot_program.specs.Limits.{max_statements, max_nodes, max_cells, cells_in}
use Rattle.ot_program.specs.Returned.{Fails}
use Rattle.ot_program.specs.walk.Reading.{both_of}
use Rattle.ot_program.specs.walk.Counting.{no_counts, more_counts, within_limits}
use Rattle.ot_program.specs.walk.Parts.{sections_of}
use Rattle.ot_program.specs.walk.Statements.{list_of, body_in, program_expanded, first_level, program_at}
use Rattle.ot_program.proofs.Joins.{Fails-then}

-- ---- counts of 32 bits

too_many : (a b : Bool) (n : Counts) → cond (a && b && false) (Ok n) (Err TooLarge) ≡ Err TooLarge
too_many true true n = refl
too_many true false n = refl
too_many false b n = refl

too_many_cells : (n : Counts) (statements nodes cells : ℕ) → max_cells < cells → within_limits (more_counts n statements nodes cells) ≡ Err TooLarge
too_many_cells n statements nodes cells over =
    let past : nat_le (n.cells + cells) max_cells ≡ false = lt-leb (n.cells + cells) max_cells (omega arith) in
    rw past
    (too_many (nat_le (n.statements + statements) max_statements) (nat_le (n.nodes + nodes) max_nodes) (more_counts n statements nodes cells))

-- how many cells there are may be told as the greatest number of 32 bits
capped : (n : Counts) (statements nodes cells : ℕ)
    → within_limits (more_counts n statements nodes (min cells (2 ^ 32 - 1))) ≡ within_limits (more_counts n statements nodes cells)
capped n statements nodes cells =
    elim (cases_lt (2 ^ 32 - 1) cells) [
      | inl over ↦ rw (too_many_cells n statements nodes (min cells (2 ^ 32 - 1)) (omega arith), too_many_cells n statements nodes cells (omega arith)) refl
      | inr within ↦ let is : min cells (2 ^ 32 - 1) ≡ cells = omega arith in rw is refl
    ]

-- ---- a program, by what its parts are read as

pub program_fails_counts : (shape : Arrays) (profile : Profile) (a b : Data) (ss : List Section) (c : Refusal)
    → both_of (sections_of shape [] a) (list_of b) ≡ Ok (ss, tt) → Err c ≡ within_limits (more_counts no_counts 0 0 (min (cells_in ss) (2 ^ 32 - 1)))
    → program_at shape profile a b ≡ Err c
program_fails_counts shape profile a b ss c parts counts = rw (parts, ← capped no_counts 0 0 (cells_in ss), ← counts) refl

pub program_fails_body : (shape : Arrays) (profile : Profile) (a b : Data) (ss : List Section) (n : Counts) (f : ProgramFault)
    → both_of (sections_of shape [] a) (list_of b) ≡ Ok (ss, tt) → Ok n ≡ within_limits (more_counts no_counts 0 0 (min (cells_in ss) (2 ^ 32 - 1)))
    → Fails f (body_in shape profile first_level b [] n) → Fails f (program_at shape profile a b)
program_fails_body shape profile a b ss n f parts counts h =
    rw (parts, ← capped no_counts 0 0 (cells_in ss), ← counts) (Fails-then f (body_in shape profile first_level b [] n) _ h)

pub program_reads : (shape : Arrays) (profile : Profile) (a b : Data) (ss : List Section) (n m : Counts) (xs : List S)
    → both_of (sections_of shape [] a) (list_of b) ≡ Ok (ss, tt) → Ok n ≡ within_limits (more_counts no_counts 0 0 (min (cells_in ss) (2 ^ 32 - 1)))
    → body_in shape profile first_level b [] n ≡ Ok (xs, m) → program_at shape profile a b ≡ Ok (program_expanded ss (xs, m))
program_reads shape profile a b ss n m xs parts counts body = rw (parts, ← capped no_counts 0 0 (cells_in ss), ← counts, body) refl
