-- What a text means, compared; and why there is no C.
use Rattle.std.proofs.Common.{◌≡◌, Bool, true, false, ℕ, List, sym}
use Rattle.std.specs.Prelude.{MatchResult, Result, Ok, Err}
use Rattle.ot_model.specs.Programs.{Expanded}
use Rattle.ot_show_print.specs.Shown.{Text}
use Rattle.ot_show_c.specs.Programs.{IsProgram}
use Rattle.ot_program.specs.Programs.{program_of}
use Rattle.ot_c_program.specs.Files.{Program}
use Rattle.ot_c_text.specs.Reading.{Means}
use Rattle.ot_model.specs.Tree.{Body}
use Rattle.ot_c_printed.specs.Apart.{ApartBy, ComparesBy, ComparesWhole, TellsOne, body_has_group, returned_body}
use Rattle.ot_c_printed.specs.Printed.{Differs, IsPrinted, IsSame, NotBack, ReadsBack, WhyNot, named_arrays, arrays_shape}
use Rattle.ot_c_printed.specs.declared.fault.NoC.{NoC}
use Rattle.ot_c_printed.specs.declared.fault.NoC.TheVariants as no

-- what is told of a body, whether its region becomes a group or doesn't
Tells : Bool → Body → Body → Result (Unit {0}) NoC → Type 0
Tells group b back (Ok u) = back ≡ returned_body group b
Tells group b back (Err fault) = TellsOne (ApartBy group b back) fault

tells : (group : Bool) (b back : Body) (result : Result (Unit {0}) NoC) → ComparesBy group b back result → Tells group b back result
unfolding Tells
tells true b back (Ok u) m = m
tells true b back (Err fault) m = m
tells false b back (Ok u) m = sym m
tells false b back (Err fault) m = m

read_compared : (arrays : List (Text × ℕ)) (numbers : List (List ℕ)) (p : Expanded) (back : Program) (read : Expanded) (result : Result (Unit {0}) NoC) → back.arrays ≡ named_arrays arrays numbers p
    → program_of (arrays_shape arrays) back.program ≡ Ok read → Tells (body_has_group p.body) p.body read.body result
    → MatchResult result (λ u. IsSame arrays numbers p back) (λ fault. Differs arrays numbers p back fault)
unfolding Tells
read_compared arrays numbers p back read (Ok u) same reads m = record { named = same; read = read; reads = reads; body = m }
read_compared arrays numbers p back read (Err (no.OtherProgram n)) same reads m = (read, reads, m)
read_compared arrays numbers p back read (Err no.Memory) same reads m = tt
read_compared arrays numbers p back read (Err (no.NotReadBack byte reason)) same reads m = absurd m
read_compared arrays numbers p back read (Err (no.Refused refusal)) same reads m = absurd m
read_compared arrays numbers p back read (Err no.OtherArrays) same reads m = absurd m

-- a program that was read, compared
pub whole_compared : (arrays : List (Text × ℕ)) (numbers : List (List ℕ)) (p : Expanded) (back : Program) (read : Expanded) (result : Result (Unit {0}) NoC) → back.arrays ≡ named_arrays arrays numbers p
    → program_of (arrays_shape arrays) back.program ≡ Ok read → ComparesWhole p.body read.body result
    → MatchResult result (λ u. IsSame arrays numbers p back) (λ fault. Differs arrays numbers p back fault)
whole_compared arrays numbers p back read result same reads m = read_compared arrays numbers p back read result same reads (tells (body_has_group p.body) p.body read.body result m)

-- what a text means, compared
pub meaning_compared : (arrays : List (Text × ℕ)) (numbers : List (List ℕ)) (p : Expanded) (text : Text) (back : Program) (result : Result (Unit {0}) NoC) → Means text (Ok back)
    → MatchResult result (λ u. IsSame arrays numbers p back) (λ fault. Differs arrays numbers p back fault)
    → MatchResult result (λ u. ReadsBack arrays numbers p text) (λ fault. NotBack arrays numbers p text fault)
meaning_compared arrays numbers p text back (Ok u) means m = record { back = back; means = means; same = m }
meaning_compared arrays numbers p text back (Err (no.OtherProgram n)) means m = (back, means, m)
meaning_compared arrays numbers p text back (Err no.Memory) means m = tt
meaning_compared arrays numbers p text back (Err (no.NotReadBack byte reason)) means m = absurd m
meaning_compared arrays numbers p text back (Err (no.Refused refusal)) means m = (back, means, m)
meaning_compared arrays numbers p text back (Err no.OtherArrays) means m = (back, means, m)

-- a text that isn't read back
pub why_not : (arrays : List (Text × ℕ)) (numbers : List (List ℕ)) (p : Expanded) (text : Text) (fault : NoC) → IsProgram arrays numbers p text
    → NotBack arrays numbers p text fault → WhyNot arrays numbers p fault
why_not arrays numbers p text (no.OtherProgram n) is m = (text, is, m)
why_not arrays numbers p text no.Memory is m = tt
why_not arrays numbers p text (no.NotReadBack byte reason) is m = (text, is, m)
why_not arrays numbers p text (no.Refused refusal) is m = (text, is, m)
why_not arrays numbers p text no.OtherArrays is m = (text, is, m)
