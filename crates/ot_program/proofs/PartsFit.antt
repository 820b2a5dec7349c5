-- Sections that were read have indexes of 32 bits.
use Rattle.std.proofs.Common.{◌≡◌, ℕ, List, [], ◌∷◌, map, Option, Some, None, Result, Ok, refl, sym, ◌∙◌, All}
use Rattle.std.specs.List.{AllByRecursion}
use Rattle.std.proofs.lemmas.List.Elements.{All-from_recursion}
use Rattle.serde_json.specs.Data.{Data}
use Rattle.ot_model.specs.Names.{FitsShape}
use Rattle.ot_model.specs.Programs.{Arrays, AreShort, array_lengths}
use Rattle.ot_model.specs.declared.expr.Section.{Section}
use Rattle.ot_program.specs.declared.clause.Clause.{Clause as CodeClause}
use Rattle.ot_program.specs.declared.fault.Refusal.{Refusal}
use Rattle.ot_program.specs.declared.profile.Profile.{Profile}
use Rattle.ot_program.specs.Faults.{list_faults, section_faults, clause_faults, wait_clause_faults}
use Rattle.ot_program.specs.Meanings.{items, Bindings, Clause, section, clause, wait_clause}
use Rattle.ot_program.specs.Programs.{told_or}
use Rattle.ot_program.specs.walk.Parts.{clauses_of, wait_clauses_of, sections_of}
use Rattle.ot_program.specs.walk.Namings.{fits}
use Rattle.ot_program.proofs.Coded.{code_clause}
use Rattle.ot_program.proofs.Firsts.{first_of, Reads}
use Rattle.ot_program.proofs.Named.{sections_named, clauses_named, wait_clauses_named}
use Rattle.ot_program.proofs.PartsRead.{sections_reads, clauses_reads}
use Rattle.ot_program.proofs.Tallies.{first-none}
use Rattle.ot_program.proofs.WaitClauses.{wait_clauses_reads}

pub told_ok : {A : Type 0} (x y : A) (o : Option Refusal) → told_or x o ≡ Ok y → (o ≡ None) × (x ≡ y)
told_ok x y None is = (refl, cc)
told_ok x y (Some c) is = absurd cc

-- what was read without a fault
pub read_ok : {A : Type 0} {last : ℕ} (r : Result A Refusal) (x y : A) (fs : List Refusal) → Reads last r x fs → r ≡ Ok y → (fs ≡ []) × (x ≡ y)
read_ok r x y fs h is = let t = told_ok x y (first_of fs) (sym h.is ∙ is) in (first-none fs t.0, t.1)

sections_fit : (lens : List ℕ) (ss : List Section) → AllByRecursion (FitsShape lens) ss → AllByRecursion fits ss
sections_fit lens [] h = tt
sections_fit lens (s ∷ ss) h = (h.0.short, sections_fit lens ss h.1)

clauses_fit : (lens : List ℕ) (cs : List Clause) → AllByRecursion (λ c. FitsShape lens c.section) cs
    → AllByRecursion (λ (c : CodeClause). fits c.section) (map code_clause cs)
clauses_fit lens [] h = tt
clauses_fit lens (c ∷ cs) h = (h.0.short, clauses_fit lens cs h.1)

pub read_sections_fit : (shape : Arrays) → AreShort shape.arrays → (variables : Bindings) (d : Data) (ss : List Section)
    → sections_of shape variables d ≡ Ok ss → All fits ss
read_sections_fit shape short variables d ss is =
    let xs = map (section shape variables) (items d) in
    let t = read_ok (sections_of shape variables d) xs ss (list_faults (section_faults shape variables) d) (sections_reads shape variables d) is in
    All-from_recursion fits ss (rw t.1 at (sections_fit (array_lengths shape) xs (sections_named shape short variables d t.0)))

pub read_clauses_fit : (shape : Arrays) → AreShort shape.arrays → (profile : Profile) (variables : Bindings) (d : Data) (cs : List CodeClause)
    → clauses_of shape profile variables d ≡ Ok cs → All (λ c. fits c.section) cs
read_clauses_fit shape short profile variables d cs is =
    let xs = map (clause shape profile variables) (items d) in
    let t = read_ok (clauses_of shape profile variables d) (map code_clause xs) cs (list_faults (clause_faults shape profile variables) d) (clauses_reads shape profile variables d) is in
    All-from_recursion (λ (c : CodeClause). fits c.section) cs
    (rw t.1 at (clauses_fit (array_lengths shape) xs (clauses_named shape short profile variables d t.0)))

pub read_wait_clauses_fit : (shape : Arrays) → AreShort shape.arrays → (variables : Bindings) (d : Data) (cs : List CodeClause)
    → wait_clauses_of shape variables d ≡ Ok cs → All (λ c. fits c.section) cs
read_wait_clauses_fit shape short variables d cs is =
    let xs = map (wait_clause shape variables) (items d) in
    let t = read_ok (wait_clauses_of shape variables d) (map code_clause xs) cs (list_faults (wait_clause_faults shape variables) d) (wait_clauses_reads shape variables d) is in
    All-from_recursion (λ (c : CodeClause). fits c.section) cs
    (rw t.1 at (clauses_fit (array_lengths shape) xs (wait_clauses_named shape short variables d t.0)))
