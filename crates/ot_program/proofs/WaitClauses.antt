-- The clauses of a wait are read as what they denote, and none of their cells is mixed.
use Rattle.std.proofs.Common.{◌≡◌, Bool, true, false, cond, ◌&&◌, ◌||◌, List, [], ◌∷◌, map, Some, None, refl, ap, codes}
use Rattle.std.specs.Prelude.{not, unwrap_or}
use Rattle.std.specs.List.{list_any}
use Rattle.serde_json.specs.Data.{Data, array, no_items, item}
use Rattle.ot_model.specs.Programs.{Arrays}
use Rattle.ot_model.specs.Cells.{is_fold}
use Rattle.ot_model.specs.declared.expr.Cell.{Cell}
use Rattle.ot_model.specs.declared.stmt.Mode.TheVariants.{Reads as AsRead, Writes}
use Rattle.ot_program.specs.declared.fault.Refusal.TheVariants.{MixedReduction}
use Rattle.ot_program.specs.declared.profile.Profile.TheVariants.{Two}
use Rattle.ot_program.specs.Meanings.{names, named_cells, named_otherwise, is_mixed, each, items, Bindings, mode_of, Clause, section, wait_clause, is_word}
use Rattle.ot_program.specs.Faults.{unless, list_faults, section_faults, wait_clause_faults, faults_mixed}
use Rattle.ot_program.specs.walk.Parts.{wait_clause_of, wait_clauses_of, section_of}
use Rattle.ot_program.proofs.Coded.{code_clause}
use Rattle.ot_program.proofs.Firsts.{Reads, reads_no_form, reads_each}
use Rattle.ot_program.proofs.PartsRead.{clause_at-reads, section_reads, map_map}

wait_clause_reads : (shape : Arrays) (variables : Bindings) (d : Data)
    → Reads 5 (wait_clause_of shape variables d) (code_clause (wait_clause shape variables d)) (wait_clause_faults shape variables d)
wait_clause_reads shape variables (array (item t (item a no_items))) =
    clause_at-reads (mode_of Two t) (section_of shape variables a) (section shape variables a) (section_faults shape variables a) (section_reads shape variables a)
wait_clause_reads shape variables _ = reads_no_form 5 _

pub wait_clauses_reads : (shape : Arrays) (variables : Bindings) (d : Data)
    → Reads 5 (wait_clauses_of shape variables d) (map code_clause (map (wait_clause shape variables) (items d))) (list_faults (wait_clause_faults shape variables) d)
wait_clauses_reads shape variables (array ds) =
    rw (← map_map (wait_clause shape variables) code_clause (each ds))
    (reads_each 5 (wait_clause_of shape variables) (λ d. code_clause (wait_clause shape variables d)) (wait_clause_faults shape variables) (wait_clause_reads shape variables) ds)
wait_clauses_reads shape variables _ = reads_no_form 5 _

-- ---- no clause of a wait folds

modes_by : (p q r : Bool) → is_fold (unwrap_or (cond p (Some AsRead) (cond q (Some Writes) (cond r (Some Writes) None))) AsRead) ≡ false
modes_by true q r = refl
modes_by false true r = refl
modes_by false false true = refl
modes_by false false false = refl

no_fold : (shape : Arrays) (variables : Bindings) (d : Data) → is_fold (wait_clause shape variables d).mode ≡ false
no_fold shape variables (array (item t (item a no_items))) = modes_by (is_word t (codes "in")) (is_word t (codes "out")) (is_word t (codes "inout"))
no_fold shape variables _ = refl

fails_with : (a b c d : Bool) → b ≡ false → d ≡ false → ((a && (b && c)) || d) ≡ false
fails_with true b c d p q = rw (p, q) refl
fails_with false b c d p q = q

none_mixed : (shape : Arrays) (variables : Bindings) (all : List Clause) (c : Cell) (ds : List Data)
    → list_any (λ clause. names c clause && (is_fold clause.mode && named_otherwise clause.mode all c)) (map (wait_clause shape variables) ds) ≡ false
none_mixed shape variables all c [] = refl
none_mixed shape variables all c (d ∷ ds) =
    let clause = wait_clause shape variables d in
    fails_with (names c clause) (is_fold clause.mode) (named_otherwise clause.mode all c) _ (no_fold shape variables d) (none_mixed shape variables all c ds)

none-any : {A : Type 0} (test : A → Bool) → ((x : A) → test x ≡ false) → (xs : List A) → list_any test xs ≡ false
none-any test h [] = refl
none-any test h (x ∷ xs) = rw (h x, none-any test h xs) refl

pub unmixed : (shape : Arrays) (variables : Bindings) (d : Data) → faults_mixed (map (wait_clause shape variables) (items d)) ≡ []
unmixed shape variables d =
    let cs = map (wait_clause shape variables) (items d) in
    ap (λ b. unless (not b) MixedReduction) (none-any (is_mixed cs) (λ c. none_mixed shape variables cs c (items d)) (named_cells cs))
