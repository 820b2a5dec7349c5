-- What a statement with bodies is read as, where its parts are known.
use Rattle.std.proofs.Common.{◌≡◌, ◌∙◌, ℕ, true, List, [], ◌∷◌, length, get_or, Result, Ok, Err, codes, refl}
use Rattle.std.specs.Prelude.{⊤, IsErrAnd}
use Rattle.serde_json.specs.Data.{Data, string, array}
use Rattle.serde_json.specs.View.{view, items_view}
use Rattle.serde_json.specs.declared.value.Value.{Value}
use Rattle.ot_model.specs.Programs.{Arrays}
use Rattle.ot_model.specs.Tree.{E, S, If, Body, body_of}
use Rattle.ot_program.specs.declared.counts.Counts.{Counts}
use Rattle.ot_program.specs.declared.fault.Refusal.{Refusal}
use Rattle.ot_program.specs.declared.fault.ProgramFault.{ProgramFault}
use Rattle.ot_program.specs.declared.fault.ProgramFault.TheVariants.{Refused}
use Rattle.ot_program.specs.declared.profile.Profile.{Profile}
use Rattle.ot_program.specs.Meanings.{is_name, is_word, Bindings}
use Rattle.ot_program.specs.walk.Reading.{◌>>=◌, both_of}
use Rattle.ot_program.specs.walk.Counting.{deeper}
use Rattle.ot_program.specs.walk.Sizes.{size_of, shallow}
use Rattle.ot_program.specs.walk.Statements.{Read, Reader, list_of, name_of, with_body, if_in, range_of, one_in}
use Rattle.ot_program.specs.Returned.{Fails}
use Rattle.ot_program.specs.walk.Returned.{Adds}
use Rattle.ot_program.proofs.Joins.{Fails-then}
use Rattle.ot_program.proofs.StatementForms.{form_for}

-- a fault that is passed on
pub adds_refused : (old new : List S) (n : Counts) (result : Result ⊤ ProgramFault) (c : Refusal) (read : Read)
    → IsErrAnd result (λ e. e ≡ Refused c) → read ≡ Err c → Adds old new n result read
adds_refused old new n (Ok u) c read h is = absurd h
adds_refused old new n (Err e) c read h is = rw h is

pub for_refused : (shape : Arrays) (profile : Profile) (level : ℕ) (vs : List Value) (variables : Bindings) (n : Counts) (t a b c d : Value) (f : Refusal)
    → length vs ≡ 5 → t ≡ get_or vs 0 t → a ≡ get_or vs 1 a → b ≡ get_or vs 2 b → c ≡ get_or vs 3 c → d ≡ get_or vs 4 d
    → is_word (view t) (codes "for") ≡ true → range_of variables level (view a) (view b) (view c) (view d) ≡ Err f
    → one_in shape profile level (array (items_view vs)) variables n ≡ Err f
for_refused shape profile level vs variables n t a b c d f five p q r s u is h =
    rw (form_for shape profile level vs variables n t a b c d five p q r s u is, h) refl

-- ---- the turns of a `for`, by what its parts are read as

range_parts : (variables : Bindings) (level : ℕ) (v f b d : Data) (s : List ℕ) (r : Result ((ℕ × ℕ) × ⊤) Refusal)
    → name_of v ≡ Ok s → r ≡ both_of (both_of (size_of variables f) (size_of variables b)) (list_of d)
    → range_of variables level v f b d
    ≡ (r >>= λ p. deeper level >>= λ fits. both_of (shallow f) (shallow b) >>= λ fit. Ok (record { variable = s; first = p.0.0; behind = p.0.1 }))
range_parts variables level v f b d s (Ok p) name read = rw (name, ← read) refl
range_parts variables level v f b d s (Err c) name read = rw (name, ← read) refl

pub named : (d : Data) (s : List ℕ) → d ≡ string s → is_name s ≡ true → name_of d ≡ Ok s
named d s is test = rw (is, test) refl

pub range_fails_parts : (variables : Bindings) (level : ℕ) (v f b d : Data) (s : List ℕ) (c : Refusal)
    → name_of v ≡ Ok s → Err c ≡ both_of (both_of (size_of variables f) (size_of variables b)) (list_of d)
    → range_of variables level v f b d ≡ Err c
range_fails_parts variables level v f b d s c name read = range_parts variables level v f b d s (Err c) name read

pub range_fails_level : (variables : Bindings) (level : ℕ) (v f b d : Data) (s : List ℕ) (p : (ℕ × ℕ) × ⊤) (c : Refusal)
    → name_of v ≡ Ok s → Ok p ≡ both_of (both_of (size_of variables f) (size_of variables b)) (list_of d) → Err c ≡ deeper level
    → range_of variables level v f b d ≡ Err c
range_fails_level variables level v f b d s p c name read deep = range_parts variables level v f b d s (Ok p) name read ∙ rw (← deep) refl

pub range_fails_depth : (variables : Bindings) (level : ℕ) (v f b d : Data) (s : List ℕ) (p : (ℕ × ℕ) × ⊤) (u : ⊤) (c : Refusal)
    → name_of v ≡ Ok s → Ok p ≡ both_of (both_of (size_of variables f) (size_of variables b)) (list_of d) → Ok u ≡ deeper level
    → Err c ≡ both_of (shallow f) (shallow b) → range_of variables level v f b d ≡ Err c
range_fails_depth variables level v f b d s p u c name read deep fits =
    range_parts variables level v f b d s (Ok p) name read ∙ rw (← deep, ← fits) refl

pub range_reads_as : (variables : Bindings) (level : ℕ) (v f b d : Data) (s : List ℕ) (p : (ℕ × ℕ) × ⊤) (u : ⊤) (w : ⊤ × ⊤)
    → name_of v ≡ Ok s → Ok p ≡ both_of (both_of (size_of variables f) (size_of variables b)) (list_of d) → Ok u ≡ deeper level
    → Ok w ≡ both_of (shallow f) (shallow b) → range_of variables level v f b d ≡ Ok (record { variable = s; first = p.0.0; behind = p.0.1 })
range_reads_as variables level v f b d s p u w name read deep fits =
    range_parts variables level v f b d s (Ok p) name read ∙ rw (← deep, ← fits) refl

-- ---- a statement with one body

pub body_fails_own : {A : Type 0} (make : A → Body → S) (own : Counts → Result (A × Counts) Refusal) (body : Reader) (n : Counts) (f : ProgramFault)
    → Fails f (own n) → Fails f (with_body make own body n)
body_fails_own make own body n f h = Fails-then f (own n) _ h

pub body_fails : {A : Type 0} (make : A → Body → S) (own : Counts → Result (A × Counts) Refusal) (body : Reader) (n m : Counts) (x : A) (f : ProgramFault)
    → own n ≡ Ok (x, m) → Fails f (body m) → Fails f (with_body make own body n)
body_fails make own body n m x f is h = rw is (Fails-then f (body m) _ h)

pub body_reads : {A : Type 0} (make : A → Body → S) (own : Counts → Result (A × Counts) Refusal) (body : Reader) (n m k : Counts) (x : A) (xs : List S)
    → own n ≡ Ok (x, m) → body m ≡ Ok (xs, k) → with_body make own body n ≡ Ok (make x (body_of xs) ∷ [], k)
body_reads make own body n m k x xs is inside = rw (is, inside) refl

-- ---- an `if`, by what its parts are read as

pub if_fails_condition : (own : Counts → Result (E × Counts) Refusal) (one two : Reader) (n : Counts) (f : ProgramFault)
    → Fails f (own n) → Fails f (if_in own one two n)
if_fails_condition own one two n f h = Fails-then f (own n) _ h

pub if_fails_first : (own : Counts → Result (E × Counts) Refusal) (one two : Reader) (n m : Counts) (e : E) (f : ProgramFault)
    → own n ≡ Ok (e, m) → Fails f (one m) → Fails f (if_in own one two n)
if_fails_first own one two n m e f condition h = rw condition (Fails-then f (one m) _ h)

pub if_fails_second : (own : Counts → Result (E × Counts) Refusal) (one two : Reader) (n m k : Counts) (e : E) (xs : List S) (f : ProgramFault)
    → own n ≡ Ok (e, m) → one m ≡ Ok (xs, k) → Fails f (two k) → Fails f (if_in own one two n)
if_fails_second own one two n m k e xs f condition first h = rw (condition, first) (Fails-then f (two k) _ h)

pub if_reads : (own : Counts → Result (E × Counts) Refusal) (one two : Reader) (n m k j : Counts) (e : E) (xs ys : List S)
    → own n ≡ Ok (e, m) → one m ≡ Ok (xs, k) → two k ≡ Ok (ys, j)
    → if_in own one two n ≡ Ok (If e (body_of xs) (body_of ys) ∷ [], j)
if_reads own one two n m k j e xs ys condition first second = rw (condition, first, second) refl
