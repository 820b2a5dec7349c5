-- Statements with their bodies, as a walk comes to them.
use Rattle.std.proofs.Common.{◌≡◌, ℕ, ◌+◌, ◌-◌, Bool, List, [], ◌∷◌, ◌++◌, Result, sym, ap, ◌∙◌, append-nil, Bor}
use Rattle.std.specs.Prelude.{IfOk}
use Rattle.serde_json.specs.Data.{Data}
use Rattle.serde_json.specs.View.{view}
use Rattle.serde_json.specs.declared.value.Value.{Value}
use Rattle.ot_program.specs.Copies.{Text, turns, copies, copy}
use Rattle.ot_program.specs.Meanings.{Bindings, letters, size}
use Rattle.ot_program.specs.declared.profile.Profile.{Profile}
use Rattle.ot_why_place.specs.Spots.{Path, Spot, spot, spots, in_body, in_turns}
use Rattle.ot_why_place.specs.Seeking.{Sought, Skipped, Met, seek, step_by, bodies_in}
use Rattle.ot_why_place.specs.Texts.{text_by, text_at, first_copies, second_copies, copy_by}
use Rattle.ot_why_place.specs.declared.text.Text.{Text as CodeText}
use Rattle.ot_why_place.specs.declared.text.Text.TheVariants as t
use Rattle.ot_why_place.specs.declared.walk.Step.{Step}
use Rattle.ot_why_place.proofs.CopyLemmas.{copy_is}
use Rattle.ot_why_place.proofs.SeekLemmas.{passed, ended}

pub seen_as : {E : Type 0} (r : Result Step E) (a b : Sought) → a ≡ b → IfOk r (λ step. step_by step ≡ b) → IfOk r (λ step. step_by step ≡ a)
seen_as r a b is h = rw is h

-- what stands in the bodies of a statement with these parts
abbrev pub bodies_of : Profile → ℕ → Bindings → Path → Text → List Spot
bodies_of defined level variables path text = bodies_in path text (first_copies defined level variables text) (second_copies defined level variables text)

pub if_passes : (counts : Text → Bool) (defined : Profile) (level : ℕ) (variables : Bindings) (path : Path) (text : CodeText) (e a b : Bor Value) (n m : ℕ)
    → text ≡ t.If e a b → Skipped m ≡ seek counts n (in_body (path ++ 2 ∷ []) 0 (copies defined (level + 1) (view a.now) variables))
    → seek counts n (bodies_of defined level variables path (text_by defined text))
    ≡ seek counts m (in_body (path ++ 3 ∷ []) 0 (copies defined (level + 1) (view b.now) variables))
if_passes counts defined level variables path text e a b n m is skipped =
    rw is (passed counts n m (in_body (path ++ 2 ∷ []) 0 (copies defined (level + 1) (view a.now) variables)) _ skipped)

pub if_ends : (counts : Text → Bool) (defined : Profile) (level : ℕ) (variables : Bindings) (path : Path) (text : CodeText) (e a b : Bor Value) (n : ℕ) (to : Path) (turns_in : Bindings)
    → text ≡ t.If e a b → Met to turns_in ≡ seek counts n (in_body (path ++ 2 ∷ []) 0 (copies defined (level + 1) (view a.now) variables))
    → Met to turns_in ≡ seek counts n (bodies_of defined level variables path (text_by defined text))
if_ends counts defined level variables path text e a b n to turns_in is met =
    rw is (ended counts n to turns_in (in_body (path ++ 2 ∷ []) 0 (copies defined (level + 1) (view a.now) variables)) _ met)

pub for_is : (counts : Text → Bool) (defined : Profile) (level : ℕ) (variables : Bindings) (path : Path) (text : CodeText) (a b c d : Bor Value) (name : List ℕ) (first behind n : ℕ)
    → text ≡ t.For a b c d → name ≡ letters (view a.now) → first ≡ size variables (view b.now) → behind ≡ size variables (view c.now)
    → seek counts n (bodies_of defined level variables path (text_by defined text))
    ≡ seek counts n (in_turns path (turns level variables (λ k. copies defined (level + 1) (view d.now) ((name, k) ∷ variables)) first (behind - first)))
for_is counts defined level variables path text a b c d name first behind n is named from to =
    rw (is, named, from, to) (ap (seek counts n) (append-nil _))

-- a statement, and then its bodies
statement-is : (defined : Profile) (level : ℕ) (variables : Bindings) (path : Path) (d : Data) (text : CodeText)
    → text_by defined text ≡ text_at defined d
    → spots path (copy defined level d variables)
    ≡ (spot path (record { level = level; variables = variables; text = text_by defined text }) ∷ []) ++ bodies_of defined level variables path (text_by defined text)
statement-is defined level variables path d text is =
    ap (spots path) (copy_is defined level variables d ∙ ap (copy_by defined level variables) (sym is))

pub statement_passes : (counts : Text → Bool) (defined : Profile) (level : ℕ) (variables : Bindings) (path : Path) (d : Data) (text : CodeText) (n m : ℕ)
    → text_by defined text ≡ text_at defined d
    → Skipped m ≡ seek counts n (spot path (record { level = level; variables = variables; text = text_by defined text }) ∷ [])
    → seek counts n (spots path (copy defined level d variables)) ≡ seek counts m (bodies_of defined level variables path (text_by defined text))
statement_passes counts defined level variables path d text n m is skipped =
    ap (seek counts n) (statement-is defined level variables path d text is)
    ∙ passed counts n m (spot path (record { level = level; variables = variables; text = text_by defined text }) ∷ []) _ skipped

pub statement_ends : (counts : Text → Bool) (defined : Profile) (level : ℕ) (variables : Bindings) (path : Path) (d : Data) (text : CodeText) (n : ℕ) (to : Path) (turns_in : Bindings)
    → text_by defined text ≡ text_at defined d
    → Met to turns_in ≡ seek counts n (spot path (record { level = level; variables = variables; text = text_by defined text }) ∷ [])
    → Met to turns_in ≡ seek counts n (spots path (copy defined level d variables))
statement_ends counts defined level variables path d text n to turns_in is met =
    ended counts n to turns_in (spot path (record { level = level; variables = variables; text = text_by defined text }) ∷ []) _ met
    ∙ ap (seek counts n) (sym (statement-is defined level variables path d text is))

-- a spot, and then a body alone
pub one_passes : (counts : Text → Bool) (s : Spot) (ss : List Spot) (n m : ℕ) → Skipped m ≡ seek counts n (s ∷ [])
    → seek counts n (s ∷ (ss ++ [])) ≡ seek counts m ss
one_passes counts s ss n m skipped = passed counts n m (s ∷ []) (ss ++ []) skipped ∙ ap (seek counts m) (append-nil ss)

pub one_ends : (counts : Text → Bool) (s : Spot) (ss : List Spot) (n : ℕ) (to : Path) (turns_in : Bindings) → Met to turns_in ≡ seek counts n (s ∷ [])
    → Met to turns_in ≡ seek counts n (s ∷ ss)
one_ends counts s ss n to turns_in met = ended counts n to turns_in (s ∷ []) ss met
