-- Events of bodies in parts.
use Rattle.std.proofs.Common.{◌≡◌, ◌+◌, ℕ, List, [], ◌∷◌, ◌++◌, map, refl, sym, ap, ◌∙◌}
use Rattle.std.specs.Prelude.{◌≢◌, if◌then◌else◌}
use Rattle.ot_model.specs.Tree.{E, S, If, Body, Next, size, size_one, val}
use Rattle.ot_model.specs.Cells.{cell_of}
use Rattle.ot_model.specs.Serial.{State, bump, either, serial_one}
use Rattle.ot_model.specs.declared.stmt.Mode.TheVariants.{Reads}
use Rattle.ot_model.specs.declared.stmt.Use.{Use}
use Rattle.ot_check.specs.Offences.{use_as, Declared}
use Rattle.ot_race.specs.Events.{Event, event, Touches, reads_now, this_way, events, events_one}
use Rattle.ot_check.proofs.Cited.{eq_apart}
use Rattle.ot_race.proofs.SerialLemmas.{after_one-this}

app-assoc : {A : Type 0} (xs ys zs : List A) → (xs ++ ys) ++ zs ≡ xs ++ (ys ++ zs)
app-assoc [] ys zs = refl
app-assoc (x ∷ xs) ys zs = ap (λ l. x ∷ l) (app-assoc xs ys zs)

-- a statement's events, and then those of the rest
pub events_step : (es new : List Event) (own : Declared) (me k n : ℕ) (x : S) (rest : Body) (s t : State)
    → new ≡ es ++ events_one this_way own me k x s → t ≡ serial_one x s → n ≡ k + size_one x
    → new ++ events this_way own me n rest t ≡ es ++ events this_way own me k (Next x rest) s
events_step es new own me k n x rest s t is behind place =
    ap (λ l. l ++ events this_way own me n rest t) is
    ∙ ap (λ m. (es ++ events_one this_way own me k x s) ++ events this_way own me m rest t) place
    ∙ ap (λ u. (es ++ events_one this_way own me k x s) ++ events this_way own me (k + size_one x) rest u) (behind ∙ sym (after_one-this x s))
    ∙ app-assoc es (events_one this_way own me k x s) _

either-first : {A : Type 0} (n : ℕ) (one two : A) → n ≢ 0 → either n one two ≡ one
either-first n one two apart = ap (λ b. if b then two else one) (eq_apart n 0 apart)

-- an `if` that takes its second body
pub events_second : (es new more : List Event) (own : Declared) (me k n : ℕ) (e : E) (a b : Body) (s t : State) (uses : List Use)
    → more ≡ es ++ event me k Touches uses ∷ [] → uses ≡ map (use_as Reads) (reads_now (cell_of s.cells) e) → val (cell_of s.cells) e ≡ 0
    → new ≡ more ++ events this_way own me n b t → t ≡ bump 0 1 s → n ≡ k + 1 + size a
    → new ≡ es ++ events_one this_way own me k (If e a b) s
events_second es new more own me k n e a b s t uses put reads zero-is ran at place =
    let one = events this_way own me (k + 1) a (bump 0 1 s) in
    let two = events this_way own me (k + 1 + size a) b (bump 0 1 s) in
    let taken : events this_way own me n b t ≡ either (val (cell_of s.cells) e) one two =
    ap (λ m. events this_way own me m b t) place ∙ ap (λ u. events this_way own me (k + 1 + size a) b u) at
    ∙ sym (ap (λ m. either m one two) zero-is) in
    ran ∙ ap (λ l. l ++ events this_way own me n b t) put ∙ app-assoc es (event me k Touches uses ∷ []) _
    ∙ ap (λ l. es ++ event me k Touches uses ∷ l) taken
    ∙ ap (λ u. es ++ event me k Touches u ∷ either (val (cell_of s.cells) e) one two) reads

-- one that takes its first
pub events_first : (es new more : List Event) (own : Declared) (me k n : ℕ) (e : E) (a b : Body) (s t : State) (uses : List Use)
    → more ≡ es ++ event me k Touches uses ∷ [] → uses ≡ map (use_as Reads) (reads_now (cell_of s.cells) e) → val (cell_of s.cells) e ≢ 0
    → new ≡ more ++ events this_way own me n a t → t ≡ bump 0 1 s → n ≡ k + 1
    → new ≡ es ++ events_one this_way own me k (If e a b) s
events_first es new more own me k n e a b s t uses put reads apart ran at place =
    let one = events this_way own me (k + 1) a (bump 0 1 s) in
    let two = events this_way own me (k + 1 + size a) b (bump 0 1 s) in
    let taken : events this_way own me n a t ≡ either (val (cell_of s.cells) e) one two =
    ap (λ m. events this_way own me m a t) place ∙ ap (λ u. events this_way own me (k + 1) a u) at
    ∙ sym (either-first (val (cell_of s.cells) e) one two apart) in
    ran ∙ ap (λ l. l ++ events this_way own me n a t) put ∙ app-assoc es (event me k Touches uses ∷ []) _
    ∙ ap (λ l. es ++ event me k Touches uses ∷ l) taken
    ∙ ap (λ u. es ++ event me k Touches u ∷ either (val (cell_of s.cells) e) one two) reads

-- what a body gives from a place of its loop on is what it gives from the next
pub events_loop : (es new all : List Event) (own : Declared) (me k n : ℕ) (x : S) (rest left : Body) (s t : State)
    → left ≡ Next x rest → es ++ events this_way own me k left s ≡ all
    → new ≡ es ++ events_one this_way own me k x s → t ≡ serial_one x s → n ≡ k + size_one x → new ++ events this_way own me n rest t ≡ all
events_loop es new all own me k n x rest left s t split so_far is behind place =
    events_step es new own me k n x rest s t is behind place ∙ sym (ap (λ b. es ++ events this_way own me k b s) split) ∙ so_far
