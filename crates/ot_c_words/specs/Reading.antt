-- Reading from left to right, with the first fault that is met, whatever a reader's faults are.
use Rattle.std.specs.Prelude.{◌≡◌, ℕ, zero, suc, Bool, List, ◌∷◌, length, Result, Ok, Err, if◌then◌else◌}
use denote.Enum.Bare.{sameb}
use Rattle.ot_c_words.specs.contracts.mark.Mark.{the_type as marks}
use Rattle.ot_c_words.specs.declared.fault.ReadError.{ReadError}
use Rattle.ot_c_words.specs.declared.fault.ReadError.TheVariants as errors
use Rattle.ot_c_words.specs.declared.mark.Mark.{Mark}
use Rattle.ot_c_words.specs.declared.word.Name.{Name}
use Rattle.ot_c_words.specs.declared.word.Word.{Word}
use Rattle.ot_c_words.specs.declared.word.Word.TheVariants as w

infixl 10 ◌>>=◌
abbrev pub ◌>>=◌ : {A B F : Type 0} → Result A F → (A → Result B F) → Result B F
(Ok x) >>= f = f x
(Err e) >>= f = Err e

-- what a function returned, seen by view, is what reading gives, unless memory ran out
abbrev pub Fails : {Y F : Type 0} → ReadError F → Result Y F → Type 0
Fails errors.Memory read = Unit {0}
Fails (errors.Fault f) read = read ≡ Err f

abbrev pub Gives : {X Y F : Type 0} → (X → Y) → Result X (ReadError F) → Result Y F → Type 0
Gives view (Ok x) read = read ≡ Ok (view x)
Gives view (Err e) read = Fails e read

-- step by step, until one says that it was the last; where none does, a fault with the number of words that are left
unfoldable pub steps : {A F : Type 0} → (ℕ → F) → (A → List Word → Result (A × Bool × List Word) F) → ℕ → A → List Word → Result (A × List Word) F
steps fault step zero a ws = Err (fault (length ws))
steps fault step (suc t) a ws = step a ws >>= λ x. if x.1 then steps fault step t x.0 x.2 else Ok (x.0, x.2)

-- ---- a mark that has to stand at the front, and a name; else a fault with the number of words that are left

unfoldable pub behind_mark : {F : Type 0} → (ℕ → F) → Mark → List Word → Result (List Word) F
behind_mark fault wanted (w.Mark mark ∷ ws) = if sameb marks mark wanted then Ok ws else Err (fault (length (w.Mark mark ∷ ws)))
behind_mark fault wanted ws = Err (fault (length ws))

unfoldable pub name_at : {F : Type 0} → (ℕ → F) → List Word → Result (Name × List Word) F
name_at fault (w.Name n ∷ ws) = Ok (n, ws)
name_at fault ws = Err (fault (length ws))
