-- Step by step.
use Rattle.std.proofs.Common.{◌≡◌, ℕ, zero, suc, ◌+◌, ◌-◌, ◌<◌, ◌≤◌, Bool, true, false, List, length, Result, Ok, Err, refl, sym, ap, ◌∙◌, arith}
use Rattle.ot_c_words.specs.declared.fault.ReadError.{ReadError}
use Rattle.ot_c_words.specs.declared.fault.ReadError.TheVariants as errors
use Rattle.ot_c_words.specs.declared.word.Word.{Word}
use Rattle.ot_c_words.specs.Reading.{Fails, steps}

module _ {A F : Type 0} (fault : ℕ → F) (step : A → List Word → Result (A × Bool × List Word) F) where
  one_more : (t : ℕ) (a b : A) (ws vs : List Word) → step a ws ≡ Ok (b, true, vs) → steps fault step (suc t) a ws ≡ steps fault step t b vs
  unfolding steps
  one_more t a b ws vs is = rw is refl

  one_last : (t : ℕ) (a b : A) (ws vs : List Word) → step a ws ≡ Ok (b, false, vs) → steps fault step (suc t) a ws ≡ Ok (b, vs)
  unfolding steps
  one_last t a b ws vs is = rw is refl

  one_fault : (t : ℕ) (a : A) (ws : List Word) (f : F) → step a ws ≡ Err f → steps fault step (suc t) a ws ≡ Err f
  unfolding steps
  one_fault t a ws f is = rw is refl

  none_left : (a : A) (ws : List Word) → steps fault step zero a ws ≡ Err (fault (length ws))
  unfolding steps
  none_left a ws = refl

  left : (n i : ℕ) → i < n → n - i ≡ suc (n - (i + 1))
  left n i h = omega arith

  from_left : (n i : ℕ) (a : A) (ws : List Word) → i < n → steps fault step (n - i) a ws ≡ steps fault step (suc (n - (i + 1))) a ws
  from_left n i a ws h = ap (λ k. steps fault step k a ws) (left n i h)

  pub steps_more : (n i : ℕ) (a b : A) (ws vs : List Word) → i < n → step a ws ≡ Ok (b, true, vs) → steps fault step (n - (i + 1)) b vs ≡ steps fault step (n - i) a ws
  steps_more n i a b ws vs h is = sym (from_left n i a ws h ∙ one_more (n - (i + 1)) a b ws vs is)

  pub steps_last : (n i : ℕ) (a b : A) (ws vs : List Word) → i < n → step a ws ≡ Ok (b, false, vs) → steps fault step (n - i) a ws ≡ Ok (b, vs)
  steps_last n i a b ws vs h is = from_left n i a ws h ∙ one_last (n - (i + 1)) a b ws vs is

  pub steps_out : (n i : ℕ) (a : A) (ws : List Word) → n ≤ i → steps fault step (n - i) a ws ≡ Err (fault (length ws))
  steps_out n i a ws h = let none : n - i ≡ 0 = omega arith in ap (λ k. steps fault step k a ws) none ∙ none_left a ws

  pub steps_fails : (n i : ℕ) (a : A) (ws : List Word) (whole : Result (A × List Word) F) (e : ReadError F) → i < n → steps fault step (n - i) a ws ≡ whole → Fails e (step a ws) → Fails e whole
  steps_fails n i a ws whole errors.Memory h is fails = tt
  steps_fails n i a ws whole (errors.Fault f) h is fails = sym is ∙ from_left n i a ws h ∙ one_fault (n - (i + 1)) a ws f fails
