-- The walk to a statement, step by step.
use Rattle.std.proofs.Common.{◌≡◌, ◌≢◌, ℕ, ◌+◌, true, false, List, sym, ap, ◌∙◌, arith}
use Rattle.std.specs.Prelude.{◌==◌, if◌then◌else◌, Option, Some, None, Result, Ok, Err}
use Rattle.std.specs.Option.{option_or}
use Rattle.std.proofs.lemmas.Bool.Decides.{nat_tests}
use Rattle.ot_model.specs.Tree.{E, S, Set, Fold, If, Task, Wait, Group, Body, End, Next, size, size_one}
use Rattle.ot_model.specs.Names.{NamedIn, OneNamedIn}
use Rattle.ot_parts.proofs.FitLemmas.{value-fits}
use Rattle.ot_check.specs.Offences.{Declared}
use Rattle.ot_c_judge.specs.Fits.{Fits, FitsOne}
use Rattle.ot_c_judge.specs.Lacks.{Stood, stood_at, stood_in_body, found_one, found_inside}
use Rattle.ot_c_judge.specs.FoundView.{Follows}
use Rattle.ot_c_judge.specs.declared.found.Stood.{Stood as CodeStood}

-- a program whose cells are there fits
mutual
  pub one-fits : (lens : List ℕ) (x : S) → OneNamedIn lens x → FitsOne x
  one-fits lens (Set c e) named = value-fits lens e named.1
  one-fits lens (Fold o c e) named = value-fits lens e named.1
  one-fits lens (If e a b) named = (value-fits lens e named.0, body-fits lens a named.1, body-fits lens b named.2)
  one-fits lens (Task d b) named = body-fits lens b named.1
  one-fits lens (Wait w) named = tt
  one-fits lens (Group o cs b) named = body-fits lens b named.1

  pub body-fits : (lens : List ℕ) (b : Body) → NamedIn lens b → Fits b
  body-fits lens End named = tt
  body-fits lens (Next x rest) named = (one-fits lens x named.0, body-fits lens rest named.1)

here-is : (k place : ℕ) → k ≡ place → (k == place) ≡ true
here-is k place is = grind (arith, nat_tests)

here-not : (k place : ℕ) → k ≢ place → (k == place) ≡ false
here-not k place other = grind (arith, nat_tests)

pub found-here : (place : ℕ) (own : Declared) (k : ℕ) (x : S) → k ≡ place → found_one place own k x ≡ Some (stood_at own x)
found-here place own k x is = ap (λ b. if b then Some (stood_at own x) else found_inside place own k x) (here-is k place is)

found-past : (place : ℕ) (own : Declared) (k : ℕ) (x : S) → k ≢ place → found_one place own k x ≡ found_inside place own k x
found-past place own k x other = ap (λ b. if b then Some (stood_at own x) else found_inside place own k x) (here-not k place other)

follows_as : (one two : Option Stood) (r : Result ℕ CodeStood) → one ≡ two → Follows two r → Follows one r
follows_as one two (Ok next) is h = is ∙ h
follows_as one two (Err at) is h = is ∙ h

-- at another place
pub follows_past : (place : ℕ) (own : Declared) (k : ℕ) (x y : S) (r : Result ℕ CodeStood) → k ≢ place → x ≡ y → Follows (found_inside place own k y) r → Follows (found_one place own k x) r
follows_past place own k x y r other is h = follows_as (found_one place own k x) (found_inside place own k y) r (ap (found_one place own k) is ∙ found-past place own k y other) h

-- an `if` whose first body was walked, and then the second
pub follows_other : (place : ℕ) (own : Declared) (k n : ℕ) (e : E) (a b : Body) (r : Result ℕ CodeStood) → n ≡ k + 1 + size a → stood_in_body place own (k + 1) a ≡ None →
    Follows (stood_in_body place own n b) r → Follows (found_inside place own k (If e a b)) r
follows_other place own k n e a b r at none h =
    follows_as (found_inside place own k (If e a b)) (stood_in_body place own n b) r
    (ap (λ o. option_or o (stood_in_body place own (k + 1 + size a) b)) none ∙ ap (λ m. stood_in_body place own m b) (sym at)) h

pub found-first : (place : ℕ) (own : Declared) (k : ℕ) (e : E) (a b : Body) (at : Stood) → stood_in_body place own (k + 1) a ≡ Some at → found_inside place own k (If e a b) ≡ Some at
found-first place own k e a b at h = ap (λ o. option_or o (stood_in_body place own (k + 1 + size a) b)) h

-- ---- a body

pub found-next : (place : ℕ) (own : Declared) (k n : ℕ) (x : S) (more : Body) → n ≡ k + size_one x → found_one place own k x ≡ None → stood_in_body place own k (Next x more) ≡ stood_in_body place own n more
found-next place own k n x more at none = ap (λ o. option_or o (stood_in_body place own (k + size_one x) more)) none ∙ ap (λ m. stood_in_body place own m more) (sym at)

pub found-now : (place : ℕ) (own : Declared) (k : ℕ) (x : S) (more : Body) (at : Stood) → found_one place own k x ≡ Some at → stood_in_body place own k (Next x more) ≡ Some at
found-now place own k x more at h = ap (λ o. option_or o (stood_in_body place own (k + size_one x) more)) h
