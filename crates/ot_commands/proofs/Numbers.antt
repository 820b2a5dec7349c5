-- What `clap` reads as a number.
use Rattle.std.proofs.Common.{◌≡◌, ◌∙◌, ◌<◌, ◌≤◌, ◌^◌, ℕ, Option, Some, None, Result, Ok, Err, refl, sym, ap, subst, arith}
use Rattle.std.proofs.lemmas.Bool.{le-leb}
use Rattle.std.specs.Str.Parse.{ParsesUnsigned, digits_value, without_leading_plus}
use Rattle.clap.specs.Values.{IsUnsignedIn}
use Rattle.clap.specs.Matches.{ReadsOne, one_text}
use Rattle.clap.specs.Walk.{Text, one_of, rows_of}
use Rattle.clap.specs.declared.parser.matches.Found.{Found}
use Rattle.clap.proofs.WalkLemmas.{one_text-rows}
use Rattle.ot_commands.specs.Rules.{IsRead, within}

-- a number in its range stays
within-some : (most v : ℕ) → 1 ≤ v → v ≤ most → within most (Some v) ≡ Some v
within-some most v above below = rw (le-leb 1 v above, le-leb v most below) refl

-- what is read of a text in the range is its number
number_in : {E : Type 0} (G : Text → Result ℕ E → Type 0) (most : ℕ) (text : Text) (got : Option ℕ) → most < 2 ^ 32
    → ((u : Text) (x : Result ℕ E) → G u x → ParsesUnsigned 32 10 u x) → ReadsOne G text got → IsUnsignedIn 1 most text
    → within most got ≡ Some (digits_value 10 (without_leading_plus text))
number_in G most text (Some v) fits only read range =
    let parsed = only text (Ok v) read in
    within-some most v (subst (λ n. 1 ≤ n) (sym parsed.1) range.2) (subst (λ n. n ≤ most) (sym parsed.1) range.3) ∙ ap Some parsed.1
number_in G most text None fits only read range =
    let below = range.3 in
    absurd (only text (Err read.0) read.1 (range.0, omega (arith, below, fits)))

pub IsRead-within : {E : Type 0} (G : Text → Result ℕ E → Type 0) (most : ℕ) (f : Found) (id : Text) (got : Option ℕ) → most < 2 ^ 32
    → ((u : Text) (x : Result ℕ E) → G u x → ParsesUnsigned 32 10 u x)
    → (one_text f id ≡ None → got ≡ None) → ((t : Text) → one_text f id ≡ Some t → ReadsOne G t got)
    → IsRead most (one_of id (rows_of f)) (within most got)
IsRead-within G most f id got fits only none value = go (one_of id (rows_of f)) (one_text-rows f id)
  where
    go : (o : Option Text) → one_text f id ≡ o → IsRead most o (within most got)
    go None e = ap (within most) (none e)
    go (Some t) e = λ range. number_in G most t got fits only (value t e) range
