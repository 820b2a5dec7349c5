-- The two profiles of a reading. Their type is `ot_program`'s own, which no other crate can name: here it is the type that a
-- test of profiles takes, and each profile is what the word that names it tells.
use Rattle.std.proofs.Common.{◌≡◌, Bool, true, Option, Some, None, codes, refl, true≢false, sym}
use Rattle.std.specs.Prelude.{is_some}
use Rattle.serde_json.specs.Data.{string}
use Rattle.ot_program.specs.Meanings.{is_one, profile_of}

abbrev taken : (A : Type 0) → (A → Bool) → Type 0
taken A test = A

abbrev told : (A : Type 0) (o : Option A) → is_some o ≡ true → A
told A (Some x) h = x
told A None h = absurd (true≢false (sym h))

abbrev pub Profile : Type 0
Profile = taken _ is_one

abbrev pub One : Profile
One = told _ (profile_of (string (codes "program"))) refl

abbrev pub Two : Profile
Two = told _ (profile_of (string (codes "program2"))) refl
