-- What becomes of a part of a file, or where and why nothing does.
use Rattle.std.specs.Prelude.{◌≡◌, ℕ, Result, Ok, Err}
use Rattle.ot_c_scope.specs.declared.fault.CFault.{CFault}
use Rattle.ot_c_scope.specs.declared.fault.CFault.TheVariants as errors
use Rattle.ot_c_scope.specs.declared.reason.Reason.{Reason}

-- how many words are left where it stands, and why that is outside of the language
abbrev pub Refusal : Type 0
Refusal = ℕ × Reason

infixl 10 ◌>>=◌
abbrev pub ◌>>=◌ : {A B : Type 0} → Result A Refusal → (A → Result B Refusal) → Result B Refusal
(Ok x) >>= f = f x
(Err e) >>= f = Err e

-- what a function returned, seen by view, is what the definition gives, unless memory ran out
abbrev pub FailsAs : {Y : Type 0} → CFault → Result Y Refusal → Type 0
FailsAs errors.Memory given = Unit {0}
FailsAs (errors.Outside at why) given = given ≡ Err (at, why)

abbrev pub GivesAs : {X Y : Type 0} → (X → Y) → Result X CFault → Result Y Refusal → Type 0
GivesAs view (Ok x) given = given ≡ Ok (view x)
GivesAs view (Err e) given = FailsAs e given
