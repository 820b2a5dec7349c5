-- What a form makes of something, or why it can't; and what a function of the code returned, beside that.
use Rattle.std.specs.Prelude.{◌≡◌, List, [], ◌∷◌, Option, Some, None, Result, Ok, Err}
use Rattle.ot_exec_state.specs.declared.fault.Reason.{Reason}
use Rattle.ot_exec_state.specs.declared.fault.Halt.{Halt}
use Rattle.ot_exec_state.specs.declared.fault.Halt.TheVariants as halts

infixl 10 ◌>>=◌
abbrev pub ◌>>=◌ : {A B : Type 0} → Result A Reason → (A → Result B Reason) → Result B Reason
(Ok x) >>= f = f x
(Err r) >>= f = Err r

-- what is there, or else this is the reason
abbrev pub found_or : {A : Type 0} → Reason → Option A → Result A Reason
found_or r (Some x) = Ok x
found_or r None = Err r

-- one after the other
unfoldable pub each : {A B : Type 0} → (A → B → Result B Reason) → List A → B → Result B Reason
each one [] b = Ok b
each one (x ∷ xs) b = one x b >>= each one xs

-- what a function returned, seen by view, is what was told, unless memory ran out
abbrev pub Fails : {Y : Type 0} → Halt → Result Y Reason → Type 0
Fails halts.Memory told = Unit {0}
Fails (halts.For r) told = told ≡ Err r

abbrev pub Gives : {X Y : Type 0} → (X → Y) → Result X Halt → Result Y Reason → Type 0
Gives view (Ok x) told = told ≡ Ok (view x)
Gives view (Err e) told = Fails e told
