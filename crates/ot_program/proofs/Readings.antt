-- What holds of each part that is read holds of what is made of them.
use Rattle.std.proofs.Common.{Result, Ok, Err, IfOk}
use Rattle.std.specs.Prelude.{⊤}
use Rattle.ot_program.specs.declared.fault.Refusal.{Refusal}
use Rattle.ot_program.specs.declared.fault.ProgramFault.{ProgramFault}
use Rattle.ot_program.specs.walk.Reading.{◌>>=◌}
use Rattle.ot_program.specs.Returned.{Gives}

pub ok_then : {A B : Type 0} (r : Result A Refusal) (k : A → Result B Refusal) (P : A → Type 0) (Q : B → Type 0)
    → IfOk r P → ((x : A) → P x → IfOk (k x) Q) → IfOk (r >>= k) Q
ok_then (Ok x) k P Q h f = f x h
ok_then (Err c) k P Q h f = tt

pub ok_any : {A : Type 0} (r : Result A Refusal) → IfOk r (λ x. ⊤)
ok_any (Ok x) = tt
ok_any (Err c) = tt

-- what holds of each reading holds of what a function gives of it
pub given : {X A : Type 0} (view : X → A) (x : Result X ProgramFault) (r : Result A Refusal) (P : A → Type 0)
    → Gives view x r → IfOk r P → IfOk x (λ y. P (view y))
given view (Ok x) r P gives h = rw gives at h
given view (Err e) r P gives h = tt
