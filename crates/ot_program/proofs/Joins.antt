-- What is returned for two parts is what is told of two parts.
use Rattle.std.proofs.Common.{◌≡◌, Result, Ok, Err, refl, sym, ap, ◌∙◌, subst}
use Rattle.std.specs.Prelude.{IsErrAnd, MatchResult}
use Rattle.ot_program.specs.declared.fault.Refusal.{Refusal}
use Rattle.ot_program.specs.declared.fault.ProgramFault.{ProgramFault}
use Rattle.ot_program.specs.declared.fault.ProgramFault.TheVariants.{Memory, Refused}
use Rattle.ot_program.specs.walk.Reading.{◌>>=◌, both_of}
use Rattle.ot_program.specs.Returned.{Fails, Gives}
use Rattle.ot_program.specs.walk.Returned.{join}

pub join_gives : {X Y A B : Type 0} (f : X → A) (g : Y → B) (x : Result X ProgramFault) (y : Result Y ProgramFault)
    (r : Result A Refusal) (s : Result B Refusal) → Gives f x r → Gives g y s → Gives (λ (p : X × Y). (f p.0, g p.1))
    (join x y) (both_of r s)
join_gives f g (Ok x) (Ok y) r s p q = rw (p, q) refl
join_gives f g (Ok x) (Err Memory) r s p q = tt
join_gives f g (Ok x) (Err (Refused c)) r s p q = rw (p, q) refl
join_gives f g (Err Memory) (Ok y) r s p q = tt
join_gives f g (Err (Refused c)) (Ok y) r s p q = rw (p, q) refl
join_gives f g (Err Memory) (Err e) r s p q = tt
join_gives f g (Err (Refused c)) (Err Memory) r s p q = tt
join_gives f g (Err (Refused c)) (Err (Refused d)) r s p q = rw (p, q) refl

-- a reading that fails goes on to nothing
pub Fails-then : {A B : Type 0} (e : ProgramFault) (r : Result A Refusal) (k : A → Result B Refusal) → Fails e r
    → Fails e (r >>= k)
Fails-then Memory r k h = tt
Fails-then (Refused c) r k h = rw h refl

pub join_fails : {X Y A B C : Type 0} (f : X → A) (g : Y → B) (x : Result X ProgramFault) (y : Result Y ProgramFault)
    (r : Result A Refusal) (s : Result B Refusal) (k : A × B → Result C Refusal) (e : ProgramFault)
    → join x y ≡ Err e → Gives f x r → Gives g y s → Fails e (both_of r s >>= k)
join_fails f g x y r s k e is p q = Fails-then e (both_of r s) k (rw is at (join_gives f g x y r s p q))

-- the first of two parts that were read
pub join_reads : {X Y A : Type 0} (view : X → A) (x : Result X ProgramFault) (y : Result Y ProgramFault) (r : Result A Refusal)
    (p : X × Y) → Ok p ≡ join x y → Gives view x r → r ≡ Ok (view p.0)
join_reads {X} {Y} view (Ok a) (Ok b) r p is h = let e : p ≡ (a, b) = cc in h ∙ ap (λ (q : X × Y). Ok (view q.0)) (sym e)
join_reads {X} {Y} view (Ok a) (Err f) r p is h = absurd cc
join_reads view (Err e) (Ok b) r p is h = absurd cc
join_reads view (Err e) (Err f) r p is h = absurd cc

-- ---- a fault that is passed on

pub gives_refused : {X A : Type 0} (see : X → A) (result : Result X ProgramFault) (c : Refusal) (read : Result A Refusal)
    → IsErrAnd result (λ e. e ≡ Refused c) → read ≡ Err c → Gives see result read
gives_refused see (Ok x) c read h is = absurd h
gives_refused see (Err e) c read h is = rw h is

pub match_refused : {A E : Type 0} (r : Result A E) (c : E) (P : A → Type 0) (Q : E → Type 0) → IsErrAnd r (λ e. e ≡ c) → Q c → MatchResult r P Q
match_refused (Ok x) c P Q h q = absurd h
match_refused (Err e) c P Q h q = subst Q (sym h) q
