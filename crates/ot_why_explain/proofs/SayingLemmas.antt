-- Remarks, by what is said of a book's last request.
use Rattle.std.proofs.Common.{◌≡◌, ℕ, List, sym, subst}
use Rattle.std.specs.Prelude.{Option, Some, Result, Ok, Err, IfOk, Vec}
use Rattle.std.specs.declared.alloc.Global.{Global}
use Rattle.ot_why_explain.specs.Explaining.{AreOn, OpensWith, with_code}

-- each line of a text that begins with the code
pub on_known : {E : Type 0} (code : Option ℕ) (bytes : List ℕ) (result : Result (Vec ℕ Global) E) → (n : ℕ) → code ≡ Some n → (first : List ℕ) → bytes ≡ with_code n first →
    IfOk result (λ out. (c : ℕ) (f : List ℕ) → bytes ≡ with_code c f → OpensWith c out.items) → IfOk result (λ out. AreOn code out.items)
on_known code bytes (Ok out) n is first begins opens = subst (λ c. AreOn c out.items) (sym is) (opens n first begins)
on_known code bytes (Err why) n is first begins opens = tt
