-- What is said of what a reply tells.
use Rattle.std.proofs.Common.{◌≡◌, ℕ, List, refl, sym, ap, ◌∙◌, subst}
use Rattle.std.specs.Prelude.{Option, Some, None, Result, Ok, Err, IfOk, Vec, option_map, option_and_then}
use Rattle.std.specs.declared.alloc.Global.{Global}
use Rattle.ot_book.specs.Books.{Register, last_told}
use Rattle.ot_book.specs.Answers.{Told, code_in}
use Rattle.ot_why_explain.specs.Explaining.{AreOn, OpensWith, last_code}
use Rattle.ot_client_mirror.specs.HeardView.{refused_at, told_as_refusal}
use Rattle.ot_client_mirror.specs.declared.heard.Refusal.{Refusal}

code_at : (code : ℕ) (place : Option ℕ) → code_in (refused_at code place) ≡ Some code
code_at code None = refl
code_at code (Some place) = refl

code_last : (o : Option (ℕ × Told)) → option_and_then (λ (r : ℕ × Told). code_in r.1) o ≡ option_and_then code_in (option_map (λ (r : ℕ × Told). r.1) o)
code_last None = refl
code_last (Some r) = refl

-- a book that told the same last tells the same code
pub same_code : (book : Register) (refusal : Refusal) (told : Told) → Some told ≡ last_told book → told ≡ told_as_refusal refusal → last_code book ≡ Some refusal.code
same_code book refusal told last is =
    code_last _ ∙ ap (option_and_then code_in) (sym last) ∙ ap code_in is ∙ code_at refusal.code refusal.place

-- remarks on the reply that tells it
pub on_refusal : {E : Type 0} (refusal : Refusal) (o : Option Told) (result : Result (Vec ℕ Global) E) → o ≡ Some (told_as_refusal refusal) → IfOk result (λ text. OpensWith refusal.code text.items) →
    IfOk result (λ text. AreOn (option_and_then code_in o) text.items)
on_refusal refusal o (Ok text) told opens = subst (λ c. AreOn c text.items) (sym (ap (option_and_then code_in) told ∙ code_at refusal.code refusal.place)) opens
on_refusal refusal o (Err why) told opens = tt

-- where a book told the code last
pub on_last : {E : Type 0} (book : Register) (code : ℕ) (result : Result (Vec ℕ Global) E) → last_code book ≡ Some code → IfOk result (λ text. AreOn (last_code book) text.items) →
    IfOk result (λ text. OpensWith code text.items)
on_last book code (Ok text) is are = subst (λ c. AreOn c text.items) is are
on_last book code (Err why) is are = tt
