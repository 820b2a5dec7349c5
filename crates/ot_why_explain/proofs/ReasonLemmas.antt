-- Reasons, where there was memory for them.
use Rattle.std.proofs.Common.{◌≡◌, ◌∙◌, ◌<◌, ℕ, List, Vec, Global, String, arith, ap, subst}
use Rattle.std.specs.Prelude.{Some, Result, Ok, Err, IfOk, string_bytes, vec_len}
use Rattle.std.proofs.lemmas.List.{length-map}
use Rattle.serde_json.specs.Data.{Data}
use Rattle.ot_model.specs.Programs.{Arrays}
use Rattle.ot_store.specs.Arrays.{shape_in}
use Rattle.ot_program.specs.declared.fault.Refusal.{Refusal}
use Rattle.ot_book.specs.Answers.{value_of}
use Rattle.ot_book.specs.Books.{Register}
use Rattle.ot_book.specs.declared.code.Code.{Code}
use Rattle.ot_book.specs.declared.code.Code.TheVariants.{Program}
use Rattle.ot_why_reason.specs.Places.{BeginsAt, placed_fault, texts_of}
use Rattle.ot_why_reason.specs.declared.place.Telling.TheVariants.{Line}
use Rattle.ot_why_explain.specs.Remarks.{AreReasons}

same_shape : (s t : Arrays) → s.arrays ≡ t.arrays → s.tasks ≡ t.tasks → s ≡ t
same_shape s t arrays_are tasks_are =
    ap (λ (arrays : List (List ℕ × ℕ)). record { arrays = arrays; tasks = s.tasks }) arrays_are
    ∙ ap (λ (tasks : ℕ). record { arrays = t.arrays; tasks = tasks }) tasks_are

-- the same arrays have the same fault
pub at_shape : {E : Type 0} (s t : Arrays) (r : Result (Vec (String Global) Global) E) (d : Data) (refusal : Refusal) → s.arrays ≡ t.arrays → s.tasks ≡ t.tasks →
    IfOk r (λ told. BeginsAt Line refusal (placed_fault s d) (texts_of told.items)) → IfOk r (λ told. BeginsAt Line refusal (placed_fault t d) (texts_of told.items))
at_shape s t r d refusal arrays_are tasks_are h =
    subst (λ (x : Arrays). IfOk r (λ told. BeginsAt Line refusal (placed_fault x d) (texts_of told.items))) (same_shape s t arrays_are tasks_are) h

pub are_reasons : {E : Type 0} (book : Register) (line : List ℕ) (code : Code) (r : Result (Vec (String Global) Global) E) →
    IfOk r (λ told. 0 < vec_len told) →
    ((d : Data) (refusal : Refusal) → value_of line ≡ Some d → code ≡ Program refusal →
    IfOk r (λ told. BeginsAt Line refusal (placed_fault (shape_in book.limits book.store) d) (texts_of told.items))) →
    IfOk r (λ told. AreReasons book line code (texts_of told.items))
are_reasons book line code (Ok told) some place =
    record { some = omega (arith, some, told.ok, length-map told.items (λ (s : String Global). string_bytes s)); place = place }
are_reasons book line code (Err e) some place = tt
