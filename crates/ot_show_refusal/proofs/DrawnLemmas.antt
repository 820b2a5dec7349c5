-- What is drawn of a book, where there was memory for it.
use Rattle.std.proofs.Common.{◌≡◌, ◌-◌, ℕ, List, [], ◌∷◌, map, refl, ap, length}
use Rattle.std.specs.Prelude.{Option, Some, None, Result, Ok, Err, IfOk, IfSome, slice_get, string_bytes}
use Rattle.ot_model.specs.Programs.{arrays_of}
use Rattle.ot_model.specs.declared.shape.ArrayShape.{ArrayShape}
use Rattle.ot_check.specs.Offences.{code_of}
use Rattle.ot_check.specs.declared.fault.Offence.{Offence}
use Rattle.ot_store.specs.Arrays.{shape_in}
use Rattle.ot_book.specs.Answers as r
use Rattle.ot_book.specs.Books.{Register}
use Rattle.ot_show_print.specs.Shown.{names_of}
use Rattle.ot_show_refusal.specs.Drawn.{Draws, DrawsLast}
use Rattle.ot_show_refusal.specs.declared.refused.Refused.{Refused}

-- the arrays have the names of the shape
pub same_names : (arrays : List ArrayShape) → names_of arrays ≡ map (λ (a : List ℕ × ℕ). a.0) (arrays_of arrays)
same_names [] = refl
same_names (a ∷ arrays) = ap (λ names. string_bytes a.name ∷ names) (same_names arrays)

pub draws_last : {E : Type 0} (result : Result (Option Refused) E) (book : Register) (line : List ℕ) (offence : Offence) (place : ℕ) →
    slice_get book.log (length book.log - 1) ≡ Some (line, r.Offends (code_of offence) place) →
    IfOk result (λ drawn. IfSome drawn (λ refused. Draws (shape_in book.limits book.store) line offence place refused)) → IfOk result (λ drawn. IfSome drawn (λ refused. DrawsLast book refused))
draws_last (Ok None) book line offence place last h = h
draws_last (Ok (Some refused)) book line offence place last h = record { line = line; offence = offence; place = place; last = last; draws = h }
draws_last (Err why) book line offence place last h = h
