-- What values of the code tell.
use Rattle.std.specs.Prelude.{ℕ, List, Option, Some, None, string_bytes}
use Rattle.ot_model.specs.Programs.{arrays_of}
use Rattle.ot_model.specs.declared.shape.ArrayShape.{ArrayShape}
use Rattle.ot_book.specs.Answers.{Told, Accepted, Arrays, Refused, Offends}
use Rattle.ot_client_mirror.specs.declared.heard.Heard.{Heard}
use Rattle.ot_client_mirror.specs.declared.heard.Heard.TheVariants as v
use Rattle.ot_client_mirror.specs.declared.heard.Refusal.{Refusal}

abbrev pub refused_at : ℕ → Option ℕ → Told
refused_at code None = Refused code
refused_at code (Some place) = Offends code place

abbrev pub told_as_refusal : Refusal → Told
told_as_refusal refusal = refused_at refusal.code refusal.place

abbrev pub told_as : Heard → Told
told_as v.Taken = Accepted
told_as (v.Listed arrays) = Arrays (arrays_of arrays.items)
told_as (v.Refused refusal) = told_as_refusal refusal

abbrev pub sized_as : ArrayShape → List ℕ × ℕ
sized_as array = (string_bytes array.name, array.len)
