-- What a value of the code tells.
use Rattle.std.specs.Prelude.{ℕ, map}
use Rattle.ot_model.specs.Programs.{arrays_of}
use Rattle.ot_check.specs.Offences.{code_of}
use Rattle.ot_book.specs.Answers as r
use Rattle.ot_book.specs.Codes.{code_number}
use Rattle.ot_book.specs.declared.told.Told.{Told}
use Rattle.ot_book.specs.declared.told.Told.TheVariants as v
use Rattle.ot_book.specs.declared.reply.Reply.{Reply}

abbrev pub told_of : Told → r.Told
told_of v.Accepted = r.Accepted
told_of (v.Cells values) = r.Cells values.items
told_of (v.Arrays arrays) = r.Arrays (arrays_of arrays.items)
told_of (v.Used units) = r.Used units
told_of (v.Done tasks units shows) = r.Done tasks units (map (λ s. s.items) shows.items)
told_of (v.Refused code) = r.Refused (code_number code)
told_of (v.Offends offence place) = r.Offends (code_of offence) place
told_of v.Lost = r.Lost

-- a reply: its number and what it tells
abbrev pub reply_of : Reply → ℕ × r.Told
reply_of reply = (reply.number, told_of reply.told.now)
