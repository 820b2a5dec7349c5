use Rattle.ot_file_text.specs.declared.place.Place.TheVariants.{Outside}
use Rattle.ot_file_text.specs.declared.comment.Part.TheVariants.{Json}
use Rattle.ot_file_text.proofs.LawLemmas.{length-blanked_in}
use Rattle.ot_file_text.proofs.laws.blanked_keeps_its_length.Goals as goal

pub returns : goal.returns
returns c = length-blanked_in (Json Outside)
