use Rattle.ot_file_text.specs.declared.place.Place.TheVariants.{Outside}
use Rattle.ot_file_text.specs.declared.comment.Part.TheVariants.{Json}
use Rattle.ot_file_text.proofs.LawLemmas.{blanked_in-at}
use Rattle.ot_file_text.proofs.laws.blanked_shows_spaces.Goals as goal

pub returns : goal.returns
returns c = blanked_in-at (Json Outside)
