use Rattle.ot_file_text.specs.declared.place.Place.TheVariants.{Outside}
use Rattle.ot_file_text.proofs.LawLemmas.{blanked_in-clean}
use Rattle.ot_file_text.proofs.laws.blanked_without_slashes.Goals as goal

pub returns : goal.returns
returns c = blanked_in-clean Outside
