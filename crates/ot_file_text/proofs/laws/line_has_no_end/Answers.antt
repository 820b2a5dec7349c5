use Rattle.std.proofs.Common.{false}
use Rattle.ot_file_text.specs.declared.place.Place.TheVariants.{Outside}
use Rattle.ot_file_text.proofs.LawLemmas.{line_in-no_end}
use Rattle.ot_file_text.proofs.laws.line_has_no_end.Goals as goal

pub returns : goal.returns
returns c = line_in-no_end Outside false
