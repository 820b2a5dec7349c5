use Rattle.std.proofs.Common.{◌∙◌, sym}
use Rattle.ot_race_ways.proofs.known.known_number.Goals as goal

pub number_of-requires : goal.number_of-requires
number_of-requires c = sym c.names_none.ensures ∙ c.if-names_none.true
