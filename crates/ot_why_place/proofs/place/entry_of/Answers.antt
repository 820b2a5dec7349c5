use Rattle.ot_why_place.specs.Spots.{spots_of}
use Rattle.serde_json.specs.View.{view}
use Rattle.ot_why_place.proofs.PlaceLemmas.{sought_among_all}
use Rattle.ot_why_place.proofs.place.entry_of.Goals as goal

pub returns : goal.returns
returns c = rw (← sought_among_all c.args.index (spots_of (view c.args.request.now))) c.sought.ensures
