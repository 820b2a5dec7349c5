use Rattle.std.proofs.Common.{◌≡◌, suc, ◌-◌, arith}
use Rattle.ot_why_place.specs.Spots.{spots_of}
use Rattle.serde_json.specs.View.{view}
use Rattle.ot_why_place.proofs.PlaceLemmas.{sought_among_statements}
use Rattle.ot_why_place.proofs.place.place_of.Goals as goal

pub returns : goal.returns
returns c =
    let one_more : c.args.number ≡ suc (c.args.number - 1) = omega (arith, c.if-number-eq0.false) in
    rw (one_more, ← sought_among_statements (c.args.number - 1) (spots_of (view c.args.request.now))) c.sought.ensures
