use Rattle.std.proofs.Common.{◌≡◌, ◌+◌, drop}
use Rattle.ot_file_text.specs.Cuts.{stray_in}
use Rattle.ot_file_text.specs.declared.place.Place.TheVariants.{Outside}
use Rattle.ot_file_text.proofs.request.stray_in.Given as goal

abbrev pub invariant-loop-index : goal.invariant-loop-index
invariant-loop-index l = l.index + stray_in l.place (drop l.index l.text) ≡ stray_in Outside l.text
