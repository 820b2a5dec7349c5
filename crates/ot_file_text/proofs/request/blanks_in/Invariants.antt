use Rattle.std.proofs.Common.{◌≡◌, ◌+◌, drop}
use Rattle.ot_file_text.specs.Cuts.{blanks_in}
use Rattle.ot_file_text.proofs.request.blanks_in.Given as goal

abbrev pub invariant-loop-index : goal.invariant-loop-index
invariant-loop-index l = l.index + blanks_in (drop l.index l.text) ≡ blanks_in l.text
