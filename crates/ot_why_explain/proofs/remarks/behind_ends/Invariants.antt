use Rattle.std.proofs.Common.{◌≡◌, take}
use Rattle.std.specs.Prelude.{string_bytes}
use Rattle.ot_why_reason.specs.Places.{texts_of}
use Rattle.ot_why_explain.specs.Remarks.{behind_ends}
use Rattle.ot_why_explain.proofs.remarks.behind_ends.Given as goal

abbrev pub invariant-loop-line : goal.invariant-loop-line
invariant-loop-line l = string_bytes l.said ≡ behind_ends (texts_of (take l.line-index l.lines))
