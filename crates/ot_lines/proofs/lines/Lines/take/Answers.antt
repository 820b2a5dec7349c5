use Rattle.std.proofs.Common.{◌≤◌, ◌+◌, ◌++◌, length, ap, ◌∙◌, arith}
use Rattle.std.specs.Prelude.{slice_range}
use Rattle.ot_lines.specs.Lines.{Hearing}
use Rattle.ot_lines.specs.Cutting.{bytes_taken}
use Rattle.ot_lines.proofs.Cutting.{long, is_taken}
use Rattle.ot_lines.proofs.lines.Lines.take.Goals as goal

pub returns : goal.returns
returns c =
    let s = c.self.inside in
    let count = long s.room.items s.from s.to c.self.invariant.0 (omega (arith, c.self.invariant.1, s.room.ok.0)) in
    let within : s.from + c.args.count ≤ s.to = omega (arith, c.requires.there, c.self.invariant.0, count, ap (λ (h : Hearing). length h.ahead) c.self.view_is) in
    is_taken s.line.items c.extend_from_slice.new.self.items s.room.items s.from s.to c.args.count s.left s.longest within
    ((rw c.if-is_err.ensures.negation at c.extend_from_slice.ensures.items) ∙ ap (λ xs. s.line.items ++ slice_range xs s.from (s.from + c.args.count)) c.as_slice.ensures.value)
    ∙ ap (bytes_taken c.args.count) c.self.view_is
