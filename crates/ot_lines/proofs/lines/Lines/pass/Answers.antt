use Rattle.std.proofs.Common.{◌≤◌, ◌+◌, length, ap, ◌∙◌, arith}
use Rattle.ot_lines.specs.Lines.{Hearing}
use Rattle.ot_lines.specs.Cutting.{byte_passed}
use Rattle.ot_lines.proofs.Cutting.{long, is_passed}
use Rattle.ot_lines.proofs.lines.Lines.pass.Goals as goal

pub returns : goal.returns
returns c =
    let s = c.self.inside in
    let count = long s.room.items s.from s.to c.self.invariant.0 (omega (arith, c.self.invariant.1, s.room.ok.0)) in
    let within : s.from + 1 ≤ s.to = omega (arith, c.requires, count, ap (λ (h : Hearing). length h.ahead) c.self.view_is) in
    is_passed s.line.items s.room.items s.from s.to s.left s.longest within ∙ ap byte_passed c.self.view_is
