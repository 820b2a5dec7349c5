use Rattle.std.proofs.Common.{arith}
use Rattle.ot_why_blame.proofs.TouchLemmas.{section-is, section-other}
use Rattle.ot_why_blame.proofs.touch.is_in.Goals as goal
use Rattle.ot_why_blame.proofs.touch.is_in.Goals.{then-section-cell-via-then-section-cell, then-section-cell-via-else-section-cell+then-cell-section}

pub returns-then-section-cell : goal.returns-then-section-cell
returns-then-section-cell c =
    elim c.then-section-cell.branch [
      | then-section-cell-via-then-section-cell w ↦ section-other c.args.section c.args.cell (λ array low. w.if-section-cell.true array)
      | then-section-cell-via-else-section-cell+then-cell-section w ↦
          let short = w.if-cell-section.true in
          section-other c.args.section c.args.cell (λ array low. omega (arith, low, short))
    ]

pub returns : goal.returns
returns c = section-is c.args.section c.args.cell c.if-section-cell.false c.if-cell-section.false
