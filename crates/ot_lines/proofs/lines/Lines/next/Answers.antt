use Rattle.ot_lines.proofs.Hearing.{hears_cut, begun_idle, begun_filled, hears_end, hears_fault}
use Rattle.ot_lines.proofs.lines.Lines.next.Goals as goal

pub returns-in-Some : goal.returns-in-Some
returns-in-Some g c = hears_cut c.in-Some.heard c.loop-heard.invariant c.in-Some.ensures

pub loop-heard-preserved : goal.loop-heard-preserved
loop-heard-preserved g c = begun_filled (begun_idle c.loop-heard.invariant c.in_default.ensures) (rw c.in-Ok-true.field-0-test at c.in-Ok-true.ensures)

pub returns-in-Ok-false : goal.returns-in-Ok-false
returns-in-Ok-false g c = hears_end (begun_idle c.loop-heard.invariant c.in_default.ensures) (rw c.in-Ok-false.field-0-test at c.in-Ok-false.ensures)

pub returns-in-Err : goal.returns-in-Err
returns-in-Err g c = hears_fault c.in-Err.fault (begun_idle c.loop-heard.invariant c.in_default.ensures) c.in-Err.ensures
