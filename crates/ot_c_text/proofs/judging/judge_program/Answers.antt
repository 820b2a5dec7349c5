use Rattle.std.proofs.Common.{sym, subst}
use Rattle.std.specs.Prelude.{IfOk}
use Rattle.ot_c_program.specs.Files.{lowered_of}
use Rattle.ot_c_judge.specs.Reports.{told_by}
use Rattle.ot_c_text.specs.Judging.{JudgesProgram}
use Rattle.ot_c_text.proofs.judging.judge_program.Goals as goal

pub returns-in-ByNames : goal.returns-in-ByNames
returns-in-ByNames c =
    subst (λ r. IfOk c.judge_by.result (λ told. JudgesProgram c.args.name.now c.args.text.now (lowered_of c.args.lowered) r (told_by told)))
    (sym c.in-ByNames.is) c.judge_by.ensures

pub returns-in-ByPointers : goal.returns-in-ByPointers
returns-in-ByPointers c =
    subst (λ r. IfOk c.judge_by-in-ByPointers.result (λ told. JudgesProgram c.args.name.now c.args.text.now (lowered_of c.args.lowered) r (told_by told)))
    (sym c.in-ByPointers.is) c.judge_by-in-ByPointers.ensures
