use Rattle.std.proofs.Common.{Ok, Err, refl, subst}
use Rattle.std.proofs.lemmas.Result.{IfOk-weaker}
use Rattle.ot_c_program.specs.Files.{lowered_of}
use Rattle.ot_c_text.specs.Reading.{Means, meaning_seen}
use Rattle.ot_c_text.proofs.judging.judge_text.Goals as goal

pub returns-in-Program : goal.returns-in-Program
returns-in-Program c =
    let means : Means c.args.text.now (Ok (lowered_of c.in-Program.lowered)) =
    subst (λ m. Means c.args.text.now (meaning_seen m)) c.in-Program.is c.in_ok-lowered.ensures in
    IfOk-weaker c.judge_program.result _ _
    (λ told judges. (Ok (lowered_of c.in-Program.lowered), means, judges))
    c.judge_program.ensures

pub returns-in-Outside : goal.returns-in-Outside
returns-in-Outside c = (Err _, subst (λ m. Means c.args.text.now (meaning_seen m)) c.in-Outside.is c.in_ok-lowered.ensures, refl)
