use Rattle.std.proofs.Common.{subst}
use Rattle.std.specs.Prelude.{Ok}
use Rattle.ot_model.specs.Programs.{arrays_of, expanded_of}
use Rattle.ot_show_c.specs.Programs.{lists_of}
use Rattle.ot_c_program.specs.Files.{lowered_of}
use Rattle.ot_c_text.specs.Reading.{Means, meaning_seen}
use Rattle.ot_c_printed.proofs.PrintedLemmas.{meaning_compared}
use Rattle.ot_c_printed.proofs.whole.read_back.Goals as goal

pub returns-in-Program : goal.returns-in-Program
returns-in-Program c =
    let back = lowered_of c.in-Program.lowered in
    let means : Means c.args.text.now (Ok back) = subst (λ m. Means c.args.text.now (meaning_seen m)) c.in-Program.is c.in_ok-lowered.ensures in
    meaning_compared (arrays_of c.args.arrays.now) (lists_of c.args.before.now) (expanded_of c.args.program.now) c.args.text.now back c.compare.result means c.compare.ensures
