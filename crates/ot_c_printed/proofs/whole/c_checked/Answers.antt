use Rattle.std.proofs.Common.{subst}
use Rattle.std.specs.Prelude.{string_bytes}
use Rattle.ot_model.specs.Programs.{arrays_of, expanded_of}
use Rattle.ot_show_c.specs.Programs.{lists_of}
use Rattle.ot_c_printed.specs.Printed.{NotBack}
use Rattle.ot_c_printed.proofs.PrintedLemmas.{why_not}
use Rattle.ot_c_printed.proofs.whole.c_checked.Goals as goal

pub returns-in-Err : goal.returns-in-Err
returns-in-Err c =
    let arrays = arrays_of c.args.arrays.now in
    let numbers = lists_of c.args.before.now in
    let p = expanded_of c.args.program.now in
    why_not arrays numbers p (string_bytes c.in_ok-text.text) c.in-Err.fault c.in_ok-text.ensures
    (subst (λ t. NotBack arrays numbers p t c.in-Err.fault) c.as_bytes.ensures.value c.in-Err.ensures)
