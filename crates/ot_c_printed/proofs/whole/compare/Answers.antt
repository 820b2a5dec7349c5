use Rattle.std.proofs.Common.{◌≡◌, ◌∙◌, map, sym, ap, subst}
use Rattle.std.specs.Prelude.{Ok}
use Rattle.ot_model.specs.Programs.{arrays_of, expanded_of}
use Rattle.ot_model.specs.View.{stmts_of}
use Rattle.ot_show_c.specs.Programs.{lists_of}
use Rattle.ot_c_program.specs.Files.{lowered_of}
use Rattle.ot_c_arrays.specs.Arrays.{c_array}
use Rattle.ot_program.specs.Programs.{program_of}
use Rattle.ot_c_printed.specs.Apart.{ComparesWhole}
use Rattle.ot_c_printed.specs.Printed.{named_arrays, arrays_shape}
use Rattle.ot_c_printed.proofs.PrintedLemmas.{whole_compared}
use Rattle.ot_c_printed.proofs.whole.compare.Goals as goal

pub returns-in-Ok : goal.returns-in-Ok
returns-in-Ok c =
    let arrays = arrays_of c.args.arrays.now in
    let numbers = lists_of c.args.before.now in
    let p = expanded_of c.args.program.now in
    let back = lowered_of c.args.lowered.now in
    let read = expanded_of c.in-Ok.read in
    let same : back.arrays ≡ named_arrays arrays numbers p = ap (map c_array) (sym c.deref.ensures.value) ∙ c.same_arrays.ensures.0 c.if-not-same_arrays.false in
    let reads : program_of (arrays_shape arrays) back.program ≡ Ok read = subst (λ s. program_of s back.program ≡ Ok read) c.in_ok-shape.ensures c.in-Ok.ensures.read in
    whole_compared arrays numbers p back read c.compare_whole.result same reads
    (subst (λ ss. ComparesWhole (stmts_of ss) (stmts_of c.in-Ok.read.body.items) c.compare_whole.result) c.deref-in-Ok.ensures.value
    (subst (λ ss. ComparesWhole (stmts_of c.deref-in-Ok.result.now) (stmts_of ss) c.compare_whole.result) c.deref-in-Ok-2.ensures.value c.compare_whole.ensures))
