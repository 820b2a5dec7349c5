use Rattle.serde_json.specs.View.{view}
use Rattle.std.specs.Prelude.{option_map}
use Rattle.ot_model.specs.Programs.{array_lengths, expanded_of, IsNamedIn}
use Rattle.ot_program.specs.Programs.{program_of}
use Rattle.ot_program.specs.Requested.{form_by}
use Rattle.ot_program.proofs.Accepted.{accepted_is_named}
use Rattle.ot_program.proofs.ProgramsWalked.{given_of_walked}
use Rattle.ot_program.proofs.Readings.{given}
use Rattle.ot_program.proofs.program.read_program.Goals as goal

pub returns-clause-read : goal.returns-clause-read
returns-clause-read c =
    given_of_walked expanded_of _ c.args.shape.now (option_map form_by c.program_form.result) (view c.args.text.now) c.program_form.ensures c.program_in.ensures

pub returns-clause-named : goal.returns-clause-named
returns-clause-named c =
    let shape = c.args.shape.now in
    let text = view c.args.text.now in
    given expanded_of _ (program_of shape text) (IsNamedIn (array_lengths shape))
    (given_of_walked expanded_of _ shape (option_map form_by c.program_form.result) text c.program_form.ensures c.program_in.ensures)
    (accepted_is_named shape c.arrays-arrays.ensures.short text)
