use Rattle.std.proofs.Common.{◌∙◌, sym, ap}
use Rattle.std.specs.Prelude.{option_map}
use Rattle.serde_json.specs.View.{view}
use Rattle.ot_program.specs.Requested.{form_by}
use Rattle.ot_why_fault.specs.Whys.{shape_of}
use Rattle.ot_why_fault.specs.Walk.{walk_step}
use Rattle.ot_why_fault.specs.declared.find.Step.{Step}
use Rattle.ot_why_fault.proofs.FirstLemmas.{first_walked, met_in}
use Rattle.ot_why_fault.proofs.find.in_program.Goals as goal

pub returns-in-Passed : goal.returns-in-Passed
returns-in-Passed c =
    sym (ap (λ (step : Step). met_in (walk_step step)) c.in-Passed.is)
    ∙ first_walked (shape_of c.args.arrays.now c.args.tasks) (view c.args.program.now) (form_by c.in-Some.form) _
    (sym c.program_form.ensures ∙ ap (option_map form_by) c.in-Some.is) c.in_ok-program.ensures

pub returns-in-Met : goal.returns-in-Met
returns-in-Met c =
    sym (ap (λ (step : Step). met_in (walk_step step)) c.in-Met.is)
    ∙ first_walked (shape_of c.args.arrays.now c.args.tasks) (view c.args.program.now) (form_by c.in-Some.form) _
    (sym c.program_form.ensures ∙ ap (option_map form_by) c.in-Some.is) c.in_ok-program.ensures
