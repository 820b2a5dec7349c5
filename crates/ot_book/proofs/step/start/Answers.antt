use Rattle.std.proofs.Common.{◌≡◌, sym, ap, ◌∙◌, subst, refl, map}
use Rattle.serde_json.specs.View.{view}
use Rattle.ot_program.specs.Programs.{program_of}
use Rattle.ot_check.specs.declared.checked.Checked.{Checked}
use Rattle.ot_store.specs.Arrays.{cells_in, shape_in}
use Rattle.ot_book.specs.Answers.{Runs, program_step}
use Rattle.ot_book.specs.Faults.{told_by_check}
use Rattle.ot_book.specs.Considering.{ComesToAnswer}
use Rattle.ot_book.proofs.JudgedLemmas.{started-runs, started-fails, error-holds}
use Rattle.ot_model.specs.Programs.{expanded_of, IsNamedIn, array_lengths}
use Rattle.ot_model.specs.Cells.{lengths}
use Rattle.ot_store.proofs.ArraysLemmas.{array_lengths-shape_in}
use Rattle.ot_book.proofs.step.start.Goals as goal

pub returns-in_err-checked-clause-refused : goal.returns-in_err-checked-clause-refused
returns-in_err-checked-clause-refused c =
    let arrays = c.args.store.now in
    let text = program_of (shape_in c.args.limits.now arrays) (view c.args.text.now) in
    let read = ap (λ s. program_of s (view c.args.text.now)) (sym c.in_ok-shape.ensures.shape) ∙ c.in_ok-program.ensures.read in
    let fault = c.in_err-checked.field-0.0 in
    error-holds c.from_residual-in_err-checked.result (told_by_check fault) (ComesToAnswer (program_step arrays text) arrays arrays) c.from_residual-in_err-checked.ensures.1
    (started-fails Checked arrays text (expanded_of c.in_ok-program.program) fault c.first_offence_is_first.ensures read c.in_err-checked.ensures.told)

pub job_over-requires : goal.job_over-requires
job_over-requires c =
    let same : array_lengths c.in_ok-shape.shape ≡ lengths (cells_in c.args.store.now) =
    ap array_lengths c.in_ok-shape.ensures.shape ∙ array_lengths-shape_in c.args.limits.now c.args.store.now in
    let named = subst (λ lens. IsNamedIn lens (expanded_of c.in_ok-program.program)) same c.in_ok-program.ensures.named in
    subst (λ p. IsNamedIn (lengths (cells_in c.args.store.now)) (expanded_of p)) (sym (ap (λ (q : Checked). q.program) c.in_ok-shared.ensures.ok ∙ c.in_ok-checked.ensures.program)) named

pub returns-clause-ok : goal.returns-clause-ok
returns-clause-ok c =
    let same : c.in_ok-spec.spec.checked.program ≡ c.in_ok-program.program =
    ap (λ (q : Checked). q.program) (c.in_ok-spec.ensures.checked ∙ c.in_ok-shared.ensures.ok) ∙ c.in_ok-checked.ensures.program in (
      started-runs c.args.store.now (program_of (shape_in c.args.limits.now c.args.store.now) (view c.args.text.now)) (expanded_of c.in_ok-program.program)
          c.first_offence_is_first.ensures (ap (λ s. program_of s (view c.args.text.now)) (sym c.in_ok-shape.ensures.shape) ∙ c.in_ok-program.ensures.read) c.in_ok-checked.ensures.told
          ∙ ap (λ q. Runs (expanded_of q)) (sym same),
      c.in_ok-spec.ensures.before,
      refl,
      c.in_ok-spec.ensures.shows ∙ ap (λ (q : Checked). map (λ s. s.len) q.program.shows.items) (sym c.in_ok-spec.ensures.checked),
    )
