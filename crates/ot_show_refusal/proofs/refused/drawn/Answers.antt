use Rattle.std.proofs.Common.{rules, ◌≡◌, ◌∙◌, ℕ, List, map, sym, ap, subst}
use Rattle.std.specs.Prelude.{MatchOption}
use Rattle.ot_model.specs.Programs.{Arrays, expanded_of}
use Rattle.ot_check.specs.Offences.{Offends}
use Rattle.ot_store.specs.Arrays.{shape_in}
use Rattle.ot_show_print.specs.Shown.{names_of}
use Rattle.ot_show_refusal.specs.Drawn.{array_names}
use Rattle.ot_show_refusal.specs.MarkedView.{HasTasks, IsMarked}
use Rattle.ot_show_refusal.proofs.DrawnLemmas.{same_names}
use Rattle.ot_show_refusal.proofs.refused.drawn.Goals as goal

pub returns : goal.returns
returns c =
    let book = c.args.book.now in
    let arrays = shape_in book.limits book.store in
    let program = expanded_of c.in-Some-2.program in
    let picture = c.in_ok-picture.picture in
    let shape : c.in_ok-shape.shape ≡ arrays =
    c.in_ok-shape.ensures.shape ∙ ap (λ limits. shape_in limits c.store.result.now) c.limits.ensures ∙ ap (λ store. shape_in book.limits store) c.store.ensures in
    let named : names_of c.arrays.result.now ≡ array_names arrays =
    same_names c.arrays.result.now ∙ ap (λ (named : List (List ℕ × ℕ)). map (λ (a : List ℕ × ℕ). a.0) named) (c.arrays.ensures.arrays ∙ ap (λ (s : Arrays). s.arrays) shape) in
    record {
      program = program;
      picture = picture;
      runs = sym (search rules);
      tasks = subst (λ names. HasTasks names program.body picture) named c.in_ok-picture.ensures.tasks;
      race = subst (λ names. MatchOption picture.race (Offends program.body c.args.place c.args.offence → ⊥) (IsMarked names program.body c.args.place c.args.offence)) named c.in_ok-picture.ensures.race;
      text = c.in_ok-text.ensures;
      count = c.in-Some-2.program.tasks_are;
    }
