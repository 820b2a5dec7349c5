use Rattle.std.proofs.Common.{rules, ap, refl, ◌≡◌, ◌∷◌, [], sym, subst, ℕ, List, false}
use Rattle.ot_job.proofs.Common.{lengths, NamedIn, expanded_of, Owned, Live, root_region}
use Rattle.ot_job.proofs.StartLemmas.{starts-well}
use Rattle.ot_job.proofs.job.Job.start.Goals as goal

pub invariant_of-result : goal.invariant_of-result
invariant_of-result c =
    let cells : c.in-Ok.cells ≡ c.args.spec.before = search rules in
    let regions : c.in-Ok.tasks ≡ root_region (expanded_of c.args.spec.checked.program).body ∷ [] = search rules in
    let named : NamedIn (lengths c.args.spec.before) (expanded_of c.args.spec.checked.program).body = search rules in
    let j : Live = record {
      program = expanded_of c.args.spec.checked.program;
      before = c.args.spec.before;
      cells = c.in-Ok.cells;
      owned = c.new.result.owned;
      regions = c.in-Ok.tasks;
      counts = record { tasks = 0; units = 0 };
      failing = false;
    } in
    starts-well j c.args.spec.checked.disciplined (subst (λ (x : List (List ℕ)). NamedIn (lengths x) j.program.body) (sym cells) named) (ap (λ (o : Owned). o.out) c.new.ensures.owned) (ap (λ (o : Owned). o.groups) c.new.ensures.owned) regions cells refl refl

pub returns-in-Ok-clause-starts : goal.returns-in-Ok-clause-starts
returns-in-Ok-clause-starts c = search rules
