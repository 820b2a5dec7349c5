use Rattle.std.proofs.Common.{◌≡◌, ◌∙◌, [], sym, ap, subst, arith}
use Rattle.std.specs.Prelude.{IfOk}
use Rattle.serde_json.specs.View.{view}
use Rattle.ot_program.specs.Copies.{ProgramText, copies, in_copy, in_order}
use Rattle.ot_program.specs.Programs.{program_copy}
use Rattle.ot_why_fault.specs.Whys.{shape_of}
use Rattle.ot_why_fault.specs.Walk.{walk, walk_step}
use Rattle.ot_why_fault.proofs.WalkLemmas.{seen_as, one_on}
use Rattle.ot_why_fault.proofs.find.Finder.program.Goals as goal

pub returns-in-Passed : goal.returns-in-Passed
returns-in-Passed c =
    let shape = (shape_of c.args.self.now.arrays.now c.args.self.now.tasks) in
    subst (λ n. IfOk c.body.result (λ step. walk_step step ≡ walk shape 0 n (in_copy (program_copy c.args.self.now.profile (view c.args.shows.now) (view c.args.body.now))))) c.none.ensures
    (seen_as c.body.result _ _
    (one_on shape (record { level = 0; variables = []; text = ProgramText (view c.args.shows.now) (view c.args.body.now) }) (in_order (copies c.args.self.now.profile 1 (view c.args.body.now) [])) 0 c.none.result _
    (sym (ap walk_step c.in-Passed.is) ∙ c.in_ok-passed.ensures 0 (omega arith)))
    (c.body.ensures 1 (omega arith)))

pub returns-in-Met : goal.returns-in-Met
returns-in-Met c =
    let shape = (shape_of c.args.self.now.arrays.now c.args.self.now.tasks) in
    sym (one_on shape (record { level = 0; variables = []; text = ProgramText (view c.args.shows.now) (view c.args.body.now) }) (in_order (copies c.args.self.now.profile 1 (view c.args.body.now) [])) 0 c.none.result _
    (sym (ap walk_step c.in-Met.is) ∙ c.in_ok-passed.ensures 0 (omega arith)))
    ∙ ap (λ n. walk shape 0 n (in_copy (program_copy c.args.self.now.profile (view c.args.shows.now) (view c.args.body.now)))) c.none.ensures
