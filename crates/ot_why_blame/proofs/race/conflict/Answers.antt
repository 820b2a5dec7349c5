use Rattle.std.proofs.Common.{◌≡◌, true, ◌∙◌, sym, ap, subst, get_or}
use Rattle.std.specs.List.{list_any}
use Rattle.std.proofs.lemmas.List.{drop_all}
use Rattle.ot_model.specs.View.{stmt_of}
use Rattle.ot_model.specs.declared.stmt.Mode.TheVariants.{Reads}
use Rattle.ot_model.specs.declared.stmt.Use.{Use}
use Rattle.ot_why_blame.specs.Races.{uses_of, conflicts_at}
use Rattle.ot_why_blame.proofs.TouchLemmas.{is_met, clashes-met, conflicts_found}
use Rattle.ot_why_blame.proofs.race.conflict.Goals as goal

pub returns-then-uses_against : goal.returns-then-uses_against
returns-then-uses_against c =
    let x = stmt_of c.args.stmt.now in
    let items = c.uses-used-items.result.now in
    let other : Use = record { cell = record { array = 0; index = 0 }; mode = Reads } in
    subst (λ declared. conflicts_at (get_or items c.loop-used.used-index other).cell x declared ≡ true) c.uses-used-items.ensures.uses
    (conflicts_found x items c.loop-used.used-index other c.loop-used-test.true (sym c.uses_against.ensures ∙ c.if-uses_against.true))

pub returns : goal.returns
returns c =
    let uses = uses_of (stmt_of c.args.stmt.now) in
    clashes-met uses c.args.decl.now
    ∙ c.loop-used.invariant
    ∙ ap (list_any (is_met uses)) (drop_all c.loop-used.used-index c.uses-used-items.result.now c.loop-used-test.false)
