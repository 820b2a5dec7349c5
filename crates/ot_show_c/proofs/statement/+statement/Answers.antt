use Rattle.std.proofs.Common.{◌≡◌, ◌++◌, ◌∙◌, List, false, refl, sym, ap}
use Rattle.std.specs.Prelude.{codes}
use Rattle.std.proofs.lemmas.Result.{on_ok_weaker}
use Rattle.ot_model.specs.Tree.{Body}
use Rattle.ot_model.specs.View.{stmts_of}
use Rattle.ot_show_print.specs.Shown.{Text}
use Rattle.ot_show_print.proofs.WordLemmas.{grown}
use Rattle.ot_show_c.specs.Statements as written
use Rattle.ot_show_c.proofs.statement.+statement.Goals as goal

some : (margin : Text) (b : Body) (t : Text) → written.is_end b ≡ false → written.otherwise margin b t ≡ written.line margin (codes "} else {") ++ t
some margin b t h = rw h refl

pub otherwise-returns-clause-text : goal.otherwise-returns-clause-text
otherwise-returns-clause-text t c =
    let a = c.args.out.now in
    let b = stmts_of c.args.body.now in
    let opened : List Text → Text = λ n. written.line c.args.margin.now (codes "} else {") in
    let rest : List Text → Text = λ n. written.body n (written.deeper c.args.margin.now) c.args.own.now b in
    on_ok_weaker c.inside.result
    (λ e. grown opened rest a c.line.new.out c.inside.new.out c.in_ok-line.ensures.text c.line.ensures.names e
    ∙ ap (λ x. a.text ++ x) (sym (some c.args.margin.now b (rest a.names) (sym c.is_end.ensures ∙ c.if-is_end.false))))
    c.inside.ensures.text
