use Rattle.std.proofs.Common.{◌≡◌, ◌++◌, ◌∙◌, List}
use Rattle.std.specs.Prelude.{codes}
use Rattle.std.proofs.lemmas.Result.{on_ok_weaker}
use Rattle.ot_show_print.specs.Shown.{Text}
use Rattle.ot_show_print.proofs.WordLemmas.{grown}
use Rattle.ot_show_c.specs.Statements as written
use Rattle.ot_show_c.proofs.statement.directive.Goals as goal

pub returns-clause-text : goal.returns-clause-text
returns-clause-text c =
    let a = c.args.out.now in
    let margin : List Text → Text = λ n. c.args.margin.now in
    let words : List Text → Text = λ n. c.args.words.now in
    let clauses : List Text → Text = λ n. written.c_clauses n c.args.decl.now in
    let n0 : c.words.new.self.names ≡ a.names = c.words.ensures.names in
    let t1 = grown margin words a c.words.new.self c.words-2.new.self c.in_ok-words.ensures.text n0 c.in_ok-words-2.ensures.text in
    let n1 : c.words-2.new.self.names ≡ a.names = c.words-2.ensures.names ∙ n0 in
    let t2 = grown (λ n. margin n ++ words n) clauses a c.words-2.new.self c.declared.new.out t1 n1 c.in_ok-declared.ensures.text in
    let n2 : c.declared.new.out.names ≡ a.names = c.declared.ensures.names ∙ n1 in
    on_ok_weaker c.words-3.result (λ e. grown (λ n. margin n ++ words n ++ clauses n) (λ n. codes "\n") a c.declared.new.out c.words-3.new.self t2 n2 e) c.words-3.ensures.text
