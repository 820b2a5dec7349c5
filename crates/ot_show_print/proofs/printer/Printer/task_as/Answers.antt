use Rattle.std.proofs.Common.{◌≡◌, ◌++◌, ◌∙◌, List}
use Rattle.std.proofs.lemmas.Result.{on_ok_weaker}
use Rattle.ot_show_print.specs.Shown as shown
use Rattle.ot_show_print.specs.Shown.{Text}
use Rattle.ot_model.specs.declared.fold.Fold.{Fold as Operation}
use Rattle.ot_model.specs.declared.fold.Fold.TheVariants as f
use Rattle.ot_show_print.proofs.WordLemmas.{grown}
use Rattle.ot_show_print.proofs.printer.Printer.task_as.Goals as goal

pub returns-clause-text : goal.returns-clause-text
returns-clause-text c =
    let head : List Text → Text = λ n. c.args.head.now in
    let a = c.args.self.now in
    let us = c.args.decl.now in
    let d : List Text → Text = λ n. shown.dependences n us in
    let x : Operation → List Text → Text = λ op n. shown.fold_clause n us op in
    let n0 : c.words.new.self.names ≡ a.names = c.words.ensures.names in
    let t1 = grown (λ n. head n) (d) a c.words.new.self c.dependences.new.self c.in_ok-words.ensures.text n0 c.in_ok-dependences.ensures.text in
    let n1 : c.dependences.new.self.names ≡ a.names = c.dependences.ensures.names ∙ n0 in
    let t2 = grown (λ n. head n ++ d n) (x f.Plus) a c.dependences.new.self c.folded.new.self t1 n1 c.in_ok-folded.ensures.text in
    let n2 : c.folded.new.self.names ≡ a.names = c.folded.ensures.names ∙ n1 in
    let t3 = grown (λ n. head n ++ d n ++ x f.Plus n) (x f.Times) a c.folded.new.self c.folded-2.new.self t2 n2 c.in_ok-folded-2.ensures.text in
    let n3 : c.folded-2.new.self.names ≡ a.names = c.folded-2.ensures.names ∙ n2 in
    let t4 = grown (λ n. head n ++ d n ++ x f.Plus n ++ x f.Times n) (x f.And) a c.folded-2.new.self c.folded-3.new.self t3 n3 c.in_ok-folded-3.ensures.text in
    let n4 : c.folded-3.new.self.names ≡ a.names = c.folded-3.ensures.names ∙ n3 in
    let t5 = grown (λ n. head n ++ d n ++ x f.Plus n ++ x f.Times n ++ x f.And n) (x f.Or) a c.folded-3.new.self c.folded-4.new.self t4 n4 c.in_ok-folded-4.ensures.text in
    let n5 : c.folded-4.new.self.names ≡ a.names = c.folded-4.ensures.names ∙ n4 in
    let t6 = grown (λ n. head n ++ d n ++ x f.Plus n ++ x f.Times n ++ x f.And n ++ x f.Or n) (x f.Xor) a c.folded-4.new.self c.folded-5.new.self t5 n5 c.in_ok-folded-5.ensures.text in
    let n6 : c.folded-5.new.self.names ≡ a.names = c.folded-5.ensures.names ∙ n5 in
    let t7 = grown (λ n. head n ++ d n ++ x f.Plus n ++ x f.Times n ++ x f.And n ++ x f.Or n ++ x f.Xor n) (x f.Min) a c.folded-5.new.self c.folded-6.new.self t6 n6 c.in_ok-folded-6.ensures.text in
    let n7 : c.folded-6.new.self.names ≡ a.names = c.folded-6.ensures.names ∙ n6 in
    on_ok_weaker c.folded-7.result (λ e. grown (λ n. head n ++ d n ++ x f.Plus n ++ x f.Times n ++ x f.And n ++ x f.Or n ++ x f.Xor n ++ x f.Min n) (x f.Max) a c.folded-6.new.self c.folded-7.new.self t7 n7 e) c.folded-7.ensures.text
