use Rattle.std.proofs.Common.{◌≡◌, ◌++◌, ◌∙◌, List}
use Rattle.std.specs.Prelude.{codes}
use Rattle.std.proofs.lemmas.Result.{on_ok_weaker}
use Rattle.ot_model.specs.declared.fold.Fold.{Fold as Operation}
use Rattle.ot_model.specs.declared.fold.Fold.TheVariants as f
use Rattle.ot_model.specs.declared.stmt.Mode.TheVariants as m
use Rattle.ot_show_print.specs.Shown.{Text}
use Rattle.ot_show_print.proofs.WordLemmas.{grown}
use Rattle.ot_show_c.specs.Statements as written
use Rattle.ot_show_c.proofs.clause.declared.Goals as goal

pub returns-clause-text : goal.returns-clause-text
returns-clause-text c =
    let a = c.args.out.now in
    let us = c.args.decl.now in
    let i : List Text → Text = λ n. written.c_dependences n (codes "in") us m.Reads in
    let o : List Text → Text = λ n. written.c_dependences n (codes "out") us m.Writes in
    let x : Operation → List Text → Text = λ op n. written.fold_clauses n us op in
    let n0 : c.dependences.new.out.names ≡ a.names = c.dependences.ensures.names in
    let t1 = grown i o a c.dependences.new.out c.dependences-2.new.out c.in_ok-dependences.ensures.text n0 c.in_ok-dependences-2.ensures.text in
    let n1 : c.dependences-2.new.out.names ≡ a.names = c.dependences-2.ensures.names ∙ n0 in
    let t2 = grown (λ n. i n ++ o n) (x f.Plus) a c.dependences-2.new.out c.folded.new.out t1 n1 c.in_ok-folded.ensures.text in
    let n2 : c.folded.new.out.names ≡ a.names = c.folded.ensures.names ∙ n1 in
    let t3 = grown (λ n. i n ++ o n ++ x f.Plus n) (x f.Times) a c.folded.new.out c.folded-2.new.out t2 n2 c.in_ok-folded-2.ensures.text in
    let n3 : c.folded-2.new.out.names ≡ a.names = c.folded-2.ensures.names ∙ n2 in
    let t4 = grown (λ n. i n ++ o n ++ x f.Plus n ++ x f.Times n) (x f.And) a c.folded-2.new.out c.folded-3.new.out t3 n3 c.in_ok-folded-3.ensures.text in
    let n4 : c.folded-3.new.out.names ≡ a.names = c.folded-3.ensures.names ∙ n3 in
    let t5 = grown (λ n. i n ++ o n ++ x f.Plus n ++ x f.Times n ++ x f.And n) (x f.Or) a c.folded-3.new.out c.folded-4.new.out t4 n4 c.in_ok-folded-4.ensures.text in
    let n5 : c.folded-4.new.out.names ≡ a.names = c.folded-4.ensures.names ∙ n4 in
    let t6 = grown (λ n. i n ++ o n ++ x f.Plus n ++ x f.Times n ++ x f.And n ++ x f.Or n) (x f.Xor) a c.folded-4.new.out c.folded-5.new.out t5 n5 c.in_ok-folded-5.ensures.text in
    let n6 : c.folded-5.new.out.names ≡ a.names = c.folded-5.ensures.names ∙ n5 in
    let t7 = grown (λ n. i n ++ o n ++ x f.Plus n ++ x f.Times n ++ x f.And n ++ x f.Or n ++ x f.Xor n) (x f.Min) a c.folded-5.new.out c.folded-6.new.out t6 n6 c.in_ok-folded-6.ensures.text in
    let n7 : c.folded-6.new.out.names ≡ a.names = c.folded-6.ensures.names ∙ n6 in
    on_ok_weaker c.folded-7.result (λ e. grown (λ n. i n ++ o n ++ x f.Plus n ++ x f.Times n ++ x f.And n ++ x f.Or n ++ x f.Xor n ++ x f.Min n) (x f.Max) a c.folded-6.new.out c.folded-7.new.out t7 n7 e) c.folded-7.ensures.text
