use Rattle.std.proofs.Common.{◌≡◌, ◌++◌, ◌∙◌, List}
use Rattle.std.specs.Prelude.{codes}
use Rattle.std.proofs.lemmas.Result.{on_ok_weaker}
use Rattle.ot_model.specs.Programs.{expanded_of, arrays_of}
use Rattle.ot_show_print.specs.Shown.{Text}
use Rattle.ot_show_print.proofs.WordLemmas.{grown}
use Rattle.ot_show_c.specs.Programs as written
use Rattle.ot_show_c.proofs.whole.front.Goals as goal

pub returns-clause-text : goal.returns-clause-text
returns-clause-text c =
    let a = c.args.out.now in
    let p = expanded_of c.args.program.now in
    let ds = written.declared_from p 0 (arrays_of c.args.arrays.now) (written.lists_of c.args.before.now) in
    let head : List Text → Text = λ n. written.head in
    let called : List Text → Text = λ n. written.functions p in
    let main : List Text → Text = λ n. written.main_text in
    let declared : List Text → Text = λ n. written.declarations (codes "    ") ds in
    let t1 = grown head called a c.words.new.self c.functions.new.out c.in_ok-words.ensures.text c.words.ensures.names c.in_ok-functions.ensures.text in
    let n1 : c.functions.new.out.names ≡ a.names = c.functions.ensures.names ∙ c.words.ensures.names in
    let t2 = grown (λ n. head n ++ called n) main a c.functions.new.out c.words-2.new.self t1 n1 c.in_ok-words-2.ensures.text in
    let n2 : c.words-2.new.self.names ≡ a.names = c.words-2.ensures.names ∙ n1 in
    let t3 = grown (λ n. head n ++ called n ++ main n) declared a c.words-2.new.self c.declarations.new.out t2 n2 c.in_ok-declarations.ensures.text in
    let n3 : c.declarations.new.out.names ≡ a.names = c.declarations.ensures.names ∙ n2 in
    on_ok_weaker c.words-3.result (λ e. grown (λ n. head n ++ called n ++ main n ++ declared n) (λ n. written.region_text) a c.declarations.new.out c.words-3.new.self t3 n3 e) c.words-3.ensures.text
