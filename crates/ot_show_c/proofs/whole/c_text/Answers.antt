use Rattle.std.proofs.Common.{◌≡◌, ◌++◌, ◌∙◌, map, ap}
use Rattle.std.specs.Prelude.{codes}
use Rattle.ot_model.specs.Programs.{expanded_of, arrays_of}
use Rattle.ot_show_c.specs.Programs.{arrays_in_c, declared_from, front, lists_of, region}
use Rattle.ot_show_c.proofs.ArrayLemmas.{names_by_arrays}
use Rattle.ot_show_c.proofs.whole.c_text.Goals as goal

pub returns : goal.returns
returns c =
    let arrays = arrays_in_c (arrays_of c.args.arrays.now) in
    let numbers = lists_of c.args.before.now in
    let p = expanded_of c.args.program.now in
    let before = front (declared_from p 0 arrays numbers) p in
    let last = codes "    return 0;\n}\n" in
    let first : arrays_of c.deref-2.result.now ≡ arrays = ap arrays_of c.deref-2.ensures.value ∙ c.in_ok-arrays.ensures in
    let one : c.front.new.out.text ≡ before =
    c.in_ok-front.ensures.text ∙ ap (λ t. t ++ front (declared_from p 0 (arrays_of c.deref-2.result.now) numbers) p) c.new-out.ensures.text
    ∙ ap (λ xs. front (declared_from p 0 xs numbers) p) first in
    let same : arrays_of c.deref.result.now ≡ arrays = ap arrays_of c.deref.ensures.value ∙ c.in_ok-arrays.ensures in
    let names : c.front.new.out.names ≡ map (λ a. a.0) arrays = c.front.ensures.names ∙ c.new-out.ensures.names ∙ names_by_arrays c.deref.result.now ∙ ap (map (λ a. a.0)) same in
    c.into_text.ensures ∙ c.in_ok-words.ensures.text ∙ ap (λ t. t ++ last) (c.in_ok-region.ensures.text ∙ ap (λ t. t ++ region c.front.new.out.names (codes "    ") p) one ∙ ap (λ ns. before ++ region ns (codes "    ") p) names)
