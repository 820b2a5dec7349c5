use Rattle.std.proofs.Common.{◌∙◌, length, sym, ap}
use Rattle.std.proofs.lemmas.List.FromFn.{length-map-range_with_len}
use Rattle.std.specs.Prelude.{min}
use Rattle.ot_model.specs.Tree.{cell_at}
use Rattle.ot_race_ways.specs.Known.{choices}
use Rattle.ot_race_ways.proofs.naming.choices.Goals as goal

pub returns-in-None : goal.returns-in-None
returns-in-None c =
    let s = c.args.section in
    c.few.ensures ∙ ap (λ n. min n 20000001) (sym (length-map-range_with_len (cell_at s) 0 s.len)) ∙ ap (λ o. min (length (choices s o)) 20000001) (sym c.in-None.is)
