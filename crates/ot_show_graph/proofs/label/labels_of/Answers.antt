use Rattle.std.proofs.Common.{◌≡◌, ◌+◌, ◌<◌, ◌++◌, ◌∷◌, [], List, length, take, get_or, sym, ap, subst, ◌∙◌, arith}
use Rattle.std.proofs.lemmas.List.{get_or-map, length-append, length-map, take_more, length-take-le}
use Rattle.ot_model.specs.declared.stmt.Use.{Use}
use Rattle.ot_show_graph.specs.Children.{decls_of}
use Rattle.ot_show_graph.specs.declared.child.Child.{Child}
use Rattle.ot_show_graph.specs.Written.{AreMet, TellsRows, row_in_rows}
use Rattle.ot_show_graph.proofs.LabelLemmas.{tells_more, labels_more}
use Rattle.ot_show_graph.proofs.label.labels_of.Goals as goal

pub loop-child-preserved : goal.loop-child-preserved
loop-child-preserved c =
    let i = c.loop-child.child-index in
    let children = c.args.children.now in
    let decls = decls_of children in
    let labels = c.loop-child.labels.items in
    let uses = c.uses-uses.result.now in
    let met = c.in_ok-met.met in
    let within : i < length decls = omega (arith, c.loop-child-test.true, length-map children (λ (x : Child). x.decl.now)) in
    let here : get_or decls i [] ≡ uses =
    get_or-map (λ (x : Child). x.decl.now) children i c.child-item.result [] c.loop-child-test.true
    ∙ ap (λ (x : Child). x.decl.now) (sym c.child-item.is) ∙ sym c.uses-uses.ensures.uses in
    let before : length (take i decls) ≡ i = length-take-le i decls (omega (arith, within)) in
    let number : c.len.result ≡ length (take i decls) = omega (arith, c.len.ensures, c.loop-child.invariant.len, c.loop-child.labels.ok.0, before) in
    let tells : TellsRows (take i decls ++ uses ∷ []) (row_in_rows c.enter.new.rows) =
    tells_more (take i decls) uses c.len.result (row_in_rows c.loop-child.rows) (row_in_rows c.enter.new.rows) number c.loop-child.invariant.tells c.in_ok-enter.ensures in
    let next : take i decls ++ uses ∷ [] ≡ take (i + 1) decls = ap (λ us. take i decls ++ us ∷ []) (sym here) ∙ sym (take_more decls i [] within) in
    record {
      len = ap length c.in_ok-push.ensures.items ∙ omega (arith, length-append labels (met ∷ []), c.loop-child.invariant.len);
      labels = labels_more decls labels c.push.new.self.items met i c.loop-child.invariant.len c.loop-child.invariant.labels
          (subst (λ (us : List Use). AreMet (take i decls) us met) (sym here) (c.in_ok-met.ensures (take i decls) c.loop-child.invariant.tells)) c.in_ok-push.ensures.items;
      tells = subst (λ (ds : List (List Use)). TellsRows ds (row_in_rows c.enter.new.rows)) next tells;
    }
