use Rattle.std.proofs.Common.{sym, ◌∙◌, subst, arith}
use Rattle.std.specs.Prelude.{Some, None, string_bytes}
use Rattle.ot_front.specs.Desks.{IsDeskOf}
use Rattle.ot_front.proofs.DeskLemmas.{place_found, place_none, bytes_eq-same, named_at, named_nowhere}
use Rattle.ot_front.proofs.desk.Desk.position.Goals as goal

pub returns-then-eq : goal.returns-then-eq
returns-then-eq c =
    subst (λ names. IsDeskOf names c.args.name.now (Some c.loop-at.at)) c.self.view_is
    (place_found _ _ _ c.self.invariant.1
    (named_at string_bytes c.self.inside.names.items c.deref-known-items.result.now c.loop-at.at c.known-item.result c.args.name.now
    c.deref-known-items.ensures.value (omega arith) c.known-item.is (sym c.as_str.ensures.value ∙ bytes_eq-same _ _ (sym c.eq.ensures ∙ c.if-eq.true))))

pub returns : goal.returns
returns c =
    subst (λ names. IsDeskOf names c.args.name.now None) c.self.view_is
    (place_none _ _
    (named_nowhere string_bytes c.self.inside.names.items c.deref-known-items.result.now c.args.name.now
    c.deref-known-items.ensures.value (λ k d within. c.loop-at.invariant k d (omega (arith, within)))))
