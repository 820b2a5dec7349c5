use Rattle.std.proofs.Common.{◌≡◌, ℕ, suc, List, ◌-◌, length, take, sym, ap, subst, refl, arith, ◌∙◌}
use Rattle.std.specs.Io.KnownBytes.{Consumes}
use Rattle.std.specs.Vec.{with_items}
use Rattle.std.proofs.lemmas.List.{with_items_is, length-take-le}
use Rattle.ot_lines.specs.Lines.{Hearing}
use Rattle.ot_lines.proofs.Counting.{not_zero}
use Rattle.ot_lines.proofs.Passing.{passes_nothing}
use Rattle.ot_lines.proofs.Hearing.{passes_read, kept}
use Rattle.ot_lines.proofs.lines.Lines.fill.Goals as goal

pub returns-then-self-eq0 : goal.returns-then-self-eq0
returns-then-self-eq0 g c = record {
  line = refl;
  passes = passes_nothing c.args.self.now _;
  is = (c.requires, sym (ap (λ (h : Hearing). h.left) c.self.view_is) ∙ c.if-self-eq0.true);
}

pub returns-in_default : goal.returns-in_default
returns-in_default g c =
    let s = c.self.inside in
    let is : (with_items s.room c.read.new.buffer).items ≡ c.read.new.buffer = with_items_is s.room c.read.new.buffer (omega (arith, c.read.auto.buffer, c.as_mut_slice.ensures.len)) in
    let most : length (with_items s.room c.read.new.buffer).items ≡ c.args.self.now.most =
    omega (arith, ap length is, c.read.auto.buffer, c.as_mut_slice.ensures.len, s.room.ok.0, ap (λ (h : Hearing). h.most) c.self.view_is) in record {
      line = ap (λ (h : Hearing). h.line) c.self.view_is;
      passes = passes_read c.args.self.now _ _ _ 1 0 c.requires (kept _ _ c.in_default.ensures.bytes) refl (ap (λ (h : Hearing). h.longest) c.self.view_is) most
          (omega (arith, c.if-self-eq0.false, ap (λ (h : Hearing). h.left) c.self.view_is)) (omega arith) (omega arith) c.read.ensures.counted c.in_default.ensures.failed c.in_default.ensures.untold;
      is = refl;
    }

pub returns-then-count-eq0 : goal.returns-then-count-eq0
returns-then-count-eq0 g c =
    let s = c.self.inside in
    let is : (with_items s.room c.read.new.buffer).items ≡ c.read.new.buffer = with_items_is s.room c.read.new.buffer (omega (arith, c.read.auto.buffer, c.as_mut_slice.ensures.len)) in
    let most : length (with_items s.room c.read.new.buffer).items ≡ c.args.self.now.most =
    omega (arith, ap length is, c.read.auto.buffer, c.as_mut_slice.ensures.len, s.room.ok.0, ap (λ (h : Hearing). h.most) c.self.view_is) in
    let none = rw c.if-count-eq0.true at c.in-Ok.ensures.bytes.0 in record {
      line = ap (λ (h : Hearing). h.line) c.self.view_is;
      passes = passes_read c.args.self.now _ _ _ 0 1 c.requires none refl (ap (λ (h : Hearing). h.longest) c.self.view_is) most
          (omega (arith, c.if-self-eq0.false, ap (λ (h : Hearing). h.left) c.self.view_is)) (omega arith) (omega arith) c.read.ensures.counted c.in-Ok.ensures.worked (c.in-Ok.ensures.ended c.if-count-eq0.true);
      is = (refl, c.in-Ok.ensures.bytes.1 c.if-count-eq0.true (omega (arith, c.as_mut_slice.ensures.len, c.self.invariant.2)));
    }

pub returns : goal.returns
returns g c =
    let s = c.self.inside in
    let bytes = (with_items s.room c.read.new.buffer).items in
    let is : bytes ≡ c.read.new.buffer = with_items_is s.room c.read.new.buffer (omega (arith, c.read.auto.buffer, c.as_mut_slice.ensures.len)) in
    let most : length bytes ≡ c.args.self.now.most =
    omega (arith, ap length is, c.read.auto.buffer, c.as_mut_slice.ensures.len, s.room.ok.0, ap (λ (h : Hearing). h.most) c.self.view_is) in
    let all : c.in-Ok.count - 0 ≡ c.in-Ok.count = omega arith in
    let count = length-take-le (c.in-Ok.count - 0) bytes (omega (arith, c.in-Ok.ensures.bound, ap length is)) in
    let came : Consumes (g.R.Source.flow c.args.source.now).ahead (g.R.Source.flow c.read.new.self).ahead (take (c.in-Ok.count - 0) bytes) =
    subst (λ n. Consumes (g.R.Source.flow c.args.source.now).ahead (g.R.Source.flow c.read.new.self).ahead (take n bytes)) (sym all)
    (subst (λ (bs : List ℕ). Consumes (g.R.Source.flow c.args.source.now).ahead (g.R.Source.flow c.read.new.self).ahead (take c.in-Ok.count bs)) (sym is) c.in-Ok.ensures.bytes.0) in
    let left : suc (s.left - 1) ≡ c.args.self.now.left = omega (arith, c.if-self-eq0.false, ap (λ (h : Hearing). h.left) c.self.view_is) in record {
      line = ap (λ (h : Hearing). h.line) c.self.view_is;
      passes = passes_read c.args.self.now _ _ _ 0 0 c.requires came refl (ap (λ (h : Hearing). h.longest) c.self.view_is) most
          left (omega (arith, count, c.in-Ok.ensures.gave)) (omega (arith, count, not_zero _ c.if-count-eq0.false)) c.read.ensures.counted c.in-Ok.ensures.worked (c.in-Ok.ensures.given (not_zero _ c.if-count-eq0.false));
      is = left;
    }
