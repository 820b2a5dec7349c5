use Rattle.std.proofs.Common.{◌≡◌, ◌≤◌, ◌+◌, ◌-◌, length, sym, ap, subst, arith, ◌∙◌}
use Rattle.std.proofs.lemmas.List.{length-take-le}
use Rattle.std.specs.Prelude.{Some, None}
use Rattle.memchr.specs.Find.{Nowhere, NoneBefore, Passes, is_byte}
use Rattle.ot_lines.specs.Lines.{Hearing}
use Rattle.ot_lines.specs.Cutting.{Cuts, bytes_taken, byte_passed}
use Rattle.ot_lines.specs.declared.lines.Heard.TheVariants.{Line, Long}
use Rattle.ot_lines.proofs.Cutting.{long, cuts_line, cuts_long, cuts_all}
use Rattle.ot_lines.proofs.lines.Lines.cut.Goals as goal

pub returns-then-at-spare : goal.returns-then-at-spare
returns-then-at-spare c =
    let s = c.self.inside in
    let h = c.args.self.now in
    let count = long s.room.items s.from s.to c.self.invariant.0 (omega (arith, c.self.invariant.1, s.room.ok.0)) in
    let first = length-take-le s.from s.room.items (omega (arith, c.self.invariant.0, c.self.invariant.1, s.room.ok.0)) in
    let most : length h.since + length h.ahead ≤ h.most =
    subst (λ (x : Hearing). length x.since + length x.ahead ≤ x.most) c.self.view_is (omega (arith, count, first, c.self.invariant.0, c.self.invariant.1, s.room.ok.0)) in
    let spare : s.longest - c.len.result ≡ h.longest - length h.line = omega (arith, c.len.ensures, ap (λ (x : Hearing). x.longest) c.self.view_is, ap (λ (x : Hearing). length x.line) c.self.view_is, s.line.ok.0) in
    let found = subst (λ xs. NoneBefore (Passes (is_byte 10) xs) 0 (length xs) c.in-Some.at × Passes (is_byte 10) xs c.in-Some.at) c.unheard-rest.ensures c.in-Some.ensures in
    let is : c.take.new.self ≡ bytes_taken (h.longest - length h.line + 1) h = c.take.ensures ∙ ap (λ k. bytes_taken (k + 1) h) spare in
    subst (λ x. Cuts h x (Some Long)) (sym is) (cuts_long h c.in-Some.at most (omega (arith, found.0.high)) found.0.before c.requires (omega (arith, spare, c.if-at-spare.true)))

pub returns-else-at-spare : goal.returns-else-at-spare
returns-else-at-spare c =
    let s = c.self.inside in
    let h = c.args.self.now in
    let count = long s.room.items s.from s.to c.self.invariant.0 (omega (arith, c.self.invariant.1, s.room.ok.0)) in
    let first = length-take-le s.from s.room.items (omega (arith, c.self.invariant.0, c.self.invariant.1, s.room.ok.0)) in
    let most : length h.since + length h.ahead ≤ h.most =
    subst (λ (x : Hearing). length x.since + length x.ahead ≤ x.most) c.self.view_is (omega (arith, count, first, c.self.invariant.0, c.self.invariant.1, s.room.ok.0)) in
    let spare : s.longest - c.len.result ≡ h.longest - length h.line = omega (arith, c.len.ensures, ap (λ (x : Hearing). x.longest) c.self.view_is, ap (λ (x : Hearing). length x.line) c.self.view_is, s.line.ok.0) in
    let found = subst (λ xs. NoneBefore (Passes (is_byte 10) xs) 0 (length xs) c.in-Some.at × Passes (is_byte 10) xs c.in-Some.at) c.unheard-rest.ensures c.in-Some.ensures in
    let is : c.pass.new.self ≡ byte_passed (bytes_taken c.in-Some.at h) = c.pass.ensures ∙ ap byte_passed c.take-in-Some.ensures in
    subst (λ x. Cuts h x (Some Line)) (sym is) (cuts_line h c.in-Some.at most found (omega (arith, spare, c.requires, c.if-at-spare.false)))

pub returns-then-count-spare : goal.returns-then-count-spare
returns-then-count-spare c =
    let s = c.self.inside in
    let h = c.args.self.now in
    let count = long s.room.items s.from s.to c.self.invariant.0 (omega (arith, c.self.invariant.1, s.room.ok.0)) in
    let first = length-take-le s.from s.room.items (omega (arith, c.self.invariant.0, c.self.invariant.1, s.room.ok.0)) in
    let most : length h.since + length h.ahead ≤ h.most =
    subst (λ (x : Hearing). length x.since + length x.ahead ≤ x.most) c.self.view_is (omega (arith, count, first, c.self.invariant.0, c.self.invariant.1, s.room.ok.0)) in
    let spare : s.longest - c.len.result ≡ h.longest - length h.line = omega (arith, c.len.ensures, ap (λ (x : Hearing). x.longest) c.self.view_is, ap (λ (x : Hearing). length x.line) c.self.view_is, s.line.ok.0) in
    let nowhere = subst (λ xs. Nowhere (Passes (is_byte 10) xs) 0 (length xs)) c.unheard-rest.ensures c.in-None.ensures in
    let is : c.take-then-count-spare.new.self ≡ bytes_taken (h.longest - length h.line + 1) h = c.take-then-count-spare.ensures ∙ ap (λ k. bytes_taken (k + 1) h) spare in
    subst (λ x. Cuts h x (Some Long)) (sym is)
    (cuts_long h (length h.ahead) most (omega arith) nowhere c.requires (omega (arith, spare, c.if-count-spare.true, ap length c.unheard-rest.ensures)))

pub returns-else-count-spare : goal.returns-else-count-spare
returns-else-count-spare c =
    let s = c.self.inside in
    let h = c.args.self.now in
    let spare : s.longest - c.len.result ≡ h.longest - length h.line = omega (arith, c.len.ensures, ap (λ (x : Hearing). x.longest) c.self.view_is, ap (λ (x : Hearing). length x.line) c.self.view_is, s.line.ok.0) in
    let nowhere = subst (λ xs. Nowhere (Passes (is_byte 10) xs) 0 (length xs)) c.unheard-rest.ensures c.in-None.ensures in
    let n = ap length c.unheard-rest.ensures in
    subst (λ x. Cuts h x None) (sym c.take-in-None.ensures)
    (cuts_all h (length c.unheard-rest.result.now) n nowhere (omega (arith, spare, c.requires, c.if-count-spare.false)))
