use Rattle.std.proofs.Common.{◌≡◌, ◌∙◌, ◌+◌, ◌∷◌, true, false, drop, sym, subst}
use Rattle.std.proofs.lemmas.List.{drop_all}
use Rattle.ot_model.specs.View.{stmt_of, stmts_of}
use Rattle.ot_show_c.specs.Laws.{is_nothing}
use Rattle.ot_show_c.proofs.DeclaredLemmas.{there}
use Rattle.ot_c_printed.proofs.ApartLemmas.{Holds, past_nothing, past_one, other_came, more_came}
use Rattle.ot_c_printed.proofs.apart.+compare.Goals as goal

pub compare-loop-stmt-preserved-then-is_nothing : goal.compare-loop-stmt-preserved-then-is_nothing
compare-loop-stmt-preserved-then-is_nothing t c =
    let l = c.loop-stmt in
    let stmts = c.args.stmts.now in
    let s = c.stmt-item.result in
    let rest = stmts_of (drop l.place c.args.back.now) in
    let first : drop l.stmt-index stmts ≡ s ∷ drop (l.stmt-index + 1) stmts = there stmts l.stmt-index s c.loop-stmt-test.true c.stmt-item.is in
    let nothing : is_nothing (stmt_of s) ≡ true = sym c.is_nothing.ensures ∙ c.if-is_nothing.true in
    past_nothing c.args.own.now l.number (stmt_of s) (stmts_of (drop (l.stmt-index + 1) stmts)) rest c.args.first (stmts_of stmts) (stmts_of c.args.back.now) nothing
    (subst (λ ss. Holds c.args.own.now l.number (stmts_of ss) rest c.args.first (stmts_of stmts) (stmts_of c.args.back.now)) first l.invariant)

pub compare-returns-in-Err : goal.compare-returns-in-Err
compare-returns-in-Err t c =
    let l = c.loop-stmt in
    let stmts = c.args.stmts.now in
    let back = c.args.back.now in
    let s = c.stmt-item.result in
    let other = c.index-back-place.result in
    let first : drop l.stmt-index stmts ≡ s ∷ drop (l.stmt-index + 1) stmts = there stmts l.stmt-index s c.loop-stmt-test.true c.stmt-item.is in
    let second : drop l.place back ≡ other ∷ drop (l.place + 1) back = there back l.place other c.if-place-back.false c.index-back-place.is in
    let something : is_nothing (stmt_of s) ≡ false = sym c.is_nothing.ensures ∙ c.if-is_nothing.false in
    other_came c.args.own.now l.number (stmt_of s) (stmts_of (drop (l.stmt-index + 1) stmts)) (stmt_of other) (stmts_of (drop (l.place + 1) back)) c.args.first (stmts_of stmts) (stmts_of back) c.in-Err.fault something
    (subst (λ ts. Holds c.args.own.now l.number (stmts_of (s ∷ drop (l.stmt-index + 1) stmts)) (stmts_of ts) c.args.first (stmts_of stmts) (stmts_of back)) second
    (subst (λ ss. Holds c.args.own.now l.number (stmts_of ss) (stmts_of (drop l.place back)) c.args.first (stmts_of stmts) (stmts_of back)) first l.invariant))
    c.in-Err.ensures

pub compare-loop-stmt-preserved : goal.compare-loop-stmt-preserved
compare-loop-stmt-preserved t c =
    let l = c.loop-stmt in
    let stmts = c.args.stmts.now in
    let back = c.args.back.now in
    let s = c.stmt-item.result in
    let other = c.index-back-place.result in
    let first : drop l.stmt-index stmts ≡ s ∷ drop (l.stmt-index + 1) stmts = there stmts l.stmt-index s c.loop-stmt-test.true c.stmt-item.is in
    let second : drop l.place back ≡ other ∷ drop (l.place + 1) back = there back l.place other c.if-place-back.false c.index-back-place.is in
    let something : is_nothing (stmt_of s) ≡ false = sym c.is_nothing.ensures ∙ c.if-is_nothing.false in
    past_one c.args.own.now l.number (stmt_of s) (stmts_of (drop (l.stmt-index + 1) stmts)) (stmt_of other) (stmts_of (drop (l.place + 1) back)) c.args.first (stmts_of stmts) (stmts_of back) c.in-Ok.next something
    c.in-Ok.ensures.0 c.in-Ok.ensures.1
    (subst (λ ts. Holds c.args.own.now l.number (stmts_of (s ∷ drop (l.stmt-index + 1) stmts)) (stmts_of ts) c.args.first (stmts_of stmts) (stmts_of back)) second
    (subst (λ ss. Holds c.args.own.now l.number (stmts_of ss) (stmts_of (drop l.place back)) c.args.first (stmts_of stmts) (stmts_of back)) first l.invariant))

pub compare-returns-then-place-back-2 : goal.compare-returns-then-place-back-2
compare-returns-then-place-back-2 t c =
    let l = c.loop-stmt in
    more_came c.args.own.now l.number c.args.stmts.now l.stmt-index c.args.back.now l.place c.args.first c.loop-stmt-test.false c.if-place-back-2.true l.invariant
