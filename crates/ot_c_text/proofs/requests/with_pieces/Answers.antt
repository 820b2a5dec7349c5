use Rattle.std.proofs.Common.{◌∙◌, ◌+◌, ◌-◌, ◌++◌, length, map, ap, ap₂}
use Rattle.serde_json.specs.View.{view}
use Rattle.ot_c_text.specs.Requests.{put_of, puts_from}
use Rattle.ot_c_text.proofs.PieceLemmas.{puts_more, puts_last}
use Rattle.ot_c_text.proofs.requests.with_pieces.Goals as goal

pub loop-turn-preserved : goal.loop-turn-preserved
loop-turn-preserved c =
    let l = c.loop-turn in
    let name = c.args.name.now in
    let all = length c.args.cells.now in
    let before = map view l.requests.items in
    let after = map view c.in_ok-requests.requests.items in
    let whole = map view c.args.requests.items ++ puts_from name all c.args.count c.args.cells.now in
    ap (λ rest. after ++ puts_from name all (c.args.count - (l._turn + 1)) rest) c.behind_piece-rest.ensures
    ∙ puts_more name all c.args.count l._turn l.rest.now before after whole c.loop-turn-test.true l.invariant
    (c.in_ok-requests.ensures ∙ ap₂ (λ start piece. before ++ put_of name start piece) c.saturating_sub-start.ensures c.first_piece-piece.ensures)

pub returns : goal.returns
returns c =
    let l = c.loop-turn in
    puts_last c.args.name.now (length c.args.cells.now) c.args.count l._turn l.rest.now (map view l.requests.items) _ c.loop-turn-test.false l.invariant
