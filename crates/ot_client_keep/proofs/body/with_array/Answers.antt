use Rattle.std.proofs.Common.{◌∙◌, ◌-◌, [], ◌∷◌, ◌++◌, ap, append-nil, drop, length, map, refl, sym, take}
use Rattle.std.specs.List.{concat}
use Rattle.std.proofs.lemmas.List.Elements.{All-nil, All-push}
use Rattle.ot_store.specs.Arrays.{overwritten}
use Rattle.ot_client_keep.specs.Files.{Fits, Piece, new_line, put_line}
use Rattle.ot_client_keep.proofs.BodyLemmas.{piece_fits, so_far-end, so_far-first, so_far-more, text_more, written-more}
use Rattle.ot_client_keep.proofs.body.with_array.Goals as goal

pub loop-at-init : goal.loop-at-init
loop-at-init c = (
  c.first_filled-at.ensures.within,
  [],
  All-nil (Fits (length c.args.cells.now)),
  so_far-first c.args.cells.now _ c.first_filled-at.ensures.within c.first_filled-at.ensures.zeros,
  c.in_ok-text.ensures ∙ ap (λ l. c.args.text.items ++ l) (sym (append-nil (new_line c.args.name.now (length c.args.cells.now)))),
)

pub loop-at-preserved : goal.loop-at-preserved
loop-at-preserved c =
    let so_far = c.loop-at.invariant in
    let cells = c.args.cells.now in
    let at = c.loop-at.at in
    let end = c.piece_end-end.result in
    let numbers = take (end - at) (drop at cells) in
    let piece : Piece = record { start = at; numbers = numbers } in
    let next = c.first_filled-at-in-loop-at in (
      next.ensures.within,
      so_far.1 ++ piece ∷ [],
      All-push (Fits (length cells)) so_far.1 piece so_far.2 (piece_fits cells at end c.piece_end-end.ensures.some c.piece_end-end.ensures.within),
      written-more _ so_far.1 piece ∙ ap (λ l. overwritten l at numbers) so_far.3
          ∙ so_far-more cells numbers at end next.result c.piece_end-end.ensures.some next.ensures.behind next.ensures.within next.ensures.zeros refl,
      text_more c.args.text.items (new_line c.args.name.now (length cells)) (put_line c.args.name.now) so_far.1 piece c.loop-at.text.items c.in_ok-text-2.text.items so_far.4 c.in_ok-text-2.ensures,
    )

pub returns : goal.returns
returns c =
    let so_far = c.loop-at.invariant in
    let cells = c.args.cells.now in (
      new_line c.args.name.now (length cells) ++ concat (map (put_line c.args.name.now) so_far.1),
      record { pieces = so_far.1; fit = so_far.2; cells = so_far.3 ∙ so_far-end cells c.loop-at.at so_far.0 c.loop-at-test.false; is = refl },
      so_far.4,
    )
