use Rattle.std.proofs.Common.{◌++◌, ◌∙◌, map, ap, sym, length, take, drop, arith}
use Rattle.std.proofs.lemmas.List.{take_rest, length-drop}
use Rattle.ot_c_words.specs.Tables.{Text}
use Rattle.ot_c_words.specs.Pieces.{front}
use Rattle.ot_c_words.specs.Words.{words_spoken, all_spoken}
use Rattle.ot_c_words.proofs.ReadLemmas.{piece_read, fault_read, end_read}
use Rattle.ot_c_words.proofs.words.words_of.Goals as goal

pub returns-in-Err-clause-words : goal.returns-in-Err-clause-words
returns-in-Err-clause-words c =
    let l = c.loop-at in
    let rest = take_rest c.args.text.now l.at in
    sym l.invariant.2 ∙ fault_read l.on l.at (drop l.at c.args.text.now) c.in-Err.wrong l.words.starts.items (all_spoken l.words.names.keys l.words.words.items) (omega (arith, length-drop l.at c.args.text.now)) (c.in-Err.ensures.value ∙ ap (λ (bytes : Text). front l.on bytes) rest)

pub loop-at-preserved : goal.loop-at-preserved
loop-at-preserved c =
    let l = c.loop-at in
    let rest = take_rest c.args.text.now l.at in
    let within = c.in-Ok.ensures.within in (
      omega (arith, within, length-drop l.at c.args.text.now),
      c.in_ok-put_piece.ensures.below,
      piece_read c.args.text.now l.on c.behind-on.result l.at c.in-Ok.found l.words.starts.items c.put_piece.new.self.starts.items (all_spoken l.words.names.keys l.words.words.items) (all_spoken c.put_piece.new.self.names.keys c.put_piece.new.self.words.items)
          (c.in-Ok.ensures.value ∙ ap (λ (bytes : Text). front l.on bytes) rest) within.0 (omega (arith, within, ap length rest)) c.behind-on.ensures
          (c.in_ok-put_piece.ensures.starts ∙ ap (λ (bytes : Text). l.words.starts.items ++ map (λ w. l.at) (words_spoken l.on (take c.in-Ok.found.1 bytes) c.in-Ok.found.0)) rest)
          (c.in_ok-put_piece.ensures.words ∙ ap (λ (bytes : Text). all_spoken l.words.names.keys l.words.words.items ++ words_spoken l.on (take c.in-Ok.found.1 bytes) c.in-Ok.found.0) rest)
          ∙ l.invariant.2,
      c.in_ok-put_piece.ensures.names,
    )

pub returns-clause-words : goal.returns-clause-words
returns-clause-words c =
    let l = c.loop-at in
    sym l.invariant.2 ∙ end_read l.on l.at (drop l.at c.args.text.now) l.words.starts.items c.put_end.new.self.starts.items (all_spoken l.words.names.keys l.words.words.items) (all_spoken c.put_end.new.self.names.keys c.put_end.new.self.words.items)
    (omega (arith, length-drop l.at c.args.text.now)) c.in_ok-put_end.ensures.starts c.in_ok-put_end.ensures.words
