use Rattle.std.proofs.Common.{◌≡◌, drop, map}
use Rattle.ot_c_words.specs.Tables.{looked_up}
use Rattle.ot_c_words.proofs.table.look_up.Given as goal

-- what is left of the table decides
abbrev pub invariant-loop-word : goal.invariant-loop-word
invariant-loop-word g l = looked_up (map (λ e. (e.0.now, e.1)) (drop l.word-index l.table)) l.text ≡ looked_up (map (λ e. (e.0.now, e.1)) l.table) l.text
