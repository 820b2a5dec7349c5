use Rattle.std.proofs.Common.{◌≡◌, drop, map}
use Rattle.ot_c_words.specs.Tables.{table_entry}
use Rattle.ot_c_words.proofs.table.begin.Given as goal

-- what is left of the table decides
abbrev pub invariant-loop-word : goal.invariant-loop-word
invariant-loop-word g l = table_entry (map (λ e. (e.0.now, e.1)) (drop l.word-index l.table)) l.bytes ≡ table_entry (map (λ e. (e.0.now, e.1)) l.table) l.bytes
