use Rattle.std.proofs.Common.{◌≡◌, ◌≤◌, ◌-◌, drop, length}
use Rattle.ot_c_words.specs.Words.{words_at, words_in, all_spoken, AreBelow, AreNames}
use Rattle.ot_c_words.proofs.ReadLemmas.{behind_others}
use Rattle.ot_c_words.proofs.words.words_of.Given as goal

-- what is left completes what was read
abbrev pub invariant-loop-at : goal.invariant-loop-at
invariant-loop-at l = (l.at ≤ length l.text) × AreBelow (length l.words.names.keys) l.words.words.items
    × (behind_others l.words.starts.items (all_spoken l.words.names.keys l.words.words.items) (words_at l.on l.at 0 (drop l.at l.text)) ≡ words_in l.text)
    × AreNames l.words.names.keys

abbrev pub decreases-loop-at : goal.decreases-loop-at
decreases-loop-at l = length l.text - l.at
